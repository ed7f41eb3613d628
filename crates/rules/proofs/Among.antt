-- Lists of names: which are among them, whether one stands there twice, how many are different.
use Rattle.std.proofs.Common.{◌≡◌, ℕ, suc, ◌+◌, ◌≤◌, Bool, true, false, cond, ◌||◌, eqb, List, [], ◌∷◌, ◌++◌, sym, refl, ap, ◌∙◌, subst, arith, eqb-true}
use borrow.Author.Tests.{both_ways}
use Rattle.std.proofs.lemmas.Bool.Decides.{nat_tests}
use Rattle.paths.specs.Words.{among, Distinct}
use Rattle.rules.specs.Rules.{different_from}

-- ---- the first, or else the second
pub or_left : (a b : Bool) → cond a true b ≡ false → a ≡ false
or_left true b p = p
or_left false b p = refl

pub or_right : (a b : Bool) → cond a true b ≡ false → b ≡ false
or_right true b p = absurd (both_ways true p refl)
or_right false b p = p

or_both : (a b : Bool) → a ≡ false → b ≡ false → cond a true b ≡ false
or_both true b p q = p
or_both false b p q = q

-- ---- one more name
pub among_snoc : (m : ℕ) (ns : List ℕ) (n : ℕ) → among m (ns ++ (n ∷ [])) ≡ (among m ns || eqb m n)
among_snoc m [] n = plain (eqb m n)
  where
    plain : (a : Bool) → cond a true false ≡ a
    plain true = refl
    plain false = refl
among_snoc m (x ∷ ns) n = ap (λ (c : Bool). cond (eqb m x) true c) (among_snoc m ns n) ∙ regroup (eqb m x) (among m ns) (eqb m n)
  where
    regroup : (a b c : Bool) → cond a true (b || c) ≡ (cond a true b || c)
    regroup true b c = refl
    regroup false b c = refl

-- a name is among the names and one more exactly when it is among them, or is that one
pub among_none : (m : ℕ) (ns : List ℕ) (n : ℕ) → among m ns ≡ false → eqb m n ≡ false → among m (ns ++ (n ∷ [])) ≡ false
among_none m ns n p q = among_snoc m ns n ∙ ap (λ (c : Bool). c || eqb m n) p ∙ q

among_part : (n : ℕ) (xs ys : List ℕ) → among n (xs ++ ys) ≡ false → among n xs ≡ false
among_part n [] ys p = refl
among_part n (x ∷ xs) ys p = or_both (eqb n x) _ (or_left (eqb n x) _ p) (among_part n xs ys (or_right (eqb n x) _ p))

pub distinct_part : (xs ys : List ℕ) → Distinct (xs ++ ys) → Distinct xs
distinct_part [] ys d = tt
distinct_part (x ∷ xs) ys d = (among_part x xs ys d.0, distinct_part xs ys d.1)

eqb_swap : (m n : ℕ) → eqb m n ≡ eqb n m
eqb_swap m n = grind (arith, nat_tests)

pub distinct_new : (ns : List ℕ) (n : ℕ) → Distinct ns → among n ns ≡ false → Distinct (ns ++ (n ∷ []))
distinct_new [] n d q = (refl, tt)
distinct_new (x ∷ ns) n d q =
    (among_none x ns n d.0 (eqb_swap x n ∙ or_left (eqb n x) _ q), distinct_new ns n d.1 (or_right (eqb n x) _ q))

pub not_distinct : (ns : List ℕ) (n : ℕ) → among n ns ≡ true → ¬ Distinct (ns ++ (n ∷ []))
not_distinct [] n p d = both_ways false refl p
not_distinct (x ∷ ns) n p d = go (eqb n x) refl (λ q. not_distinct ns n q d.1)
  where
    or_true : (a b : Bool) → b ≡ true → (a || b) ≡ true
    or_true true b q = refl
    or_true false b q = q

    go : (c : Bool) → eqb n x ≡ c → (among n ns ≡ true → ⊥) → ⊥
    go true e later = both_ways (among x (ns ++ (n ∷ []))) d.0 (among_snoc x ns n ∙ or_true (among x ns) (eqb x n) (eqb_swap x n ∙ e))
    go false e later = later (rw e at p)

-- ---- how many are different
cond_mono : (b : Bool) (x y z w : ℕ) → x ≤ y → z ≤ w → cond b x (suc z) ≤ cond b y (suc w)
cond_mono true x y z w h k = h
cond_mono false x y z w h k = omega arith

pub different_mono : (seen xs ys : List ℕ) → different_from seen xs ≤ different_from seen (xs ++ ys)
different_mono seen [] ys = omega arith
different_mono seen (x ∷ xs) ys = cond_mono (among x seen) _ _ _ _ (different_mono seen xs ys) (different_mono (x ∷ seen) xs ys)

-- a number is among those seen, as another that equals it is
among_same : (n x : ℕ) (seen : List ℕ) → eqb n x ≡ true → among x seen ≡ true → among n seen ≡ true
among_same n x seen e p = subst (λ (m : ℕ). among m seen ≡ true) (sym (eqb-true n x e)) p

pub different_snoc : (seen ns : List ℕ) (n : ℕ) → different_from seen (ns ++ (n ∷ [])) ≡ different_from seen ns + cond (among n seen || among n ns) 0 1
different_snoc seen [] n = go (among n seen)
  where
    go : (c : Bool) → ◌≡◌ {A = ℕ} (cond c 0 1) (0 + cond (c || false) 0 1)
    go true = refl
    go false = refl
different_snoc seen (x ∷ ns) n = go (among x seen) refl (different_snoc seen ns n) (different_snoc (x ∷ seen) ns n)
  where
    known : (e a b : Bool) → (e ≡ true → a ≡ true) → ◌≡◌ {A = ℕ} (cond (a || b) 0 1) (cond (a || cond e true b) 0 1)
    known e true b h = refl
    known true false b h = absurd (both_ways false refl (h refl))
    known false false b h = refl

    new : (e a b : Bool) → ◌≡◌ {A = ℕ} (cond (cond e true a || b) 0 1) (cond (a || cond e true b) 0 1)
    new true true b = refl
    new true false b = refl
    new false true b = refl
    new false false b = refl

    go : (c : Bool) → among x seen ≡ c →
        different_from seen (ns ++ (n ∷ [])) ≡ different_from seen ns + cond (among n seen || among n ns) 0 1 →
        different_from (x ∷ seen) (ns ++ (n ∷ [])) ≡ different_from (x ∷ seen) ns + cond (among n (x ∷ seen) || among n ns) 0 1 →
        different_from seen (x ∷ (ns ++ (n ∷ []))) ≡ different_from seen (x ∷ ns) + cond (among n seen || among n (x ∷ ns)) 0 1
    go true e i j = rw e (i ∙ ap (λ (k : ℕ). different_from seen ns + k) (known (eqb n x) (among n seen) (among n ns) (λ q. among_same n x seen q e)))
    go false e i j = rw e (let q = new (eqb n x) (among n seen) (among n ns) in omega arith)

-- ---- whether a name stands there twice, by computing
abbrev pub twice : List ℕ → Bool
twice [] = false
twice (n ∷ ns) = cond (among n ns) true (twice ns)

pub distinct_once : (ns : List ℕ) → Distinct ns → twice ns ≡ false
distinct_once [] d = refl
distinct_once (n ∷ ns) d = or_both (among n ns) _ d.0 (distinct_once ns d.1)

pub once_distinct : (ns : List ℕ) → twice ns ≡ false → Distinct ns
once_distinct [] p = tt
once_distinct (n ∷ ns) p = (or_left (among n ns) _ p, once_distinct ns (or_right (among n ns) _ p))

pub sure : (ns : List ℕ) → ¬ (¬ Distinct ns) → Distinct ns
sure ns h = once_distinct ns (go (twice ns) refl)
  where
    go : (c : Bool) → twice ns ≡ c → c ≡ false
    go true e = absurd (h (λ d. both_ways (twice ns) (distinct_once ns d) e))
    go false e = refl
