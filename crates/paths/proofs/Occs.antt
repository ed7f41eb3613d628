-- Names that stand once, and histories seen by a path.
use mathlib.Core.Path.{◌≡◌, refl, sym, ◌∙◌, ap, subst}
use mathlib.Core.Logic.{◌⊎◌, inl, inr}
use mathlib.Core.Bool.{Bool, true, false, cond}
use mathlib.Core.List.Memᴰ
use mathlib.Core.List.{List, [], ◌∷◌, ◌++◌, Memᴰ}
use Prim.Native.Nat.{ℕ, ◌+◌, ◌≤◌}
use native.Mathlib.Omega.{arith}
use lib.Dec.{eqb}
use Rattle.paths.specs.Words.{Event, ⊕, ⊖, operation, History, among, seen, Distinct}
use Rattle.paths.specs.Doors.{Door, plain, with_counter, Occurrence, Standing, passed, next, after, begun, ended}
use Rattle.paths.proofs.Tests.{zero_one, eqb_same, eqb_apart, by_eqb, by_bool, not_both}
use Rattle.paths.proofs.Core.{Core, leaf, seq, alt, burst, sems, ctrs, D, names, braces}
use Rattle.paths.proofs.Peel.{Apart, Simple, Good}
use Rattle.paths.proofs.Steps.{begins, ends}

-- ---- among
pub mem_among : (a : ℕ) (ns : List ℕ) → Memᴰ a ns → among a ns ≡ true
mem_among a [] m = absurd (Memᴰ.not-nil m)
mem_among a (b ∷ ns) m = go (Memᴰ.cases_cons m) (mem_among a ns)
  where
    go : (a ≡ b) ⊎ Memᴰ a ns → (Memᴰ a ns → among a ns ≡ true) → cond (eqb a b) true (among a ns) ≡ true
    go (inl p) ih = ap (λ (z : Bool). cond z true (among a ns)) (ap (eqb a) (sym p) ∙ eqb_same a)
    go (inr q) ih = by_eqb a b (λ z. cond z true (among a ns) ≡ true) (λ p. refl) (λ n. ih q)

pub among_mem : (x : ℕ) (ns : List ℕ) → among x ns ≡ true → Memᴰ x ns
among_mem x [] p = zero_one (cc)
among_mem x (y ∷ ns) p =
    by_eqb x y (λ z. cond z true (among x ns) ≡ true → Memᴰ x (y ∷ ns)) (λ q h. Memᴰ.head q) (λ n h. Memᴰ.tail (among_mem x ns h)) p

pub not_among : (a : ℕ) (ns : List ℕ) → among a ns ≡ false → Memᴰ a ns → ⊥
not_among a ns p m = not_both (among a ns) (mem_among a ns m) p

among_left : (a : ℕ) (ns ms : List ℕ) → among a (ns ++ ms) ≡ false → among a ns ≡ false
among_left a [] ms p = refl
among_left a (b ∷ ns) ms p =
    by_eqb a b (λ z. cond z true (among a (ns ++ ms)) ≡ false → cond z true (among a ns) ≡ false) (λ q h. h) (λ n h. among_left a ns ms h) p

-- ---- distinct
distinct_left : (ns ms : List ℕ) → Distinct (ns ++ ms) → Distinct ns
distinct_left [] ms d = tt
distinct_left (a ∷ ns) ms d = (among_left a ns ms d.0, distinct_left ns ms d.1)

distinct_right : (ns ms : List ℕ) → Distinct (ns ++ ms) → Distinct ms
distinct_right [] ms d = d
distinct_right (a ∷ ns) ms d = distinct_right ns ms d.1

distinct_apart : (ns ms : List ℕ) → Distinct (ns ++ ms) → Apart ns ms
distinct_apart [] ms d a m k = Memᴰ.not-nil m
distinct_apart (b ∷ ns) ms d a m k = go (Memᴰ.cases_cons m) (distinct_apart ns ms d.1 a)
  where
    go : (a ≡ b) ⊎ Memᴰ a ns → (Memᴰ a ns → Memᴰ a ms → ⊥) → ⊥
    go (inl p) ih = not_among b (ns ++ ms) d.0 (Memᴰ.append_right ns (subst (λ (z : ℕ). Memᴰ z ms) p k))
    go (inr q) ih = ih q k

simple_of : (t : Core) → braces t ≤ 0 → Distinct (names t) → Simple t
simple_of (leaf π a) h d = tt
simple_of (seq x y) h d = (simple_of x (omega arith) (distinct_left (names x) (names y) d), simple_of y (omega arith) (distinct_right (names x) (names y) d))
simple_of (alt x y) h d =
    (simple_of x (omega arith) (distinct_left (names x) (names y) d), simple_of y (omega arith) (distinct_right (names x) (names y) d), distinct_apart (names x) (names y) d)
simple_of (burst x) h d = let z : ⊥ = omega arith in z

pub good_of : (t : Core) → braces t ≤ 1 → Distinct (names t) → Good t
good_of (leaf π a) h d = tt
good_of (seq x y) h d = (good_of x (omega arith) (distinct_left (names x) (names y) d), good_of y (omega arith) (distinct_right (names x) (names y) d))
good_of (alt x y) h d = (good_of x (omega arith) (distinct_left (names x) (names y) d), good_of y (omega arith) (distinct_right (names x) (names y) d))
good_of (burst x) h d = simple_of x (omega arith) d

-- ---- the operations of a list of occurrences
abbrev pub ops : List Occurrence → List ℕ
ops [] = []
ops (o ∷ os) = o.operation ∷ ops os

ops_append : (os ps : List Occurrence) → ops (os ++ ps) ≡ ops os ++ ops ps
ops_append [] ps = refl
ops_append (o ∷ os) ps = ap (λ (ns : List ℕ). o.operation ∷ ns) (ops_append os ps)

pub ops_d : (t : Core) (l r : Door) (s c : ℕ) → ops (D t l r s c) ≡ names t
ops_d (leaf π a) l r s c = refl
ops_d (seq x y) l r s c =
    let p = ops_d x l (plain (s + sems x)) s c in
    let q = ops_d y (plain (s + sems x)) r (s + sems x + 1) (c + ctrs x) in
    ops_append (D x l (plain (s + sems x)) s c) (D y (plain (s + sems x)) r (s + sems x + 1) (c + ctrs x)) ∙ (λ i. p i ++ q i)
ops_d (alt x y) l r s c =
    let p = ops_d x l r s c in
    let q = ops_d y l r (s + sems x) (c + ctrs x) in
    ops_append (D x l r s c) (D y l r (s + sems x) (c + ctrs x)) ∙ (λ i. p i ++ q i)
ops_d (burst x) l r s c = ops_d x (with_counter c l) (with_counter c r) s (c + 1)

pub mem_ops : (o : Occurrence) (os : List Occurrence) → Memᴰ o os → Memᴰ o.operation (ops os)
mem_ops o [] m = absurd (Memᴰ.not-nil m)
mem_ops o (p ∷ os) m = go (Memᴰ.cases_cons m) (mem_ops o os)
  where
    go : (o ≡ p) ⊎ Memᴰ o os → (Memᴰ o os → Memᴰ o.operation (ops os)) → Memᴰ o.operation (p.operation ∷ ops os)
    go (inl q) ih = Memᴰ.head (ap (λ (z : Occurrence). z.operation) q)
    go (inr q) ih = Memᴰ.tail (ih q)

pub ops_mem : (a : ℕ) (os : List Occurrence) → Memᴰ a (ops os) → (o : Occurrence) × Memᴰ o os × (o.operation ≡ a)
ops_mem a [] m = absurd (Memᴰ.not-nil m)
ops_mem a (p ∷ os) m = go (Memᴰ.cases_cons m) (ops_mem a os)
  where
    go : (a ≡ p.operation) ⊎ Memᴰ a (ops os) → (Memᴰ a (ops os) → (o : Occurrence) × Memᴰ o os × (o.operation ≡ a)) →
        (o : Occurrence) × Memᴰ o (p ∷ os) × (o.operation ≡ a)
    go (inl q) ih = (p, Memᴰ.head refl, sym q)
    go (inr q) ih = let i = ih q in (i.0, Memᴰ.tail i.1, i.2)

pub unique : (os : List Occurrence) → Distinct (ops os) → (o p : Occurrence) → Memᴰ o os → Memᴰ p os → o.operation ≡ p.operation → o ≡ p
unique [] d o p m k e = absurd (Memᴰ.not-nil m)
unique (q ∷ os) d o p m k e = go (Memᴰ.cases_cons m) (Memᴰ.cases_cons k) (unique os d.1 o p)
  where
    go : (o ≡ q) ⊎ Memᴰ o os → (p ≡ q) ⊎ Memᴰ p os → (Memᴰ o os → Memᴰ p os → o.operation ≡ p.operation → o ≡ p) → o ≡ p
    go (inl x) (inl y) ih = x ∙ sym y
    go (inl x) (inr y) ih = absurd (not_among q.operation (ops os) d.0 (subst (λ (z : ℕ). Memᴰ z (ops os)) (sym e ∙ ap (λ (z : Occurrence). z.operation) x) (mem_ops p os y)))
    go (inr x) (inl y) ih = absurd (not_among q.operation (ops os) d.0 (subst (λ (z : ℕ). Memᴰ z (ops os)) (e ∙ ap (λ (z : Occurrence). z.operation) y) (mem_ops o os x)))
    go (inr x) (inr y) ih = ih x y e

-- ---- an event passes through its occurrence alone
pub next_none : (os : List Occurrence) (e : Event) (σ : Standing) → among (operation e) (ops os) ≡ false → next os e σ ≡ σ
next_none [] e σ p = refl
next_none (o ∷ os) e σ p =
    by_eqb (operation e) o.operation (λ z. cond z true (among (operation e) (ops os)) ≡ false → next os e (cond z (passed e o σ) σ) ≡ σ)
    (λ q h. zero_one (cc)) (λ n h. next_none os e σ h) p

pub next_one : (os : List Occurrence) → Distinct (ops os) → (o : Occurrence) → Memᴰ o os → (e : Event) (σ : Standing) → operation e ≡ o.operation → next os e σ ≡ passed e o σ
next_one [] d o m e σ p = absurd (Memᴰ.not-nil m)
next_one (q ∷ os) d o m e σ p = go (Memᴰ.cases_cons m) (next_one os d.1 o)
  where
    go : (o ≡ q) ⊎ Memᴰ o os → (Memᴰ o os → (e : Event) (σ : Standing) → operation e ≡ o.operation → next os e σ ≡ passed e o σ) →
        next os e (cond (eqb (operation e) q.operation) (passed e q σ) σ) ≡ passed e o σ
    go (inl x) ih =
        let y : operation e ≡ q.operation = p ∙ ap (λ (z : Occurrence). z.operation) x in
        ap (λ (b : Bool). next os e (cond b (passed e q σ) σ)) (ap (eqb (operation e)) (sym y) ∙ eqb_same (operation e))
        ∙ next_none os e (passed e q σ) (ap (λ (z : ℕ). among z (ops os)) y ∙ d.0)
        ∙ ap (λ (z : Occurrence). passed e z σ) (sym x)
    go (inr x) ih =
        ap (λ (b : Bool). next os e (cond b (passed e q σ) σ))
        (eqb_apart (operation e) q.operation (λ y. not_among q.operation (ops os) d.0 (subst (λ (z : ℕ). Memᴰ z (ops os)) (sym p ∙ y) (mem_ops o os x))))
        ∙ ih x e σ p

-- ---- histories
pub after_snoc : (os : List Occurrence) (σ : Standing) (h : History) (e : Event) → after os σ (h ++ (e ∷ [])) ≡ next os e (after os σ h)
after_snoc os σ [] e = refl
after_snoc os σ (x ∷ h) e = after_snoc os (next os x σ) h e

pub after_seen : (os : List Occurrence) (σ : Standing) (h : History) → after os σ h ≡ after os σ (seen (ops os) h)
after_seen os σ [] = refl
after_seen os σ (e ∷ h) =
    by_bool (among (operation e) (ops os)) (λ b. after os (next os e σ) h ≡ after os σ (cond b (e ∷ seen (ops os) h) (seen (ops os) h)))
    (λ p. after_seen os (next os e σ) h)
    (λ p. ap (λ (z : Standing). after os z h) (next_none os e σ p) ∙ after_seen os σ h)

pub seen_snoc : (ns : List ℕ) (h : History) (e : Event) → among (operation e) ns ≡ true → seen ns (h ++ (e ∷ [])) ≡ seen ns h ++ (e ∷ [])
seen_snoc ns [] e p = ap (λ (b : Bool). cond b (e ∷ []) []) p
seen_snoc ns (x ∷ h) e p =
    by_bool (among (operation x) ns) (λ b. cond b (x ∷ seen ns (h ++ (e ∷ []))) (seen ns (h ++ (e ∷ []))) ≡ cond b (x ∷ seen ns h) (seen ns h) ++ (e ∷ []))
    (λ q. ap (λ (z : History). x ∷ z) (seen_snoc ns h e p)) (λ q. seen_snoc ns h e p)

pub seen_append : (ns : List ℕ) (h k : History) → seen ns (h ++ k) ≡ seen ns h ++ seen ns k
seen_append ns [] k = refl
seen_append ns (x ∷ h) k =
    by_bool (among (operation x) ns) (λ b. cond b (x ∷ seen ns (h ++ k)) (seen ns (h ++ k)) ≡ cond b (x ∷ seen ns h) (seen ns h) ++ seen ns k)
    (λ q. ap (λ (z : History). x ∷ z) (seen_append ns h k)) (λ q. seen_append ns h k)

pub begun_snoc : (a : ℕ) (h : History) (e : Event) → begun a (h ++ (e ∷ [])) ≡ begun a h + begins e a
begun_snoc a [] (⊕ b) = by_eqb a b (λ z. cond z (1 + 0) 0 ≡ 0 + cond z 1 0) (λ p. omega arith) (λ n. omega arith)
begun_snoc a [] (⊖ b) = omega arith
begun_snoc a (⊕ b ∷ h) e =
    let i = begun_snoc a h e in
    by_eqb a b (λ z. cond z (1 + begun a (h ++ (e ∷ []))) (begun a (h ++ (e ∷ []))) ≡ cond z (1 + begun a h) (begun a h) + begins e a) (λ p. omega arith) (λ n. omega arith)
begun_snoc a (⊖ b ∷ h) e = begun_snoc a h e

pub ended_snoc : (a : ℕ) (h : History) (e : Event) → ended a (h ++ (e ∷ [])) ≡ ended a h + ends e a
ended_snoc a [] (⊖ b) = by_eqb a b (λ z. cond z (1 + 0) 0 ≡ 0 + cond z 1 0) (λ p. omega arith) (λ n. omega arith)
ended_snoc a [] (⊕ b) = omega arith
ended_snoc a (⊖ b ∷ h) e =
    let i = ended_snoc a h e in
    by_eqb a b (λ z. cond z (1 + ended a (h ++ (e ∷ []))) (ended a (h ++ (e ∷ []))) ≡ cond z (1 + ended a h) (ended a h) + ends e a) (λ p. omega arith) (λ n. omega arith)
ended_snoc a (⊕ b ∷ h) e = ended_snoc a h e

pub begun_seen : (ns : List ℕ) (a : ℕ) → among a ns ≡ true → (h : History) → begun a (seen ns h) ≡ begun a h
begun_seen ns a m [] = refl
begun_seen ns a m (⊕ b ∷ h) =
    let i = begun_seen ns a m h in
    by_bool (among b ns) (λ z. begun a (cond z (⊕ b ∷ seen ns h) (seen ns h)) ≡ cond (eqb a b) (1 + begun a h) (begun a h))
    (λ p. by_eqb a b (λ y. cond y (1 + begun a (seen ns h)) (begun a (seen ns h)) ≡ cond y (1 + begun a h) (begun a h)) (λ q. omega arith) (λ n. i))
    (λ p. by_eqb a b (λ y. begun a (seen ns h) ≡ cond y (1 + begun a h) (begun a h)) (λ q. absurd (not_both (among b ns) (ap (λ (z : ℕ). among z ns) (sym q) ∙ m) p)) (λ n. i))
begun_seen ns a m (⊖ b ∷ h) =
    let i = begun_seen ns a m h in
    by_bool (among b ns) (λ z. begun a (cond z (⊖ b ∷ seen ns h) (seen ns h)) ≡ begun a h) (λ p. i) (λ p. i)

pub ended_seen : (ns : List ℕ) (a : ℕ) → among a ns ≡ true → (h : History) → ended a (seen ns h) ≡ ended a h
ended_seen ns a m [] = refl
ended_seen ns a m (⊖ b ∷ h) =
    let i = ended_seen ns a m h in
    by_bool (among b ns) (λ z. ended a (cond z (⊖ b ∷ seen ns h) (seen ns h)) ≡ cond (eqb a b) (1 + ended a h) (ended a h))
    (λ p. by_eqb a b (λ y. cond y (1 + ended a (seen ns h)) (ended a (seen ns h)) ≡ cond y (1 + ended a h) (ended a h)) (λ q. omega arith) (λ n. i))
    (λ p. by_eqb a b (λ y. ended a (seen ns h) ≡ cond y (1 + ended a h) (ended a h)) (λ q. absurd (not_both (among b ns) (ap (λ (z : ℕ). among z ns) (sym q) ∙ m) p)) (λ n. i))
ended_seen ns a m (⊕ b ∷ h) =
    let i = ended_seen ns a m h in
    by_bool (among b ns) (λ z. ended a (cond z (⊕ b ∷ seen ns h) (seen ns h)) ≡ ended a h) (λ p. i) (λ p. i)
