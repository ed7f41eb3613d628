-- Letting one in frees nobody.
use mathlib.Core.Path.{◌≡◌, refl, sym, ◌∙◌, ap, subst}
use mathlib.Core.Logic.{◌⊎◌, inl, inr}
use mathlib.Core.Bool.{Bool, true, false, cond}
use mathlib.Core.List.Memᴰ
use mathlib.Core.List.{List, [], ◌∷◌, ◌++◌, append_assoc, Memᴰ}
use Prim.Native.Nat.{ℕ, ◌+◌, ◌-◌, ◌≤◌, ◌<◌}
use native.Mathlib.Omega.{arith}
use lib.Dec.{eqb}
use Rattle.paths.specs.Grammar.{Sequence, one, more}
use Rattle.paths.specs.Words.{⊕, History, Row, among, seen, Fits, Proper, names_of_sequence, word_of_sequence}
use Rattle.paths.specs.Doors.{semaphore_of, Door, plain, counted, with_counter, Occurrence, Standing, Open, gone_in, after, opening, path_doors, lowered}
use Rattle.paths.specs.Runs.{LettingInFreesNobody}
use Rattle.paths.proofs.Tests.{either, zero_one, by_eqb}
use Rattle.paths.proofs.Core.{Core, leaf, seq, alt, burst, core_s, sems, ctrs, D, doors_s}
use Rattle.paths.proofs.Peel.{with_counter_is}
use Rattle.paths.proofs.Occs.{among_mem, ops_mem, seen_append}
use Rattle.paths.proofs.Whole.{doors_are_right, beginnings_fit, missing}
use Rattle.paths.proofs.Texts.{path_names}

-- ---- left doors with the same counter have the same semaphore
-- a counter of q is c or more, and less than c'
abbrev Counts : ℕ → ℕ → Door → Type 0
Counts c c' q = (i k : ℕ) → q ≡ counted i k → (c ≤ k) × (k < c')

-- a counter of q is below c
abbrev Lower : ℕ → Door → Type 0
Lower c q = (i k : ℕ) → q ≡ counted i k → k < c

counts_wider : (a b c d : ℕ) (q : Door) → c ≤ a → b ≤ d → Counts a b q → Counts c d q
counts_wider a b c d q x y f i k e = let w = f i k e in (omega arith, omega arith)

counts_plain : (c c' m : ℕ) (q : Door) → q ≡ plain m → Counts c c' q
counts_plain c c' m q p i k e = zero_one (let z = sym p ∙ e in cc)

counts_put : (c c' : ℕ) (l q : Door) → c < c' → q ≡ with_counter c l → Counts c c' q
counts_put c c' l q x p i k e =
    let z : counted (semaphore_of l) c ≡ counted i k = sym (with_counter_is c l) ∙ sym p ∙ e in
    let w : c ≡ k = cc in
    (omega arith, omega arith)

-- an occurrence's left door is the one that was passed on, or its counter was taken here
lefts : (t : Core) (l r : Door) (s c : ℕ) (o : Occurrence) → Memᴰ o (D t l r s c) → (o.left ≡ l) ⊎ Counts c (c + ctrs t) o.left
lefts (leaf π a) l r s c o m = inl (ap (λ (z : Occurrence). z.left) (Memᴰ.eq_of_singleton m))
lefts (seq x y) l r s c o m =
    let q = o.left in
    either (Memᴰ.append_cases (D x l (plain (s + sems x)) s c) m)
    (λ k. either (lefts x l (plain (s + sems x)) s c o k) (λ e. inl e) (λ f. inr (counts_wider c (c + ctrs x) c (c + (ctrs x + ctrs y)) q (omega arith) (omega arith) f)))
    (λ k. either (lefts y (plain (s + sems x)) r (s + sems x + 1) (c + ctrs x) o k) (λ e. inr (counts_plain c (c + (ctrs x + ctrs y)) (s + sems x) q e))
    (λ f. inr (counts_wider (c + ctrs x) (c + ctrs x + ctrs y) c (c + (ctrs x + ctrs y)) q (omega arith) (omega arith) f)))
lefts (alt x y) l r s c o m =
    let q = o.left in
    either (Memᴰ.append_cases (D x l r s c) m)
    (λ k. either (lefts x l r s c o k) (λ e. inl e) (λ f. inr (counts_wider c (c + ctrs x) c (c + (ctrs x + ctrs y)) q (omega arith) (omega arith) f)))
    (λ k. either (lefts y l r (s + sems x) (c + ctrs x) o k) (λ e. inl e)
    (λ f. inr (counts_wider (c + ctrs x) (c + ctrs x + ctrs y) c (c + (ctrs x + ctrs y)) q (omega arith) (omega arith) f)))
lefts (burst x) l r s c o m =
    let q = o.left in
    either (lefts x (with_counter c l) (with_counter c r) s (c + 1) o m)
    (λ e. inr (counts_put c (c + (1 + ctrs x)) l q (omega arith) e))
    (λ f. inr (counts_wider (c + 1) (c + 1 + ctrs x) c (c + (1 + ctrs x)) q (omega arith) (omega arith) f))

-- two doors, one passed on or with a counter below d, the other passed on or with a counter from d on
two_lefts : (l : Door) (c d e : ℕ) → Lower c l → c ≤ d → (q q' : Door) → (q ≡ l) ⊎ Counts c d q → (q' ≡ l) ⊎ Counts d e q' → (i j k : ℕ) → q ≡ counted i k → q' ≡ counted j k → i ≡ j
two_lefts l c d e low x q q' (inl a) (inl b) i j k u v = let z : counted i k ≡ counted j k = sym u ∙ a ∙ sym b ∙ v in let w : i ≡ j = cc in w
two_lefts l c d e low x q q' (inl a) (inr b) i j k u v = let y = low i k (sym a ∙ u) in let w = b j k v in let z : ⊥ = omega arith in absurd z
two_lefts l c d e low x q q' (inr a) (inl b) i j k u v = let y = low j k (sym b ∙ v) in let w = a i k u in let z : ⊥ = omega arith in absurd z
two_lefts l c d e low x q q' (inr a) (inr b) i j k u v = let y = a i k u in let w = b j k v in let z : ⊥ = omega arith in absurd z

lower_plain : (c m : ℕ) → Lower c (plain m)
lower_plain c m i k e = zero_one (cc)

lower_put : (c : ℕ) (l : Door) → Lower (c + 1) (with_counter c l)
lower_put c l i k e = let z : counted (semaphore_of l) c ≡ counted i k = sym (with_counter_is c l) ∙ e in let w : c ≡ k = cc in omega arith

-- if the left doors of o and p have the same counter, they have the same semaphore
abbrev SameSemaphore : Occurrence → Occurrence → Type 0
SameSemaphore o p = (i j k : ℕ) → o.left ≡ counted i k → p.left ≡ counted j k → i ≡ j

same_sym : (o p : Occurrence) → SameSemaphore o p → SameSemaphore p o
same_sym o p f i j k u v = sym (f j i k v u)

same_left : (o p : Occurrence) → o.left ≡ p.left → SameSemaphore o p
same_left o p e i j k u v = let z : counted i k ≡ counted j k = sym u ∙ e ∙ v in let w : i ≡ j = cc in w

one_semaphore : (t : Core) (l r : Door) (s c : ℕ) → Lower c l → (o p : Occurrence) → Memᴰ o (D t l r s c) → Memᴰ p (D t l r s c) → SameSemaphore o p
one_semaphore (leaf π a) l r s c low o p m n =
    same_left o p (ap (λ (z : Occurrence). z.left) (Memᴰ.eq_of_singleton m) ∙ sym (ap (λ (z : Occurrence). z.left) (Memᴰ.eq_of_singleton n)))
one_semaphore (seq x y) l r s c low o p m n =
    let X = D x l (plain (s + sems x)) s c in
    either (Memᴰ.append_cases X m)
    (λ a. either (Memᴰ.append_cases X n) (λ b. one_semaphore x l (plain (s + sems x)) s c low o p a b) (λ b. across o p a b))
    (λ a. either (Memᴰ.append_cases X n) (λ b. same_sym p o (across p o b a)) (λ b. one_semaphore y (plain (s + sems x)) r (s + sems x + 1) (c + ctrs x) (lower_plain (c + ctrs x) (s + sems x)) o p a b))
  where
    across : (o p : Occurrence) → Memᴰ o (D x l (plain (s + sems x)) s c) → Memᴰ p (D y (plain (s + sems x)) r (s + sems x + 1) (c + ctrs x)) → SameSemaphore o p
    across o p a b =
        two_lefts l c (c + ctrs x) (c + ctrs x + ctrs y) low (omega arith) o.left p.left (lefts x l (plain (s + sems x)) s c o a)
        (either (lefts y (plain (s + sems x)) r (s + sems x + 1) (c + ctrs x) p b) (λ e. inr (counts_plain (c + ctrs x) (c + ctrs x + ctrs y) (s + sems x) p.left e)) (λ f. inr f))
one_semaphore (alt x y) l r s c low o p m n =
    let X = D x l r s c in
    either (Memᴰ.append_cases X m)
    (λ a. either (Memᴰ.append_cases X n) (λ b. one_semaphore x l r s c low o p a b) (λ b. across o p a b))
    (λ a. either (Memᴰ.append_cases X n) (λ b. same_sym p o (across p o b a)) (λ b. one_semaphore y l r (s + sems x) (c + ctrs x) (λ i k e. let w = low i k e in omega arith) o p a b))
  where
    across : (o p : Occurrence) → Memᴰ o (D x l r s c) → Memᴰ p (D y l r (s + sems x) (c + ctrs x)) → SameSemaphore o p
    across o p a b =
        two_lefts l c (c + ctrs x) (c + ctrs x + ctrs y) low (omega arith) o.left p.left (lefts x l r s c o a) (lefts y l r (s + sems x) (c + ctrs x) p b)
one_semaphore (burst x) l r s c low o p m n = one_semaphore x (with_counter c l) (with_counter c r) s (c + 1) (lower_put c l) o p m n

path_semaphore : (p : Sequence) (π s c : ℕ) (o q : Occurrence) → Memᴰ o (path_doors p π s c) → Memᴰ q (path_doors p π s c) → SameSemaphore o q
path_semaphore p π s c o q m n =
    let e = doors_s π p (plain s) (plain s) (s + 1) c in
    one_semaphore (core_s π p) (plain s) (plain s) (s + 1) c (lower_plain c s) o q (subst (Memᴰ o) e m) (subst (Memᴰ q) e n)

-- ---- going in by a door that was open opens no other
less : (k : ℕ) (f : ℕ → ℕ) (j : ℕ) → 1 ≤ lowered k f j → 1 ≤ f j
less k f j = by_eqb j k (λ b. 1 ≤ cond b (f j - 1) (f j) → 1 ≤ f j) (λ p h. omega arith) (λ n h. h)

less_if : (b : Bool) (k : ℕ) (f : ℕ → ℕ) (j : ℕ) → 1 ≤ cond b (lowered k f) f j → 1 ≤ f j
less_if true k f j h = less k f j h
less_if false k f j h = h

opens_none : (q q' : Door) (σ : Standing) → ((i j k : ℕ) → q ≡ counted i k → q' ≡ counted j k → i ≡ j) → Open q σ → Open q' (gone_in q σ) → Open q' σ
opens_none (plain i) (plain j) σ e h g = less i σ.semaphore j g
opens_none (plain i) (counted j m) σ e h (inl g) = inl g
opens_none (plain i) (counted j m) σ e h (inr g) = inr (less i σ.semaphore j g)
opens_none (counted i k) (plain j) σ e h g = less_if (eqb (σ.counter k) 0) i σ.semaphore j g
opens_none (counted i k) (counted j m) σ e h (inr g) = inr (less_if (eqb (σ.counter k) 0) i σ.semaphore j g)
opens_none (counted i k) (counted j m) σ e h (inl g) =
    by_eqb m k (λ b. 1 ≤ cond b (σ.counter m + 1) (σ.counter m) → Open (counted j m) σ)
    (λ p x. let u : i ≡ j = e i j k refl (ap (counted j) p) in
    either h (λ y. inl (let v = ap σ.counter p in omega arith)) (λ y. inr (let v = ap σ.semaphore u in omega arith)))
    (λ n x. inl x) g

-- ---- one path, and all of them
path_frees : (p : Sequence) → Proper p → (h : History) (a b : ℕ) → Fits p (h ++ (⊕ a ∷ ⊕ b ∷ [])) → Fits p (h ++ (⊕ b ∷ []))
path_frees p ok h a b f = go (among b ns) refl (among a ns) refl
  where
    ns : List ℕ
    ns = names_of_sequence p

    os : List Occurrence
    os = path_doors p 0 0 0

    f₀ : Fits p h
    f₀ = beginnings_fit p h (⊕ a ∷ ⊕ b ∷ []) f

    f₂ : Fits p ((h ++ (⊕ a ∷ [])) ++ (⊕ b ∷ []))
    f₂ = subst (Fits p) (sym (append_assoc h (⊕ a ∷ []) (⊕ b ∷ []))) f

    f₁ : Fits p (h ++ (⊕ a ∷ []))
    f₁ = beginnings_fit p (h ++ (⊕ a ∷ [])) (⊕ b ∷ []) f₂

    both : Memᴰ b ns → Memᴰ a ns → Fits p (h ++ (⊕ b ∷ []))
    both mb ma =
        let A = doors_are_right p ok 0 0 0 h f₀ a ma in
        let B = doors_are_right p ok 0 0 0 (h ++ (⊕ a ∷ [])) f₁ b mb in
        let i = ops_mem a os (subst (Memᴰ a) (sym (path_names p 0 0 0)) ma) in
        (doors_are_right p ok 0 0 0 h f₀ b mb).opens.0
        (λ o m q. opens_none i.0.left o.left (after os (opening 0) h) (path_semaphore p 0 0 0 i.0 o i.1 m) (A.opens.1 f₁ i.0 i.1 i.2)
        (subst (Open o.left) (A.goes i.0 i.1 i.2) (B.opens.1 f₂ o m q)))

    go : (x : Bool) → among b ns ≡ x → (y : Bool) → among a ns ≡ y → Fits p (h ++ (⊕ b ∷ []))
    go false e y k = missing p h f₀ (⊕ b) e
    go true e false k =
        let q : seen ns (h ++ (⊕ a ∷ ⊕ b ∷ [])) ≡ seen ns (h ++ (⊕ b ∷ [])) =
        seen_append ns h (⊕ a ∷ ⊕ b ∷ []) ∙ ap (λ (z : Bool). seen ns h ++ cond z (⊕ a ∷ seen ns (⊕ b ∷ [])) (seen ns (⊕ b ∷ []))) k ∙ sym (seen_append ns h (⊕ b ∷ [])) in
        (f.0, subst (λ (z : History). Row (word_of_sequence p) (z ++ f.0)) q f.1)
    go true e true k = both (among_mem b ns e) (among_mem a ns k)

pub frees_nobody : LettingInFreesNobody
frees_nobody (one p) ok h a b f = path_frees p ok h a b f
frees_nobody (more p t) ok h a b f = (path_frees p ok.0 h a b f.0, frees_nobody t ok.1 h a b f.1)
