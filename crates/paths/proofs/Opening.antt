-- An operation occurs at most once a path, and the first occurrence of each path tells the path's semaphore.
use mathlib.Core.Path.{◌≡◌, refl, sym, ◌∙◌, ap, subst}
use mathlib.Core.Logic.{◌≢◌}
use mathlib.Core.Bool.{Bool, true, false, cond, not}
use mathlib.Core.List.{List, [], ◌∷◌, ◌++◌, append-nil, Memᴰ}
use Prim.Native.Nat.{ℕ, ◌+◌, ◌≤◌}
use native.Mathlib.Omega.{arith}
use lib.Dec.{eqb}
use Rattle.paths.specs.Grammar.{Sequence, Text, one, more, yield_path, yield_text}
use Rattle.paths.specs.Words.{among, Distinct}
use Rattle.paths.specs.Doors.{Door, plain, with_counter, semaphore_of, Occurrence, path_doors, semaphores_in_sequence, counters_in_sequence}
use Rattle.paths.specs.Texts.{text_doors, opens_at, EachProper}
use Rattle.paths.specs.Sizes.{how_many, paths}
use Rattle.paths.specs.Runs.{occurring, OnceAPath, opened_behind, opened_by, OpeningIsTold}
use Rattle.paths.proofs.Tests.{eqb_same, eqb_apart, by_eqb, by_bool}
use Rattle.paths.proofs.Core.{Core, leaf, seq, alt, burst, core_s, sems, ctrs, D, doors_s}
use Rattle.paths.proofs.Range.{sem_with}
use Rattle.paths.proofs.Occs.{ops}
use Rattle.paths.proofs.Texts.{path_names}
use Rattle.paths.proofs.Sizes.{many_append, OfPath, of_s, some_path}

-- ---- an operation occurs at most once a path
occurring_append : (a : ℕ) (os ps : List Occurrence) → occurring a (os ++ ps) ≡ occurring a os + occurring a ps
occurring_append a [] ps = omega arith
occurring_append a (o ∷ os) ps =
    let i = occurring_append a os ps in
    by_eqb a o.operation (λ b. cond b (1 + occurring a (os ++ ps)) (occurring a (os ++ ps)) ≡ cond b (1 + occurring a os) (occurring a os) + occurring a ps)
    (λ p. omega arith) (λ n. i)

occurring_none : (a : ℕ) (os : List Occurrence) → among a (ops os) ≡ false → occurring a os ≡ 0
occurring_none a [] m = refl
occurring_none a (o ∷ os) m =
    by_eqb a o.operation (λ b. cond b true (among a (ops os)) ≡ false → cond b (1 + occurring a os) (occurring a os) ≡ 0)
    (λ p h. let z : ◌≡◌ {A = ℕ} 0 1 = cc in omega arith) (λ n h. occurring_none a os h) m

occurring_once : (a : ℕ) (os : List Occurrence) → Distinct (ops os) → occurring a os ≤ 1
occurring_once a [] d = omega arith
occurring_once a (o ∷ os) d =
    by_eqb a o.operation (λ b. cond b (1 + occurring a os) (occurring a os) ≤ 1)
    (λ p. let e = occurring_none a os (ap (λ (z : ℕ). among z (ops os)) p ∙ d.0) in omega arith) (λ n. occurring_once a os d.1)

once_from : (t : Text) → EachProper t → (a n s c : ℕ) → occurring a (text_doors t n s c) ≤ how_many paths (yield_text t)
once_from (one p) ok a n s c =
    let e = occurring_once a (path_doors p n s c) (subst Distinct (sym (path_names p n s c)) ok.distinct) in let f = some_path p in omega arith
once_from (more p t) ok a n s c =
    let s₁ = s + 1 + semaphores_in_sequence p in
    let c₁ = c + counters_in_sequence p in
    let e = occurring_once a (path_doors p n s c) (subst Distinct (sym (path_names p n s c)) ok.0.distinct) in
    let f = some_path p in
    let i = once_from t ok.1 a (n + 1) s₁ c₁ in
    let j = occurring_append a (path_doors p n s c) (text_doors t (n + 1) s₁ c₁) in
    let k = many_append paths (yield_path p) (yield_text t) in
    omega arith

pub once_a_path : OnceAPath
once_a_path t ok a = once_from t ok a 0 0 0

-- ---- the first occurrence of a path
-- the list begins with an occurrence whose left door has semaphore s
abbrev BeginsAt : ℕ → List Occurrence → Type 0
BeginsAt s os = (o : Occurrence) × (ps : List Occurrence) × (os ≡ o ∷ ps) × (semaphore_of o.left ≡ s)

begins_append : (s : ℕ) (os ps : List Occurrence) → BeginsAt s os → BeginsAt s (os ++ ps)
begins_append s os ps (o, qs, p, e) = (o, qs ++ ps, ap (λ (z : List Occurrence). z ++ ps) p, e)

begins_d : (t : Core) (l r : Door) (s c : ℕ) → BeginsAt (semaphore_of l) (D t l r s c)
begins_d (leaf π a) l r s c = (record { path = π; operation = a; left = l; right = r }, [], refl, refl)
begins_d (seq x y) l r s c =
    begins_append (semaphore_of l) (D x l (plain (s + sems x)) s c) (D y (plain (s + sems x)) r (s + sems x + 1) (c + ctrs x)) (begins_d x l (plain (s + sems x)) s c)
begins_d (alt x y) l r s c = begins_append (semaphore_of l) (D x l r s c) (D y l r (s + sems x) (c + ctrs x)) (begins_d x l r s c)
begins_d (burst x) l r s c = subst (λ (i : ℕ). BeginsAt i (D x (with_counter c l) (with_counter c r) s (c + 1))) (sem_with c l) (begins_d x (with_counter c l) (with_counter c r) s (c + 1))

path_begins : (p : Sequence) (n s c : ℕ) → BeginsAt s (path_doors p n s c)
path_begins p n s c = subst (BeginsAt s) (sym (doors_s n p (plain s) (plain s) (s + 1) c)) (begins_d (core_s n p) (plain s) (plain s) (s + 1) c)

path_is : (p : Sequence) (n s c : ℕ) → OfPath n (path_doors p n s c)
path_is p n s c = of_s p n (plain s) (plain s) (s + 1) c

path_first : (p : Sequence) (n s c : ℕ) → (o : Occurrence) × (ps : List Occurrence) × (path_doors p n s c ≡ o ∷ ps) × (o.path ≡ n)
path_first p n s c =
    let b = path_begins p n s c in
    (b.0, b.1, b.2, path_is p n s c b.0 (subst (Memᴰ b.0) (sym b.2) (Memᴰ.head refl)))

-- ---- a pass over one path opens its semaphore alone
behind_same : (n j : ℕ) (os ps : List Occurrence) → OfPath n os → opened_behind n (os ++ ps) j ≡ opened_behind n ps j
behind_same n j [] ps f = refl
behind_same n j (o ∷ os) ps f =
    ap (λ (b : Bool). cond b (opened_behind n (os ++ ps) j) (cond (eqb j (semaphore_of o.left)) 1 (opened_behind o.path (os ++ ps) j)))
    (ap (λ (i : ℕ). eqb i n) (f o (Memᴰ.head refl)) ∙ eqb_same n)
    ∙ behind_same n j os ps (λ q m. f q (Memᴰ.tail m))

-- os begins at s, all of it of path n; then come ps
first_opens : (n s j : ℕ) (os ps : List Occurrence) → OfPath n os → BeginsAt s os → opened_by (os ++ ps) j ≡ cond (eqb j s) 1 (opened_behind n ps j)
first_opens n s j os ps f (o, qs, p, e) =
    let g : OfPath n (o ∷ qs) = subst (OfPath n) p f in
    ap (λ (z : List Occurrence). opened_by (z ++ ps) j) p
    ∙ ap (λ (i : ℕ). cond (eqb j i) 1 (opened_behind o.path (qs ++ ps) j)) e
    ∙ ap (λ (i : ℕ). cond (eqb j s) 1 (opened_behind i (qs ++ ps) j)) (g o (Memᴰ.head refl))
    ∙ ap (λ (x : ℕ). cond (eqb j s) 1 x) (behind_same n j qs ps (λ q m. g q (Memᴰ.tail m)))

-- behind an occurrence of another path the pass goes on as from the first
behind_other : (m j : ℕ) (os : List Occurrence) (o : Occurrence) (ps : List Occurrence) → os ≡ o ∷ ps → o.path ≢ m → opened_behind m os j ≡ opened_by os j
behind_other m j os o ps e d =
    ap (λ (z : List Occurrence). opened_behind m z j) e
    ∙ ap (λ (b : Bool). cond b (opened_behind m ps j) (cond (eqb j (semaphore_of o.left)) 1 (opened_behind o.path ps j))) (eqb_apart o.path m d)
    ∙ ap (λ (z : List Occurrence). opened_by z j) (sym e)

text_begins : (t : Text) (n s c : ℕ) → (o : Occurrence) × (ps : List Occurrence) × (text_doors t n s c ≡ o ∷ ps) × (o.path ≡ n)
text_begins (one p) n s c = path_first p n s c
text_begins (more p t) n s c =
    let b = path_first p n s c in
    let qs = text_doors t (n + 1) (s + 1 + semaphores_in_sequence p) (c + counters_in_sequence p) in
    (b.0, b.1 ++ qs, ap (λ (z : List Occurrence). z ++ qs) b.2, b.3)

told_from : (t : Text) (n s c j : ℕ) → opens_at t s j ≡ opened_by (text_doors t n s c) j
told_from (one p) n s c j =
    sym (first_opens n s j (path_doors p n s c) [] (path_is p n s c) (path_begins p n s c)) ∙ ap (λ (os : List Occurrence). opened_by os j) (append-nil (path_doors p n s c))
told_from (more p t) n s c j =
    let s₁ = s + 1 + semaphores_in_sequence p in
    let c₁ = c + counters_in_sequence p in
    let os = text_doors t (n + 1) s₁ c₁ in
    let b = text_begins t (n + 1) s₁ c₁ in
    let e = b.3 in
    ap (λ (x : ℕ). cond (eqb j s) 1 x) (told_from t (n + 1) s₁ c₁ j ∙ sym (behind_other n j os b.0 b.1 b.2 (λ q. let z : ⊥ = omega arith in z)))
    ∙ sym (first_opens n s j (path_doors p n s c) os (path_is p n s c) (path_begins p n s c))

pub opening_is_told : OpeningIsTold
opening_is_told t j = told_from t 0 0 0 j

-- ---- the pass, one occurrence further
-- o, coming behind os, whose first is behind one of path n, is the first of its path
abbrev pub begins_behind : ℕ → List Occurrence → Occurrence → Bool
begins_behind n [] o = not (eqb o.path n)
begins_behind n (p ∷ os) o = begins_behind p.path os o

-- o, coming behind os, is the first of its path
abbrev pub begins_path : List Occurrence → Occurrence → Bool
begins_path [] o = true
begins_path (p ∷ os) o = begins_behind p.path os o

behind_snoc : (n : ℕ) (os : List Occurrence) (p o : Occurrence) → begins_behind n (os ++ (p ∷ [])) o ≡ not (eqb o.path p.path)
behind_snoc n [] p o = refl
behind_snoc n (q ∷ os) p o = behind_snoc q.path os p o

-- behind an occurrence p it is the first of its path exactly when its path is not that of p
pub begins_snoc : (os : List Occurrence) (p o : Occurrence) → begins_path (os ++ (p ∷ [])) o ≡ not (eqb o.path p.path)
begins_snoc [] p o = refl
begins_snoc (q ∷ os) p o = behind_snoc q.path os p o

-- what stands at x after a write of 1 that is made if b, and strikes this place if at
abbrev set_if : Bool → Bool → ℕ → ℕ
set_if b at x = cond b (cond at 1 x) x

later : (b at first : Bool) (x : ℕ) → cond first 1 (set_if b at x) ≡ set_if b at (cond first 1 x)
later true true true x = refl
later true true false x = refl
later true false true x = refl
later true false false x = refl
later false at first x = refl

behind_more : (n : ℕ) (os : List Occurrence) (o : Occurrence) (j : ℕ) →
    opened_behind n (os ++ (o ∷ [])) j ≡ cond (begins_behind n os o) (cond (eqb j (semaphore_of o.left)) 1 (opened_behind n os j)) (opened_behind n os j)
behind_more n [] o j =
    by_bool (eqb o.path n) (λ b. cond {A = ℕ} b 0 (cond (eqb j (semaphore_of o.left)) 1 0) ≡ cond (not b) (cond (eqb j (semaphore_of o.left)) 1 0) 0) (λ p. refl) (λ p. refl)
behind_more n (p ∷ os) o j =
    let at = eqb j (semaphore_of o.left) in
    let first = eqb j (semaphore_of p.left) in
    let m = p.path in
    by_eqb m n (λ b. cond b (opened_behind n (os ++ (o ∷ [])) j) (cond first 1 (opened_behind m (os ++ (o ∷ [])) j)) ≡
    set_if (begins_behind m os o) at (cond b (opened_behind n os j) (cond first 1 (opened_behind m os j))))
    (λ e. behind_more n os o j ∙ ap (λ (i : ℕ). set_if (begins_behind i os o) at (opened_behind n os j)) (sym e))
    (λ d. ap (λ (x : ℕ). cond first 1 x) (behind_more m os o j) ∙ later (begins_behind m os o) at first (opened_behind m os j))

-- one occurrence more sets the semaphore of its left door to 1 if it is the first of its path, and nothing else
pub opened_more : (os : List Occurrence) (o : Occurrence) (j : ℕ) →
    opened_by (os ++ (o ∷ [])) j ≡ cond (begins_path os o) (cond (eqb j (semaphore_of o.left)) 1 (opened_by os j)) (opened_by os j)
opened_more [] o j = refl
opened_more (p ∷ os) o j =
    let at = eqb j (semaphore_of o.left) in
    let first = eqb j (semaphore_of p.left) in
    ap (λ (x : ℕ). cond first 1 x) (behind_more p.path os o j) ∙ later (begins_behind p.path os o) at first (opened_behind p.path os j)
