-- Semaphores and counters stand no higher than the number of those let in.
use mathlib.Core.Path.{◌≡◌, refl, sym, ◌∙◌, ap, subst}
use mathlib.Core.Logic.{◌⊎◌, inl, inr}
use mathlib.Core.Bool.{Bool, cond}
use mathlib.Core.List.Memᴰ
use mathlib.Core.List.{List, [], ◌∷◌, ◌++◌, append_assoc, append-nil}
use Prim.Native.Nat.{ℕ, zero, suc, ◌+◌, ◌-◌, ◌≤◌}
use native.Mathlib.Omega.{arith}
use native.Mathlib.Decide.{dec_le}
use lib.Dec.{eqb}
use Rattle.paths.specs.Grammar.{Sequence, Text, one, more}
use Rattle.paths.specs.Words.{Event, ⊕, ⊖, operation, History, Language, among, seen, Distinct, Fits, Proper, names_of_sequence, word_of_sequence}
use Rattle.paths.specs.Doors.{semaphore_of, Door, plain, counted, Occurrence, Standing, gone_in, left_by, passed, next, after, opening, path_doors, semaphores_in_sequence, counters_in_sequence}
use Rattle.paths.specs.Texts.{text_doors, opens_at, text_opening, EachProper, FitsAll}
use Rattle.paths.specs.Runs.{let_in_by, StandingIsSmall}
use Rattle.paths.specs.Sizes.{Below}
use Rattle.paths.proofs.Tests.{eqb_same, by_eqb, by_bool}
use Rattle.paths.proofs.Core.{Core, core_s, D, W, doors_s, names_s, word_s, braces_s}
use Rattle.paths.proofs.Now.{Status, idle, done, waiting, running, Node, at, inside, amid}
use Rattle.paths.proofs.Peel.{Good}
use Rattle.paths.proofs.Stands.{sum, waits, busies, Stands}
use Rattle.paths.proofs.Occs.{among_mem, good_of, ops, ops_d, ops_mem, next_one, next_none, after_seen}
use Rattle.paths.proofs.Whole.{Fit, to_stage, told}
use Rattle.paths.proofs.Texts.{Region, Outside, DoorsOutside, Agree, agree_trans, agree_refl, next_outside, region, AllBelow, path_agree, lower_after, path_names, text_from, shut_below}

-- ---- one path: the semaphores
sum_below : (N : ℕ) (g h : ℕ → ℕ) → ((i : ℕ) → g i ≤ h i) → sum N g ≤ sum N h
sum_below zero g h e = omega arith
sum_below (suc N) g h e = let p = sum_below N g h e in let q = e N in omega arith

waits_busy : (i : ℕ) (v : Status) → waits i v ≤ busies v
waits_busy i idle = omega arith
waits_busy i done = omega arith
waits_busy i (waiting j) = by_eqb i j (λ b. cond {A = ℕ} b 1 0 ≤ 1) (λ p. omega arith) (λ n. omega arith)
waits_busy i (running o) = omega arith

-- a semaphore stands at 1 at most, or not above some counter
abbrev Few : Standing → ℕ → Type 0
Few σ i = (σ.semaphore i ≤ 1) ⊎ ((k : ℕ) × (σ.semaphore i ≤ σ.counter k))

few : (n : Node) (σ : Standing) → Stands n σ → (i : ℕ) → Few σ i
few (at q) σ S i = inl (by_eqb i (semaphore_of q) (λ b. σ.semaphore i ≡ cond {A = ℕ} b 1 0 → σ.semaphore i ≤ 1) (λ p h. omega arith) (λ m h. omega arith) (S.0 i))
few (inside p) σ S i = inl (let h = S.0 i in omega arith)
few (amid c N f) σ S i =
    inr (
      c,
      (let h = S.0 i in let e = S.1 c ∙ ap (λ (b : Bool). cond b (sum N (λ k. busies (f k))) 0) (eqb_same c) in
          let w = sum_below N (λ k. waits i (f k)) (λ k. busies (f k)) (λ k. waits_busy i (f k)) in omega arith),
    )

-- after every history that fits, each semaphore is few
abbrev Claim : ℕ → Language → List ℕ → List Occurrence → Type 0
Claim s L ns ps = (h : History) → Fit L ns h → (i : ℕ) → Few (after ps (opening s) h) i

core_few : (t : Core) → Good t → (s c : ℕ) → Distinct (ops (D t (plain s) (plain s) (s + 1) c)) → Claim s (W t) (ops (D t (plain s) (plain s) (s + 1) c)) (D t (plain s) (plain s) (s + 1) c)
core_few t g s c dist h fit i =
    let ps = D t (plain s) (plain s) (s + 1) c in
    let k = seen (ops ps) h in
    let st = to_stage t g s c k fit.0 fit.1 in
    subst (λ (σ : Standing). Few σ i) (sym (after_seen ps (opening s) h)) (few st.0 (after ps (opening s) k) (told t g s c dist k st.0 st.1).0 i)

path_few : (p : Sequence) → Proper p → (π s c : ℕ) → Claim s (word_of_sequence p) (names_of_sequence p) (path_doors p π s c)
path_few p proper π s c =
    let t = core_s π p in
    let E : ops (D t (plain s) (plain s) (s + 1) c) ≡ names_of_sequence p = ops_d t (plain s) (plain s) (s + 1) c ∙ sym (names_s π p) in
    let good = good_of t (let b = braces_s π p in let u = proper.unnested in omega arith) (subst Distinct (names_s π p) proper.distinct) in
    subst (Claim s (word_of_sequence p) (names_of_sequence p)) (sym (doors_s π p (plain s) (plain s) (s + 1) c))
    (subst (λ (ns : List ℕ). Claim s (word_of_sequence p) ns (D t (plain s) (plain s) (s + 1) c)) E
    (subst (λ (L : Language). Claim s L (ops (D t (plain s) (plain s) (s + 1) c)) (D t (plain s) (plain s) (s + 1) c)) (sym (word_s π p)) (core_few t good s c (subst Distinct (sym E) proper.distinct))))

-- ---- one path: the counters
abbrev one_in : Event → ℕ
one_in (⊕ a) = 1
one_in (⊖ a) = 0

passed_counter : (e : Event) (o : Occurrence) (σ : Standing) (k : ℕ) → (passed e o σ).counter k ≤ σ.counter k + one_in e
passed_counter (⊕ a) o σ k = go o.left
  where
    go : (q : Door) → (gone_in q σ).counter k ≤ σ.counter k + 1
    go (plain i) = omega arith
    go (counted i m) = by_eqb k m (λ b. cond b (σ.counter k + 1) (σ.counter k) ≤ σ.counter k + 1) (λ p. omega arith) (λ n. omega arith)
passed_counter (⊖ a) o σ k = go o.right
  where
    go : (q : Door) → (left_by q σ).counter k ≤ σ.counter k + 0
    go (plain i) = omega arith
    go (counted i m) = by_eqb k m (λ b. cond b (σ.counter k - 1) (σ.counter k) ≤ σ.counter k + 0) (λ p. omega arith) (λ n. omega arith)

next_counter : (os : List Occurrence) → Distinct (ops os) → (e : Event) (σ : Standing) (k : ℕ) → (next os e σ).counter k ≤ σ.counter k + one_in e
next_counter os dist e σ k =
    by_bool (among (operation e) (ops os)) (λ b. (next os e σ).counter k ≤ σ.counter k + one_in e)
    (λ m. let i = ops_mem (operation e) os (among_mem (operation e) (ops os) m) in
    subst (λ (τ : Standing). τ.counter k ≤ σ.counter k + one_in e) (sym (next_one os dist i.0 i.1 e σ (sym i.2))) (passed_counter e i.0 σ k))
    (λ m. subst (λ (τ : Standing). τ.counter k ≤ σ.counter k + one_in e) (sym (next_none os e σ m)) (omega arith))

counter_grows : (os : List Occurrence) → Distinct (ops os) → (h : History) (σ : Standing) (k : ℕ) → (after os σ h).counter k ≤ σ.counter k + let_in_by h
counter_grows os dist [] σ k = omega arith
counter_grows os dist (⊕ a ∷ h) σ k = let x = counter_grows os dist h (next os (⊕ a) σ) k in let y = next_counter os dist (⊕ a) σ k in omega arith
counter_grows os dist (⊖ a ∷ h) σ k = let x = counter_grows os dist h (next os (⊖ a) σ) k in let y = next_counter os dist (⊖ a) σ k in omega arith

path_counter : (p : Sequence) → Proper p → (π s c : ℕ) (h : History) (k : ℕ) → (after (path_doors p π s c) (opening s) h).counter k ≤ let_in_by h
path_counter p ok π s c h k = let x = counter_grows (path_doors p π s c) (subst Distinct (sym (path_names p π s c)) ok.distinct) h (opening s) k in omega arith

path_semaphore : (p : Sequence) → Proper p → (π s c : ℕ) (h : History) → Fits p h → (i : ℕ) → (after (path_doors p π s c) (opening s) h).semaphore i ≤ 1 + let_in_by h
path_semaphore p ok π s c h f i = go (path_few p ok π s c h f i)
  where
    go : Few (after (path_doors p π s c) (opening s) h) i → (after (path_doors p π s c) (opening s) h).semaphore i ≤ 1 + let_in_by h
    go (inl x) = omega arith
    go (inr (k, x)) = let y = path_counter p ok π s c h k in omega arith

-- ---- the whole text
after_outside : (R : Region) (os : List Occurrence) → DoorsOutside R os → (h : History) (σ : Standing) → Agree R (after os σ h) σ
after_outside R os w [] σ = agree_refl R σ
after_outside R os w (e ∷ h) σ = agree_trans R (after os (next os e σ) h) (next os e σ) σ (after_outside R os w h (next os e σ)) (next_outside R os w e σ)

-- the numbers from s, c up to j
beyond : ℕ → ℕ → ℕ → Region
beyond s c j = record { s = s; s' = j + 1; c = c; c' = j + 1 }

below_beyond : (s c j : ℕ) (q : Door) → Below s c q → Outside (beyond s c j) q
unfolding beyond
below_beyond s c j (plain i) w = inl w
below_beyond s c j (counted i k) w = (inl w.0, inl w.1)

beyond_same : (s c j : ℕ) (os : List Occurrence) → AllBelow s c os → (h : History) (σ : Standing) →
    (s ≤ j → (after os σ h).semaphore j ≡ σ.semaphore j) × (c ≤ j → (after os σ h).counter j ≡ σ.counter j)
unfolding beyond
beyond_same s c j os below h σ =
    let A = after_outside (beyond s c j) os (λ o m. (below_beyond s c j o.left (below o m).0, below_beyond s c j o.right (below o m).1)) h σ in
    ((λ x. A.semaphores j x (omega arith)), (λ x. A.counters j x (omega arith)))

-- the bounds hold of semaphore j, if it is s or more, and of counter j, if it is c or more
abbrev Both : ℕ → ℕ → ℕ → History → Standing → Type 0
Both s c j h σ = (s ≤ j → σ.semaphore j ≤ 1 + let_in_by h) × (c ≤ j → σ.counter j ≤ let_in_by h)

-- what holds in a path's own region, and from there on, holds from its start on
joined : (p : Sequence) → Proper p → (π s c j : ℕ) (h : History) → Fits p h → (σ : Standing) → Agree (region p s c) σ (after (path_doors p π s c) (opening s) h) →
    Both (s + 1 + semaphores_in_sequence p) (c + counters_in_sequence p) j h σ → Both s c j h σ
unfolding region
joined p ok π s c j h f σ A B = (
  (λ x. sems x (dec_le (s + 1 + semaphores_in_sequence p) j)),
  (λ x. ctrs x (dec_le (c + counters_in_sequence p) j)),
)
  where
    sems : s ≤ j → Dec (s + 1 + semaphores_in_sequence p ≤ j) → σ.semaphore j ≤ 1 + let_in_by h
    sems x (yes y) = B.0 y
    sems x (no y) = let e = A.semaphores j x (omega arith) in let b = path_semaphore p ok π s c h f j in omega arith

    ctrs : c ≤ j → Dec (c + counters_in_sequence p ≤ j) → σ.counter j ≤ let_in_by h
    ctrs x (yes y) = B.1 y
    ctrs x (no y) = let e = A.counters j x (omega arith) in let b = path_counter p ok π s c h j in omega arith

all_small : (t : Text) → EachProper t → (π s c : ℕ) (pre : List Occurrence) → AllBelow s c pre →
    (σ : Standing) → ((j : ℕ) → s ≤ j → σ.semaphore j ≡ opens_at t s j) → ((k : ℕ) → σ.counter k ≡ 0) →
    (h : History) → FitsAll t h → (j : ℕ) → Both s c j h (after (pre ++ text_doors t π s c) σ h)
all_small (one p) ok π s c pre below σ ones zeros h f j =
    let own = path_doors p π s c in
    let s₁ = s + 1 + semaphores_in_sequence p in
    let c₁ = c + counters_in_sequence p in
    let B = beyond_same s₁ c₁ j (pre ++ own) (lower_after p π s c pre below) h σ in
    joined p ok π s c j h f (after (pre ++ own) σ h)
    (subst (λ (os : List Occurrence). Agree (region p s c) (after (pre ++ os) σ h) (after own (opening s) h)) (append-nil own)
    (path_agree p π s c pre [] below (λ o m. absurd (Memᴰ.not-nil m)) σ (λ i x y. ones i x) zeros h)) (
      (λ x. let e = B.0 x in let u = ones j (omega arith) in let v = at_most_one j s in omega arith),
      (λ x. let e = B.1 x in let u = zeros j in omega arith),
    )
  where
    at_most_one : (j s : ℕ) → cond {A = ℕ} (eqb j s) 1 0 ≤ 1
    at_most_one j s = by_eqb j s (λ b. cond {A = ℕ} b 1 0 ≤ 1) (λ p. omega arith) (λ n. omega arith)
all_small (more p t) ok π s c pre below σ ones zeros h f j =
    let own = path_doors p π s c in
    let s₁ = s + 1 + semaphores_in_sequence p in
    let c₁ = c + counters_in_sequence p in
    let post = text_doors t (π + 1) s₁ c₁ in
    joined p ok.0 π s c j h f.0 (after (pre ++ (own ++ post)) σ h)
    (path_agree p π s c pre post below (text_from t (π + 1) s₁ c₁) σ (λ i x y. ones i x ∙ ap (λ (z : ℕ). cond (eqb i s) 1 z) (shut_below t s₁ i y)) zeros h)
    (subst (λ (os : List Occurrence). Both s₁ c₁ j h (after os σ h)) (append_assoc pre own post)
    (all_small t ok.1 (π + 1) s₁ c₁ (pre ++ own) (lower_after p π s c pre below) σ
    (λ i x. ones i (omega arith) ∙ by_eqb i s (λ b. cond b 1 (opens_at t s₁ i) ≡ opens_at t s₁ i) (λ q. let z : ⊥ = omega arith in absurd z) (λ n. refl)) zeros h f.1 j))

pub standing_is_small : StandingIsSmall
standing_is_small t ok h f j =
    let b = all_small t ok 0 0 0 [] (λ o m. absurd (Memᴰ.not-nil m)) (text_opening t) (λ i x. refl) (λ k. refl) h f j in
    record { semaphores = b.0 (omega arith); counters = b.1 (omega arith) }
