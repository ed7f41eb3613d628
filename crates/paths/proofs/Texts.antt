-- Each path of a text sees only its own semaphores and counters.
use mathlib.Core.Path.{◌≡◌, refl, sym, ◌∙◌, ap, subst}
use mathlib.Core.Logic.{◌⊎◌, inl, inr, ◌≢◌, ◌↔◌}
use mathlib.Core.Bool.{Bool, true, false, cond}
use mathlib.Core.List.Memᴰ
use mathlib.Core.List.{List, [], ◌∷◌, ◌++◌, append_assoc, append-nil, Memᴰ}
use Prim.Native.Nat.{ℕ, ◌+◌, ◌-◌, ◌≤◌, ◌<◌}
use native.Mathlib.Omega.{arith}
use lib.Dec.{eqb}
use Rattle.paths.specs.Grammar.{Sequence, Text, one, more}
use Rattle.paths.specs.Words.{Event, ⊕, ⊖, operation, History, among, Fits, Proper, names_of_sequence}
use Rattle.paths.specs.Doors.{Door, plain, counted, with_counter, Occurrence, Standing, Open, gone_in, left_by, passed, next, after, opening, OpenTo, begun, ended, path_doors, semaphores_in_sequence, counters_in_sequence, raised, lowered}
use Rattle.paths.specs.Texts.{text_doors, opens_at, text_opening, names_of_text, EachProper, FitsAll, AllDoorsAreRight, AllBeginningsFit, LetThrough, nothing, let_in, ended_one, OfText, DoorsLetThroughWhatFits}
use Rattle.paths.specs.Sizes.{Below}
use Rattle.paths.proofs.Tests.{either, by_eqb, by_bool}
use Rattle.paths.proofs.Core.{Core, leaf, seq, alt, burst, core_s, sems, ctrs, D, sems_s, ctrs_s, doors_s, names_s}
use Rattle.paths.proofs.Occs.{among_mem, ops, ops_d, mem_ops, not_among, after_snoc}
use Rattle.paths.proofs.Whole.{doors_are_right, beginnings_fit, empty_fits, missing}
use Rattle.paths.proofs.Lists.{snoc_ind}

-- the semaphores from s up to s', and the counters from c up to c'
pub record Region : Type 0 where
  pub s : ℕ
  pub s' : ℕ
  pub c : ℕ
  pub c' : ℕ

-- the door's numbers are of the region
abbrev pub Within : Region → Door → Type 0
Within R (plain i) = (R.s ≤ i) × (i < R.s')
Within R (counted i k) = (R.s ≤ i) × (i < R.s') × (R.c ≤ k) × (k < R.c')

-- the door's numbers are not of the region
abbrev pub Outside : Region → Door → Type 0
Outside R (plain i) = (i < R.s) ⊎ (R.s' ≤ i)
Outside R (counted i k) = ((i < R.s) ⊎ (R.s' ≤ i)) × ((k < R.c) ⊎ (R.c' ≤ k))

abbrev pub DoorsWithin : Region → List Occurrence → Type 0
DoorsWithin R os = (o : Occurrence) → Memᴰ o os → Within R o.left × Within R o.right

abbrev pub DoorsOutside : Region → List Occurrence → Type 0
DoorsOutside R os = (o : Occurrence) → Memᴰ o os → Outside R o.left × Outside R o.right

within_counter : (R : Region) (k : ℕ) (q : Door) → R.c ≤ k → k < R.c' → Within R q → Within R (with_counter k q)
within_counter R k (plain i) a b w = (w.0, w.1, a, b)
within_counter R k (counted i j) a b w = (w.0, w.1, a, b)

within_d : (R : Region) (t : Core) (l r : Door) (s c : ℕ) → Within R l → Within R r → R.s ≤ s → s + sems t ≤ R.s' → R.c ≤ c → c + ctrs t ≤ R.c' → DoorsWithin R (D t l r s c)
within_d R (leaf π a) l r s c wl wr e1 e2 e3 e4 o m =
    let p = Memᴰ.eq_of_singleton m in
    subst (λ (z : Occurrence). Within R z.left × Within R z.right) (sym p) (wl, wr)
within_d R (seq x y) l r s c wl wr e1 e2 e3 e4 o m =
    either (Memᴰ.append_cases (D x l (plain (s + sems x)) s c) m)
    (within_d R x l (plain (s + sems x)) s c wl (omega arith, omega arith) e1 (omega arith) e3 (omega arith) o)
    (within_d R y (plain (s + sems x)) r (s + sems x + 1) (c + ctrs x) (omega arith, omega arith) wr (omega arith) (omega arith) (omega arith) (omega arith) o)
within_d R (alt x y) l r s c wl wr e1 e2 e3 e4 o m =
    either (Memᴰ.append_cases (D x l r s c) m)
    (within_d R x l r s c wl wr e1 (omega arith) e3 (omega arith) o)
    (within_d R y l r (s + sems x) (c + ctrs x) wl wr (omega arith) (omega arith) (omega arith) (omega arith) o)
within_d R (burst x) l r s c wl wr e1 e2 e3 e4 o m =
    within_d R x (with_counter c l) (with_counter c r) s (c + 1) (within_counter R c l e3 (omega arith) wl) (within_counter R c r e3 (omega arith) wr) e1 e2 (omega arith) (omega arith) o m

-- ---- two standings that agree on a region
pub record Agree (R : Region) (σ τ : Standing) : Type 0 where
  pub semaphores : (i : ℕ) → R.s ≤ i → i < R.s' → σ.semaphore i ≡ τ.semaphore i
  pub counters : (k : ℕ) → R.c ≤ k → k < R.c' → σ.counter k ≡ τ.counter k

pub agree_trans : (R : Region) (ρ σ τ : Standing) → Agree R ρ σ → Agree R σ τ → Agree R ρ τ
agree_trans R ρ σ τ A B = record
    { semaphores = λ i a b. A.semaphores i a b ∙ B.semaphores i a b; counters = λ k a b. A.counters k a b ∙ B.counters k a b }

raised_same : (k : ℕ) (f g : ℕ → ℕ) (i : ℕ) → f i ≡ g i → raised k f i ≡ raised k g i
raised_same k f g i p = ap (λ (x : ℕ). cond (eqb i k) (x + 1) x) p

lowered_same : (k : ℕ) (f g : ℕ → ℕ) (i : ℕ) → f i ≡ g i → lowered k f i ≡ lowered k g i
lowered_same k f g i p = ap (λ (x : ℕ). cond (eqb i k) (x - 1) x) p

raised_other : (k : ℕ) (f : ℕ → ℕ) (i : ℕ) → i ≢ k → raised k f i ≡ f i
raised_other k f i n = by_eqb i k (λ b. cond b (f i + 1) (f i) ≡ f i) (λ p. absurd (n p)) (λ m. refl)

lowered_other : (k : ℕ) (f : ℕ → ℕ) (i : ℕ) → i ≢ k → lowered k f i ≡ f i
lowered_other k f i n = by_eqb i k (λ b. cond b (f i - 1) (f i) ≡ f i) (λ p. absurd (n p)) (λ m. refl)

tested_same : (b b' : Bool) (f f' g g' : ℕ → ℕ) (i : ℕ) → b ≡ b' → f i ≡ f' i → g i ≡ g' i → cond b f g i ≡ cond b' f' g' i
tested_same b b' f f' g g' i e p q =
    subst (λ (z : Bool). cond b f g i ≡ cond z f' g' i) e (by_bool b (λ z. cond z f g i ≡ cond z f' g' i) (λ x. p) (λ x. q))

in_agree : (R : Region) (q : Door) (σ τ : Standing) → Within R q → Agree R σ τ → Agree R (gone_in q σ) (gone_in q τ)
in_agree R (plain j) σ τ w A = record
    { semaphores = λ i a b. lowered_same j σ.semaphore τ.semaphore i (A.semaphores i a b); counters = A.counters }
in_agree R (counted j k) σ τ w A = record {
  semaphores = λ i a b. tested_same (eqb (σ.counter k) 0) (eqb (τ.counter k) 0) (lowered j σ.semaphore) (lowered j τ.semaphore) σ.semaphore τ.semaphore i
      (ap (λ (x : ℕ). eqb x 0) (A.counters k w.2 w.3)) (lowered_same j σ.semaphore τ.semaphore i (A.semaphores i a b)) (A.semaphores i a b);
  counters = λ i a b. raised_same k σ.counter τ.counter i (A.counters i a b);
}

out_agree : (R : Region) (q : Door) (σ τ : Standing) → Within R q → Agree R σ τ → Agree R (left_by q σ) (left_by q τ)
out_agree R (plain j) σ τ w A = record
    { semaphores = λ i a b. raised_same j σ.semaphore τ.semaphore i (A.semaphores i a b); counters = A.counters }
out_agree R (counted j k) σ τ w A = record {
  semaphores = λ i a b. tested_same (eqb (σ.counter k - 1) 0) (eqb (τ.counter k - 1) 0) (raised j σ.semaphore) (raised j τ.semaphore) σ.semaphore τ.semaphore i
      (ap (λ (x : ℕ). eqb (x - 1) 0) (A.counters k w.2 w.3)) (raised_same j σ.semaphore τ.semaphore i (A.semaphores i a b)) (A.semaphores i a b);
  counters = λ i a b. lowered_same k σ.counter τ.counter i (A.counters i a b);
}

apart : (i j a b : ℕ) → a ≤ i → i < b → (j < a) ⊎ (b ≤ j) → i ≢ j
apart i j a b x y (inl z) p = omega arith
apart i j a b x y (inr z) p = omega arith

both : (b : Bool) (f : ℕ → ℕ) (i : ℕ) → cond b f f i ≡ f i
both true f i = refl
both false f i = refl

in_outside : (R : Region) (q : Door) (σ : Standing) → Outside R q → Agree R (gone_in q σ) σ
in_outside R (plain j) σ w = record { semaphores = λ i a b. lowered_other j σ.semaphore i (apart i j R.s R.s' a b w); counters = λ k a b. refl }
in_outside R (counted j k) σ w = record {
  semaphores = λ i a b. tested_same (eqb (σ.counter k) 0) (eqb (σ.counter k) 0) (lowered j σ.semaphore) σ.semaphore σ.semaphore σ.semaphore i refl
      (lowered_other j σ.semaphore i (apart i j R.s R.s' a b w.0)) refl ∙ both (eqb (σ.counter k) 0) σ.semaphore i;
  counters = λ i a b. raised_other k σ.counter i (apart i k R.c R.c' a b w.1);
}

out_outside : (R : Region) (q : Door) (σ : Standing) → Outside R q → Agree R (left_by q σ) σ
out_outside R (plain j) σ w = record { semaphores = λ i a b. raised_other j σ.semaphore i (apart i j R.s R.s' a b w); counters = λ k a b. refl }
out_outside R (counted j k) σ w = record {
  semaphores = λ i a b. tested_same (eqb (σ.counter k - 1) 0) (eqb (σ.counter k - 1) 0) (raised j σ.semaphore) σ.semaphore σ.semaphore σ.semaphore i refl
      (raised_other j σ.semaphore i (apart i j R.s R.s' a b w.0)) refl ∙ both (eqb (σ.counter k - 1) 0) σ.semaphore i;
  counters = λ i a b. lowered_other k σ.counter i (apart i k R.c R.c' a b w.1);
}

passed_agree : (R : Region) (e : Event) (o : Occurrence) (σ τ : Standing) → Within R o.left × Within R o.right → Agree R σ τ → Agree R (passed e o σ) (passed e o τ)
passed_agree R (⊕ a) o σ τ w A = in_agree R o.left σ τ w.0 A
passed_agree R (⊖ a) o σ τ w A = out_agree R o.right σ τ w.1 A

passed_outside : (R : Region) (e : Event) (o : Occurrence) (σ : Standing) → Outside R o.left × Outside R o.right → Agree R (passed e o σ) σ
passed_outside R (⊕ a) o σ w = in_outside R o.left σ w.0
passed_outside R (⊖ a) o σ w = out_outside R o.right σ w.1

next_agree : (R : Region) (os : List Occurrence) → DoorsWithin R os → (e : Event) (σ τ : Standing) → Agree R σ τ → Agree R (next os e σ) (next os e τ)
next_agree R [] w e σ τ A = A
next_agree R (o ∷ os) w e σ τ A =
    next_agree R os (λ p m. w p (Memᴰ.tail m)) e (cond (eqb (operation e) o.operation) (passed e o σ) σ) (cond (eqb (operation e) o.operation) (passed e o τ) τ)
    (by_eqb (operation e) o.operation (λ b. Agree R (cond b (passed e o σ) σ) (cond b (passed e o τ) τ))
    (λ q. passed_agree R e o σ τ (w o (Memᴰ.head refl)) A) (λ n. A))

pub agree_refl : (R : Region) (σ : Standing) → Agree R σ σ
agree_refl R σ = record { semaphores = λ i a b. refl; counters = λ k a b. refl }

pub next_outside : (R : Region) (os : List Occurrence) → DoorsOutside R os → (e : Event) (σ : Standing) → Agree R (next os e σ) σ
next_outside R [] w e σ = agree_refl R σ
next_outside R (o ∷ os) w e σ =
    let τ = cond (eqb (operation e) o.operation) (passed e o σ) σ in
    agree_trans R (next os e τ) τ σ (next_outside R os (λ p m. w p (Memᴰ.tail m)) e τ)
    (by_eqb (operation e) o.operation (λ b. Agree R (cond b (passed e o σ) σ) σ) (λ q. passed_outside R e o σ (w o (Memᴰ.head refl))) (λ n. agree_refl R σ))

next_append : (os ps : List Occurrence) (e : Event) (σ : Standing) → next (os ++ ps) e σ ≡ next ps e (next os e σ)
next_append [] ps e σ = refl
next_append (o ∷ os) ps e σ = next_append os ps e (cond (eqb (operation e) o.operation) (passed e o σ) σ)

-- ---- a path among others
after_agree : (R : Region) (pre own post : List Occurrence) → DoorsOutside R pre → DoorsWithin R own → DoorsOutside R post → (h : History) (σ τ : Standing) → Agree R σ τ →
    Agree R (after (pre ++ (own ++ post)) σ h) (after own τ h)
after_agree R pre own post wp wo wq [] σ τ A = A
after_agree R pre own post wp wo wq (e ∷ h) σ τ A =
    after_agree R pre own post wp wo wq h (next (pre ++ (own ++ post)) e σ) (next own e τ)
    (subst (λ (z : Standing). Agree R z (next own e τ)) (sym (next_append pre (own ++ post) e σ ∙ next_append own post e (next pre e σ)))
    (agree_trans R (next post e (next own e (next pre e σ))) (next own e (next pre e σ)) (next own e τ)
    (next_outside R post wq e (next own e (next pre e σ)))
    (next_agree R own wo e (next pre e σ) τ (agree_trans R (next pre e σ) σ τ (next_outside R pre wp e σ) A))))

open_agree : (R : Region) (q : Door) (σ τ : Standing) → Within R q → Agree R σ τ → Open q σ → Open q τ
open_agree R (plain i) σ τ w A h = let e = A.semaphores i w.0 w.1 in let r : 1 ≤ τ.semaphore i = omega arith in r
open_agree R (counted i k) σ τ w A (inl h) = inl (let e = A.counters k w.2 w.3 in omega arith)
open_agree R (counted i k) σ τ w A (inr h) = inr (let e = A.semaphores i w.0 w.1 in omega arith)

agree_sym : (R : Region) (σ τ : Standing) → Agree R σ τ → Agree R τ σ
agree_sym R σ τ A = record { semaphores = λ i a b. sym (A.semaphores i a b); counters = λ k a b. sym (A.counters k a b) }

-- ---- one path, whether or not it has the operation
pub path_names : (p : Sequence) (π s c : ℕ) → ops (path_doors p π s c) ≡ names_of_sequence p
path_names p π s c = ap ops (doors_s π p (plain s) (plain s) (s + 1) c) ∙ ops_d (core_s π p) (plain s) (plain s) (s + 1) c ∙ sym (names_s π p)

path_opens : (p : Sequence) → Proper p → (π s c : ℕ) (h : History) → Fits p h → (a : ℕ) →
    OpenTo a (path_doors p π s c) (after (path_doors p π s c) (opening s) h) ↔ Fits p (h ++ (⊕ a ∷ []))
path_opens p ok π s c h f a = go (among a (names_of_sequence p)) refl
  where
    R : Type 0
    R = OpenTo a (path_doors p π s c) (after (path_doors p π s c) (opening s) h) ↔ Fits p (h ++ (⊕ a ∷ []))

    go : (b : Bool) → among a (names_of_sequence p) ≡ b → R
    go true m = (doors_are_right p ok π s c h f a (among_mem a (names_of_sequence p) m)).opens
    go false m = (
      (λ x. missing p h f (⊕ a) m),
      (λ x o k q. absurd (not_among a (names_of_sequence p) m (subst (Memᴰ a) (path_names p π s c) (subst (λ (z : ℕ). Memᴰ z (ops (path_doors p π s c))) q (mem_ops o (path_doors p π s c) k))))),
    )

-- ---- the regions of paths
unfoldable pub region : Sequence → ℕ → ℕ → Region
region p s c = record { s = s; s' = s + 1 + semaphores_in_sequence p; c = c; c' = c + counters_in_sequence p }

pub path_within : (p : Sequence) (π s c : ℕ) → DoorsWithin (region p s c) (path_doors p π s c)
unfolding region
path_within p π s c =
    subst (DoorsWithin (region p s c)) (sym (doors_s π p (plain s) (plain s) (s + 1) c))
    (within_d (region p s c) (core_s π p) (plain s) (plain s) (s + 1) c (omega arith, omega arith) (omega arith, omega arith)
    (omega arith) (let e = sems_s π p in omega arith) (omega arith) (let e = ctrs_s π p in omega arith))

-- the door's numbers are s, c or more
abbrev pub From : ℕ → ℕ → Door → Type 0
From s c (plain i) = s ≤ i
From s c (counted i k) = (s ≤ i) × (c ≤ k)

from_more : (s c s' c' : ℕ) (q : Door) → s ≤ s' → c ≤ c' → From s' c' q → From s c q
from_more s c s' c' (plain i) a b w = let r : s ≤ i = omega arith in r
from_more s c s' c' (counted i k) a b w = (omega arith, omega arith)

pub below_more : (s c s' c' : ℕ) (q : Door) → s ≤ s' → c ≤ c' → Below s c q → Below s' c' q
below_more s c s' c' (plain i) a b w = let r : i < s' = omega arith in r
below_more s c s' c' (counted i k) a b w = (omega arith, omega arith)

within_from : (p : Sequence) (s c : ℕ) (q : Door) → Within (region p s c) q → From s c q
unfolding region
within_from p s c (plain i) w = w.0
within_from p s c (counted i k) w = (w.0, w.2)

pub within_below : (p : Sequence) (s c : ℕ) (q : Door) → Within (region p s c) q → Below (s + 1 + semaphores_in_sequence p) (c + counters_in_sequence p) q
unfolding region
within_below p s c (plain i) w = w.1
within_below p s c (counted i k) w = (w.1, w.3)

below_outside : (p : Sequence) (s c : ℕ) (q : Door) → Below s c q → Outside (region p s c) q
unfolding region
below_outside p s c (plain i) w = inl w
below_outside p s c (counted i k) w = (inl w.0, inl w.1)

from_outside : (p : Sequence) (s c : ℕ) (q : Door) → From (s + 1 + semaphores_in_sequence p) (c + counters_in_sequence p) q → Outside (region p s c) q
unfolding region
from_outside p s c (plain i) w = inr w
from_outside p s c (counted i k) w = (inr w.0, inr w.1)

pub text_from : (t : Text) (π s c : ℕ) (o : Occurrence) → Memᴰ o (text_doors t π s c) → From s c o.left × From s c o.right
text_from (one p) π s c o m = let w = path_within p π s c o m in (within_from p s c o.left w.0, within_from p s c o.right w.1)
text_from (more p t) π s c o m = go (Memᴰ.append_cases (path_doors p π s c) m) (text_from t (π + 1) (s + 1 + semaphores_in_sequence p) (c + counters_in_sequence p) o)
  where
    go : Memᴰ o (path_doors p π s c) ⊎ Memᴰ o (text_doors t (π + 1) (s + 1 + semaphores_in_sequence p) (c + counters_in_sequence p)) →
        (Memᴰ o (text_doors t (π + 1) (s + 1 + semaphores_in_sequence p) (c + counters_in_sequence p)) →
        From (s + 1 + semaphores_in_sequence p) (c + counters_in_sequence p) o.left × From (s + 1 + semaphores_in_sequence p) (c + counters_in_sequence p) o.right) →
        From s c o.left × From s c o.right
    go (inl k) ih = let w = path_within p π s c o k in (within_from p s c o.left w.0, within_from p s c o.right w.1)
    go (inr k) ih =
        let w = ih k in (
          from_more s c (s + 1 + semaphores_in_sequence p) (c + counters_in_sequence p) o.left (omega arith) (omega arith) w.0,
          from_more s c (s + 1 + semaphores_in_sequence p) (c + counters_in_sequence p) o.right (omega arith) (omega arith) w.1,
        )

pub shut_below : (t : Text) (s j : ℕ) → j < s → opens_at t s j ≡ 0
shut_below (one p) s j l = by_eqb j s (λ b. cond {A = ℕ} b 1 0 ≡ 0) (λ q. let z : ⊥ = omega arith in absurd z) (λ n. refl)
shut_below (more p t) s j l =
    by_eqb j s (λ b. cond b 1 (opens_at t (s + 1 + semaphores_in_sequence p) j) ≡ 0) (λ q. let z : ⊥ = omega arith in absurd z)
    (λ n. shut_below t (s + 1 + semaphores_in_sequence p) j (omega arith))

-- all doors' numbers are below s and c
abbrev pub AllBelow : ℕ → ℕ → List Occurrence → Type 0
AllBelow s c os = (o : Occurrence) → Memᴰ o os → Below s c o.left × Below s c o.right

-- a path's semaphores and counters in the text's standing
pub path_agree : (p : Sequence) (π s c : ℕ) (pre post : List Occurrence) → AllBelow s c pre →
    ((o : Occurrence) → Memᴰ o post → From (s + 1 + semaphores_in_sequence p) (c + counters_in_sequence p) o.left × From (s + 1 + semaphores_in_sequence p) (c + counters_in_sequence p) o.right) →
    (σ : Standing) → ((j : ℕ) → s ≤ j → j < s + 1 + semaphores_in_sequence p → σ.semaphore j ≡ cond (eqb j s) 1 0) → ((k : ℕ) → σ.counter k ≡ 0) →
    (h : History) → Agree (region p s c) (after (pre ++ (path_doors p π s c ++ post)) σ h) (after (path_doors p π s c) (opening s) h)
unfolding region
path_agree p π s c pre post below from σ ones zeros h =
    after_agree (region p s c) pre (path_doors p π s c) post (λ o m. (below_outside p s c o.left (below o m).0, below_outside p s c o.right (below o m).1)) (path_within p π s c)
    (λ o m. (from_outside p s c o.left (from o m).0, from_outside p s c o.right (from o m).1)) h σ (opening s)
    (record { semaphores = λ i x y. ones i x y; counters = λ k x y. zeros k })

-- a path's doors in the text's standing
among_others : (p : Sequence) → Proper p → (π s c : ℕ) (pre post : List Occurrence) → AllBelow s c pre →
    ((o : Occurrence) → Memᴰ o post → From (s + 1 + semaphores_in_sequence p) (c + counters_in_sequence p) o.left × From (s + 1 + semaphores_in_sequence p) (c + counters_in_sequence p) o.right) →
    (σ : Standing) → ((j : ℕ) → s ≤ j → j < s + 1 + semaphores_in_sequence p → σ.semaphore j ≡ cond (eqb j s) 1 0) → ((k : ℕ) → σ.counter k ≡ 0) →
    (h : History) → Fits p h → (a : ℕ) →
    OpenTo a (path_doors p π s c) (after (pre ++ (path_doors p π s c ++ post)) σ h) ↔ Fits p (h ++ (⊕ a ∷ []))
among_others p ok π s c pre post below from σ ones zeros h f a =
    let own = path_doors p π s c in
    let R = region p s c in
    let A = path_agree p π s c pre post below from σ ones zeros h in
    let i = path_opens p ok π s c h f a in
    let σ₁ = after (pre ++ (own ++ post)) σ h in
    let σ₂ = after own (opening s) h in (
      (λ x. i.0 (λ o m q. open_agree R o.left σ₁ σ₂ (path_within p π s c o m).0 A (x o m q))),
      (λ x o m q. open_agree R o.left σ₂ σ₁ (path_within p π s c o m).0 (agree_sym R σ₁ σ₂ A) (i.1 x o m q)),
    )

pub lower_after : (p : Sequence) (π s c : ℕ) (pre : List Occurrence) → AllBelow s c pre → AllBelow (s + 1 + semaphores_in_sequence p) (c + counters_in_sequence p) (pre ++ path_doors p π s c)
lower_after p π s c pre below o m = go (Memᴰ.append_cases pre m)
  where
    go : Memᴰ o pre ⊎ Memᴰ o (path_doors p π s c) → Below (s + 1 + semaphores_in_sequence p) (c + counters_in_sequence p) o.left × Below (s + 1 + semaphores_in_sequence p) (c + counters_in_sequence p) o.right
    go (inl k) = (
      below_more s c (s + 1 + semaphores_in_sequence p) (c + counters_in_sequence p) o.left (omega arith) (omega arith) (below o k).0,
      below_more s c (s + 1 + semaphores_in_sequence p) (c + counters_in_sequence p) o.right (omega arith) (omega arith) (below o k).1,
    )
    go (inr k) = let w = path_within p π s c o k in (within_below p s c o.left w.0, within_below p s c o.right w.1)

all_open : (t : Text) → EachProper t → (π s c : ℕ) (pre : List Occurrence) → AllBelow s c pre →
    (σ : Standing) → ((j : ℕ) → s ≤ j → σ.semaphore j ≡ opens_at t s j) → ((k : ℕ) → σ.counter k ≡ 0) →
    (h : History) → FitsAll t h → (a : ℕ) →
    OpenTo a (text_doors t π s c) (after (pre ++ text_doors t π s c) σ h) ↔ FitsAll t (h ++ (⊕ a ∷ []))
all_open (one p) ok π s c pre below σ ones zeros h f a =
    subst (λ (os : List Occurrence). OpenTo a (path_doors p π s c) (after (pre ++ os) σ h) ↔ Fits p (h ++ (⊕ a ∷ []))) (append-nil (path_doors p π s c))
    (among_others p ok π s c pre [] below (λ o m. absurd (Memᴰ.not-nil m)) σ (λ j x y. ones j x) zeros h f a)
all_open (more p t) ok π s c pre below σ ones zeros h f a =
    let own = path_doors p π s c in
    let s₁ = s + 1 + semaphores_in_sequence p in
    let c₁ = c + counters_in_sequence p in
    let post = text_doors t (π + 1) s₁ c₁ in
    let here = among_others p ok.0 π s c pre post below (text_from t (π + 1) s₁ c₁) σ
    (λ j x y. ones j x ∙ ap (λ (z : ℕ). cond (eqb j s) 1 z) (shut_below t s₁ j y)) zeros h f.0 a in
    let there : OpenTo a post (after (pre ++ (own ++ post)) σ h) ↔ FitsAll t (h ++ (⊕ a ∷ [])) =
    subst (λ (os : List Occurrence). OpenTo a post (after os σ h) ↔ FitsAll t (h ++ (⊕ a ∷ []))) (append_assoc pre own post)
    (all_open t ok.1 (π + 1) s₁ c₁ (pre ++ own) (lower_after p π s c pre below) σ
    (λ j x. ones j (omega arith) ∙ by_eqb j s (λ b. cond b 1 (opens_at t s₁ j) ≡ opens_at t s₁ j) (λ q. let z : ⊥ = omega arith in absurd z) (λ n. refl)) zeros h f.1 a) in (
      (λ x. (here.0 (λ o m q. x o (Memᴰ.append_left post m) q), there.0 (λ o m q. x o (Memᴰ.append_right own m) q))),
      (λ x o m q. join o q x (Memᴰ.append_cases own m) here.1 there.1),
    )
  where
    own : List Occurrence
    own = path_doors p π s c

    post : List Occurrence
    post = text_doors t (π + 1) (s + 1 + semaphores_in_sequence p) (c + counters_in_sequence p)

    join : (o : Occurrence) → o.operation ≡ a → Fits p (h ++ (⊕ a ∷ [])) × FitsAll t (h ++ (⊕ a ∷ [])) → Memᴰ o own ⊎ Memᴰ o post →
        (Fits p (h ++ (⊕ a ∷ [])) → OpenTo a own (after (pre ++ (own ++ post)) σ h)) → (FitsAll t (h ++ (⊕ a ∷ [])) → OpenTo a post (after (pre ++ (own ++ post)) σ h)) →
        Open o.left (after (pre ++ (own ++ post)) σ h)
    join o q x (inl m) X Y = X x.0 o m q
    join o q x (inr m) X Y = Y x.1 o m q

path_ends : (p : Sequence) → Proper p → (h : History) → Fits p h → (a : ℕ) → ended a h < begun a h → Fits p (h ++ (⊖ a ∷ []))
path_ends p ok h f a l = go (among a (names_of_sequence p)) refl
  where
    go : (b : Bool) → among a (names_of_sequence p) ≡ b → Fits p (h ++ (⊖ a ∷ []))
    go true m = (doors_are_right p ok 0 0 0 h f a (among_mem a (names_of_sequence p) m)).ends.0 l
    go false m = missing p h f (⊖ a) m

all_end : (t : Text) → EachProper t → (h : History) → FitsAll t h → (a : ℕ) → ended a h < begun a h → FitsAll t (h ++ (⊖ a ∷ []))
all_end (one p) ok h f a l = path_ends p ok h f a l
all_end (more p t) ok h f a l = (path_ends p ok.0 h f.0 a l, all_end t ok.1 h f.1 a l)

end_runs : (t : Text) → EachProper t → (h : History) → FitsAll t h → (a : ℕ) → Memᴰ a (names_of_text t) → FitsAll t (h ++ (⊖ a ∷ [])) → ended a h < begun a h
end_runs (one p) ok h f a m g = (doors_are_right p ok 0 0 0 h f a m).ends.1 g
end_runs (more p t) ok h f a m g = go (Memᴰ.append_cases (names_of_sequence p) m) (λ k. end_runs t ok.1 h f.1 a k g.1)
  where
    go : Memᴰ a (names_of_sequence p) ⊎ Memᴰ a (names_of_text t) → (Memᴰ a (names_of_text t) → ended a h < begun a h) → ended a h < begun a h
    go (inl k) ih = (doors_are_right p ok.0 0 0 0 h f.0 a k).ends.1 g.0
    go (inr k) ih = ih k

pub all_doors_are_right : AllDoorsAreRight
all_doors_are_right t ok h f a = record {
  opens = all_open t ok 0 0 0 [] (λ o m. absurd (Memᴰ.not-nil m)) (text_opening t) (λ j x. refl) (λ k. refl) h f a;
  ends = λ m. (all_end t ok h f a, end_runs t ok h f a m);
  goes = after_snoc (text_doors t 0 0 0) (text_opening t) h (⊕ a);
  leaves = after_snoc (text_doors t 0 0 0) (text_opening t) h (⊖ a);
}

-- ---- whole histories
all_empty : (t : Text) → FitsAll t []
all_empty (one p) = empty_fits p
all_empty (more p t) = (empty_fits p, all_empty t)

pub all_beginnings : AllBeginningsFit
all_beginnings (one p) h k f = beginnings_fit p h k f
all_beginnings (more p t) h k f = (beginnings_fit p h k f.0, all_beginnings t h k f.1)

through_fits : (t : Text) → EachProper t → (h : History) → LetThrough t h → FitsAll t h
through_fits t ok h (nothing p) = subst (FitsAll t) (sym p) (all_empty t)
through_fits t ok h (let_in k a p l op) = subst (FitsAll t) (sym p) ((all_doors_are_right t ok k (through_fits t ok k l) a).opens.0 op)
through_fits t ok h (ended_one k a p l lt) = subst (FitsAll t) (sym p) (all_end t ok k (through_fits t ok k l) a lt)

of_text_left : (t : Text) (h k : History) → OfText t (h ++ k) → OfText t h
of_text_left t [] k m = tt
of_text_left t (e ∷ h) k m = (m.0, of_text_left t h k m.1)

of_text_last : (t : Text) (h : History) (e : Event) → OfText t (h ++ (e ∷ [])) → Memᴰ (operation e) (names_of_text t)
of_text_last t [] e m = m.0
of_text_last t (x ∷ h) e m = of_text_last t h e m.1

fits_through : (t : Text) → EachProper t → (h : History) → OfText t h → FitsAll t h → LetThrough t h
fits_through t ok = snoc_ind (λ (h : History). OfText t h → FitsAll t h → LetThrough t h) (λ m f. nothing refl) step
  where
    step : (h : History) (e : Event) → (OfText t h → FitsAll t h → LetThrough t h) → OfText t (h ++ (e ∷ [])) → FitsAll t (h ++ (e ∷ [])) → LetThrough t (h ++ (e ∷ []))
    step h (⊕ a) ih m f =
        let g = all_beginnings t h (⊕ a ∷ []) f in
        let_in h a refl (ih (of_text_left t h (⊕ a ∷ []) m) g) ((all_doors_are_right t ok h g a).opens.1 f)
    step h (⊖ a) ih m f =
        let g = all_beginnings t h (⊖ a ∷ []) f in
        ended_one h a refl (ih (of_text_left t h (⊖ a ∷ []) m) g) (end_runs t ok h g a (of_text_last t h (⊖ a) m) f)

pub doors_let_through_what_fits : DoorsLetThroughWhatFits
doors_let_through_what_fits t ok h m = (through_fits t ok h, fits_through t ok h m)
