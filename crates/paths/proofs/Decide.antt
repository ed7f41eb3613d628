-- Whether a history fits is found by running it through the doors.
use mathlib.Core.Path.{◌≡◌, refl, sym, ◌∙◌, ap, subst}
use mathlib.Core.Logic.{◌⊎◌, inl, inr, ◌↔◌}
use mathlib.Core.Bool.{Bool, true, false, cond}
use mathlib.Core.List.Memᴰ
use mathlib.Core.List.{List, [], ◌∷◌, ◌++◌, append_assoc, append-nil, Memᴰ}
use Prim.Native.Nat.{ℕ, ◌≤◌}
use lib.Dec.{eqb, leb, ltb, T, leb→le, le→leb, ltb→lt, lt→ltb, lit≤}
use Rattle.paths.specs.Grammar.{Sequence}
use Rattle.paths.specs.Words.{Event, ⊕, ⊖, operation, History, among, Fits, Proper, names_of_sequence}
use Rattle.paths.specs.Doors.{Door, plain, counted, Occurrence, Standing, Open, next, after, opening, OpenTo, begun, ended, path_doors}
use Rattle.paths.specs.Judged.{Judged, DoorsShown, a_then_b, many_a_then_b, a, b}
use Rattle.paths.proofs.Tests.{by_eqb, by_bool}
use Rattle.paths.proofs.Occs.{among_mem, after_snoc}
use Rattle.paths.proofs.Whole.{doors_are_right, beginnings_fit, empty_fits, missing}

-- is the door open?
abbrev open? : Door → Standing → Bool
open? (plain s) σ = leb 1 (σ.semaphore s)
open? (counted s c) σ = cond (leb 1 (σ.counter c)) true (leb 1 (σ.semaphore s))

open_right : (q : Door) (σ : Standing) → T (open? q σ) → Open q σ
open_right (plain s) σ h = leb→le 1 (σ.semaphore s) h
open_right (counted s c) σ h =
    by_bool (leb 1 (σ.counter c)) (λ z. T (cond z true (leb 1 (σ.semaphore s))) → (1 ≤ σ.counter c) ⊎ (1 ≤ σ.semaphore s))
    (λ p x. inl (leb→le 1 (σ.counter c) (subst T (sym p) tt))) (λ p x. inr (leb→le 1 (σ.semaphore s) x)) h

open_left : (q : Door) (σ : Standing) → Open q σ → T (open? q σ)
open_left (plain s) σ h = le→leb 1 (σ.semaphore s) h
open_left (counted s c) σ (inl h) =
    by_bool (leb 1 (σ.counter c)) (λ z. T z → T (cond z true (leb 1 (σ.semaphore s)))) (λ p x. tt) (λ p x. absurd x) (le→leb 1 (σ.counter c) h)
open_left (counted s c) σ (inr h) =
    by_bool (leb 1 (σ.counter c)) (λ z. T (cond z true (leb 1 (σ.semaphore s)))) (λ p. tt) (λ p. le→leb 1 (σ.semaphore s) h)

-- are all left doors of x open?
abbrev all_open? : ℕ → List Occurrence → Standing → Bool
all_open? x [] σ = true
all_open? x (o ∷ os) σ = cond (eqb x o.operation) (cond (open? o.left σ) (all_open? x os σ) false) (all_open? x os σ)

all_right : (x : ℕ) (os : List Occurrence) (σ : Standing) → T (all_open? x os σ) → OpenTo x os σ
all_right x [] σ h o m e = absurd (Memᴰ.not-nil m)
all_right x (q ∷ os) σ h o m e = go (Memᴰ.cases_cons m) (λ t k. all_right x os σ t o k e)
  where
    rest : T (all_open? x (q ∷ os) σ) → T (all_open? x os σ)
    rest = by_eqb x q.operation (λ z. T (cond z (cond (open? q.left σ) (all_open? x os σ) false) (all_open? x os σ)) → T (all_open? x os σ))
        (λ p. by_bool (open? q.left σ) (λ z. T (cond z (all_open? x os σ) false) → T (all_open? x os σ)) (λ r t. t) (λ r t. absurd t)) (λ n t. t)

    here : x ≡ q.operation → T (all_open? x (q ∷ os) σ) → T (open? q.left σ)
    here p = by_eqb x q.operation (λ z. T (cond z (cond (open? q.left σ) (all_open? x os σ) false) (all_open? x os σ)) → T (open? q.left σ))
        (λ p. by_bool (open? q.left σ) (λ z. T (cond z (all_open? x os σ) false) → T z) (λ r t. tt) (λ r t. t)) (λ n t. absurd (n p))

    go : (o ≡ q) ⊎ Memᴰ o os → (T (all_open? x os σ) → Memᴰ o os → Open o.left σ) → Open o.left σ
    go (inl p) ih = subst (λ (z : Occurrence). Open z.left σ) (sym p) (open_right q.left σ (here (sym e ∙ ap (λ (z : Occurrence). z.operation) p) h))
    go (inr k) ih = ih (rest h) k

all_left : (x : ℕ) (os : List Occurrence) (σ : Standing) → OpenTo x os σ → T (all_open? x os σ)
all_left x [] σ h = tt
all_left x (q ∷ os) σ h =
    let ih = all_left x os σ (λ o m e. h o (Memᴰ.tail m) e) in
    by_eqb x q.operation (λ z. T (cond z (cond (open? q.left σ) (all_open? x os σ) false) (all_open? x os σ)))
    (λ p. by_bool (open? q.left σ) (λ z. T z → T (cond z (all_open? x os σ) false)) (λ r t. ih) (λ r t. t) (open_left q.left σ (h q (Memᴰ.head refl) (sym p))))
    (λ n. ih)

-- may the event come next?
abbrev may? : List Occurrence → Standing → History → Event → Bool
may? os σ past (⊕ x) = all_open? x os σ
may? os σ past (⊖ x) = ltb (ended x past) (begun x past)

-- does h, coming behind past, fit the path whose names are ns?
abbrev pub judge : List Occurrence → List ℕ → Standing → History → History → Bool
judge os ns σ past [] = true
judge os ns σ past (e ∷ h) =
    let r = judge os ns (next os e σ) (past ++ (e ∷ [])) h in cond (among (operation e) ns) (cond (may? os σ past e) r false) r

module _ (p : Sequence) (ok : Proper p) where
  abbrev ps : List Occurrence
  ps = path_doors p 0 0 0

  abbrev ns : List ℕ
  ns = names_of_sequence p

  abbrev now : History → Standing
  now h = after ps (opening 0) h

  may_right : (past : History) → Fits p past → (e : Event) → among (operation e) ns ≡ true → T (may? ps (now past) past e) → Fits p (past ++ (e ∷ []))
  may_right past f (⊕ x) m t = (doors_are_right p ok 0 0 0 past f x (among_mem x ns m)).opens.0 (all_right x ps (now past) t)
  may_right past f (⊖ x) m t = (doors_are_right p ok 0 0 0 past f x (among_mem x ns m)).ends.0 (ltb→lt (ended x past) (begun x past) t)

  may_left : (past : History) → Fits p past → (e : Event) → among (operation e) ns ≡ true → Fits p (past ++ (e ∷ [])) → T (may? ps (now past) past e)
  may_left past f (⊕ x) m t = all_left x ps (now past) ((doors_are_right p ok 0 0 0 past f x (among_mem x ns m)).opens.1 t)
  may_left past f (⊖ x) m t = lt→ltb (ended x past) (begun x past) ((doors_are_right p ok 0 0 0 past f x (among_mem x ns m)).ends.1 t)

  pub decided : (h past : History) → Fits p past → T (judge ps ns (now past) past h) ↔ Fits p (past ++ h)
  decided [] past f = ((λ t. subst (Fits p) (sym (append-nil past)) f), (λ t. tt))
  decided (e ∷ h) past f =
      by_bool (among (operation e) ns) (λ z. T (cond z (cond (may? ps (now past) past e) r false) r) ↔ Fits p (past ++ (e ∷ h)))
      (λ m. by_bool (may? ps (now past) past e) (λ z. T (cond z r false) ↔ Fits p (past ++ (e ∷ h)))
      (λ y. on (decided h (past ++ (e ∷ []))) (may_right past f e m (subst T (sym y) tt)))
      (λ y. ((λ t. absurd t), (λ t. subst T y (may_left past f e m (beginnings_fit p (past ++ (e ∷ [])) h (subst (Fits p) (sym E) t)))))))
      (λ m. on (decided h (past ++ (e ∷ []))) (missing p past f e m))
    where
      r : Bool
      r = judge ps ns (next ps e (now past)) (past ++ (e ∷ [])) h

      E : (past ++ (e ∷ [])) ++ h ≡ past ++ (e ∷ h)
      E = append_assoc past (e ∷ []) h

      on : (Fits p (past ++ (e ∷ [])) → T (judge ps ns (now (past ++ (e ∷ []))) (past ++ (e ∷ [])) h) ↔ Fits p ((past ++ (e ∷ [])) ++ h)) →
          Fits p (past ++ (e ∷ [])) → T r ↔ Fits p (past ++ (e ∷ h))
      on ih g =
          let i = ih g in
          let q = ap (λ (z : Standing). T (judge ps ns z (past ++ (e ∷ [])) h)) (after_snoc ps (opening 0) past e) in
          ((λ t. subst (Fits p) E (i.0 (subst (λ (A : Type 0). A) (sym q) t))), (λ t. subst (λ (A : Type 0). A) q (i.1 (subst (Fits p) (sym E) t))))

proper_1 : Proper a_then_b
proper_1 = record { distinct = (refl, (refl, tt)); unnested = lit≤ tt }

proper_2 : Proper many_a_then_b
proper_2 = record { distinct = (refl, (refl, tt)); unnested = lit≤ tt }

pub judged : Judged
judged = record {
  again = (decided a_then_b proper_1 (⊕ a ∷ ⊖ a ∷ ⊕ b ∷ ⊖ b ∷ ⊕ a ∷ []) [] (empty_fits a_then_b)).0 tt;
  too_early = λ f. (decided a_then_b proper_1 (⊕ a ∷ ⊕ b ∷ []) [] (empty_fits a_then_b)).1 f;
  together = (decided many_a_then_b proper_2 (⊕ a ∷ ⊕ a ∷ ⊖ a ∷ ⊖ a ∷ ⊕ b ∷ []) [] (empty_fits many_a_then_b)).0 tt;
  apart = λ f. (decided many_a_then_b proper_2 (⊕ a ∷ ⊖ a ∷ ⊕ a ∷ []) [] (empty_fits many_a_then_b)).1 f;
  one_runs = λ f. (decided many_a_then_b proper_2 (⊕ a ∷ ⊕ a ∷ ⊖ a ∷ ⊕ b ∷ []) [] (empty_fits many_a_then_b)).1 f;
}

pub doors_shown : DoorsShown
doors_shown = record { one_path = refl; two_paths = refl; one_turn = refl }
