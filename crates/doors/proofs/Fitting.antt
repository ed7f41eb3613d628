-- The left doors of an operation, one by one, tell what fits.
use Rattle.std.proofs.Common.{ℕ, ◌<◌, Bool, List, [], ◌∷◌, ◌++◌, length, Decides, sym, refl, subst, arith}
use mathlib.Core.List.Memᴰ
use mathlib.Core.List.{Memᴰ}
use lib.ListN.{length-map}
use Rattle.std.specs.Bool.{MatchBool}
use Rattle.std.specs.List.{All, AllByRecursion, AllWithin, HoldsAt}
use Rattle.std.proofs.lemmas.Bool.Decides.{Decides-like, nat_tests, when_true}
use Rattle.std.proofs.lemmas.Iterator.Search.{true_from_All}
use Rattle.std.proofs.lemmas.List.{get_or-map}
use Rattle.std.proofs.lemmas.List.Elements.{All-map, All-from_all_within, All-from_recursion, recursion_from_All}
use Rattle.paths.specs.Grammar.{Text}
use Rattle.paths.specs.Words.{⊕, History}
use Rattle.paths.specs.Doors.{Occurrence as TheOccurrence, Standing, Open, OpenTo}
use Rattle.paths.specs.Texts.{EachProper, FitsAll, text_doors, standing}
use Rattle.paths.proofs.Texts.{all_doors_are_right}
use Rattle.doors.specs.declared.Occurrence.{Occurrence}
use Rattle.doors.specs.declared.Levels.{Levels}
use Rattle.doors.specs.declared.Doors.{Doors}
use Rattle.doors.specs.Told.{told}
use Rattle.doors.specs.Memory.{standing_of, row, of_operation, Holds, Tells}

-- the left door of the occurrence is open
abbrev Enterable : Standing → TheOccurrence → Type 0
Enterable σ o = Open o.left σ

-- the same of an occurrence in memory
abbrev pub Lets : Levels → Occurrence → Type 0
Lets l o = Open (told o).left (standing_of l)

-- an `all` that answers whether each has P
pub all_decides : {X : Type 0} (P : X → Type 0) (r : Bool) (xs : List X) → MatchBool r (AllWithin P xs 0 (length xs)) ((k : ℕ) × (k < length xs) × HoldsAt (λ x. P x → ⊥) xs k) →
    Decides r (All P xs)
all_decides P r xs m = (λ e. All-from_all_within P xs (when_true _ _ e m), true_from_All P (λ x. P x → ⊥) r xs (λ x p n. n p) m)

module _ (a : ℕ) (σ : Standing) where
  open_each : (os : List TheOccurrence) → OpenTo a os σ → AllByRecursion (Enterable σ) (of_operation a os)
  open_each [] f = tt
  open_each (o ∷ os) f = grind (arith, nat_tests, f o (Memᴰ.head refl), open_each os (λ p m e. f p (Memᴰ.tail m) e))

  each_open : (os : List TheOccurrence) → AllByRecursion (Enterable σ) (of_operation a os) → OpenTo a os σ
  each_open [] h o m e = absurd (Memᴰ.not-nil m)
  each_open (p ∷ os) h o m e = grind (arith, nat_tests, Memᴰ.cases_cons m, each_open os)

module _ (d : Doors) (a : ℕ) (r : Bool) (decides : Decides r (All (Lets d.levels) (row d.rows a))) where
  pub fits_doors : (os : List TheOccurrence) (σ : Standing) → Holds d os σ → Decides r (OpenTo a os σ)
  fits_doors os σ h =
      let from = standing_of d.levels in
      let xs = row d.rows a in
      Decides-like r
      (λ all. subst (OpenTo a os) h.stands (each_open a from os (recursion_from_All (Enterable from) (of_operation a os)
      (subst (All (Enterable from)) (h.rows a) (All-map (Enterable from) told xs all)))))
      (λ f. let all = subst (All (Enterable from)) (sym (h.rows a)) (All-from_recursion (Enterable from) (of_operation a os) (open_each a from os (subst (OpenTo a os) (sym h.stands) f))) in
      λ k o lt. subst (Enterable from) (get_or-map told xs k o (told o) lt) (all k (told o) (simp length-map lt)))
      decides

  pub fits_text : (t : Text) (h : History) → EachProper t → FitsAll t h → Tells d t h → Decides r (FitsAll t (h ++ (⊕ a ∷ [])))
  fits_text t h proper fits tells =
      let tell = (all_doors_are_right t proper h fits a).opens in
      Decides-like r tell.0 tell.1 (fits_doors (text_doors t 0 0 0) (standing t h) tells)
