-- Passing through the doors of an operation one by one, and what the memory tells then.
use Rattle.std.proofs.Common.{◌≡◌, ℕ, ◌+◌, ◌-◌, ◌^◌, ◌<◌, ◌≤◌, List, [], ◌∷◌, ◌++◌, length, get_or, take, fold, sym, refl, ap, ◌∙◌, subst, arith}
use Rattle.std.proofs.lemmas.List.{length-take-le}
use Rattle.std.proofs.lemmas.List.Sums.{fold_more}
use Rattle.std.proofs.lemmas.Bool.Decides.{nat_tests}
use Rattle.paths.specs.Grammar.{Text}
use Rattle.paths.specs.Words.{Event, operation, History}
use Rattle.paths.specs.Doors.{Occurrence as TheOccurrence, Standing, passed, next}
use Rattle.paths.specs.Texts.{EachProper, FitsAll, text_doors, text_opening, standing}
use Rattle.paths.specs.Runs.{let_in_by}
use Rattle.paths.proofs.Occs.{after_snoc}
use Rattle.paths.proofs.Small.{standing_is_small}
use Rattle.doors.specs.declared.Occurrence.{Occurrence}
use Rattle.doors.specs.declared.Rows.{Rows}
use Rattle.doors.specs.declared.Doors.{Doors}
use Rattle.doors.specs.Told.{told, all_told}
use Rattle.doors.specs.Memory.{standing_of, row, of_operation, Holds, AtMost, Low, through, Passed, Tells}

-- ---- an event passes through the doors of its operation, and no others
next_folded : (os : List TheOccurrence) (e : Event) (σ : Standing) →
    next os e σ ≡ fold (λ (s : Standing) (o : TheOccurrence). passed e o s) σ (of_operation (operation e) os)
next_folded [] e σ = refl
next_folded (o ∷ os) e σ = grind (arith, next_folded os e)

folded_told : (e : Event) (σ : Standing) (xs : List Occurrence) → fold (λ (s : Standing) (o : TheOccurrence). passed e o s) σ (all_told xs) ≡ fold (through e) σ xs
folded_told e σ [] = refl
folded_told e σ (x ∷ xs) = folded_told e (through e σ x) xs

-- ---- each door raises a number by one at most
passed_low : (e : Event) (o : TheOccurrence) (n : ℕ) (σ : Standing) → AtMost n σ → AtMost (n + 1) (passed e o σ)
passed_low e o n σ h j = let k = h j in grind (arith, nat_tests)

folded_low : (e : Event) (xs : List Occurrence) (n : ℕ) (σ : Standing) → AtMost n σ → (j : ℕ) →
    ((fold (through e) σ xs).semaphore j ≤ n + length xs) × ((fold (through e) σ xs).counter j ≤ n + length xs)
folded_low e [] n σ h j = (omega (arith, h j), omega (arith, h j))
folded_low e (x ∷ xs) n σ h j =
    let k = folded_low e xs (n + 1) (through e σ x) (passed_low e (told x) n σ h) j in (omega arith, omega arith)

-- ---- one door more of those of an operation
pub passed_more : (e : Event) (before now' then : Standing) (xs : List Occurrence) (i : ℕ) (d : Occurrence) → i < length xs → length xs ≤ 32 →
    (Low before → now' ≡ fold (through e) before (take i xs)) → (AtMost (2 ^ 32 - 2) now' → then ≡ through e now' (get_or xs i d)) →
    Low before → then ≡ fold (through e) before (take (i + 1) xs)
passed_more e before now' then xs i d h few inv step low =
    let was = inv low in
    let bound : AtMost (2 ^ 32 - 2) (fold (through e) before (take i xs)) =
    (λ j. let k = folded_low e (take i xs) 1000001 before low j in let l = length-take-le i xs (omega arith) in (omega arith, omega arith)) in
    step (subst (AtMost (2 ^ 32 - 2)) (sym was) bound) ∙ ap (λ σ. through e σ (get_or xs i d)) was ∙ sym (fold_more (through e) before xs i d h)

-- ---- what the memory tells after an event
pub holds_next : (e : Event) (d d' : Doors) → Passed e d d' → (os : List TheOccurrence) (σ : Standing) → Holds d os σ → Low σ → Holds d' os (next os e σ)
holds_next e d d' p os σ h low =
    let F : Standing → TheOccurrence → Standing = λ s o. passed e o s in
    let from = standing_of d.levels in
    record {
      rows = λ a. ap (λ (r : Rows). all_told (row r a)) p.rows ∙ h.rows a;
      stands =
          p.levels (subst Low (sym h.stands) low) ∙ sym (folded_told e from (row d.rows (operation e))) ∙ ap (fold F from) (h.rows (operation e))
          ∙ sym (next_folded os e from) ∙ ap (next os e) h.stands;
    }

low_text : (t : Text) → EachProper t → (h : History) → FitsAll t h → let_in_by h ≤ 1000000 → Low (standing t h)
low_text t proper h fits few j = let s = standing_is_small t proper h fits j in (omega (arith, s.semaphores), omega (arith, s.counters))

pub tells_next : (e : Event) (d d' : Doors) → Passed e d d' → (t : Text) (h : History) → EachProper t → FitsAll t h → let_in_by h ≤ 1000000 → Tells d t h → Tells d' t (h ++ (e ∷ []))
tells_next e d d' p t h proper fits few tells =
    subst (Holds d' (text_doors t 0 0 0)) (sym (after_snoc (text_doors t 0 0 0) (text_opening t) h e))
    (holds_next e d d' p (text_doors t 0 0 0) (standing t h) tells (low_text t proper h fits few))
