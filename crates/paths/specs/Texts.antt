-- All paths of a text together.
use Rattle.std.specs.Prelude.{◌≡◌, ◌↔◌, cond, ℕ, ◌+◌, ◌<◌, eqb}
use mathlib.Core.List.{List, [], ◌∷◌, ◌++◌, Memᴰ}
use Rattle.paths.specs.Grammar.{Text, one, more}
use Rattle.paths.specs.Words.{⊕, ⊖, operation, History, Fits, Proper, names_of_sequence}
use Rattle.paths.specs.Doors.{Occurrence, Standing, path_doors, semaphores_in_sequence, counters_in_sequence, next, after, OpenTo, begun, ended}

-- the occurrences of a text, in text order; paths are numbered from n on, semaphores from s on, counters from c on
abbrev pub text_doors : Text → ℕ → ℕ → ℕ → List Occurrence
text_doors (one p) n s c = path_doors p n s c
text_doors (more p t) n s c = path_doors p n s c ++ text_doors t (n + 1) (s + 1 + semaphores_in_sequence p) (c + counters_in_sequence p)

-- at what semaphore j opens, if the first path's semaphore is s: each path's own at 1, all else at 0
abbrev pub opens_at : Text → ℕ → ℕ → ℕ
opens_at (one p) s j = cond (eqb j s) 1 0
opens_at (more p t) s j = cond (eqb j s) 1 (opens_at t (s + 1 + semaphores_in_sequence p) j)

-- the standing before any event
abbrev pub text_opening : Text → Standing
text_opening t = record { semaphore = opens_at t 0; counter = λ j. 0 }

abbrev pub names_of_text : Text → List ℕ
names_of_text (one p) = names_of_sequence p
names_of_text (more p t) = names_of_sequence p ++ names_of_text t

-- every path is proper
abbrev pub EachProper : Text → Type 0
EachProper (one p) = Proper p
EachProper (more p t) = Proper p × EachProper t

-- h fits every path of the text
abbrev pub FitsAll : Text → History → Type 0
FitsAll (one p) h = Fits p h
FitsAll (more p t) h = Fits p h × FitsAll t h

-- the standing of a text's semaphores and counters after a history
abbrev pub standing : Text → History → Standing
standing t h = after (text_doors t 0 0 0) (text_opening t) h

-- The doors of a text tell what fits it. After a history h that fits every path, for an operation a: all its left doors are open exactly when
-- h with its letting-in fits every path; if it is a name of the text, its end fits every path exactly when it runs; and going in by all its
-- left doors, or leaving by all its right doors, gives the standing of the longer history.
pub record TextDoorsTell (t : Text) (h : History) (a : ℕ) : Type 0 where
  pub opens : OpenTo a (text_doors t 0 0 0) (standing t h) ↔ FitsAll t (h ++ (⊕ a ∷ []))
  pub ends : Memᴰ a (names_of_text t) → (ended a h < begun a h) ↔ FitsAll t (h ++ (⊖ a ∷ []))
  pub goes : standing t (h ++ (⊕ a ∷ [])) ≡ next (text_doors t 0 0 0) (⊕ a) (standing t h)
  pub leaves : standing t (h ++ (⊖ a ∷ [])) ≡ next (text_doors t 0 0 0) (⊖ a) (standing t h)

abbrev pub AllDoorsAreRight : Type 0
AllDoorsAreRight = (t : Text) → EachProper t → (h : History) → FitsAll t h → (a : ℕ) → TextDoorsTell t h a

-- the beginning of what fits every path, fits every path
abbrev pub AllBeginningsFit : Type 0
AllBeginningsFit = (t : Text) (h k : History) → FitsAll t (h ++ k) → FitsAll t h

-- h came about event by event: what was let in found all its left doors open, and what ended was running
pub data LetThrough (t : Text) : History → Type 0 where
  nothing : {h : History} → h ≡ [] → LetThrough t h
  let_in : {h : History} (k : History) (a : ℕ) → h ≡ k ++ (⊕ a ∷ []) → LetThrough t k → OpenTo a (text_doors t 0 0 0) (standing t k) → LetThrough t h
  ended_one : {h : History} (k : History) (a : ℕ) → h ≡ k ++ (⊖ a ∷ []) → LetThrough t k → ended a k < begun a k → LetThrough t h

-- every event is of an operation of the text
abbrev pub OfText : Text → History → Type 0
OfText t [] = Unit {0}
OfText t (e ∷ h) = Memᴰ (operation e) (names_of_text t) × OfText t h

-- what the doors let through, event by event, is exactly what fits every path
abbrev pub DoorsLetThroughWhatFits : Type 0
DoorsLetThroughWhatFits = (t : Text) → EachProper t → (h : History) → OfText t h → LetThrough t h ↔ FitsAll t h
