-- The terminals that a tree spells, and what the readers of the translation leave behind a tree.
use Rattle.std.specs.Prelude.{◌≡◌, ℕ, zero, suc, ◌+◌, ◌<◌, ◌≤◌, List, [], ◌∷◌, map, length, Some, None, Option, ◌≢◌}
use Rattle.table.specs.declared.Table.{Table}
use Rattle.paths.specs.Grammar.{Terminal, semicolon, comma, round_open, round_close, brace_open, brace_close, path, end, word}
use Rattle.paths.specs.Grammar.{Sequence, Selection, Element, Text, last, ◌⨟◌, only, ◌or◌, name, round, brace, one, more}
use Rattle.paths.specs.Doors.{Door as TheDoor, Occurrence as TheOccurrence, semaphores_in_sequence, semaphores_in_selection, semaphores_in_element, counters_in_sequence, counters_in_selection, counters_in_element, sequence_doors, selection_doors, element_doors}
use Rattle.paths.specs.Texts.{text_doors}
use Rattle.paths.specs.Sizes.{how_many, paths, semaphores, counters}
use Rattle.tokens.specs.declared.Kind.{Kind}
use Rattle.tokens.specs.declared.Kind.TheVariants.{Semicolon, Comma, RoundOpen, RoundClose, BraceOpen, BraceClose, Path, End, Name}
use Rattle.rules.specs.Rules.{depth_of_sequence, depth_of_selection, depth_of_element, depth_of_text}
use Rattle.doors.specs.declared.Occurrence.{Occurrence}
use Rattle.doors.specs.Told.{door_of}
use Rattle.translation.specs.declared.Translated.{Translated}
use Rattle.translation.specs.declared.steps.Place.{Place}
use Rattle.translation.specs.declared.steps.Between.{Between}
use Rattle.translation.specs.declared.text.Source.{Source}
use Rattle.translation.specs.Rows.{ahead, kind_of, front, Added, later}

-- ---- rows of terminals: a tree, then the rest
abbrev mutual
  pub spell_sequence : Sequence → List Terminal → List Terminal
  spell_sequence (last l) rest = spell_selection l rest
  spell_sequence (l ⨟ q) rest = spell_selection l (semicolon ∷ spell_sequence q rest)

  pub spell_selection : Selection → List Terminal → List Terminal
  spell_selection (only e) rest = spell_element e rest
  spell_selection (e or l) rest = spell_element e (comma ∷ spell_selection l rest)

  pub spell_element : Element → List Terminal → List Terminal
  spell_element (name n) rest = word n ∷ rest
  spell_element (round q) rest = round_open ∷ spell_sequence q (round_close ∷ rest)
  spell_element (brace q) rest = brace_open ∷ spell_sequence q (brace_close ∷ rest)

abbrev pub spell_text : Text → List Terminal
spell_text (one p) = path ∷ spell_sequence p (end ∷ [])
spell_text (more p t) = path ∷ spell_sequence p (end ∷ spell_text t)

-- what may stand behind a sequence
pub data Closed : List Terminal → Type 0 where
  by_round : {rest : List Terminal} → Closed (round_close ∷ rest)
  by_brace : {rest : List Terminal} → Closed (brace_close ∷ rest)
  by_end : {rest : List Terminal} → Closed (end ∷ rest)

-- the number of the first ';' of a row outside brackets, if it comes before what closes the row; d brackets are open, n is the next number
abbrev pub scan : ℕ → ℕ → List Kind → Option ℕ
scan d n [] = None
scan zero n (Semicolon ∷ ks) = Some n
scan (suc d) n (Semicolon ∷ ks) = scan (suc d) (later n) ks
scan d n (Comma ∷ ks) = scan d n ks
scan d n (RoundOpen ∷ ks) = scan (suc d) n ks
scan zero n (RoundClose ∷ ks) = None
scan (suc d) n (RoundClose ∷ ks) = scan d n ks
scan d n (BraceOpen ∷ ks) = scan (suc d) n ks
scan zero n (BraceClose ∷ ks) = None
scan (suc d) n (BraceClose ∷ ks) = scan d n ks
scan d n (Path ∷ ks) = scan d n ks
scan d n (End ∷ ks) = None
scan d n (Name ∷ ks) = scan d n ks

-- ---- what a reader leaves behind a tree
-- how a reader starts: the next numbers s and c, in path p, between two doors
pub record Stands (src : Source) (start : Place) (b : Between) (p s c : ℕ) (left right : TheDoor) : Type 0 where
  pub few : length src.names.records.now ≤ 255
  pub semaphore : start.semaphore ≡ s
  pub counter : start.counter ≡ c
  pub number : b.path ≡ p
  pub left_door : door_of b.left ≡ left
  pub right_door : door_of b.right ≡ right

-- the rest is ahead, s and c are the next numbers, and os were added
pub record Done (src : Source) (rest : List Terminal) (to : Place) (s c : ℕ) (before : Table Occurrence) (os : List TheOccurrence) (after : Table Occurrence) : Type 0 where
  pub row : ahead src to.token ≡ rest
  pub semaphore : to.semaphore ≡ s
  pub counter : to.counter ≡ c
  pub added : Added before os after

-- behind a sequence that the row ahead spells, with at most depth brackets inside each other
abbrev pub SequenceTold : Source → ℕ → Place → Between → Place → Table Occurrence → Table Occurrence → Type 0
SequenceTold src depth start b to before after =
    (q : Sequence) (rest : List Terminal) (p s c : ℕ) (left right : TheDoor) → Stands src start b p s c left right → Closed rest → ahead src start.token ≡ spell_sequence q rest →
    s + semaphores_in_sequence q ≤ 256 → c + counters_in_sequence q ≤ 256 → depth_of_sequence q ≤ depth →
    Done src rest to (s + semaphores_in_sequence q) (c + counters_in_sequence q) before (sequence_doors q p left right s c) after

-- behind a selection; no ',' follows it
abbrev pub SelectionTold : Source → ℕ → Place → Between → Place → Table Occurrence → Table Occurrence → Type 0
SelectionTold src depth start b to before after =
    (l : Selection) (rest : List Terminal) (p s c : ℕ) (left right : TheDoor) → Stands src start b p s c left right → (front (map kind_of rest) ≢ Some Comma) → ahead src start.token ≡ spell_selection l rest →
    s + semaphores_in_selection l ≤ 256 → c + counters_in_selection l ≤ 256 → depth_of_selection l ≤ depth →
    Done src rest to (s + semaphores_in_selection l) (c + counters_in_selection l) before (selection_doors l p left right s c) after

-- behind an element
abbrev pub ElementTold : Source → ℕ → Place → Between → Place → Table Occurrence → Table Occurrence → Type 0
ElementTold src depth start b to before after =
    (e : Element) (rest : List Terminal) (p s c : ℕ) (left right : TheDoor) → Stands src start b p s c left right → ahead src start.token ≡ spell_element e rest →
    s + semaphores_in_element e ≤ 256 → c + counters_in_element e ≤ 256 → depth_of_element e ≤ depth →
    Done src rest to (s + semaphores_in_element e) (c + counters_in_element e) before (element_doors e p left right s c) after

-- behind a sequence and the terminal k that closes it
abbrev pub BracketTold : Source → ℕ → Place → Between → Place → Table Occurrence → Table Occurrence → Type 0
BracketTold src depth start b to before after =
    (q : Sequence) (k : Terminal) (rest : List Terminal) (p s c : ℕ) (left right : TheDoor) → Stands src start b p s c left right → Closed (k ∷ rest) → ahead src start.token ≡ spell_sequence q (k ∷ rest) →
    s + semaphores_in_sequence q ≤ 256 → c + counters_in_sequence q ≤ 256 → depth_of_sequence q < depth →
    Done src rest to (s + semaphores_in_sequence q) (c + counters_in_sequence q) before (sequence_doors q p left right s c) after

-- where the translation begins
abbrev pub first : Place
first = record { token = 0; semaphore = 0; counter = 0 }

-- all paths are read: n paths, s semaphores and c counters are taken, and os were added
pub record Over (src : Source) (r : Translated) (n s c : ℕ) (before : Table Occurrence) (os : List TheOccurrence) (after : Table Occurrence) : Type 0 where
  pub names : r.names ≡ length src.names.records.now
  pub paths : r.paths ≡ n
  pub semaphores : r.semaphores ≡ s
  pub counters : r.counters ≡ c
  pub added : Added before os after

-- from a place on, where the next path has the number n: behind nothing, and behind the paths of a text
pub record PathsTold (src : Source) (start : Place) (n : ℕ) (r : Translated) (before after : Table Occurrence) : Type 0 where
  pub none : ahead src start.token ≡ [] → Over src r n start.semaphore start.counter before [] after
  pub text : (t : Text) (k s c : ℕ) → length src.names.records.now ≤ 255 → n ≡ k → start.semaphore ≡ s → start.counter ≡ c → ahead src start.token ≡ spell_text t →
      k + how_many paths (spell_text t) ≤ 256 → s + how_many semaphores (spell_text t) ≤ 256 → c + how_many counters (spell_text t) ≤ 256 → depth_of_text t ≤ 16 →
      Over src r (k + how_many paths (spell_text t)) (s + how_many semaphores (spell_text t)) (c + how_many counters (spell_text t)) before (text_doors t k s c) after
