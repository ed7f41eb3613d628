-- What a derivation yields is what its tree spells, and how many semaphores, counters and paths that takes.
use Rattle.std.proofs.Common.{◌≡◌, ℕ, ◌+◌, List, [], ◌∷◌, ◌++◌, refl, append_assoc, arith}
use Rattle.paths.specs.Grammar.{Terminal, semicolon, comma, round_close, brace_close, end}
use Rattle.paths.specs.Grammar.{Text, one, more, Sequence, Selection, Element, last, ◌⨟◌, only, ◌or◌, name, round, brace, yield_sequence, yield_selection, yield_element, yield_text}
use Rattle.paths.specs.Doors.{semaphores_in_sequence, semaphores_in_selection, semaphores_in_element, counters_in_sequence, counters_in_selection, counters_in_element}
use Rattle.paths.specs.Sizes.{how_many, paths, semaphores, counters}
use Rattle.translation.specs.Trees.{spell_sequence, spell_selection, spell_element, spell_text}

mutual
  spelled_sequence : (q : Sequence) (ts : List Terminal) → yield_sequence q ++ ts ≡ spell_sequence q ts
  spelled_sequence (last l) ts = spelled_selection l ts
  spelled_sequence (l ⨟ q) ts = grind (arith, append_assoc (yield_selection l) (semicolon ∷ yield_sequence q) ts, spelled_selection l (semicolon ∷ spell_sequence q ts), spelled_sequence q ts)

  spelled_selection : (l : Selection) (ts : List Terminal) → yield_selection l ++ ts ≡ spell_selection l ts
  spelled_selection (only e) ts = spelled_element e ts
  spelled_selection (e or l) ts = grind (arith, append_assoc (yield_element e) (comma ∷ yield_selection l) ts, spelled_element e (comma ∷ spell_selection l ts), spelled_selection l ts)

  spelled_element : (e : Element) (ts : List Terminal) → yield_element e ++ ts ≡ spell_element e ts
  spelled_element (name n) ts = refl
  spelled_element (round q) ts = grind (arith, append_assoc (yield_sequence q) (round_close ∷ []) ts, spelled_sequence q (round_close ∷ ts))
  spelled_element (brace q) ts = grind (arith, append_assoc (yield_sequence q) (brace_close ∷ []) ts, spelled_sequence q (brace_close ∷ ts))

pub spelled_text : (t : Text) → yield_text t ≡ spell_text t
spelled_text (one p) = grind (arith, spelled_sequence p (end ∷ []))
spelled_text (more p t) = grind (arith, append_assoc (yield_sequence p) (end ∷ []) (yield_text t), spelled_sequence p (end ∷ spell_text t), spelled_text t)

-- a row that takes s semaphores, c counters and no path more than the rest
abbrev Takes : List Terminal → ℕ → ℕ → List Terminal → Type 0
Takes row s c rest = (how_many semaphores row ≡ s + how_many semaphores rest) × (how_many counters row ≡ c + how_many counters rest) × (how_many paths row ≡ how_many paths rest)

mutual
  pub taken_sequence : (q : Sequence) (rest : List Terminal) → Takes (spell_sequence q rest) (semaphores_in_sequence q) (counters_in_sequence q) rest
  taken_sequence (last l) rest = taken_selection l rest
  taken_sequence (l ⨟ q) rest = grind (arith, taken_selection l (semicolon ∷ spell_sequence q rest), taken_sequence q rest)

  taken_selection : (l : Selection) (rest : List Terminal) → Takes (spell_selection l rest) (semaphores_in_selection l) (counters_in_selection l) rest
  taken_selection (only e) rest = taken_element e rest
  taken_selection (e or l) rest = grind (arith, taken_element e (comma ∷ spell_selection l rest), taken_selection l rest)

  taken_element : (e : Element) (rest : List Terminal) → Takes (spell_element e rest) (semaphores_in_element e) (counters_in_element e) rest
  taken_element (name n) rest = grind arith
  taken_element (round q) rest = grind (arith, taken_sequence q (round_close ∷ rest))
  taken_element (brace q) rest = grind (arith, taken_sequence q (brace_close ∷ rest))
