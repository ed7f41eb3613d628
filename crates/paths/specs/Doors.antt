-- The translation of a path into doors, and what going in and leaving do to semaphores and counters.
use Rattle.std.specs.Prelude.{◌≡◌, ◌⊎◌, ◌↔◌, cond, ℕ, ◌+◌, ◌-◌, ◌≤◌, ◌<◌, eqb}
use mathlib.Core.List.{List, [], ◌∷◌, ◌++◌, Memᴰ}
use Rattle.paths.specs.Grammar.{Sequence, Selection, Element, last, ◌⨟◌, only, ◌or◌, name, round, brace}
use Rattle.paths.specs.Words.{Event, ⊕, ⊖, operation, History, Fits, Proper, names_of_sequence}

-- a semaphore without a counter, or a semaphore with a counter, each by its number
pub data Door : Type 0 where
  plain : ℕ → Door
  counted : ℕ → ℕ → Door

abbrev pub semaphore_of : Door → ℕ
semaphore_of (plain s) = s
semaphore_of (counted s c) = s

-- the same semaphore, now with counter c
abbrev pub with_counter : ℕ → Door → Door
with_counter c (plain s) = counted s c
with_counter c (counted s d) = counted s c

-- a name where it stands in the text: the number of its path, the operation, and the two doors
pub record Occurrence : Type 0 where
  pub path : ℕ
  pub operation : ℕ
  pub left : Door
  pub right : Door

-- how many semaphores a tree takes: one at every ';'
abbrev mutual
  pub semaphores_in_sequence : Sequence → ℕ
  semaphores_in_sequence (last l) = semaphores_in_selection l
  semaphores_in_sequence (l ⨟ s) = semaphores_in_selection l + 1 + semaphores_in_sequence s

  pub semaphores_in_selection : Selection → ℕ
  semaphores_in_selection (only e) = semaphores_in_element e
  semaphores_in_selection (e or l) = semaphores_in_element e + semaphores_in_selection l

  pub semaphores_in_element : Element → ℕ
  semaphores_in_element (name a) = 0
  semaphores_in_element (round s) = semaphores_in_sequence s
  semaphores_in_element (brace s) = semaphores_in_sequence s

-- how many counters a tree takes: one at every '{'
abbrev mutual
  pub counters_in_sequence : Sequence → ℕ
  counters_in_sequence (last l) = counters_in_selection l
  counters_in_sequence (l ⨟ s) = counters_in_selection l + counters_in_sequence s

  pub counters_in_selection : Selection → ℕ
  counters_in_selection (only e) = counters_in_element e
  counters_in_selection (e or l) = counters_in_element e + counters_in_selection l

  pub counters_in_element : Element → ℕ
  counters_in_element (name a) = 0
  counters_in_element (round s) = counters_in_sequence s
  counters_in_element (brace s) = 1 + counters_in_sequence s

-- The occurrences of a tree of path n between a left and a right door. Its semaphores are numbered from s on and its counters from c on, in
-- text order.
abbrev mutual
  -- the semaphore m of a ';' is the right door of what stands before it and the left door of what follows
  pub sequence_doors : Sequence → ℕ → Door → Door → ℕ → ℕ → List Occurrence
  sequence_doors (last l) n left right s c = selection_doors l n left right s c
  sequence_doors (l ⨟ q) n left right s c =
      let m = s + semaphores_in_selection l in
      selection_doors l n left (plain m) s c ++ sequence_doors q n (plain m) right (m + 1) (c + counters_in_selection l)

  -- each element has the two doors of the selection
  pub selection_doors : Selection → ℕ → Door → Door → ℕ → ℕ → List Occurrence
  selection_doors (only e) n left right s c = element_doors e n left right s c
  selection_doors (e or l) n left right s c =
      element_doors e n left right s c ++ selection_doors l n left right (s + semaphores_in_element e) (c + counters_in_element e)

  -- a name keeps its doors, round brackets pass them on, braces pass them on with their counter
  pub element_doors : Element → ℕ → Door → Door → ℕ → ℕ → List Occurrence
  element_doors (name a) n left right s c = record { path = n; operation = a; left = left; right = right } ∷ []
  element_doors (round q) n left right s c = sequence_doors q n left right s c
  element_doors (brace q) n left right s c = sequence_doors q n (with_counter c left) (with_counter c right) s (c + 1)

-- path n: its own semaphore s is the left and the right door of its sequence; its counters start at c
abbrev pub path_doors : Sequence → ℕ → ℕ → ℕ → List Occurrence
path_doors p n s c = sequence_doors p n (plain s) (plain s) (s + 1) c

-- what each semaphore and each counter stands at
pub record Standing : Type 0 where
  pub semaphore : ℕ → ℕ
  pub counter : ℕ → ℕ

-- number k one higher, the others as they were
abbrev pub raised : ℕ → (ℕ → ℕ) → ℕ → ℕ
raised k f j = cond (eqb j k) (f j + 1) (f j)

-- number k one lower, the others as they were
abbrev pub lowered : ℕ → (ℕ → ℕ) → ℕ → ℕ
lowered k f j = cond (eqb j k) (f j - 1) (f j)

-- may one go in by this left door?
abbrev pub Open : Door → Standing → Type 0
Open (plain s) σ = 1 ≤ σ.semaphore s
Open (counted s c) σ = (1 ≤ σ.counter c) ⊎ (1 ≤ σ.semaphore s)

-- going in by a left door lowers its semaphore; with a counter only the first one in does, and each raises the counter
abbrev pub gone_in : Door → Standing → Standing
gone_in (plain s) σ = record { semaphore = lowered s σ.semaphore; counter = σ.counter }
gone_in (counted s c) σ = record
    { semaphore = cond (eqb (σ.counter c) 0) (lowered s σ.semaphore) σ.semaphore; counter = raised c σ.counter }

-- leaving by a right door raises its semaphore; with a counter each lowers the counter, and only the last one out raises the semaphore
abbrev pub left_by : Door → Standing → Standing
left_by (plain s) σ = record { semaphore = raised s σ.semaphore; counter = σ.counter }
left_by (counted s c) σ = record
    { semaphore = cond (eqb (σ.counter c - 1) 0) (raised s σ.semaphore) σ.semaphore; counter = lowered c σ.counter }

-- a letting-in goes in by the left door, an end leaves by the right one
abbrev pub passed : Event → Occurrence → Standing → Standing
passed (⊕ a) o σ = gone_in o.left σ
passed (⊖ a) o σ = left_by o.right σ

-- an event passes through the doors of all occurrences of its operation
abbrev pub next : List Occurrence → Event → Standing → Standing
next [] e σ = σ
next (o ∷ os) e σ = next os e (cond (eqb (operation e) o.operation) (passed e o σ) σ)

-- the standing after a history that began at σ
abbrev pub after : List Occurrence → Standing → History → Standing
after os σ [] = σ
after os σ (e ∷ h) = after os (next os e σ) h

-- the path's semaphore s opens at 1, all else at 0
abbrev pub opening : ℕ → Standing
opening s = record { semaphore = λ j. cond (eqb j s) 1 0; counter = λ j. 0 }

-- all left doors of operation a are open
abbrev pub OpenTo : ℕ → List Occurrence → Standing → Type 0
OpenTo a os σ = (o : Occurrence) → Memᴰ o os → o.operation ≡ a → Open o.left σ

-- how often a was let in
abbrev pub begun : ℕ → History → ℕ
begun a [] = 0
begun a (⊕ b ∷ h) = cond (eqb a b) (1 + begun a h) (begun a h)
begun a (⊖ b ∷ h) = begun a h

-- how often a ended
abbrev pub ended : ℕ → History → ℕ
ended a [] = 0
ended a (⊕ b ∷ h) = ended a h
ended a (⊖ b ∷ h) = cond (eqb a b) (1 + ended a h) (ended a h)

-- The doors of a path tell what fits it. After a history h that fits, for an operation a of the path: its left door is open exactly when
-- h with its letting-in fits; its end fits exactly when it runs; and its doors alone are passed by its letting-in and by its end.
pub record DoorsTell (p : Sequence) (n s c : ℕ) (h : History) (a : ℕ) : Type 0 where
  pub opens : OpenTo a (path_doors p n s c) (after (path_doors p n s c) (opening s) h) ↔ Fits p (h ++ (⊕ a ∷ []))
  pub ends : (ended a h < begun a h) ↔ Fits p (h ++ (⊖ a ∷ []))
  pub goes : (o : Occurrence) → Memᴰ o (path_doors p n s c) → o.operation ≡ a →
      after (path_doors p n s c) (opening s) (h ++ (⊕ a ∷ [])) ≡ gone_in o.left (after (path_doors p n s c) (opening s) h)
  pub leaves : (o : Occurrence) → Memᴰ o (path_doors p n s c) → o.operation ≡ a →
      after (path_doors p n s c) (opening s) (h ++ (⊖ a ∷ [])) ≡ left_by o.right (after (path_doors p n s c) (opening s) h)

-- so it is for every proper path, whatever numbers its doors start from
abbrev pub DoorsAreRight : Type 0
DoorsAreRight =
    (p : Sequence) → Proper p → (n s c : ℕ) (h : History) → Fits p h → (a : ℕ) → Memᴰ a (names_of_sequence p) → DoorsTell p n s c h a

-- the beginning of what fits a path, fits it
abbrev pub BeginningsFit : Type 0
BeginningsFit = (p : Sequence) (h k : History) → Fits p (h ++ k) → Fits p h
