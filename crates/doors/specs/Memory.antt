-- What the memory of the doors means: the occurrences of each operation, and how the semaphores and counters stand.
use Rattle.std.specs.Prelude.{◌≡◌, ℕ, ◌-◌, ◌^◌, ◌<◌, ◌≤◌, Bool, true, cond, not, List, [], Some, None, filter, Option, ◌==◌, nat_eq, nat_lt, slice_index, slice_index_or}
use Rattle.std.specs.List.{fold}
use Rattle.std.specs.Borrow.{MutBor}
use mathlib.Core.List.{Memᴰ}
use Rattle.paths.specs.Grammar.{Text, yield_text}
use Rattle.paths.specs.Words.{Event, operation, History}
use Rattle.paths.specs.Doors.{Occurrence as TheOccurrence, Standing, passed}
use Rattle.paths.specs.Texts.{text_doors, names_of_text, EachProper, standing}
use Rattle.paths.specs.Sizes.{how_many, paths}
use Rattle.doors.specs.declared.Occurrence.{Occurrence}
use Rattle.doors.specs.declared.Levels.{Levels}
use Rattle.doors.specs.declared.Rows.{Rows}
use Rattle.doors.specs.declared.Doors.{Doors}
use Rattle.doors.specs.Told.{told, all_told}

-- what number j stands at; 0 behind the last
abbrev pub level : List ℕ → ℕ → ℕ
level xs j = slice_index xs j

-- what the semaphores and counters in memory stand at
abbrev pub standing_of : Levels → Standing
standing_of l = record { semaphore = level l.semaphores; counter = level l.counters }

-- all semaphores and counters at 0
abbrev pub nothing_open : Standing
nothing_open = record { semaphore = λ j. 0; counter = λ j. 0 }

-- semaphore s at 1, all else as it was
abbrev pub with_open : ℕ → Standing → Standing
with_open s σ = record { semaphore = λ j. cond (j == s) 1 (σ.semaphore j); counter = σ.counter }

-- whether an occurrence of a path is the path's first, if the one before it is of the path given, or there is none
abbrev pub begins : Option ℕ → ℕ → Bool
begins None path = true
begins (Some other) path = not (path == other)

-- how many places operation a has
abbrev pub room : ℕ → ℕ
room a = cond (nat_lt a 64) 32 0

-- the occurrences of operation a in memory, in order; behind the last row there are none
abbrev pub row : Rows → ℕ → List Occurrence
row r a = (slice_index_or r.by_operation a (record { items = [] })).items

-- the occurrences of operation a, in order
abbrev pub of_operation : ℕ → List TheOccurrence → List TheOccurrence
of_operation a os = filter (λ (o : TheOccurrence). nat_eq a o.operation) os

-- the memory has, for every operation, exactly its occurrences among os, and its semaphores and counters stand as σ says
pub record Holds (d : Doors) (os : List TheOccurrence) (σ : Standing) : Type 0 where
  pub rows : (a : ℕ) → all_told (row d.rows a) ≡ of_operation a os
  pub stands : standing_of d.levels ≡ σ

-- no semaphore and no counter stands higher than n
abbrev pub AtMost : ℕ → Standing → Type 0
AtMost n σ = (j : ℕ) → (σ.semaphore j ≤ n) × (σ.counter j ≤ n)

-- so low that passing through the doors of an operation overflows no number
abbrev pub Low : Standing → Type 0
Low σ = AtMost 1000001 σ

-- an occurrence in memory is passed by the event e
abbrev pub through : Event → Standing → Occurrence → Standing
through e σ o = passed e (told o) σ

-- each step passes its occurrence by the event e
abbrev pub PassesBy : Event → (Occurrence → MutBor Levels → MutBor Levels → Type 0) → Type 0
PassesBy e Step = (o : Occurrence) (before after : MutBor Levels) → Step o before after → AtMost (2 ^ 32 - 2) (standing_of before.now) →
    standing_of after.now ≡ through e (standing_of before.now) o

-- the doors of the operation of e were passed, one occurrence after another
pub record Passed (e : Event) (d d' : Doors) : Type 0 where
  pub rows : d'.rows ≡ d.rows
  pub levels : Low (standing_of d.levels) → standing_of d'.levels ≡ fold (through e) (standing_of d.levels) (row d.rows (operation e))

-- the memory tells how the doors of the text t stand after the history h
abbrev pub Tells : Doors → Text → History → Type 0
Tells d t h = Holds d (text_doors t 0 0 0) (standing t h)

-- a text for which the memory has room: no name twice in a path, no brace inside a brace, at most 32 paths, operations below 64
pub record Limited (t : Text) : Type 0 where
  pub proper : EachProper t
  pub few_paths : how_many paths (yield_text t) ≤ 32
  pub few_operations : (a : ℕ) → Memᴰ a (names_of_text t) → a < 64
