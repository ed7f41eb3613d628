-- How many occurrences, semaphores and counters a text takes, counted on its terminals.
use Rattle.std.specs.Prelude.{◌≡◌, ℕ, ◌+◌, ◌≤◌, ◌<◌, length}
use mathlib.Core.List.{List, [], ◌∷◌, Memᴰ}
use Rattle.paths.specs.Grammar.{Terminal, semicolon, comma, round_open, round_close, brace_open, brace_close, path, end, word, Text, yield_text}
use Rattle.paths.specs.Doors.{Door, plain, counted, Occurrence}
use Rattle.paths.specs.Texts.{text_doors}

-- the sum of f over a row of terminals
abbrev pub how_many : (Terminal → ℕ) → List Terminal → ℕ
how_many f [] = 0
how_many f (x ∷ l) = f x + how_many f l

-- counts the names
abbrev pub names : Terminal → ℕ
names semicolon = 0
names comma = 0
names round_open = 0
names round_close = 0
names brace_open = 0
names brace_close = 0
names path = 0
names end = 0
names (word a) = 1

-- counts the paths
abbrev pub paths : Terminal → ℕ
paths semicolon = 0
paths comma = 0
paths round_open = 0
paths round_close = 0
paths brace_open = 0
paths brace_close = 0
paths path = 1
paths end = 0
paths (word a) = 0

-- counts the pairs of brackets, round brackets and braces together
abbrev pub brackets : Terminal → ℕ
brackets semicolon = 0
brackets comma = 0
brackets round_open = 1
brackets round_close = 0
brackets brace_open = 1
brackets brace_close = 0
brackets path = 0
brackets end = 0
brackets (word a) = 0

-- counts the semaphores: one is taken at every 'path' and every ';'
abbrev pub semaphores : Terminal → ℕ
semaphores semicolon = 1
semaphores comma = 0
semaphores round_open = 0
semaphores round_close = 0
semaphores brace_open = 0
semaphores brace_close = 0
semaphores path = 1
semaphores end = 0
semaphores (word a) = 0

-- counts the counters: one is taken at every '{'
abbrev pub counters : Terminal → ℕ
counters semicolon = 0
counters comma = 0
counters round_open = 0
counters round_close = 0
counters brace_open = 1
counters brace_close = 0
counters path = 0
counters end = 0
counters (word a) = 0

-- the door's semaphore is below s, and its counter below c
abbrev pub Below : ℕ → ℕ → Door → Type 0
Below s c (plain i) = i < s
Below s c (counted i k) = (i < s) × (k < c)

-- How much a text takes. It has as many occurrences as names; its paths, semaphores and counters are numbered below how many there are of
-- each; and there are no more semaphores than names, and no more counters than pairs of brackets.
pub record Sized (t : Text) : Type 0 where
  pub occurrences : length (text_doors t 0 0 0) ≡ how_many names (yield_text t)
  pub path_numbers : (o : Occurrence) → Memᴰ o (text_doors t 0 0 0) → o.path < how_many paths (yield_text t)
  pub numbers : (o : Occurrence) → Memᴰ o (text_doors t 0 0 0) →
      Below (how_many semaphores (yield_text t)) (how_many counters (yield_text t)) o.left × Below (how_many semaphores (yield_text t)) (how_many counters (yield_text t)) o.right
  pub few_semaphores : how_many semaphores (yield_text t) ≤ how_many names (yield_text t)
  pub few_counters : how_many counters (yield_text t) ≤ how_many brackets (yield_text t)

abbrev pub DoorsAreFew : Type 0
DoorsAreFew = (t : Text) → Sized t
