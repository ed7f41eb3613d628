-- Lines of words; each ends with byte 10.
use Rattle.std.specs.Prelude.{ℕ, ◌+◌, List, [], ◌∷◌, ◌++◌, length, codes, decimal}
use Rattle.std.specs.List.{sum_by}
use Rattle.paths.specs.Doors.{Door, plain, counted}
use Rattle.doors.specs.Told.{door_of}
use Rattle.print.specs.declared.words.Word.{Word}
use Rattle.print.specs.declared.words.Word.TheVariants.{Text, Number, Door as Passed}

-- words with a space between them, and byte 10
abbrev pub line_of : List ℕ → List (List ℕ) → List ℕ
line_of w [] = w ++ 10 ∷ []
line_of w (x ∷ xs) = w ++ (32 ∷ line_of x xs)

-- a door: its semaphore, and behind '/' its counter if it has one
abbrev pub door_bytes : Door → List ℕ
door_bytes (plain s) = decimal s
door_bytes (counted s c) = decimal s ++ codes "/" ++ decimal c

-- the bytes of a word
abbrev pub word_bytes : Word → List ℕ
word_bytes (Text b) = b.now
word_bytes (Number n) = decimal n
word_bytes (Passed d) = door_bytes (door_of d)

-- how many bytes a word has at most
abbrev pub most : Word → ℕ
most (Text b) = length b.now
most (Number n) = 20
most (Passed d) = 7

-- how many bytes a line of them has at most
abbrev pub line_most : Word → List Word → ℕ
line_most w ws = sum_by (λ x. most x + 1) (w ∷ ws)
