-- The tokens of a text as rows, and what the steps of the translation do.
use Rattle.std.specs.Prelude.{◌≡◌, ℕ, ◌+◌, ◌<◌, ◌≤◌, min, List, [], ◌∷◌, ◌++◌, map, length, take, drop, Some, None, Option}
use Rattle.table.specs.declared.Table.{Table}
use Rattle.table.specs.Contents.{contents, all_places}
use Rattle.paths.specs.Doors.{Occurrence as TheOccurrence}
use Rattle.paths.specs.Grammar.{Terminal, semicolon, comma, round_open, round_close, brace_open, brace_close, path as path_word, end, word}
use Rattle.tokens.specs.declared.Kind.{Kind}
use Rattle.tokens.specs.declared.Kind.TheVariants.{Semicolon, Comma, RoundOpen, RoundClose, BraceOpen, BraceClose, Path, End, Name as NameKind}
use Rattle.tokens.specs.declared.Token.{Token}
use Rattle.tokens.specs.Tokens.{spelling, number_of}
use Rattle.rules.specs.Names.{terminal_of}
use Rattle.doors.specs.declared.Occurrence.{Occurrence}
use Rattle.doors.specs.Told.{all_told}
use Rattle.translation.specs.declared.steps.Place.{Place}
use Rattle.translation.specs.declared.text.Source.{Source}

-- the kinds of tokens
abbrev pub kinds : List Token → List Kind
kinds ts = map (λ (x : Token). x.kind) ts

-- the kinds from a token on
abbrev pub kinds_from : List Token → ℕ → List Kind
kinds_from ts i = drop i (kinds ts)

-- a token as a terminal; a name goes by its number among the first occurrences
abbrev pub terminal : Source → Token → Terminal
terminal src t = terminal_of t.kind (number_of src.names.text.now src.names.records.now (spelling src.names.text.now t))

-- the tokens as terminals
abbrev pub row : Source → List Terminal
row src = map (terminal src) src.tokens.now

-- the terminals from a token on
abbrev pub ahead : Source → ℕ → List Terminal
ahead src i = drop i (row src)

-- the kind of a token that is this terminal
abbrev pub kind_of : Terminal → Kind
kind_of semicolon = Semicolon
kind_of comma = Comma
kind_of round_open = RoundOpen
kind_of round_close = RoundClose
kind_of brace_open = BraceOpen
kind_of brace_close = BraceClose
kind_of path_word = Path
kind_of end = End
kind_of (word n) = NameKind

-- the first kind of a row, if there is one
abbrev pub front : List Kind → Option Kind
front [] = None
front (k ∷ ks) = Some k

-- r is the place behind the token at p, with the same numbers
pub record Past (tokens : List Token) (p r : Place) : Type 0 where
  pub forward : p.token ≤ r.token
  pub moved : p.token < length tokens → r.token ≡ p.token + 1
  pub semaphore : r.semaphore ≡ p.semaphore
  pub counter : r.counter ≡ p.counter

-- the occurrences os were added at the end, as far as the places reach
abbrev pub Added : Table Occurrence → List TheOccurrence → Table Occurrence → Type 0
Added before os after = all_told (contents after) ≡ take (length (all_places before)) (all_told (contents before) ++ os)

-- the next number; 256 says that all are taken
abbrev pub later : ℕ → ℕ
later n = min (n + 1) 256
