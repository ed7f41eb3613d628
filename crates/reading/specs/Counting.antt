-- What counting one terminal more does, and which limit it passes.
use Rattle.std.specs.Prelude.{◌≡◌, ℕ, ◌+◌, ◌<◌, ◌≤◌, Bool, true, false, List, length, replicate, Ok, Err, Result, slice_index_or}
use Rattle.table.specs.declared.Table.{Table}
use Rattle.table.specs.Contents.{contents, RestKept}
use Rattle.paths.specs.Grammar.{Terminal, semicolon, comma, round_open, round_close, brace_open, brace_close, path, end, word}
use Rattle.paths.specs.Words.{among}
use Rattle.paths.specs.Sizes
use Rattle.tokens.specs.declared.Token.{Token}
use Rattle.tokens.specs.declared.Name.{Name as First}
use Rattle.tokens.specs.Tokens.{spelling, number_of}
use Rattle.rules.specs.Names.{with_first, terminal_of}
use Rattle.rules.specs.Rules.{opening, closing, own_with}
use Rattle.reading.specs.declared.counting.Bracket.{Bracket}
use Rattle.reading.specs.declared.counting.Bracket.TheVariants.{Round, Brace}
use Rattle.reading.specs.declared.counting.Counts.{Counts}
use Rattle.reading.specs.declared.ReadFault.{ReadFault}
use Rattle.reading.specs.declared.ReadFault.TheVariants.{Grammar, Rule, TooFewPlaces}
use Rattle.reading.specs.declared.Limit.{Limit}
use Rattle.reading.specs.declared.Limit.TheVariants.{OpenBrackets, OpenBraces, NameOnce, Paths, Names, Occurrences, Brackets}

-- ---- brackets
-- how many braces a bracket is
abbrev pub braces_of : Bracket → ℕ
braces_of Round = 0
braces_of Brace = 1

-- the terminal that opens a bracket
abbrev pub opener : Bracket → Terminal
opener Round = round_open
opener Brace = brace_open

-- the terminal that closes a bracket
abbrev pub closer : Bracket → Terminal
closer Round = round_close
closer Brace = brace_close

-- ---- the names of a path
-- whether the path has the name of number n already
abbrev pub marked : Counts → ℕ → Bool
marked c n = slice_index_or c.own n false

-- the marks say which names the path has
pub record Own (own : List Bool) (ns : List ℕ) : Type 0 where
  pub wide : length own ≡ 64
  pub marks : (n : ℕ) → n < 64 → slice_index_or own n false ≡ among n ns

-- ---- the limits
-- no limit keeps the terminal from standing here
abbrev pub Allowed : Terminal → Counts → Type 0
Allowed semicolon c = Unit {0}
Allowed comma c = Unit {0}
Allowed round_open c = (c.depth < 16) × (c.brackets < 256)
Allowed round_close c = Unit {0}
Allowed brace_open c = (c.depth < 16) × (c.braces < 1) × (c.brackets < 256)
Allowed brace_close c = Unit {0}
Allowed path c = c.paths < 32
Allowed end c = Unit {0}
Allowed (word n) c = (marked c n ≡ false) × (n < 64) × (c.occurrences < 256)

-- the terminal passes this limit, and none of a smaller number
abbrev pub Passes : Terminal → Counts → Limit → Type 0
Passes y c OpenBrackets = (opening 1 1 y ≡ 1) × (16 ≤ c.depth)
Passes y c OpenBraces = (y ≡ brace_open) × (c.depth < 16) × (1 ≤ c.braces)
Passes y c NameOnce = (n : ℕ) × (y ≡ word n) × (marked c n ≡ true)
Passes y c Paths = (y ≡ path) × (32 ≤ c.paths)
Passes y c Names = (n : ℕ) × (y ≡ word n) × (marked c n ≡ false) × (64 ≤ n)
Passes y c Occurrences = (n : ℕ) × (y ≡ word n) × (marked c n ≡ false) × (n < 64) × (256 ≤ c.occurrences)
Passes y c Brackets = (opening 1 1 y ≡ 1) × (c.depth < 16) × (c.braces + opening 0 1 y ≤ 1) × (256 ≤ c.brackets)

-- ---- counting
-- nothing is counted, and the path has no name
pub record NoneCounted (c : Counts) : Type 0 where
  pub paths : c.paths ≡ 0
  pub occurrences : c.occurrences ≡ 0
  pub brackets : c.brackets ≡ 0
  pub depth : c.depth ≡ 0
  pub braces : c.braces ≡ 0
  pub own : c.own ≡ replicate 64 false

-- a bracket that the terminal closes is open
abbrev pub Closable : Terminal → Counts → Type 0
Closable y c = (closing 1 1 y ≤ c.depth) × (closing 0 1 y ≤ c.braces)

-- one terminal more is counted
pub record CountedOn (y : Terminal) (c c' : Counts) : Type 0 where
  pub paths : c'.paths ≡ c.paths + Sizes.paths y
  pub occurrences : c'.occurrences ≡ c.occurrences + Sizes.names y
  pub brackets : c'.brackets ≡ c.brackets + opening 1 1 y
  pub depth : c'.depth + closing 1 1 y ≡ c.depth + opening 1 1 y
  pub braces : c'.braces + closing 0 1 y ≡ c.braces + opening 0 1 y
  pub own : (ns : List ℕ) → Own c.own ns → Own c'.own (own_with y ns)

-- the terminal is counted, or passes a limit
abbrev pub CountedOrTold : Terminal → Counts → Counts → Result (Unit {0}) Limit → Type 0
CountedOrTold y c c' (Ok u) = Allowed y c × CountedOn y c c'
CountedOrTold y c c' (Err l) = (c' ≡ c) × Passes y c l

-- a token as a terminal, by the names known so far
abbrev pub known_as : List ℕ → List First → Token → Terminal
known_as text known t = terminal_of t.kind (number_of text known (spelling text t))

-- the token is counted and its name is known, or it passes a limit
abbrev pub CountedToken : List ℕ → Token → Counts → Table First → Counts → Table First → Result (Unit {0}) Limit → Type 0
CountedToken text t c ns c' ns' (Ok u) =
    Allowed (known_as text (contents ns) t) c × CountedOn (known_as text (contents ns) t) c c' × (contents ns' ≡ with_first text (contents ns) t) × RestKept ns ns'
CountedToken text t c ns c' ns' (Err l) = (c' ≡ c) × Passes (known_as text (contents ns) t) c l × (ns' ≡ ns)

-- the token is counted and its name is known, or its fault is told
abbrev pub CountedOrRefused : List ℕ → Token → Counts → Table First → Counts → Table First → Result (Unit {0}) ReadFault → Type 0
CountedOrRefused text t c ns c' ns' (Ok u) = CountedToken text t c ns c' ns' (Ok u)
CountedOrRefused text t c ns c' ns' (Err (Rule l p)) = CountedToken text t c ns c' ns' (Err l) × (p ≡ t.place)
CountedOrRefused text t c ns c' ns' (Err (Grammar g)) = ⊥
CountedOrRefused text t c ns c' ns' (Err TooFewPlaces) = ⊥
