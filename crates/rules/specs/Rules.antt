-- The rules that every beginning of a row of terminals keeps, and the limits of a derivation.
use Rattle.std.specs.Prelude.{◌≡◌, ℕ, suc, ◌+◌, ◌-◌, ◌<◌, ◌≤◌, max, cond, List, [], ◌∷◌, ◌++◌, length}
use Rattle.paths.specs.Grammar.{Terminal, semicolon, comma, round_open, round_close, brace_open, brace_close, path, end, word}
use Rattle.paths.specs.Grammar.{Sequence, Selection, Element, Text, last, ◌⨟◌, only, ◌or◌, name, round, brace, one, more, yield_text, Begins}
use Rattle.paths.specs.Words.{among, Distinct}
use Rattle.paths.specs.Texts.{names_of_text, EachProper}
use Rattle.paths.specs.Sizes.{how_many, names, brackets, paths}

-- ---- what a row holds
-- a bracket that opens; a round one counts r, a brace b
abbrev pub opening : ℕ → ℕ → Terminal → ℕ
opening r b semicolon = 0
opening r b comma = 0
opening r b round_open = r
opening r b round_close = 0
opening r b brace_open = b
opening r b brace_close = 0
opening r b path = 0
opening r b end = 0
opening r b (word n) = 0

-- a bracket that closes; a round one counts r, a brace b
abbrev pub closing : ℕ → ℕ → Terminal → ℕ
closing r b semicolon = 0
closing r b comma = 0
closing r b round_open = 0
closing r b round_close = r
closing r b brace_open = 0
closing r b brace_close = b
closing r b path = 0
closing r b end = 0
closing r b (word n) = 0

-- the brackets that opened in a row
abbrev pub opened : ℕ → ℕ → List Terminal → ℕ
opened r b row = how_many (opening r b) row

-- the brackets that closed in a row
abbrev pub closed : ℕ → ℕ → List Terminal → ℕ
closed r b row = how_many (closing r b) row

-- a terminal's name, if it is one, and then the names ns
abbrev pub and_names : Terminal → List ℕ → List ℕ
and_names semicolon ns = ns
and_names comma ns = ns
and_names round_open ns = ns
and_names round_close ns = ns
and_names brace_open ns = ns
and_names brace_close ns = ns
and_names path ns = ns
and_names end ns = ns
and_names (word n) ns = n ∷ ns

-- the names of a row, repeats counted
abbrev pub names_of : List Terminal → List ℕ
names_of [] = []
names_of (t ∷ row) = and_names t (names_of row)

-- the names ns of the path so far, and then this terminal
abbrev pub own_with : Terminal → List ℕ → List ℕ
own_with semicolon ns = ns
own_with comma ns = ns
own_with round_open ns = ns
own_with round_close ns = ns
own_with brace_open ns = ns
own_with brace_close ns = ns
own_with path ns = []
own_with end ns = ns
own_with (word n) ns = ns ++ (n ∷ [])

-- the names of the path that a row ends in; ns are those of the path before the row
abbrev pub own_from : List ℕ → List Terminal → List ℕ
own_from ns [] = ns
own_from ns (t ∷ row) = own_from (own_with t ns) row

-- how many different names there are, those seen not counted
abbrev pub different_from : List ℕ → List ℕ → ℕ
different_from seen [] = 0
different_from seen (n ∷ ns) = cond (among n seen) (different_from seen ns) (suc (different_from (n ∷ seen) ns))

-- how many different names there are
abbrev pub different : List ℕ → ℕ
different ns = different_from [] ns

-- ---- the rules, and which rows break them
pub data Rule : Type 0 where
  begins_sentence : Rule
  open_brackets open_braces : Rule
  name_once : Rule
  all_paths all_names all_occurrences all_brackets : Rule

-- the number of the fault of breaking a rule
abbrev pub number : Rule → ℕ
number begins_sentence = 4
number open_brackets = 6
number open_braces = 7
number name_once = 8
number all_paths = 9
number all_names = 10
number all_occurrences = 11
number all_brackets = 12

-- the row begins no sentence; more than 16 brackets or more than one brace are open behind it; its last path has a name twice;
-- it has more than 32 paths, 64 different names, 256 names, 256 brackets that open
abbrev pub Breaks : Rule → List Terminal → Type 0
Breaks begins_sentence row = ¬ Begins row
Breaks open_brackets row = 16 < opened 1 1 row - closed 1 1 row
Breaks open_braces row = 1 < opened 0 1 row - closed 0 1 row
Breaks name_once row = ¬ Distinct (own_from [] row)
Breaks all_paths row = 32 < how_many paths row
Breaks all_names row = 64 < different (names_of row)
Breaks all_occurrences row = 256 < length (names_of row)
Breaks all_brackets row = 256 < opened 1 1 row

-- no beginning of the row breaks a rule
abbrev pub Kept : List Terminal → Type 0
Kept row = (u v : List Terminal) (r : Rule) → row ≡ u ++ v → ¬ Breaks r u

-- the row breaks the rule r, and none of a smaller number
pub record Told (r : Rule) (row : List Terminal) : Type 0 where
  pub broken : Breaks r row
  pub smallest : (s : Rule) → number s < number r → ¬ Breaks s row

-- ---- the limits of a derivation
-- how deep brackets stand inside each other, round ones and braces together
abbrev mutual
  pub depth_of_sequence : Sequence → ℕ
  depth_of_sequence (last l) = depth_of_selection l
  depth_of_sequence (l ⨟ s) = max (depth_of_selection l) (depth_of_sequence s)

  pub depth_of_selection : Selection → ℕ
  depth_of_selection (only e) = depth_of_element e
  depth_of_selection (e or l) = max (depth_of_element e) (depth_of_selection l)

  pub depth_of_element : Element → ℕ
  depth_of_element (name n) = 0
  depth_of_element (round s) = suc (depth_of_sequence s)
  depth_of_element (brace s) = suc (depth_of_sequence s)

-- how many pairs of brackets there are, round ones and braces together
abbrev mutual
  pub brackets_of_sequence : Sequence → ℕ
  brackets_of_sequence (last l) = brackets_of_selection l
  brackets_of_sequence (l ⨟ s) = brackets_of_selection l + brackets_of_sequence s

  pub brackets_of_selection : Selection → ℕ
  brackets_of_selection (only e) = brackets_of_element e
  brackets_of_selection (e or l) = brackets_of_element e + brackets_of_selection l

  pub brackets_of_element : Element → ℕ
  brackets_of_element (name n) = 0
  brackets_of_element (round s) = suc (brackets_of_sequence s)
  brackets_of_element (brace s) = suc (brackets_of_sequence s)

-- the deepest of its paths
abbrev pub depth_of_text : Text → ℕ
depth_of_text (one s) = depth_of_sequence s
depth_of_text (more s t) = max (depth_of_sequence s) (depth_of_text t)

-- the pairs of brackets of all its paths
abbrev pub brackets_of_text : Text → ℕ
brackets_of_text (one s) = brackets_of_sequence s
brackets_of_text (more s t) = brackets_of_sequence s + brackets_of_text t

-- how many paths a text has
abbrev pub paths_of_text : Text → ℕ
paths_of_text (one s) = 1
paths_of_text (more s t) = suc (paths_of_text t)

-- a derivation within the limits
pub record Within (t : Text) : Type 0 where
  -- no path has a name twice, or a brace inside a brace
  pub proper : EachProper t
  pub depth : depth_of_text t ≤ 16
  pub paths : paths_of_text t ≤ 32
  pub names : different (names_of_text t) ≤ 64
  pub occurrences : length (names_of_text t) ≤ 256
  pub brackets : brackets_of_text t ≤ 256

-- a derivation within the limits has at most 256 names, 256 brackets that open and 32 paths among its terminals
abbrev pub LimitsCount : Type 0
LimitsCount = (t : Text) → Within t → (how_many names (yield_text t) ≤ 256) × (how_many brackets (yield_text t) ≤ 256) × (how_many paths (yield_text t) ≤ 32)
