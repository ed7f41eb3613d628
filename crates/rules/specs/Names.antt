-- Names, numbered from 0 by first occurrence, and the tokens of a text as terminals of the grammar.
use Rattle.std.specs.Prelude.{◌≡◌, ℕ, Bool, true, false, cond, ◌&&◌, ◌↔◌, List, [], ◌∷◌, ◌++◌, map, length, ◌==◌}
use Rattle.paths.specs.Grammar.{Terminal, semicolon, comma, round_open, round_close, brace_open, brace_close, path, end, word}
use Rattle.tokens.specs.declared.Kind.{Kind}
use Rattle.tokens.specs.declared.Kind.TheVariants.{Semicolon, Comma, RoundOpen, RoundClose, BraceOpen, BraceClose, Path, End, Name}
use Rattle.tokens.specs.declared.Token.{Token}
use Rattle.tokens.specs.declared.Name.{Name as First}
use Rattle.tokens.specs.Tokens.{spelling, number_of, tokens}

-- whether a token of this kind is a name
abbrev pub is_name : Kind → Bool
is_name Semicolon = false
is_name Comma = false
is_name RoundOpen = false
is_name RoundClose = false
is_name BraceOpen = false
is_name BraceClose = false
is_name Path = false
is_name End = false
is_name Name = true

-- the place and the length of a name's token
abbrev pub first_of : Token → First
first_of t = record { place = t.place; len = t.len }

-- the first occurrences known, and this token if it is a name that none of them spells
abbrev pub with_first : List ℕ → List First → Token → List First
with_first text known t =
    cond (is_name t.kind && number_of text known (spelling text t) == length known) (known ++ (first_of t ∷ [])) known

-- the first occurrences of names, those known and then those among the tokens
abbrev pub firsts_from : List ℕ → List First → List Token → List First
firsts_from text known [] = known
firsts_from text known (t ∷ ts) = firsts_from text (with_first text known t) ts

-- the first occurrences of names among the tokens, in order
abbrev pub firsts : List ℕ → List Token → List First
firsts text ts = firsts_from text [] ts

-- the terminal of a kind; n is the number of a name
abbrev pub terminal_of : Kind → ℕ → Terminal
terminal_of Semicolon n = semicolon
terminal_of Comma n = comma
terminal_of RoundOpen n = round_open
terminal_of RoundClose n = round_close
terminal_of BraceOpen n = brace_open
terminal_of BraceClose n = brace_close
terminal_of Path n = path
terminal_of End n = end
terminal_of Name n = word n

-- a token as a terminal; a name goes by its number among the text's first occurrences
abbrev pub terminal : List ℕ → Token → Terminal
terminal text t = terminal_of t.kind (number_of text (firsts text (tokens text)) (spelling text t))

-- tokens as terminals, in order
abbrev pub terminals : List ℕ → List Token → List Terminal
terminals text ts = map (terminal text) ts

-- two names of a text have one number exactly when they are spelled alike
abbrev pub NumbersTellNames : Type 0
NumbersTellNames =
    (text : List ℕ) (b a b' a' : List Token) (t u : Token) → tokens text ≡ b ++ (t ∷ a) → tokens text ≡ b' ++ (u ∷ a') → t.kind ≡ Name → u.kind ≡ Name →
    (terminal text t ≡ terminal text u) ↔ (spelling text t ≡ spelling text u)

-- a name's number is its number among the first occurrences before it, so it is known when the name is read
abbrev pub NumbersStay : Type 0
NumbersStay =
    (text : List ℕ) (b a : List Token) (t : Token) → tokens text ≡ b ++ (t ∷ a) → t.kind ≡ Name →
    terminal text t ≡ word (number_of text (firsts text b) (spelling text t))
