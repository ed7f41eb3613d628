-- The first fault of a text, and which texts are accepted.
use Rattle.std.specs.Prelude.{◌≡◌, ℕ, ◌<◌, ◌≤◌, ◌⊎◌, ◌↔◌, List, [], ◌∷◌, ◌++◌, length, codes, nat_lt}
use Rattle.paths.specs.Grammar.{Text, yield_text, Sentence}
use Rattle.paths.specs.Words.{among}
use Rattle.paths.specs.Texts.{names_of_text}
use Rattle.tokens.specs.declared.Token.{Token}
use Rattle.tokens.specs.Tokens.{at_end, no_token, long_name, tokens, stop}
use Rattle.rules.specs.Names.{firsts, terminals}
use Rattle.rules.specs.Rules.{different, Rule, number, Kept, Told, Within}

-- a text is refused behind the tokens before, with a number and a place
pub data Refused (text : List ℕ) : List Token → ℕ → ℕ → Type 0 where
  -- 1, before all else
  too_long : 16384 < length text → Refused text [] 1 16384
  -- 2 and 3, where the tokens stop
  at_byte : {p : ℕ} → length text ≤ 16384 → stop text ≡ no_token p → Kept (terminals text (tokens text)) → Refused text (tokens text) 2 p
  at_name : {p : ℕ} → length text ≤ 16384 → stop text ≡ long_name p → Kept (terminals text (tokens text)) → Refused text (tokens text) 3 p
  -- 4 and 6 to 12, at the first token that breaks a rule, with the smallest number
  at_token : {before : List Token} (t : Token) (after : List Token) (r : Rule) → length text ≤ 16384 → tokens text ≡ before ++ (t ∷ after) →
      Kept (terminals text before) → Told r (terminals text (before ++ (t ∷ []))) → Refused text before (number r) t.place
  -- 5, where the text is over
  at_end_of_text : length text ≤ 16384 → stop text ≡ at_end → Kept (terminals text (tokens text)) → ¬ Sentence (terminals text (tokens text)) →
      Refused text (tokens text) 5 (length text)

-- the first fault of a text, its number and its place
abbrev pub FirstFault : List ℕ → ℕ → ℕ → Type 0
FirstFault text n p = (before : List Token) × Refused text before n p

-- a text is accepted when its reading tells no fault
abbrev pub Accepted : List ℕ → Type 0
Accepted text = (n p : ℕ) → ¬ FirstFault text n p

-- a derivation takes in all tokens of the text in order; a text that is not all tokens and blanks has none
pub record Derives (text : List ℕ) (t : Text) : Type 0 where
  pub whole : stop text ≡ at_end
  pub yields : yield_text t ≡ terminals text (tokens text)

-- the grammar derives the text, within the limits and path conditions
abbrev pub Derivable : List ℕ → Type 0
Derivable text = (t : Text) × Derives text t × Within t × (length text ≤ 16384)

-- a text is accepted exactly when the grammar derives it within the limits
abbrev pub Acceptance : Type 0
Acceptance = (text : List ℕ) → Accepted text ↔ Derivable text

-- any two derivations of a text are the same
abbrev pub OneDerivation : Type 0
OneDerivation = (text : List ℕ) (t t' : Text) → Derives text t → Derives text t' → t ≡ t'

-- no text is refused in two ways
abbrev pub OneFault : Type 0
OneFault = (text : List ℕ) (b b' : List Token) (n m p q : ℕ) → Refused text b n p → Refused text b' m q → (b ≡ b') × (n ≡ m) × (p ≡ q)

-- every text is derived within the limits, or has a first fault
abbrev pub ToldOrDerived : Type 0
ToldOrDerived = (text : List ℕ) → Derivable text ⊎ ((n p : ℕ) × FirstFault text n p)

-- tokens that keep the rules are at most 1,056, with at most 64 first occurrences
abbrev pub RoomEnough : Type 0
RoomEnough = (text : List ℕ) (b a : List Token) → tokens text ≡ b ++ a → Kept (terminals text b) → (length b ≤ 1056) × (length (firsts text b) ≤ 64)

-- the names of a derivation are exactly the numbers below the count of first occurrences
abbrev pub NamesNumbered : Type 0
NamesNumbered = (text : List ℕ) (t : Text) → Derives text t → (n : ℕ) → among n (names_of_text t) ≡ nat_lt n (length (firsts text (tokens text)))

-- a derivation has as many different names as there are first occurrences
abbrev pub NamesCounted : Type 0
NamesCounted = (text : List ℕ) (t : Text) → Derives text t → different (names_of_text t) ≡ length (firsts text (tokens text))

-- texts at fault
abbrev pub Cases : Type 0
Cases =
    FirstFault (codes "path A end") 2 5
    × FirstFault (codes "path abcdefghijklmnopq end") 3 5
    × FirstFault (codes "path a b end") 4 7
    × FirstFault (codes "path a;") 5 7
    × FirstFault (codes "path {a;{b}} end") 7 8
    × FirstFault (codes "path a;a end") 8 7
