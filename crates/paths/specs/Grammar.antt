-- The derivation trees of a text, and the row of terminals that each of them yields.
use Rattle.std.specs.Prelude.{◌≡◌, List, [], ◌∷◌, ◌++◌, ℕ}

infixr 30 ◌⨟◌
infixr 40 ◌or◌
-- what a row of tokens is to the grammar: the six signs, the words 'path' and 'end', and the names, each by its number
pub data Terminal : Type 0 where
  semicolon comma : Terminal
  round_open round_close : Terminal
  brace_open brace_close : Terminal
  path end : Terminal
  word : ℕ → Terminal

mutual
  -- one or more selections with ';' between them
  pub data Sequence : Type 0 where
    last : Selection → Sequence
    ◌⨟◌ : Selection → Sequence → Sequence

  -- one or more elements with ',' between them
  pub data Selection : Type 0 where
    only : Element → Selection
    ◌or◌ : Element → Selection → Selection

  -- a name by its number, or a sequence between round brackets, or a sequence between braces
  pub data Element : Type 0 where
    name : ℕ → Element
    round : Sequence → Element
    brace : Sequence → Element

-- one or more paths; a path is the sequence between its 'path' and its 'end'
pub data Text : Type 0 where
  one : Sequence → Text
  more : Sequence → Text → Text

-- the terminals of a tree, from left to right
abbrev mutual
  pub yield_sequence : Sequence → List Terminal
  yield_sequence (last l) = yield_selection l
  yield_sequence (l ⨟ s) = yield_selection l ++ (semicolon ∷ yield_sequence s)

  pub yield_selection : Selection → List Terminal
  yield_selection (only e) = yield_element e
  yield_selection (e or l) = yield_element e ++ (comma ∷ yield_selection l)

  pub yield_element : Element → List Terminal
  yield_element (name n) = word n ∷ []
  yield_element (round s) = round_open ∷ (yield_sequence s ++ (round_close ∷ []))
  yield_element (brace s) = brace_open ∷ (yield_sequence s ++ (brace_close ∷ []))

abbrev pub yield_path : Sequence → List Terminal
yield_path s = path ∷ (yield_sequence s ++ (end ∷ []))

abbrev pub yield_text : Text → List Terminal
yield_text (one s) = yield_path s
yield_text (more s t) = yield_path s ++ yield_text t

-- the row is a sentence of the grammar: some tree yields it
abbrev pub Sentence : List Terminal → Type 0
Sentence row = (t : Text) × (yield_text t ≡ row)

-- the row is a sentence, or goes on to one
abbrev pub Begins : List Terminal → Type 0
Begins row = (rest : List Terminal) × Sentence (row ++ rest)

-- no row of terminals has two derivations
abbrev pub Unambiguous : Type 0
Unambiguous = (t t' : Text) → yield_text t ≡ yield_text t' → t ≡ t'
