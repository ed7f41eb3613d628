-- Where a reading stands, and where each reader leads it.
use Rattle.std.specs.Prelude.{◌≡◌, ℕ, ◌+◌, ◌<◌, ◌≢◌, ◌⊎◌, List, length, Some, None, Ok, Err, Option, Result}
use Rattle.table.specs.Contents.{contents, RestKept}
use Rattle.paths.specs.Grammar.{Terminal}
use Rattle.tokens.specs.declared.Kind.{Kind}
use Rattle.tokens.specs.declared.Token.{Token}
use Rattle.tokens.specs.declared.BytesFault.{BytesFault}
use Rattle.rules.specs.Names.{terminal_of, terminal, terminals}
use Rattle.rules.specs.Automaton.{Bracket, State, start, between, before_element, behind_element, stuck, step, run}
use Rattle.reading.specs.declared.Reading.{Reading}
use Rattle.reading.specs.declared.GrammarFault.{GrammarFault}
use Rattle.reading.specs.declared.GrammarFault.TheVariants.{Bytes, Unexpected, Short}
use Rattle.reading.specs.declared.ReadFault.{ReadFault}
use Rattle.reading.specs.Outcome.{Tells}

-- the text that is read
abbrev pub bytes : Reading → List ℕ
bytes r = r.text.now

-- the tokens taken
abbrev pub taken : Reading → List Token
taken r = contents r.tokens.now

-- the tokens taken, as terminals
abbrev pub row : Reading → List Terminal
row r = terminals (bytes r) (taken r)

-- the automaton's state behind the tokens taken
abbrev pub standing : Reading → State
standing r = run start (row r)

-- what follows: a token, the end of the text, or the fault of its bytes
abbrev pub Ahead : Type 0
Ahead = Result (Option Token) BytesFault

-- ---- from one place to another
-- the text and the tables stay the same ones, and the tables only grow
pub record Onward (r r' : Reading) : Type 0 where
  pub same_text : bytes r' ≡ bytes r
  pub same_tokens : r'.tokens.ghost_name ≡ r.tokens.ghost_name
  pub same_names : r'.names.ghost_name ≡ r.names.ghost_name
  pub tokens_kept : RestKept r.tokens.now r'.tokens.now
  pub names_kept : RestKept r.names.now r'.names.now

-- the reading went on by a token or more, and the automaton stands in state s
pub record Went (r r' : Reading) (s : State) : Type 0 where
  pub onward : Onward r r'
  pub stands : standing r' ≡ s
  pub further : length (taken r) < length (taken r')

-- the first fault of the text, behind the tokens taken
pub record Failed (r r' : Reading) (f : ReadFault) : Type 0 where
  pub onward : Onward r r'
  pub tells : Tells (bytes r) (taken r') f

-- the reading went on to state s, or tells the first fault
abbrev pub ReadTo : Reading → Reading → State → Result (Unit {0}) ReadFault → Type 0
ReadTo r r' s (Ok u) = Went r r' s
ReadTo r r' s (Err f) = Failed r r' f

-- ---- what follows
-- the token that follows is not of this kind
abbrev pub NotAhead : Kind → Ahead → Type 0
NotAhead k (Ok None) = Unit {0}
NotAhead k (Ok (Some t)) = t.kind ≢ k
NotAhead k (Err f) = Unit {0}

-- the token that follows, if it is of this kind
abbrev pub IsAhead : Kind → Ahead → Option Token → Type 0
IsAhead k a None = NotAhead k a
IsAhead k a (Some t) = (a ≡ Ok (Some t)) × (t.kind ≡ k)

-- the grammar lets nothing stand here that follows
abbrev pub StuckWith : Reading → Ahead → Type 0
StuckWith r (Ok None) = standing r ≢ between
StuckWith r (Ok (Some t)) = step (standing r) (terminal (bytes r) t) ≡ stuck
StuckWith r (Err f) = Unit {0}

-- the fault of what follows, in a text of n bytes
abbrev pub refused_by : Ahead → ℕ → GrammarFault
refused_by (Ok None) n = Short n
refused_by (Ok (Some t)) n = Unexpected t.place
refused_by (Err f) n = Bytes f

-- the token follows, and the grammar lets it stand here
abbrev pub Fits : Token → Reading → Type 0
Fits t r = (r.ahead ≡ Ok (Some t)) × (step (standing r) (terminal (bytes r) t) ≢ stuck)

-- a token of this kind, which is no name, may stand here, and of what follows nothing else
pub record Due (k : Kind) (r : Reading) : Type 0 where
  pub no_name : k ≢ Kind.Name
  pub fits : step (standing r) (terminal_of k 0) ≢ stuck
  pub only : NotAhead k r.ahead → StuckWith r r.ahead

-- ---- the readers
-- an element is due, and so many brackets more may open
abbrev pub Awaits : ℕ → State → Type 0
Awaits k s = (bs : List Bracket) × (s ≡ before_element bs) × (length bs + k ≡ 16)

-- the state behind an element, where one was due
abbrev pub behind : State → State
behind start = stuck
behind between = stuck
behind (before_element bs) = behind_element bs
behind (behind_element bs) = stuck
behind stuck = stuck

-- a token of the first kind opens a bracket that one of the second closes
abbrev pub Opens : Kind → Kind → Type 0
Opens i j = ((i ≡ Kind.RoundOpen) × (j ≡ Kind.RoundClose)) ⊎ ((i ≡ Kind.BraceOpen) × (j ≡ Kind.BraceClose))

-- a path is due: at the text's start, or behind a path if the text goes on
abbrev pub PathDue : Ahead → State → Type 0
PathDue a s = (s ≡ start) ⊎ ((s ≡ between) × (a ≢ Ok None))
