-- What becomes of a log line.
use Rattle.std.specs.Prelude.{◌≡◌, ℕ, ◌<◌, List, ◌∷◌, length, Result}
use Rattle.tokens.specs.declared.Name.{Name}
use Rattle.tokens.specs.Tokens.{number_of}
use Rattle.lines.specs.Lines.{Meaning, begin as a_begin, end as an_end, withdraw as a_withdrawal, Lawful, Faulty}
use Rattle.run.specs.declared.answer.Begun.{Begun}
use Rattle.run.specs.declared.answer.LetIn.{LetIn}
use Rattle.run.specs.Records.{Record, begin, end, withdraw}
use Rattle.run.specs.declared.fault.RunFault.{RunFault}
use Rattle.order_log.specs.declared.fault.LogFault.TheVariants.{Unlawful, UnknownName}
use Rattle.order_log.specs.Print.{refusal, call_lines}

-- the line is refused for its form, at a place; for a name that the text lacks; or it is a call of the run, with its answer
pub data Ruling : Type 0 where
  unlawful : ℕ → Ruling
  unknown : Ruling
  called : Record → Ruling

-- ---- names
-- the word names operation a
abbrev pub Names : List ℕ → List Name → List ℕ → ℕ → Type 0
Names text names word a = (number_of text names word ≡ a) × (a < length names)

-- the word is none of the names
abbrev pub Foreign : List ℕ → List Name → List ℕ → Type 0
Foreign text names word = number_of text names word ≡ length names

-- ---- rulings
-- What becomes of a lawful line: its name is not in the text, or the run is called with the number of the name. The list that an end is lent has
-- 256 places.
pub data Calls (text : List ℕ) (names : List Name) : Meaning → Ruling → Type 0 where
  no_begin : {word : List ℕ} {rank : ℕ} → Foreign text names word → Calls text names (a_begin word rank) unknown
  no_end : {word : List ℕ} → Foreign text names word → Calls text names (an_end word) unknown
  begins : {word : List ℕ} {rank a : ℕ} {r : Result Begun RunFault} → Names text names word a → Calls text names (a_begin word rank) (called (begin a rank r))
  ends : {word : List ℕ} {a : ℕ} {ls : List LetIn} {r : Result ℕ RunFault} → Names text names word a → Calls text names (an_end word) (called (end a 256 ls r))
  withdraws : {ticket : ℕ} {r : Result ℕ RunFault} → Calls text names (a_withdrawal ticket) (called (withdraw ticket r))

-- what becomes of a line
pub data Ruled (text : List ℕ) (names : List Name) (line : List ℕ) : Ruling → Type 0 where
  faulty : {place : ℕ} → Faulty line place → Ruled text names line (unlawful place)
  lawful : {meaning : Meaning} {ruling : Ruling} → Lawful line meaning → Calls text names meaning ruling → Ruled text names line ruling

-- the records of the run, with that of this ruling
abbrev pub with_call : Ruling → List Record → List Record
with_call (unlawful p) rs = rs
with_call unknown rs = rs
with_call (called r) rs = r ∷ rs

-- what is printed for the n-th line; name spells each operation
abbrev pub ruling_lines : (ℕ → List ℕ) → ℕ → Ruling → List ℕ
ruling_lines name n (unlawful p) = refusal n (Unlawful p)
ruling_lines name n unknown = refusal n UnknownName
ruling_lines name n (called r) = call_lines name n r
