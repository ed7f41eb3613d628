-- What the calls of this crate answer, and what the memory that they were handed then holds.
use Rattle.std.specs.Prelude.{◌≡◌, ℕ, ◌≤◌, List, [], ◌++◌, length, take, drop, Ok, Err, codes, Result}
use Rattle.tokens.specs.declared.Name.{Name}
use Rattle.tokens.specs.declared.Names.{Names as TheNames}
use Rattle.tokens.specs.Tokens.{name_at, name_bytes}
use Rattle.page.specs.declared.SmallPage.{SmallPage}
use Rattle.print.specs.Printed.{Whole}
use Rattle.rooms.specs.Rule.{Rule}
use Rattle.run.specs.declared.answer.LetIn.{LetIn}
use Rattle.run.specs.Records.{begin, end, withdraw}
use Rattle.run.specs.Memory.{View, Carries}
use Rattle.order_log.specs.declared.answer.Answer.{Answer}
use Rattle.order_log.specs.declared.answer.Answer.TheVariants.{Begun as Began, Ended, Withdrawn}
use Rattle.order_log.specs.declared.fault.LogFault.{LogFault}
use Rattle.order_log.specs.declared.fault.LogFault.TheVariants.{Unlawful, UnknownName, Run as InRun}
use Rattle.order_log.specs.Print.{begun_line, ended_lines, ticket_line, refusal}
use Rattle.order_log.specs.Rulings.{Ruling, unlawful, unknown, called, Names, Foreign, Ruled, ruling_lines}

-- ---- one line
-- the answer of a ruling
abbrev pub answer : Ruling → Result Answer LogFault
answer (unlawful p) = Err (Unlawful p)
answer unknown = Err UnknownName
answer (called (begin a k (Ok b))) = Ok (Began a b)
answer (called (begin a k (Err f))) = Err (InRun f)
answer (called (end a p ls (Ok m))) = Ok (Ended a m)
answer (called (end a p ls (Err f))) = Err (InRun f)
answer (called (withdraw u (Ok a))) = Ok (Withdrawn a u)
answer (called (withdraw u (Err f))) = Err (InRun f)

-- those that a ruling lets in from the room
abbrev pub let_in_by : Ruling → List LetIn
let_in_by (unlawful p) = []
let_in_by unknown = []
let_in_by (called (begin a k r)) = []
let_in_by (called (end a p ls r)) = ls
let_in_by (called (withdraw u r)) = []

-- how the names of a text spell an operation
abbrev pub name_of : TheNames → ℕ → List ℕ
name_of names a = name_bytes names.text.now names.records.now a

-- how many an answer that is no refusal let in from the room
abbrev pub done_count : Answer → ℕ
done_count (Began a b) = 0
done_count (Ended a m) = m
done_count (Withdrawn a u) = 0

-- how many an answer let in from the room
abbrev pub let_in_count : Result Answer LogFault → ℕ
let_in_count (Ok d) = done_count d
let_in_count (Err f) = 0

-- what is printed for an answer that is no refusal; those that it let in stand at the list's front
abbrev pub done_lines : (ℕ → List ℕ) → ℕ → List LetIn → Answer → List ℕ
done_lines name n list (Began a b) = begun_line n (name a) b
done_lines name n list (Ended a m) = ended_lines name n a (take m list)
done_lines name n list (Withdrawn a u) = ticket_line n (name a) (codes "gone") u

-- what is printed for an answer
abbrev pub answer_lines : (ℕ → List ℕ) → ℕ → List LetIn → Result Answer LogFault → List ℕ
answer_lines name n list (Ok d) = done_lines name n list d
answer_lines name n list (Err f) = refusal n f

-- a ruling takes the run's memory from v to w: one without a call leaves it
abbrev pub Carried : {R : Type 0} → ℕ → Rule → View R → View R → Ruling → Type 0
Carried places rule v w (unlawful p) = w ≡ v
Carried places rule v w unknown = w ≡ v
Carried places rule v w (called r) = Carries places rule v w r

-- a refusal leaves the run as it was
abbrev pub Leaves : {A R : Type 0} → Result A LogFault → R → R → Type 0
Leaves (Ok x) old new = Unit {0}
Leaves (Err f) old new = new ≡ old

-- names as a reading leaves them: at most 64, each at most 16 bytes long
pub record ReadNames (names : List Name) : Type 0 where
  pub few : length names ≤ 64
  pub short : (a : ℕ) → (name_at names a).len ≤ 16

-- the operation that a word names, or that it names none
abbrev pub KnownOperation : List ℕ → List Name → List ℕ → Result ℕ LogFault → Type 0
KnownOperation text names word (Ok a) = Names text names word a
KnownOperation text names word (Err f) = (f ≡ UnknownName) × (ReadNames names → Foreign text names word)

-- The answer r to a line is that of its ruling. The list's front holds those that it let in, and its rest what it held; a refusal leaves the run.
pub record Asked {R : Type 0} (places : ℕ) (rule : Rule) (text : List ℕ) (names : List Name) (line : List ℕ)
    (run run' : View R) (list list' : List LetIn) (r : Result Answer LogFault) : Type 0 where
  pub ruling : Ruling
  pub ruled : ReadNames names → Ruled text names line ruling
  pub answered : r ≡ answer ruling
  pub carried : Carried places rule run run' ruling
  pub listed : take (let_in_count r) list' ≡ let_in_by ruling
  pub within : let_in_count r ≤ 256
  pub rest : drop (let_in_count r) list' ≡ drop (let_in_count r) list
  pub keeps : Leaves r run run'

-- The n bytes at the page's front are the print of the line's ruling, and the rest of the page is as it was. The ruling's call is carried by the run; the
-- list's front holds those that it let in, and its rest what it held; a refusal leaves run and list.
pub record RulingTold {R : Type 0} (places : ℕ) (rule : Rule) (text : List ℕ) (names : List Name) (line : List ℕ) (number : ℕ)
    (run run' : View R) (list list' : List LetIn) (page page' : List ℕ) (n : ℕ) : Type 0 where
  pub ruling : Ruling
  pub carried : Carried places rule run run' ruling
  pub listed : list' ≡ let_in_by ruling ++ drop (length (let_in_by ruling)) list
  pub keeps : Leaves (answer ruling) run run'
  pub within : n ≤ length page
  pub ruled : ReadNames names → Ruled text names line ruling
  pub printed : ReadNames names → Whole (ruling_lines (name_bytes text names) number ruling) page page' n

-- ruled and printed, or refused with nothing touched
abbrev pub RuledLine : {R : Type 0} → ℕ → Rule → List ℕ → List Name → List ℕ → ℕ → View R → View R → List LetIn → List LetIn → List ℕ → List ℕ → Result ℕ SmallPage → Type 0
RuledLine places rule text names line number run run' list list' page page' (Ok n) = RulingTold places rule text names line number run run' list list' page page' n
RuledLine places rule text names line number run run' list list' page page' (Err e) = (run' ≡ run) × (list' ≡ list) × (page' ≡ page)
