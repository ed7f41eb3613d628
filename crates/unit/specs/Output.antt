-- What is printed for an input.
use Rattle.std.specs.Prelude.{◌≡◌, ℕ, ◌+◌, ◌<◌, ◌≤◌, List, [], ◌∷◌, ◌++◌, length, Some, codes}
use Rattle.paths.specs.Grammar.{Text}
use Rattle.tokens.specs.declared.Name.{Name}
use Rattle.tokens.specs.Tokens.{tokens, name_bytes}
use Rattle.rules.specs.Names.{firsts}
use Rattle.rules.specs.Rules.{Within}
use Rattle.rules.specs.Faults.{FirstFault, Derives}
use Rattle.reading.specs.declared.ReadFault.{ReadFault}
use Rattle.reading.specs.Faults.{fault_number, fault_place}
use Rattle.rooms.specs.First.{First, by_rank as first_by_rank}
use Rattle.rooms.specs.Rule.{Rule}
use Rattle.run.specs.declared.answer.Totals.{Totals}
use Rattle.run.specs.Closing.{Totaled}
use Rattle.run.specs.Law.{Told}
use Rattle.run.specs.Records.{Record}
use Rattle.print.specs.Lines.{doors_print, fault_line}
use Rattle.input.specs.Input.{Cut, Lines}
use Rattle.order_log.specs.Print.{total_line}
use Rattle.order_log.specs.Rulings.{Ruling, Ruled, with_call, ruling_lines}

-- ---- rulings, the newest first
-- the records of the run that they make
abbrev pub records : List Ruling → List Record
records [] = []
records (q ∷ qs) = with_call q (records qs)

-- what is printed for them, line by line; the first line has the number 1
abbrev pub log_print : (ℕ → List ℕ) → List Ruling → List ℕ
log_print name [] = []
log_print name (q ∷ qs) = log_print name qs ++ ruling_lines name (length qs + 1) q

-- they are the rulings of these lines, one for each
pub data RulesOn (text : List ℕ) (names : List Name) : List (List ℕ) → List Ruling → Type 0 where
  none : RulesOn text names [] []
  one_more : {lines before : List (List ℕ)} {line : List ℕ} {ruling : Ruling} {rulings : List Ruling} →
      lines ≡ before ++ (line ∷ []) → RulesOn text names before rulings → Ruled text names line ruling → RulesOn text names lines (ruling ∷ rulings)

-- ---- a text with its log
-- the first fault of the text is printed
pub record FaultPrinted (text out : List ℕ) : Type 0 where
  pub fault : ReadFault
  pub place : ℕ
  pub at_place : fault_place fault ≡ Some place
  pub first : FirstFault text (fault_number fault) place
  pub printed : out ≡ fault_line fault

-- The text is accepted, and t is its tree. Its log is ruled line by line by a run over a room with these places and this rule of choice, every call
-- lawful. Printed are the doors, then the rulings, then the totals, counted from the records.
pub record LogPrinted (places : ℕ) (rule : Rule) (text : List ℕ) (lines : List (List ℕ)) (out : List ℕ) : Type 0 where
  pub short : length text ≤ 16384
  pub tree : Text
  pub derives : Derives text tree
  pub within : Within tree
  pub rulings : List Ruling
  pub ruled : RulesOn text (firsts text (tokens text)) lines rulings
  pub told : Told tree places rule (records rulings)
  pub totals : Totals
  pub totaled : Totaled (records rulings) totals
  pub printed : out ≡ doors_print text tree ++ (log_print (name_bytes text (firsts text (tokens text))) rulings ++ total_line totals)

-- what is printed for a text and its log
pub data TextPrints (places : ℕ) (rule : Rule) (text log out : List ℕ) : Type 0 where
  at_fault : FaultPrinted text out → TextPrints places rule text log out
  accepted : (lines : List (List ℕ)) → Lines log lines → LogPrinted places rule text lines out → TextPrints places rule text log out

-- ---- an input
abbrev pub too_long_line : List ℕ
too_long_line = codes "input longer than 65536" ++ (10 ∷ [])

-- what is printed for an input: one line if it has more than 65,536 bytes, else what is printed for its text and its log
pub data Prints (places : ℕ) (rule : Rule) (input out : List ℕ) : Type 0 where
  too_long : 65536 < length input → out ≡ too_long_line → Prints places rule input out
  short : (text log : List ℕ) → length input ≤ 65536 → Cut input text log → TextPrints places rule text log out → Prints places rule input out

-- the room by rank: the greatest rank, among equals the smallest ticket; it remembers nothing
abbrev pub by_rank : Rule
by_rank = record { start = 0; after = λ memory entry. 0; chooses = λ memory. First first_by_rank }

-- what the program prints: its room is by rank, with 256 places
abbrev pub OutputOf : List ℕ → List ℕ → Type 0
OutputOf input out = Prints 256 by_rank input out
