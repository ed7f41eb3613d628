-- What the steps of the unit tell each other.
use Rattle.std.specs.Prelude.{◌≡◌, ℕ, ◌≤◌, List, ◌++◌, length}
use Rattle.table.specs.declared.Table.{Table}
use Rattle.paths.specs.Grammar.{Text}
use Rattle.tokens.specs.declared.Name.{Name}
use Rattle.tokens.specs.Tokens.{tokens, name_bytes}
use Rattle.rules.specs.Names.{firsts}
use Rattle.rules.specs.Rules.{Within}
use Rattle.rules.specs.Faults.{Derives}
use Rattle.doors.specs.declared.Occurrence.{Occurrence}
use Rattle.translation.specs.declared.Translated.{Translated}
use Rattle.translation.specs.Translation.{Translates}
use Rattle.rooms.specs.Rule.{Rule}
use Rattle.run.specs.Law.{Told}
use Rattle.run.specs.Memory.{View, Reached}
use Rattle.input.specs.Input.{Lines}
use Rattle.order_log.specs.Rulings.{Ruling, Ruled, ruling_lines}
use Rattle.order_log.specs.Answers.{Carried, ReadNames}
use Rattle.unit.specs.Output.{records, log_print, RulesOn, LogPrinted}

-- a line is ruled, which takes the run's memory from v to w, and its print is added to the output
pub record LineAdded {R : Type 0} (places : ℕ) (rule : Rule) (text : List ℕ) (names : List Name) (line : List ℕ) (number : ℕ) (v w : View R) (out out' : List ℕ) : Type 0 where
  pub ruling : Ruling
  pub carried : Carried places rule v w ruling
  pub ruled : ReadNames names → Ruled text names line ruling
  pub printed : ReadNames names → out' ≡ out ++ ruling_lines (name_bytes text names) number ruling

-- the lines of a log are ruled by a run of the tree t that had no records: every call was lawful, w is the run's memory then, and their print is added to the output
pub record RuledSoFar {R : Type 0} (places : ℕ) (rule : Rule) (t : Text) (text : List ℕ) (names : List Name) (lines : List (List ℕ)) (w : View R) (out out' : List ℕ) (rulings : List Ruling) : Type 0 where
  pub ruled : RulesOn text names lines rulings
  pub told : Told t places rule (records rulings)
  pub reached : Reached t rule w (records rulings)
  pub printed : out' ≡ out ++ log_print (name_bytes text names) rulings

-- so it is for all lines of a log
pub record LogAdded {R : Type 0} (places : ℕ) (rule : Rule) (t : Text) (text : List ℕ) (names : List Name) (log : List ℕ) (w : View R) (out out' : List ℕ) : Type 0 where
  pub lines : List (List ℕ)
  pub of_log : Lines log lines
  pub rulings : List Ruling
  pub so_far : RuledSoFar places rule t text names lines w out out' rulings

-- t is the tree of an accepted text; the names are its names, and the table holds its doors
pub record TreeTold (text : List ℕ) (names : List Name) (translated : Translated) (occurrences : Table Occurrence) (t : Text) : Type 0 where
  pub short : length text ≤ 16384
  pub derives : Derives text t
  pub within : Within t
  pub names_are : names ≡ firsts text (tokens text)
  pub translates : Translates t translated occurrences

-- what is printed for an accepted text and its log is added to the output
pub record RunAdded (places : ℕ) (rule : Rule) (text log out out' : List ℕ) : Type 0 where
  pub lines : List (List ℕ)
  pub of_log : Lines log lines
  pub bytes : List ℕ
  pub printed : LogPrinted places rule text lines bytes
  pub added : out' ≡ out ++ bytes
