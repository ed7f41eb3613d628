-- The lines that are printed of doors and of faults; each ends with byte 10.
use Rattle.std.specs.Prelude.{ℕ, List, [], ◌∷◌, Some, None, codes, decimal, Option}
use Rattle.std.specs.List.{flat_map}
use Rattle.paths.specs.Grammar.{Text}
use Rattle.paths.specs.Doors.{Occurrence}
use Rattle.paths.specs.Texts.{text_doors}
use Rattle.tokens.specs.declared.Name.{Name}
use Rattle.tokens.specs.Tokens.{tokens, name_bytes}
use Rattle.rules.specs.Names.{firsts}
use Rattle.reading.specs.declared.ReadFault.{ReadFault}
use Rattle.reading.specs.declared.Stage.{Stage}
use Rattle.reading.specs.declared.Stage.TheVariants.{Bytes, Grammar, Rules, Run, Log, Call}
use Rattle.reading.specs.Faults.{fault_stage, fault_number, fault_place}
use Rattle.print.specs.Words.{line_of, door_bytes}

-- ---- doors
-- the line of an occurrence: its path, its name, its left door behind 'in', its right door behind 'out'
abbrev pub line : List ℕ → List Name → Occurrence → List ℕ
line text names o = line_of (decimal o.path) (name_bytes text names o.operation ∷ codes "in" ∷ door_bytes o.left ∷ codes "out" ∷ door_bytes o.right ∷ [])

-- the lines of occurrences, in order
abbrev pub lines : List ℕ → List Name → List Occurrence → List ℕ
lines text names os = flat_map (line text names) os

-- the lines of the doors of a derivation; a name is shown as it stands first in the text
abbrev pub doors_print : List ℕ → Text → List ℕ
doors_print text t = lines text (firsts text (tokens text)) (text_doors t 0 0 0)

-- ---- faults
-- the word for a stage
abbrev pub stage_bytes : Stage → List ℕ
stage_bytes Bytes = codes "bytes"
stage_bytes Grammar = codes "grammar"
stage_bytes Rules = codes "rules"
stage_bytes Run = codes "run"
stage_bytes Log = codes "log"
stage_bytes Call = codes "call"

-- the place behind 'at', if there is one
abbrev pub place_words : Option ℕ → List (List ℕ)
place_words None = []
place_words (Some p) = codes "at" ∷ decimal p ∷ []

-- the line of a fault: its stage, its number, its place
abbrev pub fault_line : ReadFault → List ℕ
fault_line f = line_of (stage_bytes (fault_stage f)) (decimal (fault_number f) ∷ place_words (fault_place f))
