-- The number, the stage and the place of a fault of reading.
use Rattle.std.specs.Prelude.{ℕ, Some, None, Option}
use Rattle.tokens.specs.declared.BytesFault.TheVariants.{TooLong, NoToken, LongName}
use Rattle.reading.specs.declared.Limit.{Limit}
use Rattle.reading.specs.declared.Limit.TheVariants.{OpenBrackets, OpenBraces, NameOnce, Paths, Names, Occurrences, Brackets}
use Rattle.reading.specs.declared.GrammarFault.TheVariants.{Bytes, Unexpected, Short}
use Rattle.reading.specs.declared.ReadFault.{ReadFault}
use Rattle.reading.specs.declared.ReadFault.TheVariants.{Grammar, Rule, TooFewPlaces}
use Rattle.reading.specs.declared.Stage.{Stage}
use Rattle.reading.specs.declared.Stage.TheVariants as stage

-- the number of the fault of passing a limit
abbrev pub limit_number : Limit → ℕ
limit_number OpenBrackets = 6
limit_number OpenBraces = 7
limit_number NameOnce = 8
limit_number Paths = 9
limit_number Names = 10
limit_number Occurrences = 11
limit_number Brackets = 12

-- a fault's number
abbrev pub fault_number : ReadFault → ℕ
fault_number (Grammar (Bytes TooLong)) = 1
fault_number (Grammar (Bytes (NoToken p))) = 2
fault_number (Grammar (Bytes (LongName p))) = 3
fault_number (Grammar (Unexpected p)) = 4
fault_number (Grammar (Short p)) = 5
fault_number (Rule l p) = limit_number l
fault_number TooFewPlaces = 23

-- a fault's stage
abbrev pub fault_stage : ReadFault → Stage
fault_stage (Grammar (Bytes b)) = stage.Bytes
fault_stage (Grammar (Unexpected p)) = stage.Grammar
fault_stage (Grammar (Short p)) = stage.Grammar
fault_stage (Rule l p) = stage.Rules
fault_stage TooFewPlaces = stage.Call

-- a fault's place, if it has one
abbrev pub fault_place : ReadFault → Option ℕ
fault_place (Grammar (Bytes TooLong)) = Some 16384
fault_place (Grammar (Bytes (NoToken p))) = Some p
fault_place (Grammar (Bytes (LongName p))) = Some p
fault_place (Grammar (Unexpected p)) = Some p
fault_place (Grammar (Short p)) = Some p
fault_place (Rule l p) = Some p
fault_place TooFewPlaces = None
