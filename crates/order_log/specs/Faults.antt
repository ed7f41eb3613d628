-- The stage, the number and the place of a refusal of a log line.
use Rattle.std.specs.Prelude.{ℕ, Some, None, Option}
use Rattle.reading.specs.declared.Stage.{Stage}
use Rattle.reading.specs.declared.Stage.TheVariants as stage
use Rattle.run.specs.Faults as run
use Rattle.order_log.specs.declared.fault.LogFault.{LogFault}
use Rattle.order_log.specs.declared.fault.LogFault.TheVariants.{Unlawful, UnknownName, Run as InRun}

-- the stage that tells a refusal
abbrev pub fault_stage : LogFault → Stage
fault_stage (Unlawful p) = stage.Log
fault_stage UnknownName = stage.Log
fault_stage (InRun f) = run.fault_stage f

-- the number of a refusal
abbrev pub fault_number : LogFault → ℕ
fault_number (Unlawful p) = 20
fault_number UnknownName = 21
fault_number (InRun f) = run.fault_number f

-- the place of a refusal in its line; one by the run has none
abbrev pub fault_place : LogFault → Option ℕ
fault_place (Unlawful p) = Some p
fault_place UnknownName = Some 2
fault_place (InRun f) = None
