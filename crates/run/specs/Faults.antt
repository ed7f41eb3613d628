-- The number and the stage of a fault of a run; it has no place.
use Rattle.std.specs.Prelude.{ℕ}
use Rattle.reading.specs.declared.Stage.{Stage}
use Rattle.reading.specs.declared.Stage.TheVariants.{Run}
use Rattle.run.specs.declared.fault.RunFault.{RunFault}
use Rattle.run.specs.declared.fault.RunFault.TheVariants.{UnknownOperation, RankTooHigh, TicketsSpent, RoomFull, NotRunning, NotWaiting, ListTooShort}

abbrev pub fault_number : RunFault → ℕ
fault_number UnknownOperation = 13
fault_number RankTooHigh = 14
fault_number TicketsSpent = 15
fault_number RoomFull = 16
fault_number NotRunning = 17
fault_number NotWaiting = 18
fault_number ListTooShort = 19

-- every fault of a run has the stage of runs
abbrev pub fault_stage : RunFault → Stage
fault_stage f = Run
