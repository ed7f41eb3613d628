use Rattle.paths.proofs.Decide.{judged}
use Rattle.rules.proofs.Cases.{cases}
use Rattle.worked.proofs.Arms.{arms_printed}
use Rattle.worked.proofs.worked_cases.Goals as goal

pub returns : goal.returns
returns c = record { shown = record { faults = cases; histories = judged; output = arms_printed } }
