use Rattle.rules.proofs.Cases.{cases}
use Rattle.rules.proofs.cases_hold.Goals as goal

pub returns : goal.returns
returns c = record { theorem = cases }
