use Rattle.rules.proofs.Scan.{one_fault}
use Rattle.rules.proofs.the_fault_is_one.Goals as goal

pub returns : goal.returns
returns c = record { theorem = one_fault }
