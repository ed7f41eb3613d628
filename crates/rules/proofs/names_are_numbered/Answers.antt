use Rattle.rules.proofs.Numbers.{names_numbered}
use Rattle.rules.proofs.names_are_numbered.Goals as goal

pub returns : goal.returns
returns c = record { theorem = names_numbered }
