use Rattle.rules.proofs.Numbers.{names_counted}
use Rattle.rules.proofs.names_are_counted.Goals as goal

pub returns : goal.returns
returns c = record { theorem = names_counted }
