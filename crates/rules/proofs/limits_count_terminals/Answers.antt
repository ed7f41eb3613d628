use Rattle.rules.proofs.Within.{limits_count}
use Rattle.rules.proofs.limits_count_terminals.Goals as goal

pub returns : goal.returns
returns c = record { theorem = limits_count }
