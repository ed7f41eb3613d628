use Rattle.std.proofs.Common.{arith}
use Rattle.translation.proofs.Lists.{front_at, front_end}
use Rattle.translation.proofs.text.Source.kind_at.Goals as goal

pub returns-clause-kind : goal.returns-clause-kind
returns-clause-kind c = grind (arith, front_at, front_end)
