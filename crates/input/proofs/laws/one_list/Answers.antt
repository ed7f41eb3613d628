use Rattle.input.proofs.Firsts.{one_list}
use Rattle.input.proofs.laws.one_list.Goals as goal

pub returns : goal.returns
returns c = record { law = one_list }
