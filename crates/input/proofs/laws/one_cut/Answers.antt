use Rattle.input.proofs.Cuts.{one_cut}
use Rattle.input.proofs.laws.one_cut.Goals as goal

pub returns : goal.returns
returns c = record { law = one_cut }
