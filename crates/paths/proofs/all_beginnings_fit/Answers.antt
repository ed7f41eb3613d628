use Rattle.paths.proofs.all_beginnings_fit.Goals as goal
use Rattle.paths.proofs.Texts.{all_beginnings}

pub returns : goal.returns
returns c = all_beginnings
