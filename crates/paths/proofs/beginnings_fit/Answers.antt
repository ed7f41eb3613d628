use Rattle.paths.proofs.beginnings_fit.Goals as goal
use Rattle.paths.proofs.Whole.{beginnings_fit}

pub returns : goal.returns
returns c = beginnings_fit
