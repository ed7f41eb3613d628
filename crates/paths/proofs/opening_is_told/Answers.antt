use Rattle.paths.proofs.opening_is_told.Goals as goal
use Rattle.paths.proofs.Opening.{opening_is_told}

pub returns : goal.returns
returns c = opening_is_told
