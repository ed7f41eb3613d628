use Rattle.paths.proofs.standing_is_small.Goals as goal
use Rattle.paths.proofs.Small.{standing_is_small}

pub returns : goal.returns
returns c = standing_is_small
