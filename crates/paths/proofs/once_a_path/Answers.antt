use Rattle.paths.proofs.once_a_path.Goals as goal
use Rattle.paths.proofs.Opening.{once_a_path}

pub returns : goal.returns
returns c = once_a_path
