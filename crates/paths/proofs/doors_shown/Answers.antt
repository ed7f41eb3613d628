use Rattle.paths.proofs.doors_shown.Goals as goal
use Rattle.paths.proofs.Decide.{doors_shown}

pub returns : goal.returns
returns c = doors_shown
