use Rattle.paths.proofs.doors_are_right.Goals as goal
use Rattle.paths.proofs.Whole.{doors_are_right}

pub returns : goal.returns
returns c = doors_are_right
