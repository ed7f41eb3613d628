use Rattle.paths.proofs.doors_are_few.Goals as goal
use Rattle.paths.proofs.Sizes.{doors_are_few}

pub returns : goal.returns
returns c = doors_are_few
