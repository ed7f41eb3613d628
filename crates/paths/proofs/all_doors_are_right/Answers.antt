use Rattle.paths.proofs.all_doors_are_right.Goals as goal
use Rattle.paths.proofs.Texts.{all_doors_are_right}

pub returns : goal.returns
returns c = all_doors_are_right
