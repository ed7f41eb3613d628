use Rattle.paths.proofs.letting_in_frees_nobody.Goals as goal
use Rattle.paths.proofs.Frees.{frees_nobody}

pub returns : goal.returns
returns c = frees_nobody
