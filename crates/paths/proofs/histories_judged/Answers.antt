use Rattle.paths.proofs.histories_judged.Goals as goal
use Rattle.paths.proofs.Decide.{judged}

pub returns : goal.returns
returns c = judged
