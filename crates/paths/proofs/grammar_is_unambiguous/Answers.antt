use Rattle.paths.proofs.grammar_is_unambiguous.Goals as goal
use Rattle.paths.proofs.Unambiguous.{unambiguous}

pub returns : goal.returns
returns c = unambiguous
