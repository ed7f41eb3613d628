use Rattle.rules.proofs.Within.{acceptance}
use Rattle.rules.proofs.accepted_texts_are_derived.Goals as goal

pub returns : goal.returns
returns c = record { theorem = acceptance }
