use Rattle.rules.proofs.Within.{one_derivation}
use Rattle.rules.proofs.a_text_has_one_derivation.Goals as goal

pub returns : goal.returns
returns c = record { theorem = one_derivation }
