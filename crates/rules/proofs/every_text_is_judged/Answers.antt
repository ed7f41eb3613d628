use Rattle.rules.proofs.Within.{told_or_derived}
use Rattle.rules.proofs.every_text_is_judged.Goals as goal

pub returns : goal.returns
returns c = record { theorem = told_or_derived }
