use Rattle.rules.proofs.Numbers.{numbers_tell_names}
use Rattle.rules.proofs.numbers_tell_names.Goals as goal

pub returns : goal.returns
returns c = record { theorem = numbers_tell_names }
