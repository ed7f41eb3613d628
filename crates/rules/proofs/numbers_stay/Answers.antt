use Rattle.rules.proofs.Numbers.{numbers_stay}
use Rattle.rules.proofs.numbers_stay.Goals as goal

pub returns : goal.returns
returns c = record { theorem = numbers_stay }
