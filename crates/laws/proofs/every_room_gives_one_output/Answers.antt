use Rattle.laws.proofs.Prints.{one_print}
use Rattle.laws.proofs.every_room_gives_one_output.Goals as goal

pub returns : goal.returns
returns g c = record {
  theorem = one_print g.R.Room.places g.R.Room.rule g.met.R.Room.one;
}
