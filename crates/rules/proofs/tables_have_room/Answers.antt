use Rattle.rules.proofs.Numbers.{room_enough}
use Rattle.rules.proofs.tables_have_room.Goals as goal

pub returns : goal.returns
returns c = record { theorem = room_enough }
