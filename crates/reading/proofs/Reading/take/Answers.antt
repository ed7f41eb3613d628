use Rattle.reading.proofs.Went.{refuse}
use Rattle.reading.proofs.Reading.take.Goals as goal

pub returns-in-None : goal.returns-in-None
returns-in-None c = record { taken = rw c.into.ensures (refuse c.args.self.now c.refusal.result c.refusal.ensures.refused (c.requires.only c.in-None.ensures.ahead)) }
