use Rattle.std.proofs.Common.{arith}
use Rattle.doors.proofs.Opened.{kept_more, kept_all}
use Rattle.doors.proofs.Doors.new.Goals as goal

pub loop-occurrence-preserved : goal.loop-occurrence-preserved
loop-occurrence-preserved c = kept_more c.args.occurrences.now c.loop-occurrence.occurrence-index _ (omega arith) c.loop-occurrence.doors c.add.new.self c.loop-occurrence.before c.loop-occurrence.invariant c.add.ensures.rows c.add.ensures.levels

pub returns : goal.returns
returns c = record { opened = kept_all c.args.occurrences.now c.loop-occurrence.occurrence-index c.loop-occurrence.doors c.loop-occurrence.before c.loop-occurrence.invariant (omega arith) }
