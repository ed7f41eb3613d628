use Rattle.run.proofs.Tables.{Filled}
use Rattle.run.proofs.state.Run.fitting.Given as goal

abbrev pub invariant-loop-a : goal.invariant-loop-a
invariant-loop-a g l = Filled l.self l.a l.may-items
