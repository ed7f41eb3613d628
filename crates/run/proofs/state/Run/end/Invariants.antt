use Rattle.std.proofs.Common.{◌≡◌, ◌+◌, ◌≤◌, length, drop}
use Rattle.run.proofs.Ends.{Ending}
use Rattle.run.proofs.state.Run.end.Given as goal

abbrev pub invariant-loop-n : goal.invariant-loop-n
invariant-loop-n g l = record {
  room : l.n + length l.self.entries ≤ length l.list;
  rest : drop l.n l.list ≡ drop l.n l.initial.list;
  ending : Ending g.R.Room.rule l.initial.self l.self l.operation (length l.initial.list) l.n l.list;
}
