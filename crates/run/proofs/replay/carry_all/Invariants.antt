use Rattle.std.proofs.Common.{◌≤◌, [], length}
use Rattle.paths.specs.Grammar.{Text}
use Rattle.run.specs.Memory.{Reached}
use Rattle.run.proofs.Carrying.{Going}
use Rattle.run.proofs.replay.carry_all.Given as goal

abbrev pub invariant-loop-i : goal.invariant-loop-i
invariant-loop-i g l = record {
  turns : l.i ≤ length l.calls;
  within : l.used ≤ length l.list;
  going : (t : Text) → Reached t g.R.Room.rule l.initial.run [] → Going t g.R.Room.places g.R.Room.rule l.calls l.initial.answers l.answers l.initial.list l.list l.run l.i l.used;
}
