use Rattle.std.proofs.Common.{◌≡◌, ◌+◌, length}
use Rattle.input.specs.Told.{unread}
use Rattle.input.proofs.Cuts.{Going}
use Rattle.input.proofs.cut.split.Given as goal

abbrev pub invariant-loop-line : goal.invariant-loop-line
invariant-loop-line l = (l.text_end + length (unread l.lines) ≡ length l.input) × Going l.input (unread l.lines)

abbrev pub decreases-loop-line : goal.decreases-loop-line
decreases-loop-line l = length (unread l.lines)
