use Rattle.std.proofs.Common.{◌≡◌, ◌≤◌}
use Rattle.translation.specs.Rows.{kinds, kinds_from}
use Rattle.translation.specs.Trees.{scan}
use Rattle.translation.proofs.text.semaphore_behind.Given as goal

abbrev pub invariant-loop-token : goal.invariant-loop-token
invariant-loop-token l = (l.depth ≤ l.token-index) × (scan 0 l.next (kinds l.tokens) ≡ scan l.depth l.semaphore (kinds_from l.tokens l.token-index))
