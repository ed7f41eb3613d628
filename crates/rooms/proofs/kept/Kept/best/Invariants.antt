use Rattle.rooms.specs.Entries.{allows}
use Rattle.rooms.specs.First.{Best}
use Rattle.rooms.proofs.kept.Kept.best.Given as goal

abbrev pub invariant-loop-i : goal.invariant-loop-i
invariant-loop-i g l = Best (g.O.Order.first (g.O.Order.memory l.self.order)) l.self.entries.items (allows l.allowed) l.i l.best
