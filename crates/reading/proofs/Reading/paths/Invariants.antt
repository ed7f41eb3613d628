use Rattle.std.proofs.Common.{◌-◌, length}
use Rattle.rules.specs.Automaton.{between}
use Rattle.table.specs.Contents.{contents}
use Rattle.reading.specs.State.{Went}
use Rattle.reading.proofs.Reading.paths.Given as goal

abbrev pub invariant-loop-self : goal.invariant-loop-self
invariant-loop-self l = Went l.fn.self l.self between

abbrev pub decreases-loop-self : goal.decreases-loop-self
decreases-loop-self l = 1088 - length (contents l.self.tokens.now)
