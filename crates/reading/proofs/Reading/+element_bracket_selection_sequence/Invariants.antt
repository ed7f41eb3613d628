use Rattle.std.proofs.Common.{◌+◌, ◌-◌, ◌*◌, length}
use Rattle.table.specs.Contents.{contents}
use Rattle.tokens.specs.declared.Kind.TheVariants.{Comma}
use Rattle.reading.specs.State.{NotAhead, Went, behind, standing}
use Rattle.reading.proofs.Reading.+element_bracket_selection_sequence.Given as goal

abbrev pub decreases-bracket : goal.decreases-bracket
decreases-bracket l = 4 * l.depth

abbrev pub decreases-element : goal.decreases-element
decreases-element l = 4 * l.depth + 1

abbrev pub decreases-selection : goal.decreases-selection
decreases-selection l = 4 * l.depth + 2

abbrev pub decreases-sequence : goal.decreases-sequence
decreases-sequence l = 4 * l.depth + 3

abbrev pub invariant-selection-loop-token : goal.invariant-selection-loop-token
invariant-selection-loop-token l = Went l.fn.self l.self (behind (standing l.fn.self))

abbrev pub decreases-selection-loop-token : goal.decreases-selection-loop-token
decreases-selection-loop-token l = 1088 - length (contents l.self.tokens.now)

abbrev pub invariant-sequence-loop-token : goal.invariant-sequence-loop-token
invariant-sequence-loop-token l = Went l.fn.self l.self (behind (standing l.fn.self)) × NotAhead Comma l.self.ahead

abbrev pub decreases-sequence-loop-token : goal.decreases-sequence-loop-token
decreases-sequence-loop-token l = 1088 - length (contents l.self.tokens.now)
