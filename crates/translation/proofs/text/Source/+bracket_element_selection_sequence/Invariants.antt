use Rattle.std.proofs.Common.{◌+◌, ◌-◌, ◌*◌, ◌≤◌, length}
use Rattle.table.specs.declared.Table.{Table}
use Rattle.table.specs.Contents.{RestKept}
use Rattle.doors.specs.declared.Occurrence.{Occurrence}
use Rattle.translation.specs.declared.steps.Place.{Place}
use Rattle.translation.specs.Trees.{SelectionTold, SequenceTold}
use Rattle.translation.proofs.text.Source.+bracket_element_selection_sequence.Given as goal

abbrev pub decreases-bracket : goal.decreases-bracket
decreases-bracket l = 4 * l.depth

abbrev pub decreases-element : goal.decreases-element
decreases-element l = 4 * l.depth + 1

abbrev pub decreases-selection : goal.decreases-selection
decreases-selection l = 4 * l.depth + 2

abbrev pub decreases-sequence : goal.decreases-sequence
decreases-sequence l = 4 * l.depth + 3

-- what is left to translate completes the whole
abbrev pub invariant-selection-loop-here : goal.invariant-selection-loop-here
invariant-selection-loop-here l = record {
  forward : l.initial.start.token ≤ l.start.token;
  kept : RestKept l.initial.out l.out;
  told : (to : Place) (after : Table Occurrence) → SelectionTold l.self l.depth l.start l.between to l.out after →
      SelectionTold l.self l.depth l.initial.start l.between to l.initial.out after;
}

abbrev pub decreases-selection-loop-here : goal.decreases-selection-loop-here
decreases-selection-loop-here l = length l.self.tokens.now - l.start.token

abbrev pub invariant-sequence-loop-semaphore : goal.invariant-sequence-loop-semaphore
invariant-sequence-loop-semaphore l = record {
  forward : l.initial.start.token ≤ l.start.token;
  kept : RestKept l.initial.out l.out;
  told : (to : Place) (after : Table Occurrence) → SequenceTold l.self l.depth l.start l.part to l.out after →
      SequenceTold l.self l.depth l.initial.start l.initial.part to l.initial.out after;
}

abbrev pub decreases-sequence-loop-semaphore : goal.decreases-sequence-loop-semaphore
decreases-sequence-loop-semaphore l = length l.self.tokens.now - l.start.token
