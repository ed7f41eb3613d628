use Rattle.std.proofs.Common.{◌-◌, length}
use Rattle.table.specs.declared.Table.{Table}
use Rattle.table.specs.Contents.{RestKept}
use Rattle.doors.specs.declared.Occurrence.{Occurrence}
use Rattle.translation.specs.declared.Translated.{Translated}
use Rattle.translation.specs.Trees.{PathsTold}
use Rattle.translation.proofs.text.Source.paths.Given as goal

-- what is left to translate completes the whole
abbrev pub invariant-loop-between : goal.invariant-loop-between
invariant-loop-between l = record {
  kept : RestKept l.initial.out l.out;
  told : (r : Translated) (after : Table Occurrence) → PathsTold l.self l.at l.path r l.out after → PathsTold l.self l.initial.at l.initial.path r l.initial.out after;
}

abbrev pub decreases-loop-between : goal.decreases-loop-between
decreases-loop-between l = length l.self.tokens.now - l.at.token
