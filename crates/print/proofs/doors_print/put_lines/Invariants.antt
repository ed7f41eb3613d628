use Rattle.std.proofs.Common.{take}
use Rattle.std.specs.List.{flat_map}
use Rattle.doors.specs.Told.{told}
use Rattle.page.specs.Written.{Written}
use Rattle.print.specs.Lines.{line}
use Rattle.print.proofs.doors_print.put_lines.Given as goal

-- the lines so far
abbrev pub invariant-loop-occurrence : goal.invariant-loop-occurrence
invariant-loop-occurrence l = Written (flat_map (λ o. line l.names.text.now l.names.records.now (told o)) (take l.occurrence-index l.occurrences)) l.initial.page l.page l.at
