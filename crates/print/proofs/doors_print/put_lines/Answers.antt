use Rattle.std.proofs.Common.{[], sym, ap, ◌∙◌}
use Rattle.std.specs.List.{flat_map}
use Rattle.std.proofs.lemmas.List.{take_all}
use Rattle.std.proofs.lemmas.List.Folds.{flat_map-map}
use Rattle.doors.specs.Told.{told}
use Rattle.page.proofs.Fill.{same_bytes}
use Rattle.print.specs.Lines.{line}
use Rattle.print.proofs.Joined.{written_next}
use Rattle.print.proofs.doors_print.put_lines.Goals as goal

pub loop-occurrence-preserved : goal.loop-occurrence-preserved
loop-occurrence-preserved c = written_next _ [] c.args.occurrences.now c.loop-occurrence.occurrence-index _ c.loop-occurrence-test.true c.loop-occurrence.invariant c.put_occurrence-at.ensures.written

pub returns : goal.returns
returns c =
    let f = line c.args.names.text.now c.args.names.records.now in
    let os = c.args.occurrences.now in
    let all = take_all c.loop-occurrence.occurrence-index os c.loop-occurrence-test.false in
    record { written = same_bytes (ap (λ xs. flat_map (λ o. f (told o)) xs) all ∙ sym (flat_map-map f told os)) c.loop-occurrence.invariant }
