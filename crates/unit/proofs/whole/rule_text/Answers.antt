use Rattle.std.proofs.Common.{arith, rules}
use Rattle.unit.proofs.Adding.{added}
use Rattle.unit.proofs.Printing.{text_printed, fault_printed}
use Rattle.unit.proofs.whole.rule_text.Goals as goal
use Rattle.unit.proofs.whole.rule_text.Goals.{in-Ok+in_ok-add_run-in-Ok, in-Err+in_ok-add-in-Err}

pub returns : goal.returns
returns g c = record {
  printed = elim c.match-read.branch [
    | in-Ok+in_ok-add_run-in-Ok w ↦
        text_printed g.R.Room.places _ c.args.text.now c.args.log.now w.records.result.now w.unwrap-translated.result w.translate.new.occurrences c.read.new.tokens c.read.new.names w.in-Ok.read _ _
        c.new-out.ensures.items w.in-Ok.ensures.answered.1 w.records.ensures.shown (rw w.unwrap-translated.ensures at w.translate.ensures.outcome).1 (rw w.out-is w.in_ok-add_run-in-Ok.ensures.added)
    | in-Err+in_ok-add-in-Err w ↦
        fault_printed g.R.Room.places _ c.args.text.now c.args.log.now c.new-tokens.result c.new-names.result c.read.new.tokens c.read.new.names w.in-Err.fault _ _
        c.new-out.ensures.items w.in-Err.ensures.answered (search rules) (search rules)
        (rw w.out-is (added _ _ _ _ _ w.print_fault.result w.print_fault.ensures.checked (omega arith) w.print_fault.ensures.printed w.in_ok-add-in-Err.ensures.added))
  ];
}
