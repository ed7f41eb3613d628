use Rattle.std.proofs.Common.{sym, subst, arith}
use Rattle.std.proofs.lemmas.Result.{IfOk-weaker}
use Rattle.print.specs.Printed.{DoorsOf}
use Rattle.unit.proofs.Adding.{added}
use Rattle.unit.proofs.Printing.{run_added}
use Rattle.unit.proofs.whole.add_run.Goals as goal

pub returns : goal.returns
returns g c =
    let text = c.args.names.text.now in
    let names = c.args.names.records.now in
    record {
      added = IfOk-weaker c.add-2.result _ _
          (λ u last. run_added g.R.Room.places _ text c.args.log.now names c.args.translated.now c.args.occurrences.now _ _ c.close-totals.result _ _ _ _
          (λ t d. added _ _ _ _ _ c.print_doors-printed.result c.print_doors-printed.ensures.checked (omega arith) (c.print_doors-printed.ensures.whole t (subst (λ os. DoorsOf text names os t) (sym c.records.ensures.shown) d)) c.in_ok-add.ensures.added)
          c.open-run.ensures.opened c.in_ok-ruled.ensures.added c.close-totals.ensures.totals
          (added _ _ _ _ _ c.print_totals.result c.print_totals.ensures.checked (omega arith) c.print_totals.ensures.printed last))
          c.add-2.ensures.added;
    }
