use Rattle.std.proofs.Common.{length, ap, ◌∙◌, fold, sym, refl, arith}
use Rattle.std.proofs.lemmas.List.{take_all}
use Rattle.doors.specs.Memory.{standing_of, row, through}
use Rattle.doors.proofs.Standings.{passed_more}
use Rattle.doors.proofs.Doors.pass.Goals as goal

pub loop-occurrence-preserved : goal.loop-occurrence-preserved
loop-occurrence-preserved g c =
    let invariant = c.loop-occurrence.invariant in
    record {
      passed = λ e does. passed_more e _ _ _ c.of-occurrence-items.result.now c.loop-occurrence.occurrence-index _ (omega arith) c.of-occurrence-items.ensures.few
          (invariant.passed e does) (does _ _ _ c.by.ensures);
      none = λ z. absurd (omega arith);
    }

pub returns-clause-passed : goal.returns-clause-passed
returns-clause-passed g c = λ e same does. record {
  rows = refl;
  levels = λ low.
      let from = standing_of c.args.self.now.levels in
      c.loop-occurrence.invariant.passed e does low ∙ ap (fold (through e) from) (take_all c.loop-occurrence.occurrence-index c.of-occurrence-items.result.now (omega arith)
      ∙ c.of-occurrence-items.ensures.row ∙ ap (row c.args.self.now.rows) (sym same));
}

pub returns-clause-unknown : goal.returns-clause-unknown
returns-clause-unknown g c = λ h.
    let none = c.loop-occurrence.invariant.none (omega (arith, ap length (c.of-occurrence-items.ensures.unknown h))) in
    λ i. record { rows = c.args.self.now.rows; levels = none i }
