use Rattle.std.proofs.Common.{arith, refl}
use borrow.Author.Tests.{clash}
use Rattle.input.proofs.Cuts.{rest_within, going_more, cut_at_mark, mark_between, cut_at_end}
use Rattle.input.proofs.cut.split.Goals as goal

pub returns-then-is_mark-clause-cut : goal.returns-then-is_mark-clause-cut
returns-then-is_mark-clause-cut c = let now = c.loop-line.invariant in cut_at_mark _ _ now.1 _ now.0 _ _ c.in-Some.ensures.steps (c.if-is_mark.ensures.mark.0 refl)

pub returns-then-is_mark-clause-order : goal.returns-then-is_mark-clause-order
returns-then-is_mark-clause-order c = let now = c.loop-line.invariant in mark_between _ _ now.1 _ now.0 _ _ c.in-Some.ensures.steps

pub loop-line-preserved : goal.loop-line-preserved
loop-line-preserved c =
    let more = going_more _ _ c.loop-line.invariant.1 _ _ c.in-Some.ensures.steps (λ e. clash (c.if-is_mark.ensures.mark.1 e)) in
    (omega (arith, rest_within _ _ more), more)

pub returns-clause-cut : goal.returns-clause-cut
returns-clause-cut c = let end = c.in_default.ensures.steps in cut_at_end _ _ c.loop-line.invariant.1 end.0 _ end.1
