use Rattle.std.proofs.Common.{◌∙◌, ap, arith}
use Rattle.std.specs.Iterator.Adapters.{enumerate_source, enumerate_count}
use Rattle.input.specs.Told.{unread}
use Rattle.unit.proofs.Adding.{added_line, going_start, going_more, going_all}
use Rattle.unit.proofs.rulings.add_rulings.Goals as goal

pub loop-i-init : goal.loop-i-init
loop-i-init g c =
    let same = c.into_iter-i-iterator.ensures.into_iter_gives in
    let lines = c.enumerate-i-items.ensures in
    λ t read reached. going_start g.R.Room.places _ t _ _ _ _ _ _ _ (ap (λ s. unread (enumerate_source s)) same ∙ ap unread lines.source ∙ c.new.ensures.bytes) (ap enumerate_count same ∙ lines.count) reached

pub loop-i-preserved : goal.loop-i-preserved
loop-i-preserved g c =
    let next = c.in-Some.ensures.steps in
    λ t read reached. going_more g.R.Room.places _ t _ _ _ _ _ _ _ _ _ _ _ _ _ _ read (c.loop-i.invariant t read reached) next.0 next.1 next.2 (added_line g.R.Room.places _ _ _ _ _ _ _ _ _ _ _ _ _ c.rule_line-printed.result c.rule_line-printed.ensures.checked (omega arith) c.rule_line-printed.ensures.ruled c.in_ok-add.ensures.added)

pub returns : goal.returns
returns g c = record { added = λ t read reached. going_all g.R.Room.places _ t _ _ _ _ _ _ _ _ (c.loop-i.invariant t read reached) c.in-None.ensures.steps.0.0 }
