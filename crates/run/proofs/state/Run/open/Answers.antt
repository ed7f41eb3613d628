use Rattle.std.proofs.Common.{refl, ap, ◌∙◌}
use Rattle.doors.specs.Told.{all_told}
use Rattle.run.proofs.Openings.{limited, opened}
use Rattle.run.proofs.state.Run.open.Goals as goal

pub returns : goal.returns
returns g c = record { opened = λ t w tr. opened t w _ _ tr g.R.Room.rule _ c.new.ensures.empty c.new.ensures.fresh (c.new-2.ensures.opened t (limited t w _ _ tr) (ap all_told c.records.ensures.shown ∙ tr.doors)) refl (let few = c.min.ensures in cc) refl refl refl refl }
