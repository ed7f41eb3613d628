use Rattle.std.proofs.Common.{refl}
use Rattle.run.proofs.Openings.{totaled}
use Rattle.run.proofs.state.Run.apart.Goals as goal

pub returns-clause-totals : goal.returns-clause-totals
returns-clause-totals g c = rw (← c.self.view_is) (λ t rs s. totaled t g.R.Room.rule _ rs _ s refl c.saturating_sub.ensures c.count.ensures.counts refl refl)
