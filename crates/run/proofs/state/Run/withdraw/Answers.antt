use Rattle.std.proofs.lemmas.Result.{err_from_is_err_and}
use Rattle.run.proofs.Withdrawals.{withdraws_one, withdraws_nothing}
use Rattle.run.proofs.state.Run.withdraw.Goals as goal

pub returns-in_err-operation-clause-says : goal.returns-in_err-operation-clause-says
returns-in_err-operation-clause-says g c =
    let p = err_from_is_err_and c.from_residual.result c.from_residual.ensures.1 in
    rw (← c.self.view_is) (rw (p.1, p.2) (withdraws_nothing g.R.Room.places g.R.Room.rule _ _ _ _ _ c.drop_ticket.result _ c.in_err-operation.ensures.value c.drop_ticket.ensures.says c.drop_ticket.ensures.absent (λ same. (cc))))

pub returns-clause-says : goal.returns-clause-says
returns-clause-says g c = rw (← c.self.view_is) (withdraws_one g.R.Room.places g.R.Room.rule _ _ _ _ c.drop_ticket.new.self _ c.drop_ticket.result _ c.in_ok-operation.ensures.value c.drop_ticket.ensures.says c.drop_ticket.ensures.remembers (let more = c.saturating_add-self-inside.ensures in cc))
