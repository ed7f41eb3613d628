use Rattle.std.proofs.Common.{ap, ◌∙◌}
use Rattle.std.proofs.lemmas.Result.{err_from_is_err_and}
use Rattle.run.specs.Memory.{View, one_more}
use Rattle.run.proofs.Begins.{due, begins_in, begins_waiting, begins_refused}
use Rattle.run.proofs.state.Run.begin.Goals as goal

pub returns-then-could_join-clause-says : goal.returns-then-could_join-clause-says
returns-then-could_join-clause-says g c =
    let v = c.args.self.now in
    let new = due v c.in_ok-may_begin.ensures.says c.in_ok-may_begin.ensures.within (c.saturating_add-ticket.ensures ∙ ap (λ (v : View g.row.R.Denot). one_more v.accepted) c.self.view_is) in
    begins_in g.R.Room.places g.R.Room.rule v _ _ _ new _ c.if-could_join.ensures (rw (← c.self-then-could_join.view_is) at c.go_in.ensures)

pub returns-in_err-put-clause-says : goal.returns-in_err-put-clause-says
returns-in_err-put-clause-says g c =
    let v = c.args.self.now in
    let new = due v c.in_ok-may_begin.ensures.says c.in_ok-may_begin.ensures.within (c.saturating_add-ticket.ensures ∙ ap (λ (v : View g.row.R.Denot). one_more v.accepted) c.self.view_is) in
    let p = err_from_is_err_and c.from_residual-in_err-put.result c.from_residual-in_err-put.ensures.1 in
    rw (p.1, p.2) (begins_refused g.R.Room.places g.R.Room.rule v _ _ _ new _ _ _ c.self.view_is c.if-could_join.ensures c.in_err-put.ensures.says (let same = c.in_err-put.ensures.refused in cc))

pub returns-clause-says : goal.returns-clause-says
returns-clause-says g c =
    let v = c.args.self.now in
    let new = due v c.in_ok-may_begin.ensures.says c.in_ok-may_begin.ensures.within (c.saturating_add-ticket.ensures ∙ ap (λ (v : View g.row.R.Denot). one_more v.accepted) c.self.view_is) in
    let put = c.in_ok-put.ensures in
    begins_waiting g.R.Room.places g.R.Room.rule v _ _ _ new _ _ _ _ c.self.view_is c.if-could_join.ensures put.says.1 put.says.2 put.remembers
