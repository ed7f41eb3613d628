use Rattle.std.proofs.Common.{Ok, Err, refl}
use Rattle.order_log.specs.Rulings.{no_begin, no_end}
use Rattle.order_log.proofs.Asked.{told, at_fault, at_name, at_begin, at_end, at_withdraw}
use Rattle.order_log.proofs.asking.ask.Goals as goal

pub returns-in_err-name : goal.returns-in_err-name
returns-in_err-name g c = record { asked = at_fault g.R.Room.places _ _ _ _ _ _ _ _ (told _ c.from_residual.ensures.1) c.in_err-name.ensures.judged }

pub returns-in_err-operation-in-Begin : goal.returns-in_err-operation-in-Begin
returns-in_err-operation-in-Begin g c =
    let n = c.in_err-operation-in-Begin.ensures.named in
    record { asked = at_name g.R.Room.places _ _ _ _ _ _ _ _ _ (told _ c.from_residual-in_err-operation-in-Begin.ensures.1) n.0 (rw c.in-Begin.is at c.in_ok-name.ensures.judged) (λ r. no_begin (n.1 r)) }

pub returns-in_err-operation-in-End : goal.returns-in_err-operation-in-End
returns-in_err-operation-in-End g c =
    let n = c.in_err-operation-in-End.ensures.named in
    record { asked = at_name g.R.Room.places _ _ _ _ _ _ _ _ _ (told _ c.from_residual-in_err-operation-in-End.ensures.1) n.0 (rw c.in-End.is at c.in_ok-name.ensures.judged) (λ r. no_end (n.1 r)) }

pub returns-in_err-begin-in-Begin : goal.returns-in_err-begin-in-Begin
returns-in_err-begin-in-Begin g c =
    let r = c.in_err-begin-in-Begin.ensures in
    record { asked = at_begin g.R.Room.places _ _ _ _ _ _ _ c.begin.new.self _ c.in-Begin.rank c.in_ok-operation-in-Begin.operation (Err c.in_err-begin-in-Begin.field-0.0) (told _ c.from_residual-in_err-begin-in-Begin.ensures.1) (rw c.in-Begin.is at c.in_ok-name.ensures.judged) c.in_ok-operation-in-Begin.ensures.named r.says r.keeps }

pub returns-in_ok-begin-in-Begin : goal.returns-in_ok-begin-in-Begin
returns-in_ok-begin-in-Begin g c =
    let r = c.in_ok-begin-in-Begin.ensures in
    record { asked = at_begin g.R.Room.places _ _ _ _ _ _ _ c.begin.new.self _ c.in-Begin.rank c.in_ok-operation-in-Begin.operation (Ok c.in_ok-begin-in-Begin.field-0) refl (rw c.in-Begin.is at c.in_ok-name.ensures.judged) c.in_ok-operation-in-Begin.ensures.named r.says r.keeps }

pub returns-in_err-end-in-End : goal.returns-in_err-end-in-End
returns-in_err-end-in-End g c =
    let r = c.in_err-end-in-End.ensures in
    record { asked = at_end g.R.Room.places _ _ _ _ _ _ _ c.end.new.self c.end.new.list _ c.in_ok-operation-in-End.operation (Err c.in_err-end-in-End.field-0.0) c.told-list (told _ c.from_residual-in_err-end-in-End.ensures.1) (rw c.in-End.is at c.in_ok-name.ensures.judged) c.in_ok-operation-in-End.ensures.named r.says r.within r.rest r.keeps }

pub returns-in_ok-end-in-End : goal.returns-in_ok-end-in-End
returns-in_ok-end-in-End g c =
    let r = c.in_ok-end-in-End.ensures in
    record { asked = at_end g.R.Room.places _ _ _ _ _ _ _ c.end.new.self c.end.new.list _ c.in_ok-operation-in-End.operation (Ok c.in_ok-end-in-End.field-0) c.told-list refl (rw c.in-End.is at c.in_ok-name.ensures.judged) c.in_ok-operation-in-End.ensures.named r.says r.within r.rest r.keeps }

pub returns-in_err-withdraw-in-Withdraw : goal.returns-in_err-withdraw-in-Withdraw
returns-in_err-withdraw-in-Withdraw g c =
    let r = c.in_err-withdraw-in-Withdraw.ensures in
    record { asked = at_withdraw g.R.Room.places _ _ _ _ _ _ _ c.withdraw.new.self c.in-Withdraw.ticket (Err c.in_err-withdraw-in-Withdraw.field-0.0) (told _ c.from_residual-in_err-withdraw-in-Withdraw.ensures.1) (rw c.in-Withdraw.is at c.in_ok-name.ensures.judged) r.says r.keeps }

pub returns-in_ok-withdraw-in-Withdraw : goal.returns-in_ok-withdraw-in-Withdraw
returns-in_ok-withdraw-in-Withdraw g c =
    let r = c.in_ok-withdraw-in-Withdraw.ensures in
    record { asked = at_withdraw g.R.Room.places _ _ _ _ _ _ _ c.withdraw.new.self c.in-Withdraw.ticket (Ok c.in_ok-withdraw-in-Withdraw.field-0) refl (rw c.in-Withdraw.is at c.in_ok-name.ensures.judged) r.says r.keeps }
