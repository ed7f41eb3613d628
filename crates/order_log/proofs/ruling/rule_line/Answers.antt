use Rattle.std.proofs.Common.{sym, arith, leb-true}
use Rattle.order_log.proofs.Told.{ruling_told}
use Rattle.order_log.proofs.ruling.rule_line.Goals as goal

pub returns-clause-ruled : goal.returns-clause-ruled
returns-clause-ruled g c =
    ruling_told g.R.Room.places _ _ _ _ _ _ _ _ _ _ _ _ c.ask-answer.result c.ask-answer.ensures.asked (omega arith) (leb-true 16384 _ (sym c.in_ok-check_page.ensures.checked)) c.put_answer.ensures.written c.put_answer.ensures.short
