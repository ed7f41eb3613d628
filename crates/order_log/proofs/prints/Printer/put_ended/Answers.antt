use Rattle.page.proofs.Fill.{written_more}
use Rattle.order_log.proofs.prints.Printer.put_ended.Goals as goal

pub returns-clause-written : goal.returns-clause-written
returns-clause-written c = written_more c.put_out-at.ensures.written c.put_all.ensures.written
