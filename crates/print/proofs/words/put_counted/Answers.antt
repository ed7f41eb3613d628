use Rattle.page.proofs.Fill.{written_more}
use Rattle.print.proofs.words.put_counted.Goals as goal

pub returns-clause-written : goal.returns-clause-written
returns-clause-written c = written_more (written_more c.put_byte-slash.ensures.written c.put.ensures.written) c.put_byte.ensures.written
