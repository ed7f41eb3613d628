use Rattle.std.proofs.lemmas.Result.{err_from_is_err_and}
use Rattle.reading.proofs.Judging.{long}
use Rattle.reading.proofs.text.read.Goals as goal

pub returns-in_err-check-clause-answered : goal.returns-in_err-check-clause-answered
returns-in_err-check-clause-answered c =
    let p = err_from_is_err_and c.from_residual.result c.from_residual.ensures.1 in
    let o = c.empty.ensures in
    let k = c.in_err-check.ensures.judged in
    rw (p.1, p.2)
    (long c.args.text.now c.args.tokens.now c.empty.new.tokens c.args.names.now c.empty.new.names c.in_err-check.field-0.0 c.if-not-enough_places.ensures.measured o.tokens o.names
    k.0 k.1)
