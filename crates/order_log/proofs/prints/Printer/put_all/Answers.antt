use Rattle.std.proofs.Common.{[], length, ap, arith}
use Rattle.std.specs.List.{flat_map}
use Rattle.std.proofs.lemmas.List.{take_all}
use Rattle.page.proofs.Fill.{same_bytes}
use Rattle.print.proofs.Joined.{piece_length, written_next}
use Rattle.run.specs.Says.{nobody}
use Rattle.order_log.specs.Print.{let_in_line}
use Rattle.order_log.specs.Answers.{name_of}
use Rattle.order_log.proofs.prints.Printer.put_all.Goals as goal

pub loop-one-preserved : goal.loop-one-preserved
loop-one-preserved c =
    let f = let_in_line (name_of c.args.self.names) c.args.self.number in
    let here = c.loop-one-test.true in (
      written_next f [] c.args.list.now c.loop-one.one-index _ here c.loop-one.invariant.0 c.put_ticket-at.ensures.written,
      λ r. omega (arith, c.loop-one.invariant.1 r, c.put_ticket-at.ensures.short r, piece_length f [] c.args.list.now c.loop-one.one-index nobody here),
    )

pub returns : goal.returns
returns c =
    let all = ap (flat_map (let_in_line (name_of c.args.self.names) c.args.self.number)) (take_all c.loop-one.one-index c.args.list.now c.loop-one-test.false) in
    record { written = same_bytes all c.loop-one.invariant.0; short = λ r. omega (arith, c.loop-one.invariant.1 r, ap length all) }
