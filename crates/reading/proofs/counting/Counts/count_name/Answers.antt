use Rattle.std.proofs.Common.{rules, arith, refl}
use Rattle.reading.proofs.Marks.{own_more}
use Rattle.reading.proofs.counting.Counts.count_name.Goals as goal

pub returns : goal.returns
returns c =
    let more = own_more c.args.self.now.own in
    let low = c.if-number-ge64.false in
    record {
      counted = (
        search rules,
        record { paths = omega arith; occurrences = refl; brackets = omega arith; depth = omega arith; braces = omega arith; own = λ ns o. more ns c.args.number low o },
      );
    }
