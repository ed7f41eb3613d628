use Rattle.reading.proofs.Going.{then_err, whole_path}
use Rattle.reading.proofs.Reading.path.Goals as goal

pub returns-in_err-sequence : goal.returns-in_err-sequence
returns-in_err-sequence c =
    record {
      path = then_err c.args.self.now c.take.new.self _ _ c.in_err-sequence.field-0.0 _ c.from_residual-in_err-sequence.ensures.1 c.in_ok-take.ensures.taken.onward c.in_err-sequence.ensures.sequence;
    }

pub returns : goal.returns
returns c =
    record {
      path = whole_path c.args.self.now c.take.new.self c.sequence.new.self _ c.take-2.result c.requires c.in_ok-take.ensures.taken c.in_ok-sequence.ensures.sequence c.take-2.ensures.taken;
    }
