use Rattle.reading.proofs.Going.{then_err, then_went}
use Rattle.reading.proofs.Reading.paths.Goals as goal

pub loop-self-preserved : goal.loop-self-preserved
loop-self-preserved c = then_went c.args.self.now c.loop-self.self c.path-in-loop-self.new.self _ c.loop-self.invariant.onward c.in_ok-path-2.ensures.path

pub returns-in_err-path-2-clause-paths : goal.returns-in_err-path-2-clause-paths
returns-in_err-path-2-clause-paths c =
    then_err c.args.self.now c.loop-self.self _ _ c.in_err-path-2.field-0.0 _ c.from_residual-in_err-path-2.ensures.1 c.loop-self.invariant.onward c.in_err-path-2.ensures.path
