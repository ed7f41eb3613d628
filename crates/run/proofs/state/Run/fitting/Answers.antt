use Rattle.std.proofs.Common.{◌≡◌, false, replicate, ap, subst, ◌∙◌, arith}
use Rattle.std.proofs.lemmas.List.{length-take-le}
use Rattle.run.specs.Memory.{View}
use Rattle.run.proofs.Tables.{Filled, filled_none, filled_more, filled_all}
use Rattle.run.proofs.state.Run.fitting.Goals as goal

pub loop-a-init : goal.loop-a-init
loop-a-init g c = filled_none _ 0 _

pub loop-a-preserved : goal.loop-a-preserved
loop-a-preserved g c =
    let n : c.self.inside.operations ≡ c.args.self.now.operations = ap (λ (v : View g.row.R.Denot). v.operations) c.self.view_is in
    let long = length-take-le c.self.inside.operations (replicate 64 false) c.self.invariant in
    filled_more c.args.self.now c.loop-a.a c.loop-a.may-items c.loop-a.invariant c.could_join.result (omega (arith, c.loop-a-test.true)) (omega (arith, c.loop-a-test.true)) c.could_join.ensures

pub returns-clause-says : goal.returns-clause-says
returns-clause-says g c =
    let n : c.self.inside.operations ≡ c.args.self.now.operations = ap (λ (v : View g.row.R.Denot). v.operations) c.self.view_is in
    let long = length-take-le c.self.inside.operations (replicate 64 false) c.self.invariant in
    let all : c.loop-a.a ≡ c.self.inside.operations = omega (arith, c.loop-a-test.false) in
    filled_all c.args.self.now c.self.inside.operations c.loop-a.may-items (subst (λ k. Filled c.args.self.now k c.loop-a.may-items) all c.loop-a.invariant) (c.loop-a.auto.may-items ∙ long) n
