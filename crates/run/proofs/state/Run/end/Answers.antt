use Rattle.std.proofs.Common.{◌≡◌, length, set, inl, refl, arith}
use Rattle.std.proofs.lemmas.Grind.{common_steps}
use Rattle.std.proofs.lemmas.List.{set-get_or}
use Rattle.run.proofs.Ends.{turn, rest_turn, ends, listed}
use Rattle.run.proofs.state.Run.end.Goals as goal

pub loop-n-preserved : goal.loop-n-preserved
loop-n-preserved g c =
    let in' = c.in-Some.ensures in
    let now = c.loop-n.invariant in
    let l = c.loop-n.list in
    let n = c.loop-n.n in
    record {
      room = let fewer = in'.left.fewer in grind (arith, common_steps);
      rest = rest_turn l _ c.args.list.now n _ refl now.rest;
      ending = turn g.R.Room.rule g.met.R.Room.same g.met.R.Room.sound _ c.args.operation (length c.args.list.now) _ _ n l (set l n (listed c.in-Some.entry)) c.in-Some.entry (omega arith) in' refl now.ending;
    }

pub returns-in_default-clause-says : goal.returns-in_default-clause-says
returns-in_default-clause-says g c =
    let none = c.in_default.ensures in
    let says = ends g.R.Room.places g.R.Room.rule c.args.self.now _ _ _ c.args.operation _ c.loop-n.n c.loop-n.list c.in_ok-may_end.ensures.says c.in_ok-may_end.ensures.within c.go_out.ensures c.loop-n.invariant.ending (omega arith) none.0 none.1 in
    grind (arith, common_steps, set-get_or)

pub returns-clause-says : goal.returns-clause-says
returns-clause-says g c =
    let now = c.loop-n.invariant in
    let all : length c.loop-n.list ≡ c.loop-n.n = omega arith in
    rw all (ends g.R.Room.places g.R.Room.rule c.args.self.now _ c.loop-n.self _ c.args.operation _ c.loop-n.n c.loop-n.list c.in_ok-may_end.ensures.says c.in_ok-may_end.ensures.within c.go_out.ensures now.ending (omega arith) (inl (omega arith)) refl)
