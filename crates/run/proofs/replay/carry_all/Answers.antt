use Rattle.std.proofs.Common.{◌≡◌, ◌-◌, ◌<◌, ◌≤◌, length, drop, sym, ap, ◌∙◌, arith}
use borrow.Rule.Slice.PartMut.{mid_len}
use Rattle.std.proofs.lemmas.List.{take_rest, set-get_or}
use Rattle.std.proofs.lemmas.Bool.{ltb-true, ltb-false}
use Rattle.run.proofs.Carrying.{part_long, going_start, going_more, going_all}
use Rattle.run.proofs.replay.carry_all.Goals as goal

pub loop-i-init : goal.loop-i-init
loop-i-init g c = record { turns = omega arith; within = omega arith; going = λ t s. going_start t _ _ _ _ _ _ s }

pub loop-i-preserved : goal.loop-i-preserved
loop-i-preserved g c =
    let now = c.loop-i.invariant in
    let l = c.loop-i.list in
    let u = c.loop-i.used in
    let one = c.carry-answer.ensures in
    let mid = mid_len u (length l) l (omega arith) in
    let same : length c.carry-answer.new.list ≡ length l - u = c.carry-answer.auto.list ∙ mid in
    let few : c.carry-answer.result.1 ≤ length l - u = (let h = one.within in omega (arith, h, mid)) in
    let there : c.loop-i.i < length c.args.calls.now = ltb-true c.loop-i.i _ (sym c.in-Some.ensures.lookup.0) in
    record {
      turns = omega arith;
      within = omega (arith, part_long l c.carry-answer.new.list u now.within same);
      going = λ t s. going_more t g.R.Room.places g.R.Room.rule c.args.calls.now c.args.answers.now c.args.list.now c.loop-i.answers l c.carry-answer.new.list c.loop-i.run c.carry-answer.new.run c.loop-i.i u c.carry-answer.result.1 _ c.in-Some.call.now c.carry-answer.result.0
          there c.in-Some.ensures.lookup.1 (omega arith) (now.going t s) now.within same (omega arith) mid one.carried (one.rest ∙ ap (drop c.carry-answer.result.1) (take_rest l u));
    }

pub returns-in_default : goal.returns-in_default
returns-in_default g c =
    rw set-get_or (record { carried = λ t s. going_all t g.R.Room.places g.R.Room.rule c.args.calls.now c.args.answers.now c.args.list.now c.loop-i.answers c.loop-i.list _ c.loop-i.i c.loop-i.used (let few = c.loop-i.invariant.turns in let past : length c.args.calls.now ≤ c.loop-i.i = ltb-false c.loop-i.i _ (sym c.in_default.ensures.lookup.0) in omega arith) (c.loop-i.invariant.going t s) })

pub returns : goal.returns
returns g c =
    record { carried = λ t s. going_all t g.R.Room.places g.R.Room.rule c.args.calls.now c.args.answers.now c.args.list.now c.loop-i.answers c.loop-i.list _ c.loop-i.i c.loop-i.used (let few = c.loop-i.invariant.turns in omega arith) (c.loop-i.invariant.going t s) }
