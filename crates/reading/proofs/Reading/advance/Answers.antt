use Rattle.std.proofs.Common.{◌∙◌, refl, arith, lt-ltb}
use Rattle.std.proofs.lemmas.Result.{err_from_is_err_and}
use Rattle.reading.proofs.Taking.{closable}
use Rattle.reading.proofs.Went.{room, passes, took}
use Rattle.reading.proofs.Reading.advance.Goals as goal

pub count-requires-clause-closable : goal.count-requires-clause-closable
count-requires-clause-closable c = closable c.args.self.now c.args.token c.requires

pub returns-in_err-count : goal.returns-in_err-count
returns-in_err-count c =
    let p = err_from_is_err_and c.from_residual.result c.from_residual.ensures.1 in
    record { advanced = rw (p.1, p.2) (passes c.args.self.now _ c.args.token c.requires c.in_err-count.field-0.0 c.in_err-count.ensures.counted refl refl refl) }

pub unwrap-requires : goal.unwrap-requires
unwrap-requires c = c.add.ensures.full ∙ lt-ltb _ _ (room c.args.self.now)

pub invariant_of-self-2 : goal.invariant_of-self-2
invariant_of-self-2 c =
    let r = c.args.self.now in
    let k = c.in_ok-count.ensures.counted in
    let a = c.add.ensures in
    let n = c.next_token-self.ensures in
    let w = took r c.args.token c.requires c.count.new.self c.count.new.names k c.add.new.self _ a.full a.records a.places c.next_token-self.new.self.place c.next_token-self.result n.found n.moved in
    record {
      short = r.short;
      token_places = omega (arith, w.tokens_kept.same.places, r.token_places);
      name_places = omega (arith, k.3.same.places, r.name_places);
      one_text = n.text ∙ r.one_text;
      follows = w.follows;
      kept = w.kept;
      listed = w.listed;
      counted = w.counted;
    }

pub returns : goal.returns
returns c =
    let r = c.args.self.now in
    let k = c.in_ok-count.ensures.counted in
    let a = c.add.ensures in
    let n = c.next_token-self.ensures in
    let w = took r c.args.token c.requires c.count.new.self c.count.new.names k c.add.new.self _ a.full a.records a.places c.next_token-self.new.self.place c.next_token-self.result n.found n.moved in
    record {
      advanced = record {
        onward = record { same_text = refl; same_tokens = refl; same_names = refl; tokens_kept = w.tokens_kept; names_kept = k.3 };
        stands = w.stands;
        further = w.further;
      };
    }
