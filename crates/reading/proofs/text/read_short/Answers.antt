use Rattle.std.proofs.Common.{◌∙◌, ℕ, List, length, drop, sym, ap, subst, rules}
use Rattle.std.proofs.lemmas.Result.{err_from_is_err_and}
use Rattle.tokens.specs.declared.Token.{Token}
use Rattle.tokens.specs.Reader as reader
use Rattle.rules.specs.Names.{firsts, terminals}
use Rattle.rules.specs.Rules.{Kept}
use Rattle.rules.proofs.Decided.{kept_nil}
use Rattle.reading.specs.Standing.{Follows, Counted}
use Rattle.reading.proofs.Judging.{first, none_counted, failed, whole}
use Rattle.reading.proofs.text.read_short.Goals as goal

pub invariant_of-reading : goal.invariant_of-reading
invariant_of-reading c =
    let text = c.args.text.now in
    let s = c.new-source.ensures in
    let n = c.next_token-ahead.ensures in
    let p = c.next_token-ahead.new.self.place in
    let o = c.next_token-ahead.result in
    let none = sym c.requires.no_tokens in
    record {
      short = c.requires.short;
      token_places = c.requires.enough.0;
      name_places = c.requires.enough.1;
      one_text = n.text ∙ s.text;
      follows = subst (λ (before : List Token). Follows text before p o) none
          (first text c.new-source.result.place p o s.place
          (subst (λ (bs : List ℕ). reader.Found (reader.next c.new-source.result.place (drop c.new-source.result.place bs)) o) s.text n.found)
          (subst (λ (bs : List ℕ). reader.Moved (length bs) c.new-source.result.place p o) s.text n.moved));
      kept = subst (λ (ts : List Token). Kept (terminals text ts)) none kept_nil;
      listed = c.requires.no_names ∙ ap (firsts text) none;
      counted = subst (λ (ts : List Token). Counted c.new.result (terminals text ts)) none (none_counted c.new.result c.new.ensures.none);
    }

pub returns-in_err-paths-clause-answered : goal.returns-in_err-paths-clause-answered
returns-in_err-paths-clause-answered c =
    let p = err_from_is_err_and c.from_residual.result c.from_residual.ensures.1 in
    rw (p.1, p.2)
    (failed _ c.paths.new.self c.args.tokens.now _ c.args.names.now _ c.in_err-paths.field-0.0 c.requires.enough c.in_err-paths.ensures.paths (search rules) (search rules))

pub returns-clause-answered : goal.returns-clause-answered
returns-clause-answered c =
    let k = c.counted.ensures in (
      c.requires.enough,
      whole _ c.paths.new.self _ _ c.counted.result c.in_ok-paths.ensures.paths c.in_ok-paths.ensures.over k.paths k.names k.occurrences (search rules) (search rules),
    )
