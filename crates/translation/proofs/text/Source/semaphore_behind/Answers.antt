use Rattle.std.proofs.Common.{◌≡◌, drop, sym, ap, ◌∙◌}
use Rattle.std.proofs.lemmas.List.{drop-map, take_rest}
use Rattle.tokens.specs.declared.Token.{Token}
use Rattle.translation.specs.Rows.{kinds}
use Rattle.translation.specs.Trees.{scan}
use Rattle.translation.proofs.text.Source.semaphore_behind.Goals as goal

pub returns-clause-found : goal.returns-clause-found
returns-clause-found c =
    let ts = c.args.self.now.tokens.now in
    let i = c.args.at.token in
    let rest : c.in_ok-get.field-0.now ≡ drop i ts = c.in_ok-get.ensures.lookup.0.2 ∙ take_rest ts i in
    c.semaphore_behind.ensures.found ∙ ap (scan 0 c.args.at.semaphore) (ap kinds rest ∙ sym (drop-map (λ (x : Token). x.kind) i ts))
