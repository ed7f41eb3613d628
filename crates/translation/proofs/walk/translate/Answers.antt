use Rattle.std.proofs.Common.{length, drop, ap, refl, ◌∙◌, arith}
use Rattle.table.specs.Contents.{contents}
use Rattle.translation.proofs.Translating.{enough_room, translates}
use Rattle.translation.proofs.walk.translate.Goals as goal

pub returns-clause-outcome : goal.returns-clause-outcome
returns-clause-outcome c =
    let same = c.clear.ensures.places in
    let room = enough_room c.args.tokens.now c.args.names.now c.args.occurrences.now c.if-not-enough_places.ensures.enough in
    let kept = c.paths.ensures.kept.same in (
      record { places = kept.places ∙ ap length same; rest = kept.rest ∙ ap (drop (length (contents c.paths.new.out))) same },
      λ t f. translates c.args.text.now c.args.tokens.now c.args.names.now t f _ refl c.records.ensures.shown c.records-2.ensures.shown
          _ c.clear.new.self c.paths.new.out c.clear.ensures.empty (omega (arith, ap length same)) c.paths.ensures.told,
    )
