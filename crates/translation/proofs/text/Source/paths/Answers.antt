use Rattle.std.proofs.Common.{◌≡◌, length, Some, sym, refl, ◌∙◌, subst, rules}
use Rattle.table.proofs.Rest.{kept_both}
use Rattle.tokens.specs.declared.Kind.TheVariants.{Path}
use Rattle.translation.specs.declared.Translated.{Translated}
use Rattle.translation.specs.declared.steps.Place.{Place}
use Rattle.translation.specs.Trees.{first, PathsTold}
use Rattle.translation.proofs.Scan.{clash}
use Rattle.translation.proofs.Readers.{paths_none, paths_more}
use Rattle.translation.proofs.text.Source.paths.Goals as goal
use Rattle.translation.proofs.text.Source.paths.Goals.{in_default, in_default-2}

pub loop-between-preserved : goal.loop-between-preserved
loop-between-preserved c =
    let b = c.of_path-between.ensures in
    let g = c.semaphore_taken-inside.ensures in
    record {
      kept = kept_both c.args.out.now c.loop-between.out c.sequence-here.new.out c.loop-between.invariant.kept c.sequence-here.ensures.kept;
      told = λ r later others. c.loop-between.invariant.told r later
          (paths_more c.args.self.now c.loop-between.at c.loop-between.path c.of_path-between.result c.past.result c.semaphore_taken-inside.result
          c.sequence-here.result c.past-at.result c.after-path.result r c.loop-between.out c.sequence-here.new.out later
          (rw c.in-Some-Path.field-0-is at c.in-Some-Path.ensures.kind) c.past.ensures.past g.token g.semaphore g.counter b.path b.left b.right c.after-path.ensures.next
          c.sequence-here.ensures.kept c.sequence-here.ensures.told c.past-at.ensures.past others);
    }

pub returns-clause-told : goal.returns-clause-told
returns-clause-told c =
    let S = c.args.self.now in
    let r : Translated = record { names = length S.names.records.now; paths = c.from.result; semaphores = c.from-2.result; counters = c.from-3.result } in
    let no_path : c.kind_at.result ≡ Some Path → ⊥ =
    λ e. elim c.match-kind_at.branch [ in_default w ↦ search rules | in_default-2 w ↦ (let k = sym w.in_default.is ∙ e in clash (cc)) ] in
    let zero = c.default-at.ensures in
    let start : c.default-at.result ≡ first = λ i. record { token = zero.0 i; semaphore = zero.1.0 i; counter = zero.1.1 i } in
    subst (λ (p : Place). PathsTold S p 0 r c.args.out.now c.loop-between.out) start
    (c.loop-between.invariant.told r c.loop-between.out
    (paths_none S c.loop-between.at c.loop-between.path r c.loop-between.out (λ e. no_path (c.kind_at.ensures.kind ∙ e)) refl c.from.ensures c.from-2.ensures c.from-3.ensures))
