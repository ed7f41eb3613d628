use Rattle.std.proofs.Common.{◌≡◌, Some, sym, refl, ◌∙◌, arith, rules}
use Rattle.table.proofs.Rest.{kept_same, kept_both}
use Rattle.tokens.specs.declared.Kind.{Kind}
use Rattle.tokens.specs.declared.Kind.TheVariants.{RoundOpen, BraceOpen, Name}
use Rattle.tokens.specs.Tokens.{spelling}
use Rattle.translation.specs.Rows.{kinds_from, front}
use Rattle.translation.proofs.Scan.{clash}
use Rattle.translation.proofs.Lists.{kind_front, front_end, number_at, number_small}
use Rattle.translation.proofs.Readers.{selection_only, selection_more, sequence_last, sequence_more, element_name, element_round, element_brace, element_none, bracket_closed}
use Rattle.translation.proofs.text.Source.+bracket_element_selection_sequence.Goals as goal

same : (a b : Kind) → ◌≡◌ {A = _} (Some a) (Some b) → a ≡ b
same a b e = cc

pub bracket-returns-clause-told : goal.bracket-returns-clause-told
bracket-returns-clause-told t c =
    bracket_closed c.args.self.now c.args.depth c.in-Some.inner c.args.at c.args.between c.sequence-here.result c.past.result
    c.args.out.now c.sequence-here.new.out (omega (arith, c.in-Some.ensures)) c.sequence-here.ensures.told c.past.ensures.past

pub element-returns-in_default-clause-told : goal.element-returns-in_default-clause-told
element-returns-in_default-clause-told t c =
    let end = front_end c.args.self.now.tokens.now c.args.at.token c.in_default.ensures.token in
    element_none c.args.self.now c.args.depth c.args.at c.args.between c.args.at c.args.out.now _ (λ e. clash (cc (sym end ∙ e))) (λ e. clash (cc (sym end ∙ e))) (λ e. clash (cc (sym end ∙ e)))

pub element-returns-in_default-kind : goal.element-returns-in_default-kind
element-returns-in_default-kind t c =
    let token = c.in-Some.token in
    let is : (k : Kind) → front (kinds_from c.args.self.now.tokens.now c.args.at.token) ≡ Some k → token.kind ≡ k =
    λ k e. same token.kind k (kind_front c.args.self.now.tokens.now c.args.at.token token token.kind c.in-Some.ensures.token refl ∙ e) in
    record {
      forward = omega arith;
      kept = kept_same c.args.out.now;
      told = element_none c.args.self.now c.args.depth c.args.at c.args.between c.args.at c.args.out.now _
          (λ e. c.in_default-kind.not-Name (is Name e)) (λ e. c.in_default-kind.not-RoundOpen (is RoundOpen e)) (λ e. c.in_default-kind.not-BraceOpen (is BraceOpen e));
    }

pub element-returns-in-Name-clause-told : goal.element-returns-in-Name-clause-told
element-returns-in-Name-clause-told t c =
    let S = c.args.self.now in
    let name = c.in-Some.token in
    let o = c.occurrence.ensures in
    element_name S c.args.depth c.args.at c.args.between c.number.result c.occurrence.result c.past-next.result
    c.args.out.now c.note.new.out (kind_front S.tokens.now c.args.at.token name Name c.in-Some.ensures.token c.in-Name.is) c.past-next.ensures.past
    (λ n rest h few. c.number.ensures.number (omega (arith, number_small S (spelling S.names.text.now name))) ∙ number_at S c.args.at.token n rest h name c.in-Some.ensures.token.1)
    o.path o.operation o.left o.right c.note.ensures.added

pub element-returns-in-RoundOpen-clause-told : goal.element-returns-in-RoundOpen-clause-told
element-returns-in-RoundOpen-clause-told t c =
    let S = c.args.self.now in
    element_round S c.args.depth c.args.at c.args.between c.past-next.result c.bracket.result c.args.out.now c.bracket.new.out
    (kind_front S.tokens.now c.args.at.token c.in-Some.token RoundOpen c.in-Some.ensures.token c.in-RoundOpen.is) c.past-next.ensures.past c.bracket.ensures.told

pub element-returns-in-BraceOpen-clause-told : goal.element-returns-in-BraceOpen-clause-told
element-returns-in-BraceOpen-clause-told t c =
    let S = c.args.self.now in
    let b = c.inside_braces-inside.ensures in
    let g = c.counter_taken.ensures in
    let inner = c.bracket-in-BraceOpen in
    element_brace S c.args.depth c.args.at c.args.between c.inside_braces-inside.result c.past-next.result c.counter_taken.result inner.result c.args.out.now inner.new.out
    (kind_front S.tokens.now c.args.at.token c.in-Some.token BraceOpen c.in-Some.ensures.token c.in-BraceOpen.is) c.past-next.ensures.past
    b.path b.left b.right g.token g.semaphore g.counter inner.ensures.told

pub selection-returns-in_default : goal.selection-returns-in_default
selection-returns-in_default t c = record {
  forward = omega (arith, c.loop-here.invariant.forward, c.element-here.ensures.forward);
  kept = kept_both c.args.out.now c.loop-here.out c.element-here.new.out c.loop-here.invariant.kept c.element-here.ensures.kept;
  told = c.loop-here.invariant.told c.element-here.result c.element-here.new.out
      (selection_only c.args.self.now c.args.depth c.loop-here.start c.args.between c.element-here.result c.loop-here.out c.element-here.new.out
      (λ e. let k = c.in_default.ensures.kind ∙ e in search rules) c.element-here.ensures.told);
}

pub selection-returns-in_default-2-clause-kept : goal.selection-returns-in_default-2-clause-kept
selection-returns-in_default-2-clause-kept t c = kept_both c.args.out.now c.loop-here.out c.element-here.new.out c.loop-here.invariant.kept c.element-here.ensures.kept

pub selection-returns-in_default-2-clause-told : goal.selection-returns-in_default-2-clause-told
selection-returns-in_default-2-clause-told t c =
    c.loop-here.invariant.told c.element-here.result c.element-here.new.out
    (selection_only c.args.self.now c.args.depth c.loop-here.start c.args.between c.element-here.result c.loop-here.out c.element-here.new.out
    (λ e. let k = sym c.in_default.is ∙ c.kind_at.ensures.kind ∙ e in clash (cc)) c.element-here.ensures.told)

pub selection-loop-here-preserved : goal.selection-loop-here-preserved
selection-loop-here-preserved t c = record {
  forward = omega (arith, c.loop-here.invariant.forward, c.element-here.ensures.forward, c.past-start.ensures.past);
  kept = kept_both c.args.out.now c.loop-here.out c.element-here.new.out c.loop-here.invariant.kept c.element-here.ensures.kept;
  told = λ to after h. c.loop-here.invariant.told to after
      (selection_more c.args.self.now c.args.depth c.loop-here.start c.args.between c.element-here.result c.past-start.result to
      c.loop-here.out c.element-here.new.out after (rw c.in-Some-Comma.field-0-is at c.in-Some-Comma.ensures.kind) c.past-start.ensures.past
      c.element-here.ensures.kept c.element-here.ensures.told h);
}

pub sequence-loop-semaphore-preserved : goal.sequence-loop-semaphore-preserved
sequence-loop-semaphore-preserved t c =
    let l = c.loop-semaphore in
    let b = c.before-in-Some.ensures in
    let d = c.behind-part.ensures in
    let g = c.semaphore_taken-start.ensures in
    record {
      forward = omega (arith, l.invariant.forward, c.selection-here.ensures.forward, c.past.ensures.past, g.token);
      kept = kept_both c.args.out.now l.out c.selection-here.new.out l.invariant.kept c.selection-here.ensures.kept;
      told = λ to after h. l.invariant.told to after
          (sequence_more c.args.self.now c.args.depth l.start l.part c.before-in-Some.result c.behind-part.result
          c.in-Some.semaphore c.selection-here.result c.past.result c.semaphore_taken-start.result to l.out c.selection-here.new.out after
          c.in-Some.ensures.found b.path b.left b.right d.path d.left d.right c.past.ensures.past g.token g.semaphore g.counter
          c.selection-here.ensures.kept c.selection-here.ensures.told h);
    }

pub sequence-returns-clause-kept : goal.sequence-returns-clause-kept
sequence-returns-clause-kept t c = kept_both c.args.out.now c.loop-semaphore.out c.selection.new.out c.loop-semaphore.invariant.kept c.selection.ensures.kept

pub sequence-returns-clause-told : goal.sequence-returns-clause-told
sequence-returns-clause-told t c =
    c.loop-semaphore.invariant.told c.selection.result c.selection.new.out
    (sequence_last c.args.self.now c.args.depth c.loop-semaphore.start c.loop-semaphore.part
    c.selection.result c.loop-semaphore.out c.selection.new.out c.in_default.ensures.found c.selection.ensures.told)
