use Rattle.std.proofs.Common.{rules, refl}
use Rattle.tokens.specs.declared.Kind.TheVariants.{Semicolon, Comma}
use Rattle.reading.specs.State.{StuckWith}
use Rattle.reading.proofs.Went.{refuse}
use Rattle.reading.proofs.Going.{onward_both, then_err, deeper, around, again}
use Rattle.reading.proofs.Reading.+element_bracket_selection_sequence.Goals as goal

-- ---- a bracket
pub bracket-overflow_sub-depth : goal.bracket-overflow_sub-depth
bracket-overflow_sub-depth t c =
    (deeper c.args.depth c.args.self.now c.advance.new.self c.args.token c.args.close c.requires.awaits c.requires.opens c.in_ok-advance.ensures.advanced).0

pub bracket-sequence-requires : goal.bracket-sequence-requires
bracket-sequence-requires t c =
    let k = deeper c.args.depth c.args.self.now c.advance.new.self c.args.token c.args.close c.requires.awaits c.requires.opens c.in_ok-advance.ensures.advanced in
    (let z = k.0 in search rules, k.1)

pub bracket-returns-in_err-sequence : goal.bracket-returns-in_err-sequence
bracket-returns-in_err-sequence t c =
    record { bracket = then_err c.args.self.now c.advance.new.self _ _ c.in_err-sequence.field-0.0 _ c.from_residual-in_err-sequence.ensures.1 c.in_ok-advance.ensures.advanced.onward c.in_err-sequence.ensures.sequence }

pub bracket-returns : goal.bracket-returns
bracket-returns t c =
    record {
      bracket = around c.args.depth c.args.self.now c.advance.new.self c.args.token c.args.close c.requires.awaits c.requires.opens c.in_ok-advance.ensures.advanced
          c.sequence.new.self _ c.take.result c.in_ok-sequence.ensures.sequence c.take.ensures.taken;
    }

-- ---- an element
pub element-returns-in_default : goal.element-returns-in_default
element-returns-in_default t c =
    let s : StuckWith c.args.self.now c.args.self.now.ahead = search rules in
    record { element = rw c.into.ensures (refuse c.args.self.now c.refusal.result c.refusal.ensures.refused s) }

-- ---- a selection
pub selection-returns-in_err-advance-clause-selection : goal.selection-returns-in_err-advance-clause-selection
selection-returns-in_err-advance-clause-selection t c =
    then_err c.args.self.now c.loop-token.self _ _ c.in_err-advance.field-0.0 _ c.from_residual-in_err-advance.ensures.1 c.loop-token.invariant.onward c.in_err-advance.ensures.advanced

pub selection-loop-token-preserved : goal.selection-loop-token-preserved
selection-loop-token-preserved t c =
    again c.args.depth c.args.self.now c.loop-token.self c.advance.new.self c.element-in-Some.new.self c.in-Some.token Comma c.requires (λ bs n. refl) c.loop-token.invariant
    c.in-Some.ensures.ahead.1 c.in_ok-advance.ensures.advanced c.in_ok-element-2.ensures.element

pub selection-returns-in_err-element-2-clause-selection : goal.selection-returns-in_err-element-2-clause-selection
selection-returns-in_err-element-2-clause-selection t c =
    let o = onward_both c.args.self.now c.loop-token.self c.advance.new.self c.loop-token.invariant.onward c.in_ok-advance.ensures.advanced.onward in
    then_err c.args.self.now c.advance.new.self _ _ c.in_err-element-2.field-0.0 _ c.from_residual-in_err-element-2.ensures.1 o c.in_err-element-2.ensures.element

-- ---- a sequence
pub sequence-returns-in_err-advance-clause-sequence : goal.sequence-returns-in_err-advance-clause-sequence
sequence-returns-in_err-advance-clause-sequence t c =
    then_err c.args.self.now c.loop-token.self _ _ c.in_err-advance.field-0.0 _ c.from_residual-in_err-advance.ensures.1 c.loop-token.invariant.0.onward c.in_err-advance.ensures.advanced

pub sequence-loop-token-preserved : goal.sequence-loop-token-preserved
sequence-loop-token-preserved t c = (
  again c.args.depth c.args.self.now c.loop-token.self c.advance.new.self c.selection-in-Some.new.self c.in-Some.token Semicolon c.requires (λ bs n. refl) c.loop-token.invariant.0
      c.in-Some.ensures.ahead.1 c.in_ok-advance.ensures.advanced c.in_ok-selection-2.ensures.selection,
  c.in_ok-selection-2.ensures.over,
)

pub sequence-returns-in_err-selection-2-clause-sequence : goal.sequence-returns-in_err-selection-2-clause-sequence
sequence-returns-in_err-selection-2-clause-sequence t c =
    let o = onward_both c.args.self.now c.loop-token.self c.advance.new.self c.loop-token.invariant.0.onward c.in_ok-advance.ensures.advanced.onward in
    then_err c.args.self.now c.advance.new.self _ _ c.in_err-selection-2.field-0.0 _ c.from_residual-in_err-selection-2.ensures.1 o c.in_err-selection-2.ensures.selection
