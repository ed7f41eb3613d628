use Rattle.std.proofs.Common.{◌∙◌}
use Rattle.std.proofs.lemmas.Result.{IfOk-weaker}
use Rattle.unit.specs.Output.{too_long, short}
use Rattle.unit.proofs.whole.rule_input.Goals as goal

pub returns-in-Ok : goal.returns-in-Ok
returns-in-Ok g c = record { printed = IfOk-weaker c.rule_text.result _ _ (λ v p. short _ _ c.in-Ok.ensures.judged c.split-parts.ensures.cut p) c.rule_text.ensures.printed }

pub returns-in-Err : goal.returns-in-Err
returns-in-Err g c = record { printed = IfOk-weaker c.from_slice.result _ _ (λ v e. too_long c.in-Err.ensures.judged (e ∙ c.long_input_line.ensures.line)) c.from_slice.ensures.items }
