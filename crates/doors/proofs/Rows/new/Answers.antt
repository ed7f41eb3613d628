use Rattle.std.proofs.Common.{ap, inl, inr, arith}
use Rattle.std.proofs.lemmas.Bool.{cases_lt}
use Rattle.std.proofs.lemmas.List.{get_or_past}
use Rattle.arrayvec.specs.ArrayVec.{ArrayVec}
use Rattle.doors.specs.declared.Occurrence.{Occurrence}
use Rattle.doors.proofs.Rows.new.Goals as goal

pub returns : goal.returns
returns c = record {
  empty = λ a. elim (cases_lt a 64) [
    | inl h ↦ c.default.ensures.at a _ h
    | inr h ↦ ap (λ (v : ArrayVec Occurrence). v.items) (get_or_past c.default.result a _ (omega (arith, c.default.ensures.long)))
  ];
}
