-- Each answer to a line is that of its ruling.
use Rattle.std.proofs.Common.{◌≡◌, ℕ, ◌≤◌, List, [], length, take, drop, Ok, Err, Result, IsErrAnd, refl, ap, ◌∙◌, subst, arith}
use Rattle.std.specs.Result.{result_unwrap_or}
use Rattle.std.proofs.lemmas.Result.{err_from_is_err_and}
use Rattle.tokens.specs.declared.Name.{Name}
use Rattle.lines.specs.Lines.{begin as a_begin, end as an_end, withdraw as a_withdrawal, Meaning, Lawful, Faulty}
use Rattle.rooms.specs.Rule.{Rule}
use Rattle.run.specs.declared.answer.Begun.{Begun}
use Rattle.run.specs.declared.answer.LetIn.{LetIn}
use Rattle.run.specs.declared.fault.RunFault.{RunFault}
use Rattle.run.specs.Records.{begin, end, withdraw}
use Rattle.run.specs.Memory.{View, Carries, Keeps}
use Rattle.order_log.specs.declared.answer.Answer.{Answer}
use Rattle.order_log.specs.declared.fault.LogFault.{LogFault}
use Rattle.order_log.specs.declared.fault.LogFault.TheVariants.{Unlawful, UnknownName}
use Rattle.order_log.specs.Rulings.{unlawful, unknown, called, Names, Calls, begins, ends, withdraws, faulty, lawful}
use Rattle.order_log.specs.Answers.{answer, ReadNames, Asked}

-- what `?` answers for a fault
pub told : {f : LogFault} (r : Result Answer LogFault) → IsErrAnd r (λ e. e ≡ f) → r ≡ Err f
told r h = let p = err_from_is_err_and r h in p.1 ∙ ap Err p.2

module _ {R : Type 0} (places : ℕ) (rule : Rule) (text : List ℕ) (names : List Name) (line : List ℕ) (run : View R) (list : List LetIn) (r : Result Answer LogFault) where
  pub at_fault : (p : ℕ) → r ≡ Err (Unlawful p) → Faulty line p → Asked places rule text names line run run list list r
  at_fault p e f = rw e record { ruling = unlawful p; ruled = λ _. faulty f; answered = refl; carried = refl; listed = refl; within = omega arith; rest = refl; keeps = refl }

  -- a name that the text lacks
  pub at_name : (f : LogFault) (m : Meaning) → r ≡ Err f → f ≡ UnknownName → Lawful line m → (ReadNames names → Calls text names m unknown) → Asked places rule text names line run run list list r
  at_name f m e u l q = rw (e, u) record { ruling = unknown; ruled = λ n. lawful l (q n); answered = refl; carried = refl; listed = refl; within = omega arith; rest = refl; keeps = refl }

  pub at_begin : (run' : View R) (word : List ℕ) (rank a : ℕ) (b : Result Begun RunFault) → r ≡ answer (called (begin a rank b)) → Lawful line (a_begin word rank) → Names text names word a →
      Carries places rule run run' (begin a rank b) → Keeps b run run' → Asked places rule text names line run run' list list r
  at_begin run' word rank a (Ok b) e l n s k =
      rw e record { ruling = called (begin a rank (Ok b)); ruled = λ _. lawful l (begins n); answered = refl; carried = s; listed = refl; within = omega arith; rest = refl; keeps = k }
  at_begin run' word rank a (Err f) e l n s k =
      rw e record { ruling = called (begin a rank (Err f)); ruled = λ _. lawful l (begins n); answered = refl; carried = s; listed = refl; within = omega arith; rest = refl; keeps = k }

  pub at_end : (run' : View R) (list' : List LetIn) (word : List ℕ) (a : ℕ) (m : Result ℕ RunFault) → length list ≡ 256 → r ≡ answer (called (end a 256 (take (result_unwrap_or m 0) list') m)) → Lawful line (an_end word) → Names text names word a →
      Carries places rule run run' (end a (length list) (take (result_unwrap_or m 0) list') m) → result_unwrap_or m 0 ≤ length list → drop (result_unwrap_or m 0) list' ≡ drop (result_unwrap_or m 0) list → Keeps m run run' →
      Asked places rule text names line run run' list list' r
  at_end run' list' word a (Ok m) long e l n s w d k =
      let s' : Carries places rule run run' (end a 256 (take m list') (Ok m)) = subst (λ p. Carries places rule run run' (end a p (take m list') (Ok m))) long s in
      rw e record { ruling = called (end a 256 (take m list') (Ok m)); ruled = λ _. lawful l (ends n); answered = refl; carried = s'; listed = refl; within = omega arith; rest = d; keeps = k }
  at_end run' list' word a (Err f) long e l n s w d k =
      let s' : Carries places rule run run' (end a 256 [] (Err f)) = subst (λ p. Carries places rule run run' (end a p [] (Err f))) long s in
      rw e record { ruling = called (end a 256 [] (Err f)); ruled = λ _. lawful l (ends n); answered = refl; carried = s'; listed = refl; within = omega arith; rest = d; keeps = k }

  pub at_withdraw : (run' : View R) (u : ℕ) (a : Result ℕ RunFault) → r ≡ answer (called (withdraw u a)) → Lawful line (a_withdrawal u) →
      Carries places rule run run' (withdraw u a) → Keeps a run run' → Asked places rule text names line run run' list list r
  at_withdraw run' u (Ok a) e l s k =
      rw e record { ruling = called (withdraw u (Ok a)); ruled = λ _. lawful l withdraws; answered = refl; carried = s; listed = refl; within = omega arith; rest = refl; keeps = k }
  at_withdraw run' u (Err f) e l s k =
      rw e record { ruling = called (withdraw u (Err f)); ruled = λ _. lawful l withdraws; answered = refl; carried = s; listed = refl; within = omega arith; rest = refl; keeps = k }
