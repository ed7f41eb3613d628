-- How a run begins and ends: no records at first, and the totals at last.
use Rattle.std.proofs.Common.{◌≡◌, ℕ, ◌-◌, ◌<◌, ◌≤◌, min, List, [], length, get_or, replicate, sym, refl, ap, ◌∙◌, subst, inl, inr, arith}
use Rattle.std.proofs.lemmas.List.{length-replicate, get_or-replicate, get_or_past}
use Rattle.std.proofs.lemmas.Bool.{ltb-true, lt-ltb, cases_lt}
use Rattle.paths.specs.Grammar.{Text, one, more}
use Rattle.paths.specs.Words.{no_word}
use Rattle.paths.specs.Texts.{FitsAll, names_of_text}
use Rattle.paths.proofs.Occs.{mem_among}
use Rattle.table.specs.declared.Table.{Table}
use Rattle.rules.specs.Rules.{Within}
use Rattle.rules.proofs.Within.{limits_count}
use Rattle.doors.specs.declared.Occurrence.{Occurrence}
use Rattle.doors.specs.Memory.{Tells, Limited}
use Rattle.translation.specs.declared.Translated.{Translated}
use Rattle.translation.specs.Translation.{Translates}
use Rattle.rooms.specs.Entries.{In}
use Rattle.rooms.specs.Rule.{Rule}
use Rattle.run.specs.declared.answer.Totals.{Totals}
use Rattle.run.specs.Closing.{Totaled}
use Rattle.run.specs.Memory.{View, Reached}
use Rattle.run.specs.Records.{Record}
use Rattle.run.specs.Says.{Known}
use Rattle.run.proofs.Sets.{in_none}
use Rattle.run.proofs.Steps.{few_ended}

-- the empty history fits every path
fits_nothing : (t : Text) → FitsAll t []
fits_nothing (one p) = ([], no_word refl)
fits_nothing (more p t) = (([], no_word refl), fits_nothing t)

module _ (t : Text) (w : Within t) (r : Translated) (os : Table Occurrence) (tr : Translates t r os) where
  few_names : r.names ≤ 64
  few_names = let e = tr.names in let l = w.names in omega arith

  named : (a : ℕ) → (a < r.names → Known t a) × (Known t a → a < r.names)
  named a = (λ l. tr.operations a ∙ lt-ltb a r.names l, λ k. ltb-true a r.names (sym (tr.operations a) ∙ k))

  -- the tree is one for which the doors have room
  pub limited : Limited t
  limited = record {
    proper = w.proper;
    few_paths = (limits_count t w).2;
    few_operations = λ a m. (let l = (named a).1 (mem_among a (names_of_text t) m) in let f = few_names in omega arith);
  }

  -- a run that has just been opened
  pub opened : {R : Type 0} (rule : Rule) (v : View R) → v.entries ≡ [] → v.memory ≡ rule.start → Tells v.doors t [] → v.running ≡ replicate 64 0 → v.operations ≡ min r.names 64 →
      v.accepted ≡ 0 → v.let_in ≡ 0 → v.ended ≡ 0 → v.withdrawn ≡ 0 → Reached t rule v []
  opened rule v empty fresh doors none all a b c d = (
    record {
      proper = w.proper;
      fits = fits_nothing t;
      doors = doors;
      waits = λ x. (λ i. subst (In x) empty i, λ i. subst (In x) (sym empty) i);
      many = ap length empty;
      distinct = tt;
      remembers = fresh;
      names = λ x. subst (λ n. (x < n → Known t x) × (Known t x → x < n)) (let f = few_names in let e : r.names ≡ v.operations = omega arith in e) (named x);
      known = λ x i. absurd (in_none x i);
      early = λ x i. absurd (in_none x i);
      long = ap length none ∙ length-replicate {A = ℕ} 64 0;
      each = λ x. (let e = ap (λ l. get_or l x 0) none ∙ zeros x in omega arith);
      accepted = a;
      let_in = b;
      ended = c;
      withdrawn = d;
      in_history = refl;
      out_history = refl;
      all = refl;
      limit = omega arith;
    },
    λ x i j. in_none x i,
  )
    where
      zeros : (x : ℕ) → ◌≡◌ {A = ℕ} (get_or (replicate 64 0) x 0) 0
      zeros x = elim (cases_lt x 64) [ inl l ↦ get_or-replicate 64 x 0 0 l | inr l ↦ get_or_past (replicate 64 0) x 0 l ]

-- the totals of a run
pub totaled : {R : Type 0} (t : Text) (rule : Rule) (v : View R) (rs : List Record) (r : Totals) → Reached t rule v rs →
    r.accepted ≡ v.accepted → r.running ≡ v.let_in - v.ended → r.waiting ≡ length v.entries → r.ended ≡ v.ended → r.withdrawn ≡ v.withdrawn → Totaled rs r
totaled t rule v rs r (m, calm) a b c d e =
    let few = few_ended t v _ m in
    let x = m.let_in in
    let y = m.ended in
    record {
      accepted = a ∙ m.accepted;
      running = omega arith;
      waiting = c ∙ m.many;
      ended = d ∙ m.ended;
      withdrawn = e ∙ m.withdrawn;
    }
