-- What is printed for a text and its log, from what the steps tell.
use Rattle.std.proofs.Common.{◌≡◌, ℕ, ◌≤◌, List, [], ◌++◌, length, Err, sym, refl, ap, ◌∙◌, subst, inl, inr, append_assoc, arith}
use Rattle.table.specs.declared.Table.{Table}
use Rattle.table.specs.Contents.{contents, all_places}
use Rattle.paths.specs.Grammar.{Text}
use Rattle.tokens.specs.declared.Name.{Name}
use Rattle.tokens.specs.declared.Token.{Token}
use Rattle.tokens.specs.Tokens.{tokens, name_bytes}
use Rattle.rules.specs.Names.{firsts}
use Rattle.rules.specs.Rules.{Within}
use Rattle.rules.specs.Faults.{Derives}
use Rattle.rules.proofs.Numbers.{names_counted}
use Rattle.doors.specs.declared.Occurrence.{Occurrence}
use Rattle.reading.specs.declared.Read.{Read}
use Rattle.reading.specs.declared.ReadFault.{ReadFault}
use Rattle.reading.specs.declared.ReadFault.TheVariants.{Grammar, Rule as LimitPassed, TooFewPlaces}
use Rattle.reading.specs.Outcome.{TextRead, TextRefused, Answered}
use Rattle.translation.specs.declared.Translated.{Translated}
use Rattle.translation.specs.Translation.{Filled, Translates}
use Rattle.print.specs.Lines.{doors_print, fault_line}
use Rattle.print.specs.Printed.{DoorsOf}
use Rattle.print.proofs.Short.{short_name}
use Rattle.rooms.specs.Rule.{Rule}
use Rattle.run.specs.declared.answer.Totals.{Totals}
use Rattle.run.specs.Closing.{Totaled}
use Rattle.run.specs.Memory.{View, Reached}
use Rattle.run.specs.Records.{Record}
use Rattle.order_log.specs.Print.{total_line}
use Rattle.order_log.specs.Answers.{ReadNames}
use Rattle.unit.specs.Output.{records, log_print, FaultPrinted, TextPrints, at_fault, accepted}
use Rattle.unit.specs.Steps.{LogAdded, TreeTold, RunAdded}

-- ---- a run
read_names : (text : List ℕ) (t : Text) → Derives text t → Within t → ReadNames (firsts text (tokens text))
read_names text t d w = let few = w.names in record { few = omega (arith, few, names_counted text t d); short = short_name text }

-- four rows, one behind the other
rows : (as' bs cs ds : List ℕ) → ((as' ++ bs) ++ cs) ++ ds ≡ as' ++ (bs ++ (cs ++ ds))
rows as' bs cs ds = simp append_assoc

module _ (places : ℕ) (rule : Rule) (text log : List ℕ) (names : List Name) (translated : Translated) (occurrences : Table Occurrence) where
  pub run_added : {R : Type 0} (v w : View R) (totals : Totals) (out out₁ out₂ out₃ : List ℕ) →
      ((t : Text) → DoorsOf text names (contents occurrences) t → out₁ ≡ out ++ doors_print text t) →
      ((t : Text) → Within t → Translates t translated occurrences → Reached t rule v []) →
      ((t : Text) → ReadNames names → Reached t rule v [] → LogAdded places rule t text names log w out₁ out₂) →
      ((t : Text) (rs : List Record) → Reached t rule w rs → Totaled rs totals) →
      out₃ ≡ out₂ ++ total_line totals →
      (t : Text) → TreeTold text names translated occurrences t → RunAdded places rule text log out out₃
  run_added v w totals out out₁ out₂ out₃ doors opened ruled closed last t told =
      let all = firsts text (tokens text) in
      let shown = doors t (record { within = told.within; names_are = told.names_are; doors_are = told.translates.doors }) in
      let read : ReadNames names = subst ReadNames (sym told.names_are) (read_names text t told.derives told.within) in
      let rulings : LogAdded places rule t text all log w out₁ out₂ = subst (λ ns. LogAdded places rule t text ns log w out₁ out₂) told.names_are (ruled t read (opened t told.within told.translates)) in
      let s = rulings.so_far in
      record {
        lines = rulings.lines;
        of_log = rulings.of_log;
        bytes = doors_print text t ++ (log_print (name_bytes text all) rulings.rulings ++ total_line totals);
        printed = record {
          short = told.short;
          tree = t;
          derives = told.derives;
          within = told.within;
          rulings = rulings.rulings;
          ruled = s.ruled;
          told = s.told;
          totals = totals;
          totaled = closed t (records rulings.rulings) s.reached;
          printed = refl;
        };
        added = last ∙ ap (λ bs. bs ++ total_line totals) (s.printed ∙ ap (λ bs. bs ++ log_print (name_bytes text all) rulings.rulings) shown) ∙ rows out (doors_print text t) _ (total_line totals);
      }

  -- ---- a text
  pub text_printed : (token_table : Table Token) (name_table : Table Name) (read : Read) (out out' : List ℕ) → out ≡ [] → TextRead text token_table name_table read → names ≡ contents name_table →
      ((t : Text) → Filled text token_table name_table t → Translates t translated occurrences) →
      ((t : Text) → TreeTold text names translated occurrences t → RunAdded places rule text log out out') → TextPrints places rule text log out'
  text_printed token_table name_table read out out' e is same translates run =
      let (t, d, w, s) = is.derivable in
      let told = translates t (record { derives = d; within = w; tokens_are = is.tokens_are; names_are = is.names_are }) in
      let a = run t (record { short = s; derives = d; within = w; names_are = same ∙ is.names_are; translates = told }) in
      subst (TextPrints places rule text log) (sym (a.added ∙ ap (λ bs. bs ++ a.bytes) e)) (accepted a.lines a.of_log a.printed)

fault_told : (text : List ℕ) (ts : Table Token) (ns : Table Name) (f : ReadFault) → TextRefused text ts ns f → FaultPrinted text (fault_line f)
fault_told text ts ns f is = record { fault = f; place = is.tells.0; at_place = is.tells.1; first = (contents ts, is.tells.2); printed = refl }

fault_is : (text : List ℕ) (ts : Table Token) (ns : Table Name) (ts' : Table Token) (ns' : Table Name) (f : ReadFault) → Answered text ts ns ts' ns' (Err f) →
    1088 ≤ length (all_places ts) → 64 ≤ length (all_places ns) → FaultPrinted text (fault_line f)
fault_is text ts ns ts' ns' (Grammar g) is large wide = fault_told text ts' ns' (Grammar g) is.1
fault_is text ts ns ts' ns' (LimitPassed l p) is large wide = fault_told text ts' ns' (LimitPassed l p) is.1
fault_is text ts ns ts' ns' TooFewPlaces is large wide = absurd (elim is.0 [ inl h ↦ omega arith | inr h ↦ omega arith ])

pub fault_printed : (places : ℕ) (rule : Rule) (text log : List ℕ) (ts : Table Token) (ns : Table Name) (ts' : Table Token) (ns' : Table Name) (f : ReadFault) (out out' : List ℕ) →
    out ≡ [] → Answered text ts ns ts' ns' (Err f) → 1088 ≤ length (all_places ts) → 64 ≤ length (all_places ns) → out' ≡ out ++ fault_line f → TextPrints places rule text log out'
fault_printed places rule text log ts ns ts' ns' f out out' e is large wide a =
    subst (TextPrints places rule text log) (sym (a ∙ ap (λ bs. bs ++ fault_line f) e)) (at_fault (fault_is text ts ns ts' ns' f is large wide))
