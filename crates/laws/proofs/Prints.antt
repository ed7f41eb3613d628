-- What is printed for an input is one.
use Rattle.std.proofs.Common.{◌≡◌, ℕ, List, ◌++◌, sym, ◌∙◌, subst, arith}
use Rattle.tokens.specs.declared.Name.{Name}
use Rattle.tokens.specs.Tokens.{tokens, name_bytes}
use Rattle.rules.specs.Names.{firsts}
use Rattle.rules.proofs.Within.{one_derivation, acceptance}
use Rattle.reading.specs.Faults.{fault_number}
use Rattle.rooms.specs.Rule.{Rule}
use Rattle.run.specs.declared.answer.Totals.{Totals}
use Rattle.run.specs.Closing.{Totaled}
use Rattle.run.specs.Law.{Told}
use Rattle.run.specs.Records.{Record}
use Rattle.run.proofs.Unique.{One}
use Rattle.print.specs.Lines.{doors_print}
use Rattle.input.proofs.Cuts.{one_cut}
use Rattle.input.proofs.Firsts.{one_list}
use Rattle.order_log.specs.Print.{total_line}
use Rattle.unit.specs.Output.{records, log_print, FaultPrinted, LogPrinted, TextPrints, at_fault, accepted, too_long, short}
use Rattle.laws.specs.Outputs.{OnePrint}
use Rattle.laws.proofs.Faults.{one_fault_printed}
use Rattle.laws.proofs.Rulings.{one_rulings}

-- records have one count: running are those let in less those ended
one_total : (rs : List Record) (a b : Totals) → Totaled rs a → Totaled rs b → a ≡ b
one_total rs a b x y =
    let running : a.running ≡ b.running = (let p = x.running in let q = y.running in omega arith) in
    λ i. record {
      accepted = (x.accepted ∙ sym y.accepted) i;
      running = running i;
      waiting = (x.waiting ∙ sym y.waiting) i;
      ended = (x.ended ∙ sym y.ended) i;
      withdrawn = (x.withdrawn ∙ sym y.withdrawn) i;
    }

module _ (places : ℕ) (rule : Rule) (one : One rule) where
  -- an accepted text with the lines of its log
  one_log : (text : List ℕ) (lines : List (List ℕ)) (out out' : List ℕ) → LogPrinted places rule text lines out → LogPrinted places rule text lines out' → out ≡ out'
  one_log text lines out out' x y =
      let names : List Name = firsts text (tokens text) in
      let tree : x.tree ≡ y.tree = one_derivation text x.tree y.tree x.derives y.derives in
      let told : Told x.tree places rule (records y.rulings) = subst (λ z. Told z places rule (records y.rulings)) (sym tree) y.told in
      let rulings : x.rulings ≡ y.rulings = one_rulings text names x.tree places rule one lines x.rulings y.rulings x.ruled y.ruled x.told told in
      let totals : x.totals ≡ y.totals = one_total (records x.rulings) x.totals y.totals x.totaled (subst (λ z. Totaled (records z) y.totals) (sym rulings) y.totaled) in
      x.printed ∙ (λ i. doors_print text (tree i) ++ (log_print (name_bytes text names) (rulings i) ++ total_line (totals i))) ∙ sym y.printed

  -- a text at fault is not accepted
  not_both : (text : List ℕ) (lines : List (List ℕ)) (out out' : List ℕ) → FaultPrinted text out → LogPrinted places rule text lines out' → ⊥
  not_both text lines out out' x y = (acceptance text).1 (y.tree, y.derives, y.within, y.short) (fault_number x.fault) x.place x.first

  one_text : (text log out out' : List ℕ) → TextPrints places rule text log out → TextPrints places rule text log out' → out ≡ out'
  one_text text log out out' (at_fault x) (at_fault y) = one_fault_printed text out out' x y
  one_text text log out out' (at_fault x) (accepted lines l y) = absurd (not_both text lines out out' x y)
  one_text text log out out' (accepted lines l x) (at_fault y) = absurd (not_both text lines out' out y x)
  one_text text log out out' (accepted lines l x) (accepted lines' l' y) =
      one_log text lines out out' x (subst (λ z. LogPrinted places rule text z out') (sym (one_list.same log lines lines' l l')) y)

  pub one_print : OnePrint places rule
  one_print input out out' (too_long l e) (too_long l' e') = e ∙ sym e'
  one_print input out out' (too_long l e) (short text log s c x) = absurd (omega arith)
  one_print input out out' (short text log s c x) (too_long l e) = absurd (omega arith)
  one_print input out out' (short text log s c x) (short text' log' s' c' y) =
      let (t, l) = one_cut.same input text text' log log' c c' in
      one_text text log out out' x (subst (λ z. TextPrints places rule z log out') (sym t) (subst (λ z. TextPrints places rule text' z out') (sym l) y))
