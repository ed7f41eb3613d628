-- The rulings on the lines of a log are one.
use Rattle.std.proofs.Common.{◌≡◌, ℕ, List, [], ◌∷◌, ◌++◌, length, sym, refl, ap, ◌∙◌, subst, arith}
use Rattle.std.proofs.lemmas.List.{length-append, same_from_push}
use Rattle.paths.specs.Grammar.{Text}
use Rattle.tokens.specs.declared.Name.{Name}
use Rattle.lines.specs.Lines.{Meaning}
use Rattle.lines.proofs.Lawfuls.{one_meaning, one_verdict}
use Rattle.rooms.specs.Rule.{Rule}
use Rattle.run.specs.declared.call.Call.TheVariants as call
use Rattle.run.specs.Law.{Told}
use Rattle.run.specs.Records.{Record, begin, end, withdraw}
use Rattle.run.proofs.Unique.{One, one_next}
use Rattle.order_log.specs.Rulings.{Ruling, unlawful, unknown, called, Names, Foreign, Calls, no_begin, no_end, begins, ends, withdraws, Ruled, faulty, lawful, with_call}
use Rattle.unit.specs.Output.{records, RulesOn, none, one_more}

module _ (text : List ℕ) (names : List Name) where
  -- a word names one operation
  one_name : (word : List ℕ) (a b : ℕ) → Names text names word a → Names text names word b → a ≡ b
  one_name word a b n m = sym n.0 ∙ m.0

  -- no name is foreign
  not_foreign : {A : Type 0} (word : List ℕ) (a : ℕ) → Names text names word a → Foreign text names word → A
  not_foreign word a n f = absurd (omega arith)

  module _ (t : Text) (places : ℕ) (rule : Rule) (one : One rule) where
    told_before : (q : Ruling) (rs : List Record) → Told t places rule (with_call q rs) → Told t places rule rs
    told_before (unlawful p) rs told = told
    told_before unknown rs told = told
    told_before (called r) rs told = told.1

    -- a meaning has one ruling, after the same records
    one_call : (m : Meaning) (rs : List Record) (q q' : Ruling) → Calls text names m q → Calls text names m q' → Told t places rule (with_call q rs) → Told t places rule (with_call q' rs) → q ≡ q'
    one_call m rs q q' (no_begin f) (no_begin g) x y = refl
    one_call m rs q q' (no_begin {word = w} f) (begins {a = b} n) x y = not_foreign w b n f
    one_call m rs q q' (begins {word = w} {a = a} n) (no_begin f) x y = not_foreign w a n f
    one_call m rs q q' (begins {word = w} {rank = k} {a = a} {r = r} n) (begins {a = b} {r = s} n') x y =
        ap called (one_next t places rule one rs x.1 256 (begin a k r) (begin b k s) (ap (λ z. call.Begin z k) (one_name w a b n n')) tt tt x.0.says y.0.says)
    one_call m rs q q' (no_end f) (no_end g) x y = refl
    one_call m rs q q' (no_end {word = w} f) (ends {a = b} n) x y = not_foreign w b n f
    one_call m rs q q' (ends {word = w} {a = a} n) (no_end f) x y = not_foreign w a n f
    one_call m rs q q' (ends {word = w} {a = a} {ls = ls} {r = r} n) (ends {a = b} {ls = ks} {r = s} n') x y =
        ap called (one_next t places rule one rs x.1 256 (end a 256 ls r) (end b 256 ks s) (ap (λ z. call.End z) (one_name w a b n n')) refl refl x.0.says y.0.says)
    one_call m rs q q' (withdraws {ticket = u} {r = r}) (withdraws {r = s}) x y =
        ap called (one_next t places rule one rs x.1 256 (withdraw u r) (withdraw u s) refl tt tt x.0.says y.0.says)

    -- a line has one ruling, after the same records
    one_ruling : (line : List ℕ) (rs : List Record) (q q' : Ruling) → Ruled text names line q → Ruled text names line q' → Told t places rule (with_call q rs) → Told t places rule (with_call q' rs) → q ≡ q'
    one_ruling line rs q q' (faulty {place = p} f) (faulty {place = p'} g) x y = ap unlawful (one_verdict.place line p p' f g)
    one_ruling line rs q q' (faulty {place = p} f) (lawful {meaning = m} l c) x y = absurd (one_verdict.apart line p (m, l) f)
    one_ruling line rs q q' (lawful {meaning = m} l c) (faulty {place = p} f) x y = absurd (one_verdict.apart line p (m, l) f)
    one_ruling line rs q q' (lawful {meaning = m} l c) (lawful {meaning = m'} l' c') x y =
        one_call m rs q q' c (subst (λ z. Calls text names z q') (sym (one_meaning line m m' l l')) c') x y

    no_line : (lines : List (List ℕ)) (line : List ℕ) → [] ≡ lines ++ (line ∷ []) → ⊥
    no_line lines line e = let l = length-append lines (line ∷ []) in let k = ap length e in omega arith

    -- the lines have one list of rulings
    pub one_rulings : (lines : List (List ℕ)) (qs qs' : List Ruling) → RulesOn text names lines qs → RulesOn text names lines qs' → Told t places rule (records qs) → Told t places rule (records qs') → qs ≡ qs'
    one_rulings lines qs qs' none none x y = refl
    one_rulings lines qs qs' none (one_more {before = b} {line = l} e rules r) x y = absurd (no_line b l e)
    one_rulings lines qs qs' (one_more {before = b} {line = l} e rules r) none x y = absurd (no_line b l e)
    one_rulings lines qs qs' (one_more {before = b} {line = l} {ruling = q} {rulings = ps} e rules r) (one_more {before = b'} {line = l'} {ruling = q'} {rulings = ps'} e' rules' r') x y =
        let (before, last) = same_from_push b b' l l' (sym e ∙ e') in
        let tail : ps ≡ ps' =
        one_rulings b ps ps' rules (subst (λ z. RulesOn text names z ps') (sym before) rules') (told_before q (records ps) x) (told_before q' (records ps') y) in
        let head : q ≡ q' =
        one_ruling l (records ps) q q' r (subst (λ z. Ruled text names z q') (sym last) r') x (subst (λ z. Told t places rule (with_call q' (records z))) (sym tail) y) in
        λ i. head i ∷ tail i
