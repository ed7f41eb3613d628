-- What was printed for the answer is what is printed for the ruling.
use Rattle.std.proofs.Common.{◌≡◌, ℕ, ◌≤◌, List, ◌++◌, length, take, drop, Ok, Err, Result, sym, refl, ap, ◌∙◌, subst, arith}
use Rattle.std.proofs.lemmas.List.{take-append-drop, length-take-le}
use Rattle.tokens.specs.declared.Name.{Name}
use Rattle.page.specs.Written.{Written}
use Rattle.page.proofs.Fill.{same_bytes}
use Rattle.tokens.specs.Tokens.{name_bytes}
use Rattle.print.proofs.Joined.{whole}
use Rattle.rooms.specs.Rule.{Rule}
use Rattle.run.specs.declared.answer.LetIn.{LetIn}
use Rattle.run.specs.Memory.{View}
use Rattle.run.specs.Records.{begin, end, withdraw}
use Rattle.order_log.specs.declared.answer.Answer.{Answer}
use Rattle.order_log.specs.declared.fault.LogFault.{LogFault}
use Rattle.order_log.specs.Print.{ended_lines}
use Rattle.order_log.specs.Rulings.{Ruling, unlawful, unknown, called, ruling_lines}
use Rattle.order_log.specs.Answers.{answer, let_in_by, let_in_count, answer_lines, Leaves, ReadNames, Asked, RulingTold}

lines_are : (name : ℕ → List ℕ) (n : ℕ) (list : List LetIn) (q : Ruling) → take (let_in_count (answer q)) list ≡ let_in_by q → answer_lines name n list (answer q) ≡ ruling_lines name n q
lines_are name n list (unlawful p) e = refl
lines_are name n list unknown e = refl
lines_are name n list (called (begin a k (Ok b))) e = refl
lines_are name n list (called (begin a k (Err f))) e = refl
lines_are name n list (called (end a p ls (Ok m))) e = ap (ended_lines name n a) e
lines_are name n list (called (end a p ls (Err f))) e = refl
lines_are name n list (called (withdraw u (Ok a))) e = refl
lines_are name n list (called (withdraw u (Err f))) e = refl

-- a list's front, and behind it what was there
fronted : (list list' ls : List LetIn) (n : ℕ) → take n list' ≡ ls → n ≤ length list' → drop n list' ≡ drop n list → list' ≡ ls ++ drop (length ls) list
fronted list list' ls n e h d =
    let long : n ≡ length ls = sym (length-take-le n list' h) ∙ ap length e in
    sym (take-append-drop n list') ∙ (λ i. e i ++ d i) ∙ ap (λ k. ls ++ drop k list) long

pub ruling_told : {R : Type 0} (places : ℕ) (rule : Rule) (text : List ℕ) (names : List Name) (line : List ℕ) (number : ℕ)
    (run run' : View R) (list list' : List LetIn) (page page' : List ℕ) (n : ℕ) (r : Result Answer LogFault) →
    Asked places rule text names line run run' list list' r → length list' ≡ 256 → 16384 ≤ length page →
    Written (answer_lines (name_bytes text names) number list' r) page page' n → (ReadNames names → length (answer_lines (name_bytes text names) number list' r) ≤ 16384) →
    RulingTold places rule text names line number run run' list list' page page' n
ruling_told places rule text names line number run run' list list' page page' n r a long large w short =
    let q = a.ruling in
    let e = a.answered in
    let listed : take (let_in_count (answer q)) list' ≡ let_in_by q = subst (λ x. take (let_in_count x) list' ≡ let_in_by q) e a.listed in
    let lines : answer_lines (name_bytes text names) number list' r ≡ ruling_lines (name_bytes text names) number q = ap (answer_lines (name_bytes text names) number list') e ∙ lines_are (name_bytes text names) number list' q listed in
    record {
      ruling = q;
      carried = a.carried;
      listed = fronted list list' (let_in_by q) (let_in_count r) a.listed (omega (arith, a.within)) a.rest;
      keeps = subst (λ x. Leaves x run run') e a.keeps;
      within = omega (arith, w.count);
      ruled = a.ruled;
      printed = λ names-read. whole (subst (λ l. length l ≤ length page) lines (omega (arith, short names-read))) (same_bytes lines w);
    }
