-- One ruling after the other, from what each line tells.
use Rattle.std.proofs.Common.{◌≡◌, ℕ, ◌+◌, true, false, List, [], ◌∷◌, ◌++◌, length, take, is_ok, IfOk, nat_le, Ok, Err, Result, sym, refl, ap, ◌∙◌, subst, append_assoc, append-nil, arith}
use Rattle.std.proofs.lemmas.List.{take_at}
use Rattle.tokens.specs.declared.Name.{Name}
use Rattle.tokens.specs.Tokens.{name_bytes}
use Rattle.paths.specs.Grammar.{Text}
use Rattle.page.specs.declared.SmallPage.{SmallPage}
use Rattle.print.specs.Printed.{Whole, Printed}
use Rattle.rooms.specs.Rule.{Rule}
use Rattle.run.specs.declared.answer.LetIn.{LetIn}
use Rattle.run.specs.Law.{Told}
use Rattle.run.specs.Memory.{View, Reached}
use Rattle.run.specs.Records.{Record}
use Rattle.run.proofs.Carrying.{lawful}
use Rattle.input.specs.Input.{Lines, none as no_lines, FirstLine, more}
use Rattle.order_log.specs.Rulings.{Ruling, unlawful, unknown, called, with_call, ruling_lines}
use Rattle.order_log.specs.Answers.{Carried, ReadNames, RuledLine}
use Rattle.unit.specs.Output.{records, none, one_more}
use Rattle.unit.specs.Steps.{LineAdded, RuledSoFar, LogAdded}

-- a page of 16,384 bytes is large enough
large : (old : List ℕ) → false ≡ nat_le 16384 (length old) → length old ≡ 16384 → ⊥
large old e long = let never : false ≡ true = rw long at e in cc

-- the front of a page on which bytes were printed
front : {bytes old new : List ℕ} {n : ℕ} → Whole bytes old new n → take n new ≡ bytes
front {bytes} {n = n} w = ap (take n) w.holds ∙ take_at bytes _ n (sym w.count)

-- what was printed at a page's front, added to the output
pub added : (bytes old new out out' : List ℕ) (r : Result ℕ SmallPage) → is_ok r ≡ nat_le 16384 (length old) → length old ≡ 16384 → Printed bytes old new r → IfOk r (λ n. out' ≡ out ++ take n new) → out' ≡ out ++ bytes
added bytes old new out out' (Ok n) checked long w e = e ∙ ap (λ bs. out ++ bs) (front w)
added bytes old new out out' (Err f) checked long w e = absurd (large old checked long)

pub added_line : {R : Type 0} (places : ℕ) (rule : Rule) (text : List ℕ) (names : List Name) (line : List ℕ) (number : ℕ)
    (run run' : View R) (list list' : List LetIn) (page page' out out' : List ℕ) (r : Result ℕ SmallPage) → is_ok r ≡ nat_le 16384 (length page) → length page ≡ 16384 →
    RuledLine places rule text names line number run run' list list' page page' r → IfOk r (λ n. out' ≡ out ++ take n page') → LineAdded places rule text names line number run run' out out'
added_line places rule text names line number run run' list list' page page' out out' (Ok n) checked long told e =
    record { ruling = told.ruling; carried = told.carried; ruled = told.ruled; printed = λ read. e ∙ ap (λ bs. out ++ bs) (front (told.printed read)) }
added_line places rule text names line number run run' list list' page page' out out' (Err f) checked long told e = absurd (large page checked long)

-- ---- the rulings so far, with one more
module _ (places : ℕ) (rule : Rule) (t : Text) (text : List ℕ) (names : List Name) (out : List ℕ) where
  told_more : {R : Type 0} (v w : View R) (q : Ruling) (rs : List Record) → Carried places rule v w q → Reached t rule v rs → Told t places rule rs → Told t places rule (with_call q rs) × Reached t rule w (with_call q rs)
  told_more v w (unlawful p) rs e reached told = (told, subst (λ x. Reached t rule x rs) (sym e) reached)
  told_more v w unknown rs e reached told = (told, subst (λ x. Reached t rule x rs) (sym e) reached)
  told_more v w (called r) rs carries reached told = let s = carries t rs reached in ((lawful t places rule w rs r s, told), s.1)

  ruled_more : {R : Type 0} (v w : View R) (lines : List (List ℕ)) (line now then : List ℕ) (qs : List Ruling) → ReadNames names →
      RuledSoFar places rule t text names lines v out now qs → (l : LineAdded places rule text names line (length qs + 1) v w now then) →
      RuledSoFar places rule t text names (lines ++ (line ∷ [])) w out then (l.ruling ∷ qs)
  ruled_more v w lines line now then qs read s l =
      let more = told_more v w l.ruling (records qs) l.carried s.reached s.told in
      record {
        ruled = one_more refl s.ruled (l.ruled read);
        told = more.0;
        reached = more.1;
        printed = l.printed read ∙ ap (λ bs. bs ++ ruling_lines (name_bytes text names) (length qs + 1) l.ruling) s.printed ∙ append_assoc out _ _;
      }

  -- the log is ruled up to the unread bytes: its first lines, so many, are ruled
  pub record Going {R : Type 0} (log unread : List ℕ) (number : ℕ) (w : View R) (now : List ℕ) : Type 0 where
    pub done : List (List ℕ)
    pub rest : (later : List (List ℕ)) → Lines unread later → Lines log (done ++ later)
    pub rulings : List Ruling
    pub count : length rulings ≡ number
    pub so_far : RuledSoFar places rule t text names done w out now rulings

  pub going_start : {R : Type 0} (log unread : List ℕ) (number : ℕ) (v : View R) → unread ≡ log → number ≡ 0 → Reached t rule v [] → Going log unread number v out
  going_start log unread number v e zero reached = record {
    done = [];
    rest = λ later all. subst (λ bs. Lines bs later) e all;
    rulings = [];
    count = sym zero;
    so_far = record { ruled = none; told = tt; reached = reached; printed = sym (append-nil out) };
  }

  pub going_more : {R : Type 0} (log unread line behind : List ℕ) (number i number' : ℕ) (v w : View R) (now then : List ℕ) → ReadNames names → Going log unread number v now → FirstLine unread line behind → i ≡ number → number' ≡ number + 1 →
      LineAdded places rule text names line (i + 1) v w now then → Going log behind number' w then
  going_more log unread line behind number i number' v w now then read go first is next l =
      let one = subst (λ k. LineAdded places rule text names line (k + 1) v w now then) (is ∙ sym go.count) l in
      record {
        done = go.done ++ (line ∷ []);
        rest = λ later all. subst (Lines log) (sym (append_assoc go.done (line ∷ []) later)) (go.rest (line ∷ later) (more first all));
        rulings = one.ruling ∷ go.rulings;
        count = omega (arith, go.count);
        so_far = ruled_more v w go.done line now then go.rulings read go.so_far one;
      }

  pub going_all : {R : Type 0} (log unread : List ℕ) (number : ℕ) (w : View R) (now : List ℕ) → Going log unread number w now → unread ≡ [] → LogAdded places rule t text names log w out now
  going_all log unread number w now go over =
      let all : Lines log (go.done ++ []) = go.rest [] (subst (λ bs. Lines bs []) (sym over) no_lines) in
      record { lines = go.done; of_log = subst (Lines log) (append-nil go.done) all; rulings = go.rulings; so_far = go.so_far }
