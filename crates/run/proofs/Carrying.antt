-- One call after the other, from what each call says.
use Rattle.std.proofs.Common.{◌≡◌, ℕ, ◌+◌, ◌-◌, ◌<◌, ◌≤◌, min, List, [], ◌∷◌, ◌++◌, length, get_or, take, drop, set, Ok, Err, sym, refl, ap, ◌∙◌, subst, inl, inr, arith, take-add}
use borrow.Rule.Slice.PartMut.{put_mid, post_of}
use Rattle.std.proofs.lemmas.List.{append_assoc, append-nil, drop_all, drop_at, drop-drop, drop_more, length-append, length-drop, length_push, length-take-le, set_at, take_all, take-append-drop, take_more}
use Rattle.std.proofs.lemmas.Slice.{take-put_mid_below}
use Rattle.std.proofs.lemmas.Bool.{cases_lt}
use Rattle.paths.specs.Grammar.{Text}
use Rattle.rooms.specs.Rule.{Rule}
use Rattle.run.specs.declared.answer.Begun.TheVariants.{In as Goes, Waits}
use Rattle.run.specs.declared.answer.LetIn.{LetIn}
use Rattle.run.specs.declared.call.Answer.{Answer}
use Rattle.run.specs.declared.call.Call.{Call}
use Rattle.run.specs.declared.fault.RunFault.{RunFault}
use Rattle.run.specs.declared.fault.RunFault.TheVariants.{UnknownOperation, RankTooHigh, TicketsSpent, RoomFull, NotRunning, NotWaiting, ListTooShort}
use Rattle.run.specs.Carried.{Carried}
use Rattle.run.specs.Law.{call_of, answer_of, front_of, calls, answers, fronts, LentTo, Lent, InExactly, Lawful, Told, Recorded}
use Rattle.run.specs.Memory.{View, Reached}
use Rattle.run.specs.Records.{Record, begin, end, withdraw, history}
use Rattle.run.specs.Says.{BeginRefused, Says, Joins, Unstopped}

-- ---- one call

-- what a part of a list from u on holds after a write
module _ (l sub : List LetIn) (u : ℕ) (fits : u ≤ length l) (same : length sub ≡ length l - u) where
  pub part_tail : drop u (put_mid u (length l - u) l sub) ≡ sub
  part_tail =
      drop_at (take u l) (sub ++ post_of u (length l - u) l) u (length-take-le u l fits)
      ∙ ap (λ z. sub ++ z) (drop_all (length l - u) (drop u l) (let e = length-drop u l in omega arith))
      ∙ append-nil sub

  pub part_long : length (put_mid u (length l - u) l sub) ≡ length l
  part_long =
      let then = put_mid u (length l - u) l sub in
      ap length (sym (take-append-drop u then)) ∙ length-append (take u then) (drop u then)
      ∙ omega (arith, ap length (take-put_mid_below u (length l - u) l sub u (omega arith) fits), ap length part_tail, length-take-le u l fits)

  pub part_drop : (n : ℕ) → drop n sub ≡ drop n (drop u l) → drop (u + n) (put_mid u (length l - u) l sub) ≡ drop (u + n) l
  part_drop n e = sym (drop-drop n u (put_mid u (length l - u) l sub)) ∙ ap (drop n) part_tail ∙ e ∙ drop-drop n u l

-- ---- every call is lawful

-- a refused begin was stopped, or could not join
not_in : (t : Text) (places : ℕ) (rs : List Record) (a k : ℕ) (f : RunFault) → BeginRefused t places rs a k f → Unstopped t rs a k → Joins t (history rs) a → ⊥
not_in t places rs a k UnknownOperation s u j = s u.0
not_in t places rs a k RankTooHigh s u j = let l = u.1 in let h = s.1 in omega arith
not_in t places rs a k TicketsSpent s u j = let l = u.2 in let h = s.2 in omega arith
not_in t places rs a k RoomFull s u j = s.1 j
not_in t places rs a k NotRunning s u j = s
not_in t places rs a k NotWaiting s u j = s
not_in t places rs a k ListTooShort s u j = s

in_exactly : (t : Text) (places : ℕ) (rule : Rule) (rs : List Record) (r : Record) → Says t places rule rs r → InExactly t rs r
in_exactly t places rule rs (begin a k (Ok (Goes u))) s = λ x. (λ i. s.1, λ j. tt)
in_exactly t places rule rs (begin a k (Ok (Waits u))) s = λ x. (λ i. absurd i, λ j. s.1 j)
in_exactly t places rule rs (begin a k (Err f)) s = λ x. (λ i. absurd i, λ j. not_in t places rs a k f s x j)
in_exactly t places rule rs (end a p ls r) s = tt
in_exactly t places rule rs (withdraw u r) s = tt

pub lawful : {R : Type 0} (t : Text) (places : ℕ) (rule : Rule) (w : View R) (rs : List Record) (r : Record) → Says t places rule rs r × Reached t rule w (r ∷ rs) → Lawful t places rule rs r
lawful t places rule w rs r (says, (m, calm)) = record { says = says; lets_in = in_exactly t places rule rs r says; fits = m.fits; settled = calm }

-- ---- a list of calls

-- the run after i calls, with the first u places of the list used
pub record Going {R : Type 0} (t : Text) (places : ℕ) (rule : Rule) (cs : List Call) (old new : List Answer) (before after : List LetIn) (v : View R) (i u : ℕ) : Type 0 where
  pub records : List Record
  pub of_calls : calls records ≡ take i cs
  pub of_answers : new ≡ answers records ++ drop i old
  pub count : length (answers records) ≡ i
  pub of_list : take u after ≡ fronts records
  pub filled : length (fronts records) ≡ u
  pub long : length after ≡ length before
  pub tail : drop u after ≡ drop u before
  pub lent : Lent (length before) records
  pub told : Told t places rule records
  pub reached : Reached t rule v records

module _ (t : Text) (places : ℕ) (rule : Rule) (cs : List Call) (old : List Answer) (before : List LetIn) where
  pub going_start : {R : Type 0} (v : View R) → Reached t rule v [] → Going t places rule cs old old before before v 0 0
  going_start v s = record { records = []; of_calls = refl; of_answers = refl; count = refl; of_list = refl; filled = refl; long = refl; tail = refl; lent = tt; told = tt; reached = s }

  -- one more call, with what the first u places of the list leave
  pub going_more : {R : Type 0} (new : List Answer) (now sub : List LetIn) (v w : View R) (i u n p : ℕ) (c : Call) (r : Answer) → i < length cs → c ≡ get_or cs i c → i < length old →
      Going t places rule cs old new before now v i u → u ≤ length now → length sub ≡ length now - u → n ≤ length sub → p ≡ length now - u →
      Carried places rule v w c p r (take n sub) → drop n sub ≡ drop n (drop u now) →
      Going t places rule cs old (set new i r) before (put_mid u (length now - u) now sub) w (i + 1) (u + n)
  going_more new now sub v w i u n p c r il is ol go within same few lent one rest =
      let rec = one.rec in
      let rs = go.records in
      let said = one.carries t rs go.reached in
      let then = put_mid u (length now - u) now sub in
      let all : take (u + n) then ≡ fronts rs ++ front_of rec =
      take-add u n then ∙ ap (λ z. z ++ take n (drop u then)) (take-put_mid_below u (length now - u) now sub u (omega arith) within ∙ go.of_list)
      ∙ ap (λ z. fronts rs ++ take n z) (part_tail now sub u within same) ∙ ap (λ z. fronts rs ++ z) (sym one.front) in
      let gl = go.long in
      let gf = go.filled in
      let tl : length then ≡ length now = part_long now sub u within same in
      record {
        records = rec ∷ rs;
        of_calls = ap (λ z. z ++ call_of rec ∷ []) go.of_calls ∙ ap (λ z. take i cs ++ z ∷ []) (one.call ∙ is) ∙ sym (take_more cs i c il);
        of_answers = ap (λ z. set z i r) (go.of_answers ∙ ap (λ z. answers rs ++ z) (drop_more old i r ol)) ∙ set_at (answers rs) (get_or old i r) (drop (i + 1) old) r i go.count
            ∙ sym (append_assoc (answers rs) (r ∷ []) (drop (i + 1) old)) ∙ ap (λ z. (answers rs ++ z ∷ []) ++ drop (i + 1) old) (sym one.answer);
        count = length_push (answers rs) (answer_of rec) ∙ ap (λ k. k + 1) go.count;
        of_list = all;
        filled = sym (ap length all) ∙ length-take-le (u + n) then (omega arith);
        long = tl ∙ go.long;
        tail = part_drop now sub u within same n rest ∙ sym (drop-drop n u now) ∙ ap (drop n) go.tail ∙ drop-drop n u before;
        lent = (subst (λ k. LentTo k rec) (let e : p ≡ length before - length (fronts rs) = omega arith in e) one.lent, go.lent);
        told = (lawful t places rule w rs rec said, go.told);
        reached = said.1;
      }

  pub going_all : {R : Type 0} (new : List Answer) (now : List LetIn) (v : View R) (i u : ℕ) → i ≡ min (length cs) (length old) → Going t places rule cs old new before now v i u →
      (rs : List Record) × Recorded t places rule cs old new before now rs × Reached t rule v rs
  going_all new now v i u e go = (
    go.records,
    record {
      of_calls = go.of_calls ∙ (elim (cases_lt (length old) (length cs)) [
        | inl l ↦ ap (λ k. take k cs) (let q : i ≡ length old = omega arith in q)
        | inr l ↦ take_all i cs (omega arith) ∙ sym (take_all (length old) cs l)
      ]);
      of_answers = go.of_answers ∙ ap (λ k. answers go.records ++ drop k old) (sym go.count);
      of_list = sym (take-append-drop u now) ∙ ap (λ z. z ++ drop u now) go.of_list ∙ ap (λ z. fronts go.records ++ z) (go.tail ∙ ap (λ k. drop k before) (sym go.filled));
      lent = go.lent;
      told = go.told;
    },
    go.reached,
  )
