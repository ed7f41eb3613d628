-- Each call has one answer: two lists of lawful records of the same calls are the same.
use Rattle.std.proofs.Common.{◌≡◌, ℕ, zero, suc, ◌+◌, ◌-◌, ◌<◌, ◌≤◌, Bool, true, false, List, [], ◌∷◌, ◌++◌, length, get_or, take, Ok, Err, Decides, Result, sym, refl, ap, ◌∙◌, subst, inl, inr, arith, take-suc}
use Rattle.std.proofs.lemmas.List.{take_all, same_from_push}
use Rattle.std.proofs.lemmas.List.Elements.{Contains-get_or}
use Rattle.std.proofs.lemmas.Bool.{cases_order, false≢true}
use Rattle.paths.specs.Grammar.{Text}
use Rattle.paths.specs.Words.{History}
use Rattle.rooms.specs.declared.entry.Entry.{Entry}
use Rattle.rooms.specs.Entries.{In, NoTwice, Ticketed}
use Rattle.rooms.specs.Sets.{one_entry}
use Rattle.rooms.specs.Rule.{Rule}
use Rattle.run.specs.declared.answer.Begun.{Begun}
use Rattle.run.specs.declared.answer.Begun.TheVariants.{In as Goes, Waits}
use Rattle.run.specs.declared.answer.LetIn.{LetIn}
use Rattle.run.specs.declared.call.Call.{Call}
use Rattle.run.specs.declared.fault.RunFault.{RunFault}
use Rattle.run.specs.declared.fault.RunFault.TheVariants.{UnknownOperation, RankTooHigh, TicketsSpent, RoomFull, NotRunning, NotWaiting, ListTooShort}
use Rattle.run.specs.Law.{call_of, calls, LentTo, Lent, fronts, Told}
use Rattle.run.specs.Memory.{Distinct}
use Rattle.run.specs.Records.{Record, begin, end, withdraw, waiting, history, accepted, without_all, without}
use Rattle.run.specs.Says.{Known, Joins, Runs, BeginSays, Chosen, Choice, nobody, LetsIn, EndSays, WithdrawSays, Says}
use Rattle.run.proofs.Sets.{in_none, in_cases, in_without, in_without_all, distinct_kept}

-- ---- tickets of those who wait

pub distinct_apart : (xs : List Entry) → Distinct xs → NoTwice xs
distinct_apart [] dist i j d l h e = omega arith
distinct_apart (x ∷ xs) (u, dist) zero zero d l h e = omega arith
distinct_apart (x ∷ xs) (u, dist) zero (suc j) d l h e = let k : j < length xs = omega arith in u (get_or xs j d, Contains-get_or xs j d k, sym e)
distinct_apart (x ∷ xs) (u, dist) (suc i) zero d l h e = omega arith
distinct_apart (x ∷ xs) (u, dist) (suc i) (suc j) d l h e = distinct_apart xs dist i j d (omega arith) (omega arith) e

distinct_all : (ls : List LetIn) (xs : List Entry) → Distinct xs → Distinct (without_all ls xs)
distinct_all [] xs d = d
distinct_all (l ∷ ls) xs d = distinct_all ls (without l.ticket xs) (distinct_kept _ xs d)

-- tickets stand once, and were given
GivenOnce : List Record → Type 0
GivenOnce rs = Distinct (waiting rs) × ((x : Entry) → In x (waiting rs) → x.ticket ≤ accepted rs)

given_once : (t : Text) (places : ℕ) (rule : Rule) (rs : List Record) → Told t places rule rs → GivenOnce rs
unfolding GivenOnce
given_once t places rule [] told = (tt, λ x i. absurd (in_none x i))
given_once t places rule (begin a k (Ok (Goes u)) ∷ rs) (one, told) = let (d, early) = given_once t places rule rs told in (d, λ x i. (let l = early x i in omega arith))
given_once t places rule (begin a k (Ok (Waits u)) ∷ rs) (one, told) =
    let (d, early) = given_once t places rule rs told in
    let num = one.says.3 in
    let e : Entry = record { ticket = u; operation = a; rank = k } in (
      (λ (x, i, p). (let l = early x i in omega arith), d),
      λ x i. (elim (in_cases x e (waiting rs) i) [
        | inl p ↦ (let q : x.ticket ≡ u = ap (λ (z : Entry). z.ticket) p in omega arith)
        | inr j ↦ (let l = early x j in omega arith)
      ]),
    )
given_once t places rule (begin a k (Err f) ∷ rs) (one, told) = given_once t places rule rs told
given_once t places rule (end a p ls (Ok n) ∷ rs) (one, told) = let (d, early) = given_once t places rule rs told in (distinct_all ls (waiting rs) d, λ x i. early x (in_without_all ls x (waiting rs) i))
given_once t places rule (end a p ls (Err f) ∷ rs) (one, told) = given_once t places rule rs told
given_once t places rule (withdraw u (Ok a) ∷ rs) (one, told) = let (d, early) = given_once t places rule rs told in (distinct_kept _ (waiting rs) d, λ x i. early x (in_without u x (waiting rs) i).0)
given_once t places rule (withdraw u (Err f) ∷ rs) (one, told) = given_once t places rule rs told

-- ---- one choice

-- the rule names one entry
abbrev pub One : Rule → Type 0
One rule = (q : ℕ) (l : List Entry) (a : ℕ → Bool) (x y : Entry) → NoTwice l → rule.chooses q l a x → rule.chooses q l a y → x ≡ y

same_test : (P : Type 0) (b c : Bool) → Decides b P → Decides c P → b ≡ c
same_test P true true d e = refl
same_test P true false d e = absurd (false≢true (e.1 (d.0 refl)))
same_test P false true d e = absurd (false≢true (d.1 (e.0 refl)))
same_test P false false d e = refl

one_chosen : (t : Text) (rule : Rule) → One rule → (m : ℕ) (xs : List Entry) (h : History) (x y : Entry) → Distinct xs → Chosen t rule m xs h x → Chosen t rule m xs h y → x ≡ y
one_chosen t rule one m xs h x y d c e =
    let same : e.allowed ≡ c.allowed = λ i a. same_test (Known t a × Joins t h a) (e.allowed a) (c.allowed a) (e.joins a) (c.joins a) i in
    one m xs c.allowed x y (distinct_apart xs d) c.chosen (subst (λ f. rule.chooses m xs f y) same e.chosen)

listed_same : (l k : LetIn) → l.ticket ≡ k.ticket → l.operation ≡ k.operation → l ≡ k
listed_same l k p q = λ i. record { ticket = p i; operation = q i }

module _ (t : Text) (rule : Rule) (one : One rule) (rs : List Record) (a p : ℕ) (d : Distinct (waiting rs)) where
  one_choice : (ks : List LetIn) (n : ℕ) (l k : LetIn) → Choice t rule (end a p ks (Ok n) ∷ rs) l → Choice t rule (end a p ks (Ok n) ∷ rs) k → l ≡ k
  one_choice ks n l k c e =
      let same = one_chosen t rule one _ _ _ c.entry e.entry (distinct_all ks (waiting rs) d) c.chosen e.chosen in
      listed_same l k (c.ticket ∙ ap (λ (z : Entry). z.ticket) same ∙ sym e.ticket) (c.operation ∙ ap (λ (z : Entry). z.operation) same ∙ sym e.operation)

  module _ (ls ks : List LetIn) (x : LetsIn t rule rs a p ls) (y : LetsIn t rule rs a p ks) where
    one_front : (n : ℕ) → n ≤ length ls → n ≤ length ks → take n ls ≡ take n ks
    one_front zero l h = refl
    one_front (suc n) l h =
        let same = one_front n (omega arith) (omega arith) in
        let here : get_or ls n nobody ≡ get_or ks n nobody =
        one_choice (take n ls) n (get_or ls n nobody) (get_or ks n nobody) (x.each n (omega arith))
        (subst (λ z. Choice t rule (end a p z (Ok n) ∷ rs) (get_or ks n nobody)) (sym same) (y.each n (omega arith))) in
        take-suc ls n nobody (omega arith) ∙ ap (λ z. z ++ (get_or ls n nobody ∷ [])) same ∙ ap (λ z. take n ks ++ (z ∷ [])) here ∙ sym (take-suc ks n nobody (omega arith))

    -- an end lets in as long as one of those who wait could join
    no_longer : length ls < length ks → ⊥
    no_longer l =
        let c = y.each (length ls) l in
        let same : take (length ls) ks ≡ ls = sym (one_front (length ls) (omega arith) (omega arith)) ∙ take_all (length ls) ls (omega arith) in
        let e : Choice t rule (end a p ls (Ok (length ls)) ∷ rs) (get_or ks (length ls) nobody) = subst (λ z. Choice t rule (end a p z (Ok (length ls)) ∷ rs) (get_or ks (length ls) nobody)) same c in
        x.all e.entry e.chosen.waits e.chosen.fits

  one_list : (ls ks : List LetIn) → LetsIn t rule rs a p ls → LetsIn t rule rs a p ks → ls ≡ ks
  one_list ls ks x y =
      elim (cases_order (length ls) (length ks)) [
        | inl e ↦ sym (take_all (length ls) ls (omega arith)) ∙ one_front ls ks x y (length ls) (omega arith) (omega arith) ∙ take_all (length ls) ks (omega arith)
        | inr (inl l) ↦ absurd (no_longer ls ks x y l)
        | inr (inr l) ↦ absurd (no_longer ks ls y x l)
      ]

-- ---- the first check that tells

-- of the checks Ps the one at n is the first that holds; behind the last, none does
First : List {1} (Type 0) → ℕ → Type 0
First [] zero = Unit {0}
First [] (suc n) = ⊥
First (P ∷ Ps) zero = P
First (P ∷ Ps) (suc n) = (¬ P) × First Ps n

first_one : (Ps : List {1} (Type 0)) (m n : ℕ) → First Ps m → First Ps n → m ≡ n
unfolding First
first_one [] zero zero x y = refl
first_one [] zero (suc n) x y = absurd y
first_one [] (suc m) n x y = absurd x
first_one (P ∷ Ps) zero zero x y = refl
first_one (P ∷ Ps) zero (suc n) x y = absurd (y.0 x)
first_one (P ∷ Ps) (suc m) zero x y = absurd (x.0 y)
first_one (P ∷ Ps) (suc m) (suc n) x y = ap suc (first_one Ps m n x.1 y.1)

-- ---- one answer

module _ (t : Text) (places : ℕ) (rs : List Record) (a k : ℕ) where
  begin_checks : List {1} (Type 0)
  begin_checks = (¬ Known t a) ∷ (9 < k) ∷ (1000000 ≤ accepted rs) ∷ Joins t (history rs) a ∷ (length (waiting rs) ≡ places) ∷ []

  -- the answer that the check at a place tells
  begin_answer : ℕ → Result Begun RunFault
  begin_answer zero = Err UnknownOperation
  begin_answer (suc zero) = Err RankTooHigh
  begin_answer (suc (suc zero)) = Err TicketsSpent
  begin_answer (suc (suc (suc zero))) = Ok (Goes (accepted rs + 1))
  begin_answer (suc (suc (suc (suc zero)))) = Err RoomFull
  begin_answer (suc (suc (suc (suc (suc n))))) = Ok (Waits (accepted rs + 1))

  ToldAt : Result Begun RunFault → Type 0
  ToldAt r = (n : ℕ) × First begin_checks n × (r ≡ begin_answer n)

  begin_refused : (f : RunFault) → BeginSays t places rs a k (Err f) → ToldAt (Err f)
  unfolding First begin_checks begin_answer ToldAt
  begin_refused UnknownOperation s = (0, s, refl)
  begin_refused RankTooHigh s = (1, (λ n. n s.0, s.1), refl)
  begin_refused TicketsSpent s = (2, (λ n. n s.0, (λ h. (let l = s.1 in omega arith), s.2)), refl)
  begin_refused RoomFull s = (4, (λ n. n s.0.0, (λ h. (let l = s.0.1 in omega arith), (λ h. (let l = s.0.2 in omega arith), (s.1, s.2)))), refl)
  begin_refused NotRunning s = absurd s
  begin_refused NotWaiting s = absurd s
  begin_refused ListTooShort s = absurd s

  begin_told : (r : Result Begun RunFault) → BeginSays t places rs a k r → ToldAt r
  unfolding First begin_checks begin_answer ToldAt
  begin_told (Ok (Goes u)) s = (3, (λ n. n s.0.0, (λ h. (let l = s.0.1 in omega arith), (λ h. (let l = s.0.2 in omega arith), s.1))), ap (λ n. Ok (Goes n)) s.2)
  begin_told (Ok (Waits u)) s = (5, (λ n. n s.0.0, (λ h. (let l = s.0.1 in omega arith), (λ h. (let l = s.0.2 in omega arith), (s.1, (λ e. (let l = s.2 in omega arith), tt))))), ap (λ n. Ok (Waits n)) s.3)
  begin_told (Err f) s = begin_refused f s

  one_begin : (r q : Result Begun RunFault) → BeginSays t places rs a k r → BeginSays t places rs a k q → r ≡ q
  unfolding ToldAt
  one_begin r q s s' =
      let (m, x, e) = begin_told r s in
      let (n, y, f) = begin_told q s' in
      e ∙ ap begin_answer (first_one begin_checks m n x y) ∙ sym f

module _ (t : Text) (rule : Rule) (one : One rule) (rs : List Record) (a p : ℕ) (d : Distinct (waiting rs)) where
  end_checks : List {1} (Type 0)
  end_checks = (¬ Known t a) ∷ (¬ Runs (history rs) a) ∷ (p < length (waiting rs)) ∷ []

  end_fault : ℕ → RunFault
  end_fault zero = UnknownOperation
  end_fault (suc zero) = NotRunning
  end_fault (suc (suc n)) = ListTooShort

  end_told : (ls : List LetIn) (f : RunFault) → EndSays t rule rs a p ls (Err f) → (n : ℕ) × (n < 3) × First end_checks n × (f ≡ end_fault n)
  unfolding First end_checks end_fault
  end_told ls UnknownOperation s = (0, omega arith, s.0, refl)
  end_told ls RankTooHigh s = absurd s.0
  end_told ls TicketsSpent s = absurd s.0
  end_told ls RoomFull s = absurd s.0
  end_told ls NotRunning s = (1, omega arith, (λ n. n s.0.0, s.0.1), refl)
  end_told ls NotWaiting s = absurd s.0
  end_told ls ListTooShort s = (2, omega arith, (λ n. n s.0.0, (λ n. n s.0.1, s.0.2)), refl)

  end_done : (ls : List LetIn) (n : ℕ) → EndSays t rule rs a p ls (Ok n) → First end_checks 3
  unfolding First end_checks
  end_done ls n s = (λ k. k s.0, (λ k. k s.1, (λ l. (let h = s.2 in omega arith), tt)))

  one_end : (ls ks : List LetIn) (r q : Result ℕ RunFault) → EndSays t rule rs a p ls r → EndSays t rule rs a p ks q → ◌≡◌ {A = Record} (end a p ls r) (end a p ks q)
  one_end ls ks (Ok m) (Ok n) s s' =
      let same = one_list t rule one rs a p d ls ks s.4 s'.4 in
      ap (λ z. end a p z (Ok m)) same ∙ ap (λ z. end a p ks (Ok z)) (s.3 ∙ ap length same ∙ sym s'.3)
  one_end ls ks (Ok m) (Err g) s s' = let (n, l, x, e) = end_told ks g s' in let q = first_one end_checks 3 n (end_done ls m s) x in absurd (omega arith)
  one_end ls ks (Err f) (Ok n) s s' = let (m, l, x, e) = end_told ls f s in let q = first_one end_checks m 3 x (end_done ks n s') in absurd (omega arith)
  one_end ls ks (Err f) (Err g) s s' =
      let (m, l, x, e) = end_told ls f s in
      let (n, h, y, i) = end_told ks g s' in
      ap (λ z. end a p z (Err f)) (s.1 ∙ sym s'.1) ∙ ap (λ z. end a p ks (Err z)) (e ∙ ap end_fault (first_one end_checks m n x y) ∙ sym i)

not_waiting : (rs : List Record) (u : ℕ) (f : RunFault) → WithdrawSays rs u (Err f) → (¬ Ticketed u (waiting rs)) × (f ≡ NotWaiting)
not_waiting rs u UnknownOperation s = absurd s
not_waiting rs u RankTooHigh s = absurd s
not_waiting rs u TicketsSpent s = absurd s
not_waiting rs u RoomFull s = absurd s
not_waiting rs u NotRunning s = absurd s
not_waiting rs u NotWaiting s = (s, refl)
not_waiting rs u ListTooShort s = absurd s

one_withdraw : (rs : List Record) (u : ℕ) → Distinct (waiting rs) → (r q : Result ℕ RunFault) → WithdrawSays rs u r → WithdrawSays rs u q → r ≡ q
one_withdraw rs u d (Ok a) (Ok b) (x, i, p, o) (y, j, q, w) = ap Ok (sym o ∙ ap (λ (z : Entry). z.operation) (one_entry (waiting rs) (distinct_apart (waiting rs) d) x y i j (p ∙ sym q)) ∙ w)
one_withdraw rs u d (Ok a) (Err g) (x, i, p, o) s' = absurd ((not_waiting rs u g s').0 (x, i, p))
one_withdraw rs u d (Err f) (Ok b) s (y, j, q, w) = absurd ((not_waiting rs u f s).0 (y, j, q))
one_withdraw rs u d (Err f) (Err g) s s' = ap Err ((not_waiting rs u f s).1 ∙ sym (not_waiting rs u g s').1)

-- ---- one list of records

-- where no ticket waits twice, the same call, lent a list of the same length, gives the same record
module _ (t : Text) (places : ℕ) (rule : Rule) (one : One rule) (rs : List Record) (d : Distinct (waiting rs)) (n : ℕ) where
  one_record : (r q : Record) → call_of r ≡ call_of q → LentTo n r → LentTo n q → Says t places rule rs r → Says t places rule rs q → r ≡ q
  one_record (begin a k r) (begin b j q) e l h s s' =
      let x : a ≡ b = cc in
      let y : k ≡ j = cc in
      let s'' : BeginSays t places rs a k q = subst (λ z. BeginSays t places rs z k q) (sym x) (subst (λ z. BeginSays t places rs b z q) (sym y) s') in
      ap (begin a k) (one_begin t places rs a k r q s s'') ∙ ap (λ z. begin z k q) x ∙ ap (λ z. begin b z q) y
  one_record (begin a k r) (end b p ks q) e l h s s' = let z : ◌≡◌ {A = ℕ} 0 1 = cc in absurd (omega arith)
  one_record (begin a k r) (withdraw v q) e l h s s' = let z : ◌≡◌ {A = ℕ} 0 1 = cc in absurd (omega arith)
  one_record (end a p ls r) (begin b j q) e l h s s' = let z : ◌≡◌ {A = ℕ} 0 1 = cc in absurd (omega arith)
  one_record (end a p ls r) (end b o ks q) e l h s s' =
      let x : a ≡ b = cc in
      let y : p ≡ o = l ∙ sym h in
      let s'' : EndSays t rule rs a p ks q = subst (λ z. EndSays t rule rs z p ks q) (sym x) (subst (λ z. EndSays t rule rs b z ks q) (sym y) s') in
      one_end t rule one rs a p d ls ks r q s s'' ∙ ap (λ z. end z p ks q) x ∙ ap (λ z. end b z ks q) y
  one_record (end a p ls r) (withdraw v q) e l h s s' = let z : ◌≡◌ {A = ℕ} 0 1 = cc in absurd (omega arith)
  one_record (withdraw u r) (begin b j q) e l h s s' = let z : ◌≡◌ {A = ℕ} 0 1 = cc in absurd (omega arith)
  one_record (withdraw u r) (end b p ks q) e l h s s' = let z : ◌≡◌ {A = ℕ} 0 1 = cc in absurd (omega arith)
  one_record (withdraw u r) (withdraw v q) e l h s s' =
      let x : u ≡ v = cc in
      ap (withdraw u) (one_withdraw rs u d r q s (subst (λ z. WithdrawSays rs z q) (sym x) s')) ∙ ap (λ z. withdraw z q) x

-- after lawful records the same call, lent a list of the same length, gives the same record
pub one_next : (t : Text) (places : ℕ) (rule : Rule) → One rule → (rs : List Record) → Told t places rule rs → (n : ℕ) (r q : Record) → call_of r ≡ call_of q → LentTo n r → LentTo n q → Says t places rule rs r → Says t places rule rs q → r ≡ q
unfolding GivenOnce
one_next t places rule one rs told n = one_record t places rule one rs (given_once t places rule rs told).0 n

no_call : (c : Call) (cs : List Call) → [] ≡ cs ++ (c ∷ []) → ⊥
no_call c [] e = let z : ◌≡◌ {A = ℕ} 0 1 = cc in omega arith
no_call c (b ∷ cs) e = let z : ◌≡◌ {A = ℕ} 0 1 = cc in omega arith

-- lawful records of the same calls, lent the same list, are the same
pub one_run : (t : Text) (places : ℕ) (rule : Rule) → One rule → (n : ℕ) (rs qs : List Record) → calls rs ≡ calls qs → Lent n rs → Lent n qs → Told t places rule rs → Told t places rule qs → rs ≡ qs
one_run t places rule one n [] [] e l h x y = refl
one_run t places rule one n [] (q ∷ qs) e l h x y = absurd (no_call (call_of q) (calls qs) e)
one_run t places rule one n (r ∷ rs) [] e l h x y = absurd (no_call (call_of r) (calls rs) (sym e))
one_run t places rule one n (r ∷ rs) (q ∷ qs) e (l, ls) (h, hs) (x, xs) (y, ys) =
    let (before, last) = same_from_push (calls rs) (calls qs) (call_of r) (call_of q) e in
    let same = one_run t places rule one n rs qs before ls hs xs ys in
    let h' : LentTo (n - length (fronts rs)) q = subst (λ z. LentTo (n - length (fronts z)) q) (sym same) h in
    let s' : Says t places rule rs q = subst (λ z. Says t places rule z q) (sym same) y.says in
    ap (λ z. z ∷ rs) (one_next t places rule one rs xs (n - length (fronts rs)) r q last l h' x.says s') ∙ ap (λ z. q ∷ z) same
