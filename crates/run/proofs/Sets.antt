-- Lists of entries: what leaves and what stays.
use Rattle.std.proofs.Common.{◌≡◌, ℕ, zero, suc, ◌+◌, Bool, true, false, cond, not, eqb, ◌⊎◌, List, [], ◌∷◌, ◌++◌, length, filter, sym, refl, ap, ◌∙◌, subst, inl, inr, ⊎_elim, arith}
use Rattle.std.proofs.lemmas.Bool.{eqb-false, eq-eqb, ne_eqb, both_ways, not-true, not_from_false, cond-true, cond-false}
use Rattle.rooms.specs.declared.entry.Entry.{Entry}
use Rattle.rooms.specs.Entries.{In, Ticketed}
use Rattle.rooms.specs.Rule.{Rule}
use Rattle.run.specs.declared.answer.LetIn.{LetIn}
use Rattle.run.specs.Memory.{Distinct}
use Rattle.run.specs.Records.{without, without_all, entry_of, remembered_chosen}

pub in_head : (x : Entry) (xs : List Entry) → In x (x ∷ xs)
in_head x xs = (0, omega arith, refl)

pub in_tail : (y x : Entry) (xs : List Entry) → In y xs → In y (x ∷ xs)
in_tail y x xs (k, l, e) = (suc k, omega arith, e)

pub in_cases : (y x : Entry) (xs : List Entry) → In y (x ∷ xs) → (y ≡ x) ⊎ In y xs
in_cases y x xs (zero, l, e) = inl (sym e)
in_cases y x xs (suc k, l, e) = inr (k, omega arith, e)

pub in_none : (y : Entry) → In y [] → ⊥
in_none y (k, l, e) = omega arith

module _ (p : Entry → Bool) where
  in_kept_step : (y x : Entry) (xs : List Entry) (b : Bool) → p x ≡ b → (In y (filter p xs) → In y xs × (p y ≡ true)) → In y (cond b (x ∷ filter p xs) (filter p xs)) → In y (x ∷ xs) × (p y ≡ true)
  in_kept_step y x xs true e below n = ⊎_elim (λ (s : y ≡ x). (subst (λ z. In z (x ∷ xs)) (sym s) (in_head x xs), ap p s ∙ e)) (λ (i : In y (filter p xs)). (let r = below i in (in_tail y x xs r.0, r.1))) (in_cases y x (filter p xs) n)
  in_kept_step y x xs false e below n = let r = below n in (in_tail y x xs r.0, r.1)

  pub in_kept : (y : Entry) (xs : List Entry) → In y (filter p xs) → In y xs × (p y ≡ true)
  in_kept y [] m = absurd (in_none y m)
  in_kept y (x ∷ xs) m = in_kept_step y x xs (p x) refl (in_kept y xs) m

  kept_in_step : (y x : Entry) (xs : List Entry) (b : Bool) → p x ≡ b → p y ≡ true → (In y xs → In y (filter p xs)) → (y ≡ x) ⊎ In y xs → In y (cond b (x ∷ filter p xs) (filter p xs))
  kept_in_step y x xs true e t below (inl s) = subst (λ z. In z (x ∷ filter p xs)) (sym s) (in_head x (filter p xs))
  kept_in_step y x xs true e t below (inr n) = in_tail y x (filter p xs) (below n)
  kept_in_step y x xs false e t below (inl s) = absurd (both_ways (p x) e (ap p (sym s) ∙ t))
  kept_in_step y x xs false e t below (inr n) = below n

  pub kept_in : (y : Entry) (xs : List Entry) → In y xs → p y ≡ true → In y (filter p xs)
  kept_in y [] m t = m
  kept_in y (x ∷ xs) m t = kept_in_step y x xs (p x) refl t (λ i. kept_in y xs i t) (in_cases y x xs m)

  distinct_step : (x : Entry) (xs : List Entry) (b : Bool) → (Ticketed x.ticket xs → ⊥) → Distinct (filter p xs) → Distinct (cond b (x ∷ filter p xs) (filter p xs))
  distinct_step x xs true u d = (λ (y, m, t). u (y, (in_kept y xs m).0, t), d)
  distinct_step x xs false u d = d

  pub distinct_kept : (xs : List Entry) → Distinct xs → Distinct (filter p xs)
  distinct_kept [] d = d
  distinct_kept (x ∷ xs) (u, d) = distinct_step x xs (p x) u (distinct_kept xs d)

pub in_without : (t : ℕ) (y : Entry) (xs : List Entry) → In y (without t xs) → In y xs × (y.ticket ≡ t → ⊥)
in_without t y xs m = let r = in_kept (λ (x : Entry). not (eqb x.ticket t)) y xs m in (r.0, eqb-false y.ticket t (not-true (eqb y.ticket t) r.1))

pub without_in : (t : ℕ) (y : Entry) (xs : List Entry) → In y xs → (y.ticket ≡ t → ⊥) → In y (without t xs)
without_in t y xs m ne = kept_in (λ (x : Entry). not (eqb x.ticket t)) y xs m (not_from_false (eqb y.ticket t) (ne_eqb y.ticket t ne))

-- a ticket that is absent takes nothing away
without_absent : (t : ℕ) (xs : List Entry) → (Ticketed t xs → ⊥) → without t xs ≡ xs
without_absent t [] u = refl
without_absent t (x ∷ xs) u =
    let e : eqb x.ticket t ≡ false = ne_eqb x.ticket t (λ s. u (x, in_head x xs, s)) in
    ap (λ b. cond (not b) (x ∷ without t xs) (without t xs)) e ∙ ap (λ ys. x ∷ ys) (without_absent t xs (λ (y, m, s). u (y, in_tail y x xs m, s)))

length_step : (x y : Entry) (ys : List Entry) → (Ticketed y.ticket ys → ⊥) → (In x ys → length (without x.ticket ys) + 1 ≡ length ys) → (x ≡ y) ⊎ In x ys → length (without x.ticket (y ∷ ys)) + 1 ≡ length (y ∷ ys)
length_step x y ys u below (inl s) =
    let e : eqb y.ticket x.ticket ≡ true = eq-eqb y.ticket x.ticket (ap (λ (z : Entry). z.ticket) (sym s)) in
    let w : without x.ticket (y ∷ ys) ≡ ys = ap (λ b. cond (not b) (y ∷ without x.ticket ys) (without x.ticket ys)) e ∙ without_absent x.ticket ys (subst (λ (z : Entry). Ticketed z.ticket ys → ⊥) (sym s) u) in
    let k : length (without x.ticket (y ∷ ys)) ≡ length ys = ap length w in
    omega arith
length_step x y ys u below (inr n) =
    let e : eqb y.ticket x.ticket ≡ false = ne_eqb y.ticket x.ticket (λ s. u (x, n, sym s)) in
    let k : length (without x.ticket (y ∷ ys)) ≡ length (y ∷ without x.ticket ys) = ap (λ b. length (cond (not b) (y ∷ without x.ticket ys) (without x.ticket ys))) e in
    let r : length (without x.ticket ys) + 1 ≡ length ys = below n in
    omega arith

pub length_without : (x : Entry) (xs : List Entry) → Distinct xs → In x xs → length (without x.ticket xs) + 1 ≡ length xs
length_without x [] d m = absurd (in_none x m)
length_without x (y ∷ ys) (u, d) m = length_step x y ys u (length_without x ys d) (in_cases x y ys m)

entry_step : (x y : Entry) (ys : List Entry) → (Ticketed y.ticket ys → ⊥) → (In x ys → entry_of ys x.ticket ≡ x) → (x ≡ y) ⊎ In x ys → entry_of (y ∷ ys) x.ticket ≡ x
entry_step x y ys u below (inl s) = cond-true (eqb y.ticket x.ticket) y (entry_of ys x.ticket) (eq-eqb y.ticket x.ticket (ap (λ (z : Entry). z.ticket) (sym s))) ∙ sym s
entry_step x y ys u below (inr n) = cond-false (eqb y.ticket x.ticket) y (entry_of ys x.ticket) (ne_eqb y.ticket x.ticket (λ s. u (x, n, sym s))) ∙ below n

-- an entry is found by its ticket
pub entry_found : (x : Entry) (xs : List Entry) → Distinct xs → In x xs → entry_of xs x.ticket ≡ x
entry_found x [] d m = absurd (in_none x m)
entry_found x (y ∷ ys) (u, d) m = entry_step x y ys u (entry_found x ys d) (in_cases x y ys m)

pub without_all_push : (ls : List LetIn) (l : LetIn) (xs : List Entry) → without_all (ls ++ l ∷ []) xs ≡ without l.ticket (without_all ls xs)
without_all_push [] l xs = refl
without_all_push (k ∷ ls) l xs = without_all_push ls l (without k.ticket xs)

pub in_without_all : (ls : List LetIn) (y : Entry) (xs : List Entry) → In y (without_all ls xs) → In y xs
in_without_all [] y xs m = m
in_without_all (l ∷ ls) y xs m = (in_without l.ticket y xs (in_without_all ls y (without l.ticket xs) m)).0

pub remembered_push : (rule : Rule) (ls : List LetIn) (l : LetIn) (xs : List Entry) (m : ℕ) → remembered_chosen rule (ls ++ l ∷ []) xs m ≡ rule.after (remembered_chosen rule ls xs m) (entry_of xs l.ticket)
remembered_push rule [] l xs m = refl
remembered_push rule (k ∷ ls) l xs m = remembered_push rule ls l xs (rule.after m (entry_of xs k.ticket))
