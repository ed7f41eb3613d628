-- The first n places of an array of entries, as a set: for a room that keeps its entries there.
use Rattle.std.specs.Prelude.{◌≡◌, ℕ, ◌+◌, ◌-◌, ◌<◌, ◌≤◌, ◌≢◌, ◌⊎◌, Bool, true, false, List, length, get_or, take, Some, None, Option, slice_index_or, slice_set, refl}
use Rattle.std.proofs.Common.{sym, ap, ◌∙◌, inl, inr, arith}
use Rattle.std.proofs.lemmas.List.{get_or-take, length-take-le, get_or_default, get_or_past, get_or-set_same, get_or-set_other, length-set}
use Rattle.std.proofs.lemmas.Bool.{cases_eq, cases_lt, cases_order}
use Rattle.std.proofs.lemmas.Grind.{common_steps}
use Rattle.rooms.specs.declared.entry.Entry.{Entry}
use Rattle.rooms.specs.Entries.{In, NoTwice, Ticketed, Left, Joined, allows, none}
use Rattle.rooms.specs.First.{First, Best}
use Rattle.rooms.specs.Best.{Total, Transitive}

-- no two of the first n of xs have the same ticket
abbrev pub Apart : ℕ → List Entry → Type 0
Apart n xs = (i j : ℕ) → (i < j) × (j < n) × ((get_or xs i none).ticket ≡ (get_or xs j none).ticket) → ⊥

-- x stands at a place below n
abbrev pub Stands : List Entry → ℕ → Entry → Type 0
Stands xs n x = (k : ℕ) × (k < n) × (slice_index_or xs k none ≡ x)

-- a place below n of the ticket t, or none where no place has it
abbrev pub PlaceOf : List Entry → ℕ → ℕ → Option ℕ → Type 0
PlaceOf xs n t None = (k : ℕ) → k < n → (slice_index_or xs k none).ticket ≢ t
PlaceOf xs n t (Some i) = (i < n) × ((slice_index_or xs i none).ticket ≡ t)

-- the same of the set of entries
abbrev pub FoundBelow : List Entry → ℕ → ℕ → Option ℕ → Type 0
FoundBelow xs n t None = Ticketed t (take n xs) → ⊥
FoundBelow xs n t (Some i) = (i < n) × In (slice_index_or xs i none) (take n xs) × ((slice_index_or xs i none).ticket ≡ t)

module _ (xs : List Entry) (n : ℕ) (fits : n ≤ length xs) where
  pub from_at : (x : Entry) → Stands xs n x → In x (take n xs)
  from_at x (k, l, e) =
      let m : length (take n xs) ≡ n = length-take-le n xs fits in
      (k, omega arith, get_or-take n xs k x l ∙ get_or_default xs k x none (omega arith) ∙ e)

  pub to_at : (x : Entry) → In x (take n xs) → Stands xs n x
  to_at x (k, l, e) =
      let m : length (take n xs) ≡ n = length-take-le n xs fits in
      let b : k < n = omega arith in
      (k, b, get_or_default xs k none x (omega arith) ∙ sym (get_or-take n xs k x b) ∙ e)

-- two places with one ticket are one place
pub one_place : (xs : List Entry) (n : ℕ) → Apart n xs → (i j : ℕ) → i < n → j < n → (get_or xs i none).ticket ≡ (get_or xs j none).ticket → i ≡ j
one_place xs n apart i j a b e =
    elim (cases_order i j) [
      | inl same ↦ same
      | inr (inl l) ↦ absurd (apart i j (l, b, e))
      | inr (inr l) ↦ absurd (apart j i (l, a, sym e))
    ]

pub no_twice : (xs : List Entry) (n : ℕ) → n ≤ length xs → Apart n xs → NoTwice (take n xs)
no_twice xs n fits apart i j d l h e =
    let m : length (take n xs) ≡ n = length-take-le n xs fits in
    let t = λ (z : Entry). z.ticket in
    let at : (k : ℕ) → k < n → get_or (take n xs) k d ≡ get_or xs k none = λ k b. get_or-take n xs k d b ∙ get_or_default xs k d none (omega arith) in
    apart i j (l, omega arith, ap t (sym (at i (omega arith))) ∙ e ∙ ap t (at j (omega arith)))

-- ---- an entry goes, and the last one takes its place

module _ (xs : List Entry) (n i : ℕ) (fits : n ≤ length xs) (apart : Apart n xs) (within : i < n) where
  -- the last entry goes to the place i
  abbrev pub closed : List Entry
  closed = slice_set xs i (slice_index_or xs (n - 1) none)

  -- the place in xs of what then stands at k
  origin : (k : ℕ) → k < n - 1 → (j : ℕ) × (j < n) × (j ≢ i) × (slice_index_or closed k none ≡ slice_index_or xs j none) × ((k ≡ i) ⊎ (j ≡ k)) × ((k ≢ i) ⊎ (j ≡ n - 1))
  origin k l =
      let h : i < length xs = omega arith in
      elim (cases_eq k i) [
        | inl e ↦ (n - 1, omega arith, omega arith, ap (λ m. get_or closed m none) e ∙ get_or-set_same xs i (slice_index_or xs (n - 1) none) none h, inl e, inr refl)
        | inr ne ↦ (k, omega arith, ne, get_or-set_other xs i k (slice_index_or xs (n - 1) none) none ne, inr refl, inl ne)
      ]

  pub apart_closed : Apart (n - 1) closed
  apart_closed a b (l, h, e) =
      let (p, p<, p≢, pe, pk, pj) = origin a (omega arith) in
      let (q, q<, q≢, qe, qk, qj) = origin b h in
      let same : p ≡ q = one_place xs n apart p q p< q< (ap (λ (z : Entry). z.ticket) (sym pe) ∙ e ∙ ap (λ (z : Entry). z.ticket) qe) in
      elim pk [
        | inl u ↦ elim qk [ inl v ↦ omega arith | inr v ↦ elim pj [ inl w ↦ absurd (w u) | inr w ↦ omega arith ] ]
        | inr u ↦ elim qk [ inl v ↦ elim qj [ inl w ↦ absurd (w v) | inr w ↦ omega arith ] | inr v ↦ omega arith ]
      ]

  pub left : Left (slice_index_or xs i none) (take n xs) (take (n - 1) closed)
  left =
      let len : length closed ≡ length xs = length-set xs i (slice_index_or xs (n - 1) none) in
      let t = λ (z : Entry). z.ticket in
      record {
        was = from_at xs n fits (slice_index_or xs i none) (i, within, refl);
        rest = λ y. (
          λ m.
              let (k, l, e) = to_at closed (n - 1) (omega arith) y m in
              let (j, j<, j≢, je, _, _) = origin k l in (
                from_at xs n fits y (j, j<, sym je ∙ e),
                λ same. j≢ (one_place xs n apart j i j< within (ap t (sym je ∙ e) ∙ same)),
              ),
          λ (m, other).
              let (k, l, e) = to_at xs n fits y m in
              let ne : k ≡ i → ⊥ = λ same. other (ap t (sym e ∙ ap (λ a. get_or xs a none) same)) in
              from_at closed (n - 1) (omega arith) y
              (elim (cases_eq k (n - 1)) [
                | inl z ↦ (i, omega arith, get_or-set_same xs i (slice_index_or xs (n - 1) none) none (omega arith) ∙ ap (λ a. get_or xs a none) (sym z) ∙ e)
                | inr z ↦ (k, omega arith, get_or-set_other xs i k (slice_index_or xs (n - 1) none) none ne ∙ e)
              ]),
        );
        fewer = (let a : length (take (n - 1) closed) ≡ n - 1 = length-take-le (n - 1) closed (omega arith) in
            let b : length (take n xs) ≡ n = length-take-le n xs fits in omega arith);
      }

-- ---- one more entry

module _ (xs : List Entry) (n : ℕ) (e : Entry) (fits : n < length xs) (new : Ticketed e.ticket (take n xs) → ⊥) where
  unseen : (k : ℕ) → k < n → (get_or xs k none).ticket ≢ e.ticket
  unseen k l t = new (slice_index_or xs k none, from_at xs n (omega arith) (slice_index_or xs k none) (k, l, refl), t)

  at_last : get_or (slice_set xs n e) n none ≡ e
  at_last = get_or-set_same xs n e none fits

  below : (k : ℕ) → k < n → slice_index_or (slice_set xs n e) k none ≡ slice_index_or xs k none
  below k l = let ne : k ≢ n = omega arith in get_or-set_other xs n k e none ne

  pub apart_added : Apart n xs → Apart (n + 1) (slice_set xs n e)
  apart_added apart i j (l, h, t) =
      let tk = λ (z : Entry). z.ticket in
      let bi = below i (omega arith) in
      elim (cases_eq j n) [
        | inl z ↦ unseen i (omega arith) (ap tk (sym bi) ∙ t ∙ ap (λ m. (get_or (slice_set xs n e) m none).ticket) z ∙ ap tk at_last)
        | inr ne ↦ apart i j (l, omega arith, ap tk (sym bi) ∙ t ∙ ap tk (below j (omega arith)))
      ]

  pub joined : Joined e (take n xs) (take (n + 1) (slice_set xs n e))
  joined =
      let len : length (slice_set xs n e) ≡ length xs = length-set xs n e in
      record {
        all = λ y. (
          λ m.
              let (k, l, u) = to_at (slice_set xs n e) (n + 1) (omega arith) y m in
              elim (cases_eq k n) [
                | inl z ↦ inl (sym u ∙ ap (λ a. get_or (slice_set xs n e) a none) z ∙ at_last)
                | inr ne ↦ inr (from_at xs n (omega arith) y (k, omega arith, sym (below k (omega arith)) ∙ u))
              ],
          λ o. from_at (slice_set xs n e) (n + 1) (omega arith) y
              (elim o [
                | inl z ↦ (n, omega arith, at_last ∙ sym z)
                | inr m ↦ (let (k, l, u) = to_at xs n (omega arith) y m in (k, omega arith, below k l ∙ u))
              ]),
        );
        more = (let a : length (take (n + 1) (slice_set xs n e)) ≡ n + 1 = length-take-le (n + 1) (slice_set xs n e) (omega arith) in
            let b : length (take n xs) ≡ n = length-take-le n xs (omega arith) in omega arith);
      }

-- a search for a ticket by place is one in the set
pub found : (xs : List Entry) (n t : ℕ) (r : Option ℕ) → n ≤ length xs → PlaceOf xs n t r → FoundBelow xs n t r
found xs n t None fits away = λ (x, m, e). (let (k, l, u) = to_at xs n fits x m in away k l (ap (λ (z : Entry). z.ticket) u ∙ e))
found xs n t (Some i) fits (l, e) = (l, from_at xs n fits (slice_index_or xs i none) (i, l, refl), e)

-- ---- one pass that looks for the first allowed entry: the best of the first i entries, and then of one more

module _ (first : Entry → Entry → Bool) (total : Total first) (xs : List Entry) (allowed : ℕ → Bool) (i : ℕ) where
  -- the entry at i is not allowed
  pub best_skips : (best : Option ℕ) → allowed (get_or xs i none).operation ≡ false → Best first xs allowed i best → Best first xs allowed (i + 1) best
  best_skips None n far = grind (arith, common_steps)
  best_skips (Some b) n far = grind (arith, common_steps)

  -- the entry at i is the first that is allowed at all
  pub best_starts : allowed (get_or xs i none).operation ≡ true → Best first xs allowed i None → Best first xs allowed (i + 1) (Some i)
  best_starts a far = grind (arith, common_steps)

  -- the entry at i goes before the best so far
  pub best_moves : Transitive first → (b : ℕ) → allowed (get_or xs i none).operation ≡ true → first (slice_index_or xs i none) (slice_index_or xs b none) ≡ true → Best first xs allowed i (Some b) → Best first xs allowed (i + 1) (Some i)
  best_moves transitive b a before far = grind (arith, common_steps)

  -- the entry at i does not go before the best so far
  pub best_stays : (b : ℕ) → first (slice_index_or xs i none) (slice_index_or xs b none) ≡ false → Best first xs allowed i (Some b) → Best first xs allowed (i + 1) (Some b)
  best_stays b behind far = grind (arith, common_steps)

-- the first of the allowed by place is the first of the set
module _ (first : Entry → Entry → Bool) (xs : List Entry) (allowed : ℕ → Bool) (n : ℕ) (fits : n ≤ length xs) where
  pub best_is : (b : ℕ) → Best first xs allowed n (Some b) → First first (take n xs) allowed (slice_index_or xs b none)
  best_is b (l, a, far) = record {
    among = from_at xs n fits (slice_index_or xs b none) (b, l, refl);
    may = a;
    before = λ y m q.
        let (k, h, e) = to_at xs n fits y m in
        ap (first (slice_index_or xs b none)) (sym e) ∙ far k h (ap (λ (z : Entry). allowed z.operation) e ∙ q);
  }

  pub best_none : Best first xs allowed n None → (x : Entry) → In x (take n xs) → allowed x.operation ≡ false
  best_none far x m =
      let (k, h, e) = to_at xs n fits x m in
      ap (λ (z : Entry). allowed z.operation) (sym e) ∙ far k h

-- the place below n of the entry that goes first of the allowed ones, or none where none is allowed
abbrev pub ChosenBelow : (Entry → Entry → Bool) → List Entry → ℕ → (ℕ → Bool) → Option ℕ → Type 0
ChosenBelow first xs n allowed None = (x : Entry) → In x (take n xs) → allowed x.operation ≡ false
ChosenBelow first xs n allowed (Some i) = (i < n) × First first (take n xs) allowed (slice_index_or xs i none)

pub chosen_below : (first : Entry → Entry → Bool) (xs : List Entry) (allowed : ℕ → Bool) (n : ℕ) (r : Option ℕ) → n ≤ length xs → Best first xs allowed n r → ChosenBelow first xs n allowed r
chosen_below first xs allowed n None fits far = best_none first xs allowed n fits far
chosen_below first xs allowed n (Some b) fits far = (far.0, best_is first xs allowed n fits b far)

-- a table of 64 operations allows none beyond them
pub told : (table : List Bool) (n : ℕ) (r b : Bool) → length table ≡ 64 → (n < 64 → r ≡ allows table n) → (64 ≤ n → r ≡ false) → r ≡ b → allows table n ≡ b
told table n r b long below beyond e =
    elim (cases_lt n 64) [ inl l ↦ sym (below l) ∙ e | inr l ↦ get_or_past table n false (omega arith) ∙ sym (beyond l) ∙ e ]

-- ---- 256 places

pub taken_within : (xs : List Entry) (n : ℕ) → length xs ≡ 256 → n ≤ 256 → length (take n xs) ≤ 256
taken_within xs n long few = let e = length-take-le n xs (omega arith) in omega arith

pub within_places : (xs : List Entry) (n : ℕ) → length xs ≡ 256 → n ≤ 256 → n ≤ length xs
within_places xs n long few = omega arith
