-- A list of entries as a set: what a search finds, what comes and what goes.
use Rattle.std.specs.Prelude.{◌≡◌, ℕ, ◌-◌, ◌<◌, ◌≢◌, List, [], ◌∷◌, length, get_or, Some, None, Option, slice_index_or, swap_remove}
use Rattle.std.proofs.Common.{sym, ap, ◌∙◌, inl, inr, arith}
use Rattle.std.proofs.lemmas.List.{get_or_default, get_or-set_same}
use Rattle.std.proofs.lemmas.List.Elements.{Contains-append_right}
use Rattle.std.proofs.lemmas.List.Sorted.{IsPermutation-swap_remove, IsPermutation-sym, Contains-permutation}
use Rattle.std.proofs.lemmas.Map.Made.{Contains-tail}
use Rattle.std.proofs.lemmas.Grind.{common_steps}
use Rattle.std.proofs.lemmas.Bool.{cases_eq, cases_order}
use Rattle.rooms.specs.declared.entry.Entry.{Entry}
use Rattle.rooms.specs.Entries.{In, NoTwice, Ticketed, Left, none}

-- a search for the ticket t: its place, or none where no entry has it
abbrev pub Found : List Entry → ℕ → Option ℕ → Type 0
Found xs t None = Ticketed t xs → ⊥
Found xs t (Some i) = (i < length xs) × ((slice_index_or xs i none).ticket ≡ t)

-- two places with one ticket are one place
one_place : (xs : List Entry) → NoTwice xs → (i j : ℕ) (d : Entry) → i < length xs → j < length xs → (get_or xs i d).ticket ≡ (get_or xs j d).ticket → i ≡ j
one_place xs apart i j d a b e =
    elim (cases_order i j) [
      | inl same ↦ same
      | inr (inl l) ↦ absurd (apart i j d l b e)
      | inr (inr l) ↦ absurd (apart j i d l a (sym e))
    ]

-- two entries with one ticket are one entry
pub one_entry : (xs : List Entry) → NoTwice xs → (x y : Entry) → In x xs → In y xs → x.ticket ≡ y.ticket → x ≡ y
one_entry xs apart x y (i, a, u) (j, b, v) e =
    let w : get_or xs j x ≡ y = get_or_default xs j x y b ∙ v in
    let same : i ≡ j = one_place xs apart i j x a b (grind arith) in
    grind arith

-- ---- an entry goes, and the last one takes its place

module _ (xs : List Entry) (i : ℕ) (e : Entry) (apart : NoTwice xs) (within : i < length xs) (is : e ≡ get_or xs i e) where
  long : length (swap_remove xs i e) ≡ length xs - 1
  long = grind (arith, common_steps)

  -- what then stands at a place
  at_same : (d : Entry) → i < length xs - 1 → get_or (swap_remove xs i e) i d ≡ get_or xs (length xs - 1) d
  at_same d l = grind (arith, common_steps, get_or-set_same)

  at_other : (k : ℕ) (d : Entry) → k ≢ i → k < length xs - 1 → get_or (swap_remove xs i e) k d ≡ get_or xs k d
  at_other k d ne l = grind (arith, common_steps)

  pub no_twice_left : NoTwice (swap_remove xs i e)
  no_twice_left a b d l h t =
      let n = long in
      let last = length xs - 1 in
      elim (cases_eq a i) [
        | inl u ↦ (let ne : b ≢ i = omega arith in apart b last d (omega arith) (omega arith) (grind (arith, at_same, at_other)))
        | inr u ↦ elim (cases_eq b i) [
          | inl v ↦ apart a last d (omega arith) (omega arith) (grind (arith, at_same, at_other))
          | inr v ↦ apart a b d l (omega arith) (grind (arith, at_other))
        ]
      ]

  -- one that is left has another ticket
  others : (y : Entry) → In y (swap_remove xs i e) → y.ticket ≢ e.ticket
  others y (k, l, u) t =
      let n = long in
      let at : get_or xs i y ≡ e = get_or_default xs i y e within ∙ sym is in
      elim (cases_eq k i) [
        | inl same ↦ apart i (length xs - 1) y (omega arith) (omega arith) (grind (arith, at_same))
        | inr ne ↦ ne (one_place xs apart k i y (omega arith) within (grind (arith, at_other)))
      ]

  pub left : Left e xs (swap_remove xs i e)
  left =
      let moved = IsPermutation-swap_remove xs i e within is in
      record {
        was = (i, within, sym is);
        rest = λ y. (
          λ m. (Contains-permutation (e ∷ swap_remove xs i e) xs y (IsPermutation-sym xs (e ∷ swap_remove xs i e) moved) (Contains-append_right (e ∷ []) (swap_remove xs i e) y m), others y m),
          λ (m, other). Contains-tail e (swap_remove xs i e) y (λ same. other (ap (λ (z : Entry). z.ticket) (sym same))) (Contains-permutation xs (e ∷ swap_remove xs i e) y moved m),
        );
        fewer = omega (arith, long);
      }
