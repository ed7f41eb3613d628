-- The first allowed entry of a list, in an order that is total and transitive.
use Rattle.std.specs.Prelude.{◌≡◌, ℕ, zero, suc, ◌+◌, Bool, true, ◌⊎◌, List, length, get_or, Some, None, Option, slice_index_or, refl}
use Rattle.std.proofs.Common.{sym, ap, subst, ◌∙◌, inl, inr, add-one, arith}
use Rattle.std.proofs.lemmas.Bool.{cases_Bool, both_ways}
use Rattle.std.proofs.lemmas.Grind.{common_steps}
use Rattle.std.proofs.lemmas.List.{get_or_default}
use Rattle.std.proofs.lemmas.List.Elements.{Contains-get_or}
use Rattle.rooms.specs.declared.entry.Entry.{Entry}
use Rattle.rooms.specs.Entries.{In, none}
use Rattle.rooms.specs.First.{First, Best, Chosen}

abbrev pub Total : (Entry → Entry → Bool) → Type 0
Total first = (x y : Entry) → (first x y ≡ true) ⊎ (first y x ≡ true)

abbrev pub Transitive : (Entry → Entry → Bool) → Type 0
Transitive first = (x y z : Entry) → first x y ≡ true → first y z ≡ true → first x z ≡ true

-- the first of the allowed by place is the first of the set
pub chosen : (first : Entry → Entry → Bool) (xs : List Entry) (allowed : ℕ → Bool) (n : ℕ) (r : Option ℕ) → n ≡ length xs → Best first xs allowed n r → Chosen first xs allowed r
chosen first xs allowed n None all far = λ x m. (let (k, l, e) = m in ap (λ (z : Entry). allowed z.operation) (sym (get_or_default xs k none x l ∙ e)) ∙ far k (omega arith))
chosen first xs allowed n (Some b) all (l, a, far) = (
  omega arith,
  record {
    among = Contains-get_or xs b none (omega arith);
    may = a;
    before = λ y (k, h, e) q.
        let is = get_or_default xs k none y h ∙ e in
        ap (first (get_or xs b none)) (sym is) ∙ far k (omega arith) (ap (λ (z : Entry). allowed z.operation) is ∙ q);
  },
)

-- an entry whose operation is allowed has one that goes first
module _ (first : Entry → Entry → Bool) (total : Total first) (transitive : Transitive first) (xs : List Entry) (allowed : ℕ → Bool) where
  -- one more entry has a best
  best_more : (i : ℕ) (o : Option ℕ) → Best first xs allowed i o → (p : Option ℕ) × Best first xs allowed (i + 1) p
  best_more i None far =
      elim (cases_Bool (allowed (get_or xs i none).operation)) [
        | inl a ↦ (Some i, grind (arith, common_steps))
        | inr n ↦ (None, grind (arith, common_steps))
      ]
  best_more i (Some b) far =
      elim (cases_Bool (allowed (get_or xs i none).operation)) [
        | inl a ↦ elim (cases_Bool (first (slice_index_or xs i none) (slice_index_or xs b none))) [
          | inl before ↦ (Some i, grind (arith, common_steps))
          | inr behind ↦ (Some b, grind (arith, common_steps))
        ]
        | inr n ↦ (Some b, grind (arith, common_steps))
      ]

  -- some place is the best of the first n
  best_of : (n : ℕ) → (o : Option ℕ) × Best first xs allowed n o
  best_of zero = (None, λ k h. absurd (omega arith))
  best_of (suc n) = (let (o, far) = best_of n in let (p, next) = best_more n o far in (p, subst (λ m. Best first xs allowed m p) (add-one n) next))

  first_of : (o : Option ℕ) → Chosen first xs allowed o → (x : Entry) → In x xs → allowed x.operation ≡ true → (y : Entry) × First first xs allowed y
  first_of None none x m a = absurd (both_ways _ (none x m) a)
  first_of (Some b) (_, is) x m a = (slice_index_or xs b none, is)

  pub first_some : (x : Entry) → In x xs → allowed x.operation ≡ true → (y : Entry) × First first xs allowed y
  first_some = let (o, far) = best_of (length xs) in first_of o (chosen first xs allowed _ o refl far)
