-- The first entry in an order.
use Rattle.std.specs.Prelude.{◌≡◌, ℕ, ◌<◌, Bool, true, false, cond, List, length, get_or, Some, None, Option, ◌==◌, nat_le, nat_lt, slice_index_or}
use Rattle.rooms.specs.declared.entry.Entry.{Entry}
use Rattle.rooms.specs.Entries.{In, none}

-- x is the entry of xs that goes first of all those whose operation is allowed
pub record First (first : Entry → Entry → Bool) (xs : List Entry) (allowed : ℕ → Bool) (x : Entry) : Type 0 where
  pub among : In x xs
  pub may : allowed x.operation ≡ true
  pub before : (y : Entry) → In y xs → allowed y.operation ≡ true → first x y ≡ true

-- by age, the smaller ticket goes first
abbrev pub by_age : Entry → Entry → Bool
by_age x y = nat_le x.ticket y.ticket

-- by rank, the greater rank goes first, among equals the smaller ticket
abbrev pub by_rank : Entry → Entry → Bool
by_rank x y = cond (x.rank == y.rank) (by_age x y) (nat_lt y.rank x.rank)

-- the first allowed of the first n entries of xs stands at a place, or none of them is allowed
abbrev pub Best : (Entry → Entry → Bool) → List Entry → (ℕ → Bool) → ℕ → Option ℕ → Type 0
Best first xs allowed n None = (k : ℕ) → k < n → allowed (get_or xs k none).operation ≡ false
Best first xs allowed n (Some b) = (b < n) × (allowed (get_or xs b none).operation ≡ true) × ((k : ℕ) → k < n → allowed (get_or xs k none).operation ≡ true → first (slice_index_or xs b none) (slice_index_or xs k none) ≡ true)

-- the place of the entry that goes first of the allowed ones, or none where none is allowed
abbrev pub Chosen : (Entry → Entry → Bool) → List Entry → (ℕ → Bool) → Option ℕ → Type 0
Chosen first xs allowed None = (x : Entry) → In x xs → allowed x.operation ≡ false
Chosen first xs allowed (Some i) = (i < length xs) × First first xs allowed (slice_index_or xs i none)
