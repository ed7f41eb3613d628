-- The rule of choice of a waiting room.
use Rattle.std.specs.Prelude.{ℕ, Bool, List}
use Rattle.rooms.specs.declared.entry.Entry.{Entry}

-- A rule of choice: what a new room remembers, what a choice makes of it, and which entry is chosen, by what is remembered, of a set of entries
-- and of the operations allowed.
pub record Rule : Type 1 where
  pub start : ℕ
  pub after : ℕ → Entry → ℕ
  pub chooses : ℕ → List Entry → (ℕ → Bool) → Entry → Type 0
