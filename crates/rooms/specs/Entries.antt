-- What the calls of a waiting room say of its set of entries.
use Rattle.std.specs.Prelude.{◌≡◌, ℕ, ◌+◌, ◌<◌, Bool, false, ◌⊎◌, ◌↔◌, List, length, Some, None, Ok, Err, Option, Result, ◌≢◌, slice_index_or, AllPairs}
use Rattle.rooms.specs.declared.entry.Entry.{Entry}
use Rattle.rooms.specs.declared.entry.PutFault.{PutFault}
use Rattle.rooms.specs.declared.entry.PutFault.TheVariants.{Known, Full}

-- what a read past the end of a list counts as
abbrev pub none : Entry
none = record { ticket = 0; operation = 0; rank = 0 }

-- the entry x is one of xs
abbrev pub In : Entry → List Entry → Type 0
In x xs = (k : ℕ) × (k < length xs) × (slice_index_or xs k x ≡ x)

-- the ticket t is that of an entry of xs
abbrev pub Ticketed : ℕ → List Entry → Type 0
Ticketed t xs = (x : Entry) × In x xs × (x.ticket ≡ t)

-- no ticket stands twice in xs
abbrev pub NoTwice : List Entry → Type 0
NoTwice xs = AllPairs (λ x y. x.ticket ≢ y.ticket) xs

-- the operation n is one of those allowed by a table
abbrev pub allows : List Bool → ℕ → Bool
allows table n = slice_index_or table n false

-- new is old with the entry x besides
pub record Joined (x : Entry) (old new : List Entry) : Type 0 where
  pub all : (y : Entry) → (In y new ↔ ((y ≡ x) ⊎ In y old))
  pub more : length new ≡ length old + 1

-- the entry x, and no other, has left old, and new is the rest
pub record Left (x : Entry) (old new : List Entry) : Type 0 where
  pub was : In x old
  pub rest : (y : Entry) → (In y new ↔ (In y old × (y.ticket ≢ x.ticket)))
  pub fewer : length new + 1 ≡ length old

-- what the answer to a put of e says of the entries before and after it
abbrev pub PutSays : ℕ → Entry → List Entry → List Entry → Result (Unit {0}) PutFault → Type 0
PutSays places e old new (Ok u) = (Ticketed e.ticket old → ⊥) × (length old < places) × Joined e old new
PutSays places e old new (Err Known) = Ticketed e.ticket old × (new ≡ old)
PutSays places e old new (Err Full) = (Ticketed e.ticket old → ⊥) × (length old ≡ places) × (new ≡ old)

-- what the answer to a take says, for the allowed operations and a rule of choice
abbrev pub TakeSays : (ℕ → Bool) → (List Entry → (ℕ → Bool) → Entry → Type 0) → List Entry → List Entry → Option Entry → Type 0
TakeSays allowed rule old new None = ((x : Entry) → In x old → allowed x.operation ≡ false) × (new ≡ old)
TakeSays allowed rule old new (Some e) = rule old allowed e × Left e old new

-- what the answer to a drop of the ticket t says
abbrev pub DropSays : ℕ → List Entry → List Entry → Option ℕ → Type 0
DropSays t old new None = (Ticketed t old → ⊥) × (new ≡ old)
DropSays t old new (Some a) = (x : Entry) × (x.ticket ≡ t) × (x.operation ≡ a) × Left x old new
