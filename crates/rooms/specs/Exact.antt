-- Each answer of a waiting room is given exactly when its condition holds.
use Rattle.std.specs.Prelude.{◌≡◌, ℕ, ◌<◌, Bool, false, ◌↔◌, List, length, None, Ok, Err, Option, Result}
use Rattle.rooms.specs.declared.entry.Entry.{Entry}
use Rattle.rooms.specs.declared.entry.PutFault.{PutFault}
use Rattle.rooms.specs.declared.entry.PutFault.TheVariants.{Known, Full}
use Rattle.rooms.specs.Entries.{In, Ticketed, PutSays, TakeSays, DropSays}

-- a put is known exactly when its ticket is present, otherwise full exactly when all places are taken, otherwise it is added
abbrev pub PutExact : ℕ → Type 0
PutExact places =
    (e : Entry) (old new : List Entry) (r : Result (Unit {0}) PutFault) → PutSays places e old new r →
    ((r ≡ Err Known) ↔ Ticketed e.ticket old) × ((r ≡ Err Full) ↔ ((Ticketed e.ticket old → ⊥) × (length old ≡ places))) × ((r ≡ Ok tt) ↔ ((Ticketed e.ticket old → ⊥) × (length old < places)))

-- a take answers none exactly when no entry's operation is allowed
abbrev pub TakeExact : (List Entry → (ℕ → Bool) → Entry → Type 0) → Type 0
TakeExact rule =
    (allowed : ℕ → Bool) (old new : List Entry) (r : Option Entry) → TakeSays allowed rule old new r →
    ((r ≡ None) ↔ ((x : Entry) → In x old → allowed x.operation ≡ false))

-- a drop answers none exactly when the ticket is absent
abbrev pub DropExact : Type 0
DropExact = (t : ℕ) (old new : List Entry) (r : Option ℕ) → DropSays t old new r → ((r ≡ None) ↔ (Ticketed t old → ⊥))
