-- What the reader of a line answers, and what its parts tell each other.
use Rattle.std.specs.Prelude.{◌≡◌, ℕ, ◌<◌, ◌≤◌, List, [], ◌∷◌, length, take, Ok, Err, Result}
use Rattle.std.specs.Str.Parse.{digits_value}
use Rattle.tokens.specs.Tokens.{byte, digit}
use Rattle.lines.specs.declared.Order.{Order}
use Rattle.lines.specs.declared.Order.TheVariants.{Begin, End, Withdraw}
use Rattle.lines.specs.declared.LineFault.{LineFault}
use Rattle.lines.specs.Lines.{Meaning, begin, end, withdraw, Lawful, Wrong, Faulty}

-- what an order means
abbrev pub meaning : Order → Meaning
meaning (Begin name rank) = begin name.now rank
meaning (End name) = end name.now
meaning (Withdraw ticket) = withdraw ticket

-- the answer to a line: it is lawful and means the order, or it is faulty at the place told
abbrev pub Judged : List ℕ → Result Order LineFault → Type 0
Judged line (Ok order) = Lawful line (meaning order)
Judged line (Err fault) = Faulty line fault.place

-- plain bounds: a name has at most 16 bytes, a rank is at most 9, a ticket at most 9,999,999, the place of a fault at most 20
abbrev pub Small : Result Order LineFault → Type 0
Small (Ok (Begin name rank)) = (length name.now ≤ 16) × (rank ≤ 9)
Small (Ok (End name)) = length name.now ≤ 16
Small (Ok (Withdraw ticket)) = ticket ≤ 9999999
Small (Err fault) = fault.place ≤ 20

-- ---- what the parts tell each other
-- n is the length of the longest row of the form that these bytes begin with, 0 if they begin with none
pub record Longest (Form : List ℕ → Type 0) (bytes : List ℕ) (n : ℕ) : Type 0 where
  pub within : n ≤ length bytes
  pub has : 0 < n → Form (take n bytes)
  pub longest : (m : ℕ) → n < m → m ≤ length bytes → Form (take m bytes) → ⊥

-- the bytes behind the name of a begin: a space and one digit
abbrev pub IsRank : List ℕ → Type 0
IsRank bytes = (d : ℕ) × (bytes ≡ 32 ∷ d ∷ []) × (byte d ≡ digit)

-- the rank that these bytes give, or where they go wrong
abbrev pub Ranked : List ℕ → Result ℕ LineFault → Type 0
Ranked bytes (Ok rank) = (d : ℕ) × (bytes ≡ 32 ∷ d ∷ []) × (byte d ≡ digit) × (rank ≡ digits_value 10 (d ∷ [])) × (rank ≤ 9)
Ranked bytes (Err fault) = Wrong IsRank bytes fault.place × (fault.place ≤ 2)
