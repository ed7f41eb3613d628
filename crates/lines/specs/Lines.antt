-- The lawful lines of the log, and where a line that is none goes wrong.
use Rattle.std.specs.Prelude.{◌≡◌, ℕ, suc, ◌<◌, ◌≤◌, true, ◌≢◌, ◌⊎◌, List, [], ◌∷◌, ◌++◌, length, take, codes}
use Rattle.std.specs.Str.Parse.{digits_value}
use Rattle.std.specs.List.{AllByRecursion}
use Rattle.tokens.specs.Tokens.{byte, letter, digit, in_name}

-- what a line asks for: the begin of an operation with a rank, the end of an operation, the withdrawal of a ticket
pub data Meaning : Type 0 where
  begin : List ℕ → ℕ → Meaning
  end : List ℕ → Meaning
  withdraw : ℕ → Meaning

-- one byte or more, at most so many: the first is of one kind, the others are of another
abbrev pub Row : (ℕ → Type 0) → (ℕ → Type 0) → ℕ → List ℕ → Type 0
Row First Other most [] = ⊥
Row First Other most (b ∷ bs) = First b × AllByRecursion Other bs × (length (b ∷ bs) ≤ most)

-- a name is a letter, then letters and digits, 16 bytes at most
abbrev pub IsName : List ℕ → Type 0
IsName = Row (λ b. byte b ≡ letter) (λ b. in_name b ≡ true) 16

-- a ticket is 1 to 7 digits, the first not 0
abbrev pub IsTicket : List ℕ → Type 0
IsTicket = Row (λ b. (byte b ≡ digit) × (b ≢ 48)) (λ b. byte b ≡ digit) 7

-- a line is lawful, with its meaning: it is `b NAME RANK` with one digit, `e NAME`, or `w TICKET`
abbrev pub Lawful : List ℕ → Meaning → Type 0
Lawful line (begin name rank) = (d : ℕ) × (line ≡ codes "b " ++ (name ++ (32 ∷ d ∷ []))) × IsName name × (byte d ≡ digit) × (rank ≡ digits_value 10 (d ∷ []))
Lawful line (end name) = (line ≡ codes "e " ++ name) × IsName name
Lawful line (withdraw ticket) = (ds : List ℕ) × (line ≡ codes "w " ++ ds) × IsTicket ds × (ticket ≡ digits_value 10 ds)

-- some row of the form begins with these bytes
abbrev pub Begins : (List ℕ → Type 0) → List ℕ → Type 0
Begins Form bytes = (rest : List ℕ) × Form (bytes ++ rest)

-- where a row without the form goes wrong: at the first byte with which it can no longer get the form, or at its length if it only stops short
pub data Wrong (Form : List ℕ → Type 0) (row : List ℕ) : ℕ → Type 0 where
  at_byte : {p : ℕ} → p < length row → Begins Form (take p row) → (Begins Form (take (suc p) row) → ⊥) → Wrong Form row p
  stops_short : Begins Form row → (Form row → ⊥) → Wrong Form row (length row)

-- a line has a lawful form
abbrev pub IsLawful : List ℕ → Type 0
IsLawful line = (m : Meaning) × Lawful line m

-- a line has no lawful form, and this is the place of the fault
abbrev pub Faulty : List ℕ → ℕ → Type 0
Faulty line p = Wrong IsLawful line p

-- no line is lawful in two ways
abbrev pub OneMeaning : Type 0
OneMeaning = (line : List ℕ) (m n : Meaning) → Lawful line m → Lawful line n → m ≡ n

-- every line is lawful or faulty, none is both, and none is faulty at two places
pub record OneVerdict : Type 0 where
  pub judged : (line : List ℕ) → IsLawful line ⊎ ((p : ℕ) × Faulty line p)
  pub apart : (line : List ℕ) (p : ℕ) → IsLawful line → Faulty line p → ⊥
  pub place : (line : List ℕ) (p q : ℕ) → Faulty line p → Faulty line q → p ≡ q
