-- The next token of a text from a place on.
use Rattle.std.specs.Prelude.{◌≡◌, ℕ, suc, ◌+◌, ◌<◌, ◌≤◌, cond, ◌≢◌, List, [], ◌∷◌, take, Some, None, Ok, Err, Option, Result, nat_le}
use Rattle.std.specs.List.{prefix_len}
use Rattle.tokens.specs.declared.Token.{Token}
use Rattle.tokens.specs.declared.BytesFault.{BytesFault}
use Rattle.tokens.specs.declared.BytesFault.TheVariants.{TooLong, NoToken, LongName}
use Rattle.tokens.specs.declared.TokenReader.{TokenReader}
use Rattle.tokens.specs.Tokens.{Byte, blank, letter, digit, other, sign, byte, in_name, word_kind, token, Stop, at_end, no_token, long_name}

-- the next token, or why there is none
pub data Next : Type 0 where
  found : Token → Next
  none : Stop → Next

abbrev pub next_word : ℕ → List ℕ → Next
next_word place bs =
    let n : ℕ = prefix_len in_name bs in
    cond (nat_le n 16) (found (token (word_kind (take n bs)) place n)) (none (long_name place))

-- at a byte: what it is, its place, the bytes from it on, and what comes next behind it
abbrev pub next_at : Byte → ℕ → List ℕ → Next → Next
next_at blank place bs later = later
next_at letter place bs later = next_word place bs
next_at digit place bs later = none (no_token place)
next_at other place bs later = none (no_token place)
next_at (sign k) place bs later = found (token k place 1)

-- the next token of the bytes, which stand at a place
abbrev pub next : ℕ → List ℕ → Next
next place [] = none at_end
next place (b ∷ bs) = next_at (byte b) place (b ∷ bs) (next (suc place) bs)

-- the bytes that a reader reads
abbrev pub bytes : TokenReader → List ℕ
bytes r = r.text.now

-- a text of n bytes is short enough exactly when it has at most 16,384
abbrev pub Measured : ℕ → Result (Unit {0}) BytesFault → Type 0
Measured n (Ok u) = n ≤ 16384
Measured n (Err f) = (16384 < n) × (f ≡ TooLong)

-- the next token as the reader answers it
abbrev pub Found : Next → Result (Option Token) BytesFault → Type 0
Found n (Ok None) = n ≡ none at_end
Found n (Ok (Some t)) = n ≡ found t
Found n (Err TooLong) = ⊥
Found n (Err (NoToken p)) = n ≡ none (no_token p)
Found n (Err (LongName p)) = n ≡ none (long_name p)

-- from place p to place q of a text of n bytes: a token moves the place behind itself, and without one it stays
abbrev pub Moved : ℕ → ℕ → ℕ → Result (Option Token) BytesFault → Type 0
Moved n p q (Ok None) = q ≡ p
Moved n p q (Ok (Some t)) = (q ≡ t.place + t.len) × (p < q) × (q ≤ n)
Moved n p q (Err e) = q ≡ p

-- ---- what the scans tell each other
-- the bytes do not begin with a blank
abbrev pub Solid : List ℕ → Type 0
Solid [] = Unit {0}
Solid (b ∷ bs) = byte b ≢ blank

-- a token stands at p, and within n bytes from there
abbrev pub Inside : ℕ → ℕ → Result (Option Token) BytesFault → Type 0
Inside p n (Ok None) = Unit {0}
Inside p n (Ok (Some t)) = (t.place ≡ p) × (0 < t.len) × (t.len ≤ n)
Inside p n (Err e) = Unit {0}
