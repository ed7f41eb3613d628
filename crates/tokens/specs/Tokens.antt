-- The tokens of a text of bytes, and the number of a name.
use Rattle.std.specs.Prelude.{ℕ, suc, Bool, true, false, cond, not, ◌&&◌, ◌||◌, List, [], ◌∷◌, take, drop, codes, ◌==◌, nat_le, slice_index_or}
use Rattle.std.specs.List.{prefix_len}
use Rattle.std.specs.Str.{bytes_eq}
use Rattle.tokens.specs.declared.Kind.{Kind}
use Rattle.tokens.specs.declared.Kind.TheVariants.{Semicolon, Comma, RoundOpen, RoundClose, BraceOpen, BraceClose, Path, End, Name as NameKind}
use Rattle.tokens.specs.declared.Token.{Token}
use Rattle.tokens.specs.declared.Name.{Name}

-- ---- bytes
-- what a byte is: a blank, a letter, a digit, one of the six signs, or none of these
pub data Byte : Type 0 where
  blank letter digit other : Byte
  sign : Kind → Byte

-- blanks are 32, 9, 10 and 13; the signs are ; , ( ) { }; letters are a to z, digits 0 to 9
abbrev pub byte : ℕ → Byte
byte b =
    cond (b == 32 || (b == 9 || (b == 10 || b == 13))) blank
    (cond (b == 59) (sign Semicolon)
    (cond (b == 44) (sign Comma)
    (cond (b == 40) (sign RoundOpen)
    (cond (b == 41) (sign RoundClose)
    (cond (b == 123) (sign BraceOpen)
    (cond (b == 125) (sign BraceClose)
    (cond (nat_le 97 b && nat_le b 122) letter
    (cond (nat_le 48 b && nat_le b 57) digit other))))))))

-- blanks are passed over between tokens
abbrev pub is_gap : Byte → Bool
is_gap blank = true
is_gap letter = false
is_gap digit = false
is_gap other = false
is_gap (sign k) = false

abbrev pub in_gap : ℕ → Bool
in_gap b = is_gap (byte b)

-- letters and digits carry a name on
abbrev pub goes_on : Byte → Bool
goes_on blank = false
goes_on letter = true
goes_on digit = true
goes_on other = false
goes_on (sign k) = false

abbrev pub in_name : ℕ → Bool
in_name b = goes_on (byte b)

-- ---- tokens
-- a row of letters and digits that is just one of the two words is that word, any other a name
abbrev pub word_kind : List ℕ → Kind
word_kind w = cond (bytes_eq w (codes "path")) Path (cond (bytes_eq w (codes "end")) End NameKind)

abbrev pub token : Kind → ℕ → ℕ → Token
token k place len = record { kind = k; place = place; len = len }

-- where no token follows: at the text's end, at a byte that starts none, at a name over 16 bytes
pub data Stop : Type 0 where
  at_end : Stop
  no_token long_name : ℕ → Stop

-- the tokens of some bytes, and where they stop
pub record Row : Type 0 where
  pub tokens : List Token
  pub stop : Stop

abbrev pub stopped : Stop → Row
stopped s = record { tokens = []; stop = s }

abbrev pub then : Token → Row → Row
then t r = record { tokens = t ∷ r.tokens; stop = r.stop }

-- a word at the front of the bytes, which stand at a place, and the row behind it
abbrev pub word_first : ℕ → List ℕ → Row → Row
word_first place bs r =
    let n : ℕ = prefix_len in_name bs in
    cond (nat_le n 16) (then (token (word_kind (take n bs)) place n) r) (stopped (long_name place))

-- at a byte: what it is, whether the byte before it belongs to a word, its place, the bytes from it on, and the row behind it, within a word or not
abbrev pub row_at : Byte → Bool → ℕ → List ℕ → (Bool → Row) → Row
row_at blank within place bs rest = rest false
row_at letter true place bs rest = rest true
row_at letter false place bs rest = word_first place bs (rest true)
row_at digit true place bs rest = rest true
row_at digit false place bs rest = stopped (no_token place)
row_at other within place bs rest = stopped (no_token place)
row_at (sign k) within place bs rest = then (token k place 1) (rest false)

abbrev pub row_from : Bool → ℕ → List ℕ → Row
row_from within place [] = stopped at_end
row_from within place (b ∷ bs) = row_at (byte b) within place (b ∷ bs) (λ w. row_from w (suc place) bs)

abbrev pub row_of : List ℕ → Row
row_of text = row_from false 0 text

-- the tokens of a text, as far as they reach
abbrev pub tokens : List ℕ → List Token
tokens text = (row_of text).tokens

-- where and why they stop
abbrev pub stop : List ℕ → Stop
stop text = (row_of text).stop

-- ---- names
-- the part of the text of that length at a place
abbrev pub spelled : List ℕ → ℕ → ℕ → List ℕ
spelled text place len = take len (drop place text)

abbrev pub spelling : List ℕ → Token → List ℕ
spelling text t = spelled text t.place t.len

-- the number of the first name that is spelled as the word w, or the count of the names if none is
abbrev pub number_of : List ℕ → List Name → List ℕ → ℕ
number_of text names w = prefix_len (λ (u : Name). not (bytes_eq (spelled text u.place u.len) w)) names

-- where a name stands, if there is one of that number; else an empty part
abbrev pub name_at : List Name → ℕ → Name
name_at names n = slice_index_or names n (record { place = 0; len = 0 })

-- the bytes of the name with a number
abbrev pub name_bytes : List ℕ → List Name → ℕ → List ℕ
name_bytes text names n = spelled text (name_at names n).place (name_at names n).len
