-- A text as a row of blanks and tokens, as far as it is one.
use Rattle.std.specs.Prelude.{◌≡◌, ℕ, suc, ◌+◌, ◌<◌, ◌≤◌, ◌≢◌, ◌⊎◌, List, [], ◌∷◌, ◌++◌, length, codes}
use Rattle.std.specs.List.{AllByRecursion}
use Rattle.tokens.specs.declared.Kind.{Kind}
use Rattle.tokens.specs.declared.Kind.TheVariants.{Semicolon, Comma, RoundOpen, RoundClose, BraceOpen, BraceClose, Path, End, Name}
use Rattle.tokens.specs.declared.Token.{Token}
use Rattle.tokens.specs.Tokens.{token, Stop, at_end, no_token, long_name, tokens, stop}

-- ---- bytes
pub data Blank : ℕ → Type 0 where
  space : Blank 32
  tab : Blank 9
  line_feed : Blank 10
  carriage_return : Blank 13

-- the six signs ; , ( ) { }
pub data Sign : Kind → ℕ → Type 0 where
  semicolon : Sign Semicolon 59
  comma : Sign Comma 44
  round_open : Sign RoundOpen 40
  round_close : Sign RoundClose 41
  brace_open : Sign BraceOpen 123
  brace_close : Sign BraceClose 125

-- a to z
abbrev pub Letter : ℕ → Type 0
Letter b = (97 ≤ b) × (b ≤ 122)

-- 0 to 9
abbrev pub Digit : ℕ → Type 0
Digit b = (48 ≤ b) × (b ≤ 57)

abbrev pub LetterOrDigit : ℕ → Type 0
LetterOrDigit b = Letter b ⊎ Digit b

-- neither a blank nor the first byte of a token
pub record StartsNone (b : ℕ) : Type 0 where
  pub no_blank : ¬ Blank b
  pub no_letter : ¬ Letter b
  pub no_sign : (k : Kind) → ¬ Sign k b

-- ---- words
-- a letter, and then letters and digits
abbrev pub LetterFirst : List ℕ → Type 0
LetterFirst [] = ⊥
LetterFirst (b ∷ bs) = Letter b × AllByRecursion LetterOrDigit bs

-- the first of these bytes, if there is one, is no letter and no digit
abbrev pub NoneFirst : List ℕ → Type 0
NoneFirst [] = Unit {0}
NoneFirst (b ∷ bs) = ¬ LetterOrDigit b

-- a row of letters and digits that starts with a letter and goes on as far as letters and digits reach; behind it stand the bytes after
pub record Word (row after : List ℕ) : Type 0 where
  pub front : LetterFirst row
  pub reach : NoneFirst after

-- a row that is just `path` or `end` is that word, any other row is a name
pub data WordKind : Kind → List ℕ → Type 0 where
  path_word : WordKind Path (codes "path")
  end_word : WordKind End (codes "end")
  name : {row : List ℕ} → row ≢ codes "path" → row ≢ codes "end" → WordKind Name row

-- ---- tokens
-- these bytes, with the bytes after behind them, are a token of that kind: a sign, or a row of at most 16 bytes
pub data Spelled : Kind → List ℕ → List ℕ → Type 0 where
  by_sign : {k : Kind} {b : ℕ} {after : List ℕ} → Sign k b → Spelled k (b ∷ []) after
  by_word : {k : Kind} {row after : List ℕ} → Word row after → length row ≤ 16 → WordKind k row → Spelled k row after

-- the bytes that stand from a place on, the tokens that they hold, and where and why these stop
pub data Laid : ℕ → List ℕ → List Token → Stop → Type 0 where
  -- a blank, and what is laid out behind it
  a_blank : {p b : ℕ} {bs : List ℕ} {ts : List Token} {s : Stop} → Blank b → Laid (suc p) bs ts s → Laid p (b ∷ bs) ts s
  -- a token, with its place and its length, and what is laid out behind it
  a_token : {p : ℕ} {k : Kind} {bytes after : List ℕ} {ts : List Token} {s : Stop} → Spelled k bytes after → Laid (p + length bytes) after ts s →
      Laid p (bytes ++ after) (token k p (length bytes) ∷ ts) s
  -- the text is over
  over : {p : ℕ} → Laid p [] [] at_end
  -- a byte starts no token
  stray : {p b : ℕ} {bs : List ℕ} → StartsNone b → Laid p (b ∷ bs) [] (no_token p)
  -- a row has more than 16 bytes
  too_long : {p : ℕ} {row after : List ℕ} → Word row after → 16 < length row → Laid p (row ++ after) [] (long_name p)

-- a text is laid out as its tokens, up to where they stop, and in no other way
pub record TokensCover : Type 0 where
  pub laid : (text : List ℕ) → Laid 0 text (tokens text) (stop text)
  pub only : (text : List ℕ) (ts : List Token) (s : Stop) → Laid 0 text ts s → (ts ≡ tokens text) × (s ≡ stop text)
