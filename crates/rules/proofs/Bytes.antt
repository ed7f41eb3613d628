-- What a byte is and what a row means, in the words of the layout and as the tokens have it.
use Rattle.std.proofs.Common.{◌≡◌, ℕ, ◌≤◌, Bool, true, false, ◌&&◌, ◌||◌, eqb, leb, ◌≢◌, ◌⊎◌, List, codes, sym, refl, ap, ◌∙◌, subst, inl, inr, arith}
use Rattle.std.specs.Str.{bytes_eq}
use Rattle.std.proofs.lemmas.Slice.Eq.{bytes_eq-Decides}
use Rattle.std.proofs.lemmas.Bool.{cond_both, cond-false, both_ways, or_cases, and_parts, and_from, leb-true, le-leb, eqb-true}
use Rattle.tokens.specs.declared.Kind.{Kind}
use Rattle.tokens.specs.declared.Kind.TheVariants.{Semicolon, Comma, RoundOpen, RoundClose, BraceOpen, BraceClose, Path, End}
use Rattle.tokens.specs.Tokens.{Byte, blank, letter, digit, other, sign, byte, goes_on, in_name, word_kind}
use Rattle.rules.specs.Laid.{Blank, space, tab, line_feed, carriage_return, Sign, semicolon, comma, round_open, round_close, brace_open, brace_close, Letter, Digit, LetterOrDigit, StartsNone, WordKind, path_word, end_word, name}

-- ---- bytes
-- what a class says of a byte
abbrev pub Is : ℕ → Byte → Type 0
Is b blank = Blank b
Is b letter = Letter b
Is b digit = Digit b
Is b other = ¬ LetterOrDigit b
Is b (sign k) = Sign k b

between : (low b high : ℕ) → (leb low b && leb b high) ≡ true → (low ≤ b) × (b ≤ high)
between low b high e = let h = and_parts _ _ e in (leb-true _ _ h.0, leb-true _ _ h.1)

not_between : (low b high : ℕ) → (leb low b && leb b high) ≡ false → ¬ ((low ≤ b) × (b ≤ high))
not_between low b high e h = both_ways _ e (and_from _ _ (le-leb _ _ h.0) (le-leb _ _ h.1))

equals : (P : ℕ → Type 0) (b n : ℕ) → P n → eqb b n ≡ true → P b
equals P b n h e = subst P (sym (eqb-true b n e)) h

a_blank_byte : (b : ℕ) → (eqb b 32 || (eqb b 9 || (eqb b 10 || eqb b 13))) ≡ true → Blank b
a_blank_byte b e = one (or_cases _ _ e)
  where
    three : (eqb b 10 ≡ true) ⊎ (eqb b 13 ≡ true) → Blank b
    three (inl h) = equals Blank b 10 line_feed h
    three (inr h) = equals Blank b 13 carriage_return h

    two : (eqb b 9 ≡ true) ⊎ ((eqb b 10 || eqb b 13) ≡ true) → Blank b
    two (inl h) = equals Blank b 9 tab h
    two (inr h) = three (or_cases _ _ h)

    one : (eqb b 32 ≡ true) ⊎ ((eqb b 9 || (eqb b 10 || eqb b 13)) ≡ true) → Blank b
    one (inl h) = equals Blank b 32 space h
    one (inr h) = two (or_cases _ _ h)

pub byte_is : (b : ℕ) → Is b (byte b)
byte_is b =
    cond_both _ _ _ (Is b) (a_blank_byte b) (λ _.
    cond_both _ _ _ (Is b) (equals (Sign Semicolon) b 59 semicolon) (λ _.
    cond_both _ _ _ (Is b) (equals (Sign Comma) b 44 comma) (λ _.
    cond_both _ _ _ (Is b) (equals (Sign RoundOpen) b 40 round_open) (λ _.
    cond_both _ _ _ (Is b) (equals (Sign RoundClose) b 41 round_close) (λ _.
    cond_both _ _ _ (Is b) (equals (Sign BraceOpen) b 123 brace_open) (λ _.
    cond_both _ _ _ (Is b) (equals (Sign BraceClose) b 125 brace_close) (λ _.
    cond_both _ _ _ (Is b) (between 97 b 122) (λ l.
    cond_both _ _ _ (Is b) (between 48 b 57) (λ d.
    neither (not_between 97 b 122 l) (not_between 48 b 57 d))))))))))
  where
    neither : ¬ Letter b → ¬ Digit b → ¬ LetterOrDigit b
    neither l d (inl h) = l h
    neither l d (inr h) = d h

pub blank_byte : {b : ℕ} → Blank b → byte b ≡ blank
blank_byte space = refl
blank_byte tab = refl
blank_byte line_feed = refl
blank_byte carriage_return = refl

pub sign_byte : {k : Kind} {b : ℕ} → Sign k b → byte b ≡ sign k
sign_byte semicolon = refl
sign_byte comma = refl
sign_byte round_open = refl
sign_byte round_close = refl
sign_byte brace_open = refl
sign_byte brace_close = refl

-- no blank and no sign is a letter or a digit
pub blank_apart : {b : ℕ} → Blank b → ¬ LetterOrDigit b
blank_apart space (inl h) = omega arith
blank_apart space (inr h) = omega arith
blank_apart tab (inl h) = omega arith
blank_apart tab (inr h) = omega arith
blank_apart line_feed (inl h) = omega arith
blank_apart line_feed (inr h) = omega arith
blank_apart carriage_return (inl h) = omega arith
blank_apart carriage_return (inr h) = omega arith

pub sign_apart : {k : Kind} {b : ℕ} → Sign k b → ¬ LetterOrDigit b
sign_apart semicolon (inl h) = omega arith
sign_apart semicolon (inr h) = omega arith
sign_apart comma (inl h) = omega arith
sign_apart comma (inr h) = omega arith
sign_apart round_open (inl h) = omega arith
sign_apart round_open (inr h) = omega arith
sign_apart round_close (inl h) = omega arith
sign_apart round_close (inr h) = omega arith
sign_apart brace_open (inl h) = omega arith
sign_apart brace_open (inr h) = omega arith
sign_apart brace_close (inl h) = omega arith
sign_apart brace_close (inr h) = omega arith

pub letter_byte : (b : ℕ) → Letter b → byte b ≡ letter
letter_byte b h = go (byte b) (byte_is b)
  where
    go : (k : Byte) → Is b k → k ≡ letter
    go blank i = absurd (blank_apart i (inl h))
    go letter i = refl
    go digit i = absurd (omega arith)
    go other i = absurd (i (inl h))
    go (sign k) i = absurd (sign_apart i (inl h))

-- a byte goes on in a word exactly when it is a letter or a digit
pub inside : (b : ℕ) → LetterOrDigit b → in_name b ≡ true
inside b h = go (byte b) (byte_is b)
  where
    go : (k : Byte) → Is b k → goes_on k ≡ true
    go blank i = absurd (blank_apart i h)
    go letter i = refl
    go digit i = refl
    go other i = absurd (i h)
    go (sign k) i = absurd (sign_apart i h)

pub outside : (b : ℕ) → ¬ LetterOrDigit b → in_name b ≡ false
outside b h = go (byte b) (byte_is b)
  where
    go : (k : Byte) → Is b k → goes_on k ≡ false
    go blank i = refl
    go letter i = absurd (h (inl i))
    go digit i = absurd (h (inr i))
    go other i = refl
    go (sign k) i = refl

-- whether a blank or a token starts
abbrev pub starts : Byte → Bool
starts blank = true
starts letter = true
starts digit = false
starts other = false
starts (sign k) = true

pub starts_none : (b : ℕ) → starts (byte b) ≡ false → StartsNone b
starts_none b e = record {
  no_blank = λ h. both_ways _ e (ap starts (blank_byte h));
  no_letter = λ h. both_ways _ e (ap starts (letter_byte b h));
  no_sign = λ k h. both_ways _ e (ap starts (sign_byte h));
}

-- ---- what a row means
pub kind_of : (row : List ℕ) → WordKind (word_kind row) row
kind_of row =
    cond_both _ _ _ (λ k. WordKind k row) (λ p. subst (WordKind Path) (sym ((bytes_eq-Decides row (codes "path")).0 p)) path_word) (λ np.
    cond_both _ _ _ (λ k. WordKind k row) (λ e. subst (WordKind End) (sym ((bytes_eq-Decides row (codes "end")).0 e)) end_word) (λ ne.
    name (λ p. both_ways _ np ((bytes_eq-Decides row (codes "path")).1 p)) (λ e. both_ways _ ne ((bytes_eq-Decides row (codes "end")).1 e))))

differs : (row w : List ℕ) → row ≢ w → bytes_eq row w ≡ false
differs row w n = go (bytes_eq row w) refl
  where
    go : (x : Bool) → bytes_eq row w ≡ x → x ≡ false
    go true e = absurd (n ((bytes_eq-Decides row w).0 e))
    go false e = refl

pub one_kind : {k : Kind} {row : List ℕ} → WordKind k row → word_kind row ≡ k
one_kind path_word = refl
one_kind end_word = refl
one_kind (name {row} p e) = cond-false _ _ _ (differs row (codes "path") p) ∙ cond-false _ _ _ (differs row (codes "end") e)
