-- No name of a text has more than 16 bytes.
use Rattle.std.proofs.Common.{◌≡◌, ℕ, zero, suc, ◌≤◌, Bool, true, false, cond, ◌&&◌, eqb, leb, List, [], ◌∷◌, ◌++◌, length, take, refl, arith, leb-true}
use Rattle.std.specs.List.{prefix_len}
use Rattle.tokens.specs.declared.Token.{Token}
use Rattle.tokens.specs.declared.Name.{Name}
use Rattle.tokens.specs.Tokens.{Byte, blank, letter, digit, other, sign, byte, in_name, word_kind, token, Row, stopped, then, long_name, row_at, row_from, tokens, number_of, spelling, name_at}
use Rattle.rules.specs.Names.{is_name, first_of, with_first, firsts_from, firsts}

abbrev ShortTokens : List Token → Type 0
ShortTokens [] = Unit {0}
ShortTokens (t ∷ ts) = (t.len ≤ 16) × ShortTokens ts

abbrev ShortNames : List Name → Type 0
ShortNames [] = Unit {0}
ShortNames (u ∷ us) = (u.len ≤ 16) × ShortNames us

-- at a byte, from the row behind it
short_at : (x : Byte) (within : Bool) (place : ℕ) (bs : List ℕ) (rest : Bool → Row) → ((w : Bool) → ShortTokens (rest w).tokens) → ShortTokens (row_at x within place bs rest).tokens
short_at blank within place bs rest h = h false
short_at letter true place bs rest h = h true
short_at letter false place bs rest h = go (leb n 16) refl
  where
    n : ℕ
    n = prefix_len in_name bs

    go : (x : Bool) → leb n 16 ≡ x → ShortTokens (cond x (then (token (word_kind (take n bs)) place n) (rest true)) (stopped (long_name place))).tokens
    go true e = (leb-true n 16 e, h true)
    go false e = tt
short_at digit true place bs rest h = h true
short_at digit false place bs rest h = tt
short_at other within place bs rest h = tt
short_at (sign k) within place bs rest h = (omega arith, h false)

short_row : (within : Bool) (place : ℕ) (bs : List ℕ) → ShortTokens (row_from within place bs).tokens
short_row within place [] = tt
short_row within place (b ∷ bs) = short_at (byte b) within place (b ∷ bs) (λ w. row_from w (suc place) bs) (λ w. short_row w (suc place) bs)

short_push : (us : List Name) (u : Name) → ShortNames us → u.len ≤ 16 → ShortNames (us ++ u ∷ [])
short_push [] u h l = (l, tt)
short_push (v ∷ us) u h l = (h.0, short_push us u h.1 l)

short_firsts : (text : List ℕ) (known : List Name) (ts : List Token) → ShortNames known → ShortTokens ts → ShortNames (firsts_from text known ts)
short_firsts text known [] h s = h
short_firsts text known (t ∷ ts) h s = short_firsts text (with_first text known t) ts (go (is_name t.kind && eqb (number_of text known (spelling text t)) (length known))) s.1
  where
    go : (x : Bool) → ShortNames (cond x (known ++ (first_of t ∷ [])) known)
    go true = short_push known (first_of t) h s.0
    go false = h

short_found : (us : List Name) (n : ℕ) → ShortNames us → (name_at us n).len ≤ 16
short_found [] n h = omega arith
short_found (u ∷ us) zero h = h.0
short_found (u ∷ us) (suc n) h = short_found us n h.1

pub short_name : (text : List ℕ) (n : ℕ) → (name_at (firsts text (tokens text)) n).len ≤ 16
short_name text n = short_found (firsts text (tokens text)) n (short_firsts text [] (tokens text) tt (short_row false 0 text))
