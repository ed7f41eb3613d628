-- A text is laid out as its tokens, and in no other way.
use Rattle.std.proofs.Common.{◌≡◌, ℕ, suc, ◌+◌, ◌<◌, ◌≤◌, Bool, true, false, cond, leb, List, [], ◌∷◌, ◌++◌, length, take, sym, refl, ap, ◌∙◌, subst, inl, inr, arith}
use lib.Seq.{take-length, take-append-le}
use Rattle.std.specs.List.{prefix_len, AllByRecursion}
use Rattle.std.proofs.lemmas.Bool.{both_ways, leb-true, leb-false, le-leb, lt-leb}
use Rattle.tokens.specs.declared.Kind.{Kind}
use Rattle.tokens.specs.declared.Token.{Token}
use Rattle.tokens.specs.Tokens.{Byte, blank, letter, digit, other, sign, byte, goes_on, in_name, word_kind, token, Stop, at_end, no_token, long_name, Row, stopped, then, row_at, row_from, tokens, stop}
use Rattle.rules.specs.Laid.{Letter, LetterOrDigit, NoneFirst, Word, Spelled, by_sign, by_word, StartsNone, Laid, a_blank, a_token, over, stray, too_long, TokensCover}
use Rattle.rules.proofs.Bytes.{Is, byte_is, blank_byte, sign_byte, letter_byte, blank_apart, sign_apart, inside, outside, starts, starts_none, kind_of, one_kind}

-- ---- a layout is the row of tokens
leading_row : (row after : List ℕ) → AllByRecursion LetterOrDigit row → NoneFirst after → prefix_len in_name (row ++ after) ≡ length row
leading_row [] [] a r = refl
leading_row [] (b ∷ bs) a r = ap (λ (x : Bool). cond x (1 + prefix_len in_name bs) 0) (outside b r)
leading_row (c ∷ row) after a r =
    let i = leading_row row after a.1 r in
    let e : 1 + prefix_len in_name (row ++ after) ≡ suc (length row) = omega arith in
    ap (λ (x : Bool). cond x (1 + prefix_len in_name (row ++ after)) 0) (inside c a.0) ∙ e

take_row : (row after : List ℕ) → take (length row) (row ++ after) ≡ row
take_row row after = take-append-le (length row) row after (omega arith) ∙ take-length row

stays : (k : Byte) (p : ℕ) (bs : List ℕ) (rest : Bool → Row) → goes_on k ≡ true → row_at k true p bs rest ≡ rest true
stays blank p bs rest e = absurd (both_ways false refl e)
stays letter p bs rest e = refl
stays digit p bs rest e = refl
stays other p bs rest e = absurd (both_ways false refl e)
stays (sign k) p bs rest e = absurd (both_ways false refl e)

leaves : (k : Byte) (p : ℕ) (bs : List ℕ) (rest : Bool → Row) → goes_on k ≡ false → row_at k true p bs rest ≡ row_at k false p bs rest
leaves blank p bs rest e = refl
leaves letter p bs rest e = absurd (both_ways true e refl)
leaves digit p bs rest e = absurd (both_ways true e refl)
leaves other p bs rest e = refl
leaves (sign k) p bs rest e = refl

-- within a word, the tokens behind it
through : (p : ℕ) (row after : List ℕ) → AllByRecursion LetterOrDigit row → NoneFirst after → row_from true p (row ++ after) ≡ row_from false (p + length row) after
through p [] [] a r = refl
through p [] (b ∷ bs) a r =
    let e : p ≡ p + 0 = omega arith in
    leaves (byte b) p (b ∷ bs) (λ v. row_from v (suc p) bs) (outside b r) ∙ ap (λ (m : ℕ). row_from false m (b ∷ bs)) e
through p (c ∷ row) after a r =
    let e : suc p + length row ≡ p + suc (length row) = omega arith in
    stays (byte c) p (c ∷ (row ++ after)) (λ v. row_from v (suc p) (row ++ after)) (inside c a.0) ∙ through (suc p) row after a.1 r ∙ ap (λ (m : ℕ). row_from false m after) e

-- at a byte that is known
at_byte : (p b : ℕ) (bs : List ℕ) (k : Byte) → byte b ≡ k → row_from false p (b ∷ bs) ≡ row_at k false p (b ∷ bs) (λ v. row_from v (suc p) bs)
at_byte p b bs k e = ap (λ (k : Byte). row_at k false p (b ∷ bs) (λ v. row_from v (suc p) bs)) e

-- at a row, whether it is short or not
at_row : (p b : ℕ) (row after : List ℕ) → Word (b ∷ row) after → (x : Bool) → leb (length (b ∷ row)) 16 ≡ x →
    row_from false p (b ∷ (row ++ after)) ≡ cond x (then (token (word_kind (b ∷ row)) p (length (b ∷ row))) (row_from false (p + length (b ∷ row)) after)) (stopped (long_name p))
at_row p b row after w x e =
    let bs : List ℕ = b ∷ (row ++ after) in
    let n : ℕ = length (b ∷ row) in
    let r : Row = row_from true (suc p) (row ++ after) in
    let f : suc p + length row ≡ p + suc (length row) = omega arith in
    at_byte p b (row ++ after) letter (letter_byte b w.front.0)
    ∙ ap (λ (m : ℕ). cond (leb m 16) (then (token (word_kind (take m bs)) p m) r) (stopped (long_name p))) (leading_row (b ∷ row) after (inl w.front.0, w.front.1) w.reach)
    ∙ ap (λ (y : Bool). cond y (then (token (word_kind (take n bs)) p n) r) (stopped (long_name p))) e
    ∙ ap (λ (v : List ℕ). cond x (then (token (word_kind v) p n) r) (stopped (long_name p))) (take_row (b ∷ row) after)
    ∙ ap (λ (q : Row). cond x (then (token (word_kind (b ∷ row)) p n) q) (stopped (long_name p))) (through (suc p) row after w.front.1 w.reach ∙ ap (λ (m : ℕ). row_from false m after) f)

at_short : (p : ℕ) (row after : List ℕ) → Word row after → length row ≤ 16 → row_from false p (row ++ after) ≡ then (token (word_kind row) p (length row)) (row_from false (p + length row) after)
at_short p [] after w h = absurd w.front
at_short p (b ∷ row) after w h = at_row p b row after w true (le-leb _ _ h)

at_long : (p : ℕ) (row after : List ℕ) → Word row after → 16 < length row → row_from false p (row ++ after) ≡ stopped (long_name p)
at_long p [] after w h = absurd w.front
at_long p (b ∷ row) after w h = at_row p b row after w false (lt-leb _ _ h)

at_token : {k : Kind} {bytes after : List ℕ} (p : ℕ) → Spelled k bytes after → row_from false p (bytes ++ after) ≡ then (token k p (length bytes)) (row_from false (p + length bytes) after)
at_token p (by_sign {k} {b} {after} e) =
    let f : suc p ≡ p + 1 = omega arith in
    at_byte p b after (sign k) (sign_byte e) ∙ ap (λ (m : ℕ). then (token k p 1) (row_from false m after)) f
at_token p (by_word {k} {row} {after} w h m) =
    at_short p row after w h ∙ ap (λ (j : Kind). then (token j p (length row)) (row_from false (p + length row) after)) (one_kind m)

at_stray : (p b : ℕ) (bs : List ℕ) → StartsNone b → (k : Byte) → byte b ≡ k → Is b k → row_from false p (b ∷ bs) ≡ stopped (no_token p)
at_stray p b bs n blank e i = absurd (n.no_blank i)
at_stray p b bs n letter e i = absurd (n.no_letter i)
at_stray p b bs n digit e i = at_byte p b bs digit e
at_stray p b bs n other e i = at_byte p b bs other e
at_stray p b bs n (sign k) e i = absurd (n.no_sign k i)

abbrev row_with : List Token → Stop → Row
row_with ts s = record { tokens = ts; stop = s }

only_from : {p : ℕ} {bs : List ℕ} {ts : List Token} {s : Stop} → Laid p bs ts s → row_from false p bs ≡ row_with ts s
only_from (a_blank {p} {b} {bs} e l) = at_byte p b bs blank (blank_byte e) ∙ only_from l
only_from (a_token {p} {k} {bytes} {after} w l) = at_token p w ∙ ap (then (token k p (length bytes))) (only_from l)
only_from over = refl
only_from (stray {p} {b} {bs} n) = at_stray p b bs n (byte b) refl (byte_is b)
only_from (too_long {p} {row} {after} w h) = at_long p row after w h

-- ---- every text has a layout
abbrev SomeLaid : ℕ → List ℕ → Type 0
SomeLaid p bs = (ts : List Token) × (s : Stop) × Laid p bs ts s

-- the letters and digits in front of the bytes, and a layout of what follows them
record Cut (p : ℕ) (bs : List ℕ) : Type 0 where
  row : List ℕ
  after : List ℕ
  is : bs ≡ row ++ after
  front : AllByRecursion LetterOrDigit row
  reach : NoneFirst after
  behind : SomeLaid (p + length row) after

no_row : (p b : ℕ) (bs : List ℕ) → ¬ LetterOrDigit b → SomeLaid p (b ∷ bs) → Cut p (b ∷ bs)
no_row p b bs h l =
    let e : p ≡ p + 0 = omega arith in
    record { row = []; after = b ∷ bs; is = refl; front = tt; reach = h; behind = subst (λ (m : ℕ). SomeLaid m (b ∷ bs)) e l }

longer_row : (p b : ℕ) (bs : List ℕ) → LetterOrDigit b → Cut (suc p) bs → Cut p (b ∷ bs)
longer_row p b bs h c =
    let e : suc p + length c.row ≡ p + suc (length c.row) = omega arith in
    record {
      row = b ∷ c.row;
      after = c.after;
      is = ap (λ (xs : List ℕ). b ∷ xs) c.is;
      front = (h, c.front);
      reach = c.reach;
      behind = subst (λ (m : ℕ). SomeLaid m c.after) e c.behind;
    }

a_word : (p b : ℕ) (bs : List ℕ) → Letter b → Cut (suc p) bs → SomeLaid p (b ∷ bs)
a_word p b bs e c = subst (λ (xs : List ℕ). SomeLaid p (b ∷ xs)) (sym c.is) (go (leb (length (b ∷ c.row)) 16) refl)
  where
    w : Word (b ∷ c.row) c.after
    w = record { front = (e, c.front); reach = c.reach }

    behind : SomeLaid (p + length (b ∷ c.row)) c.after
    behind =
        let f : suc p + length c.row ≡ p + suc (length c.row) = omega arith in
        subst (λ (m : ℕ). SomeLaid m c.after) f c.behind

    go : (x : Bool) → leb (length (b ∷ c.row)) 16 ≡ x → SomeLaid p (b ∷ (c.row ++ c.after))
    go true f = (_, behind.1, a_token (by_word w (leb-true _ _ f) (kind_of (b ∷ c.row))) behind.2)
    go false f = (_, _, too_long w (leb-false _ _ f))

both : (p : ℕ) (bs : List ℕ) → SomeLaid p bs × Cut p bs
both p [] = (([], at_end, over), record { row = []; after = []; is = refl; front = tt; reach = tt; behind = ([], at_end, over) })
both p (b ∷ bs) = go (byte b) refl (byte_is b) (both (suc p) bs)
  where
    alone : ¬ LetterOrDigit b → SomeLaid p (b ∷ bs) → SomeLaid p (b ∷ bs) × Cut p (b ∷ bs)
    alone h l = (l, no_row p b bs h l)

    go : (k : Byte) → byte b ≡ k → Is b k → SomeLaid (suc p) bs × Cut (suc p) bs → SomeLaid p (b ∷ bs) × Cut p (b ∷ bs)
    go blank e h i = alone (blank_apart h) (i.0.0, i.0.1, a_blank h i.0.2)
    go letter e h i = (a_word p b bs h i.1, longer_row p b bs (inl h) i.1)
    go digit e h i = (([], no_token p, stray (starts_none b (ap starts e))), longer_row p b bs (inr h) i.1)
    go other e h i = alone h ([], no_token p, stray (starts_none b (ap starts e)))
    go (sign k) e h i =
        let f : suc p ≡ p + 1 = omega arith in
        alone (sign_apart h) (token k p 1 ∷ i.0.0, i.0.1, a_token (by_sign h) (subst (λ (m : ℕ). Laid m bs i.0.0 i.0.1) f i.0.2))

-- ---- so the tokens are the layout
pub tokens_cover : TokensCover
tokens_cover = record { laid = laid; only = only }
  where
    laid : (text : List ℕ) → Laid 0 text (tokens text) (stop text)
    laid text =
        let l = (both 0 text).0 in
        subst (λ (r : Row). Laid 0 text r.tokens r.stop) (sym (only_from l.2)) l.2

    only : (text : List ℕ) (ts : List Token) (s : Stop) → Laid 0 text ts s → (ts ≡ tokens text) × (s ≡ stop text)
    only text ts s l = let e = sym (only_from l) in (ap (λ (r : Row). r.tokens) e, ap (λ (r : Row). r.stop) e)
