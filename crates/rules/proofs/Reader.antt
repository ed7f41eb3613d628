-- The tokens of a text one by one are the tokens of the text.
use Rattle.std.proofs.Common.{◌≡◌, ℕ, suc, ◌+◌, ◌≤◌, Bool, true, false, cond, leb, List, [], ◌∷◌, ◌++◌, length, take, drop, sym, refl, ap, ◌∙◌, subst, append_assoc, add-zero, arith, length-drop}
use Rattle.std.specs.List.{prefix_len}
use Rattle.std.proofs.lemmas.List.{drop-drop}
use Rattle.tokens.specs.declared.Token.{Token}
use Rattle.tokens.specs.Tokens.{Byte, blank, letter, digit, other, sign, byte, in_name, word_kind, token, Stop, no_token, long_name, Row, stopped, then, row_at, row_from, row_of}
use Rattle.tokens.specs.Reader.{found, none, next_word, next_at, next}
use Rattle.rules.specs.Reader.{onto, Reached}

-- behind the front of a word, the tokens behind all of it
jump : (p n b : ℕ) (bs : List ℕ) → row_from false (suc p + n) (drop n bs) ≡ row_from false (p + (1 + n)) (drop (1 + n) (b ∷ bs))
jump p n b bs =
    let e : suc n ≡ 1 + n = omega arith in
    let f : suc p + n ≡ p + suc n = omega arith in
    subst (λ (m : ℕ). row_from false (suc p + n) (drop n bs) ≡ row_from false (p + m) (drop m (b ∷ bs))) e (ap (λ (m : ℕ). row_from false m (drop n bs)) f)

inside_word : (p : ℕ) (bs : List ℕ) → row_from true p bs ≡ row_from false (p + prefix_len in_name bs) (drop (prefix_len in_name bs) bs)
inside_word p [] = refl
inside_word p (b ∷ bs) = go (byte b) refl (inside_word (suc p) bs)
  where
    go : (k : Byte) → byte b ≡ k → row_from true (suc p) bs ≡ row_from false (suc p + prefix_len in_name bs) (drop (prefix_len in_name bs) bs) →
        row_from true p (b ∷ bs) ≡ row_from false (p + prefix_len in_name (b ∷ bs)) (drop (prefix_len in_name (b ∷ bs)) (b ∷ bs))
    go blank e i = rw (e, add-zero, e) refl
    go letter e i = rw e (i ∙ jump p (prefix_len in_name bs) b bs)
    go digit e i = rw e (i ∙ jump p (prefix_len in_name bs) b bs)
    go other e i = rw (e, add-zero, e) refl
    go (sign k) e i = rw (e, add-zero, e) refl

leading_bound : (bs : List ℕ) → prefix_len in_name bs ≤ length bs
leading_bound [] = omega arith
leading_bound (b ∷ bs) = go (in_name b) (leading_bound bs)
  where
    go : (x : Bool) → prefix_len in_name bs ≤ length bs → cond x (1 + prefix_len in_name bs) 0 ≤ suc (length bs)
    go true h = omega arith
    go false h = omega arith

-- a token was found: the row goes on j bytes further
abbrev Step : ℕ → List ℕ → Token → Type 0
Step p bs t = (j : ℕ) × (t.place + t.len ≡ p + j) × (j ≤ length bs) × (row_from false p bs ≡ then t (row_from false (p + j) (drop j bs)))

no_found : {s : Stop} {t : Token} → none s ≡ found t → ⊥
no_found p = let z : ◌≡◌ {A = ℕ} 0 1 = cc in omega arith

found_same : {s t : Token} → found s ≡ found t → s ≡ t
found_same p = cc

none_same : {s t : Stop} → none s ≡ none t → s ≡ t
none_same p = cc

word_step : (p b : ℕ) (bs : List ℕ) (t : Token) → byte b ≡ letter → next_word p (b ∷ bs) ≡ found t → Step p (b ∷ bs) t
word_step p b bs t e h = go (leb n 16) refl
  where
    n : ℕ
    n = prefix_len in_name (b ∷ bs)

    w : Token
    w = token (word_kind (take n (b ∷ bs))) p n

    behind : row_from true (suc p) bs ≡ row_from false (p + n) (drop n (b ∷ bs))
    behind = rw e (inside_word (suc p) bs ∙ jump p (prefix_len in_name bs) b bs)

    go : (x : Bool) → leb n 16 ≡ x → Step p (b ∷ bs) t
    go true f =
        let i : w ≡ t = found_same (rw f at h) in
        subst (Step p (b ∷ bs)) i
        (n, refl, leading_bound (b ∷ bs), ap (λ (k : Byte). row_at k false p (b ∷ bs) (λ v. row_from v (suc p) bs)) e ∙ ap (λ (x : Bool). cond x (then w (row_from true (suc p) bs)) (stopped (long_name p))) f ∙ ap (then w) behind)
    go false f = absurd (no_found {s = long_name p} (rw f at h))

steps : (p : ℕ) (bs : List ℕ) (t : Token) → next p bs ≡ found t → Step p bs t
steps p [] t h = absurd (no_found h)
steps p (b ∷ bs) t h = go (byte b) refl (steps (suc p) bs t)
  where
    go : (k : Byte) → byte b ≡ k → (next (suc p) bs ≡ found t → Step (suc p) bs t) → Step p (b ∷ bs) t
    go blank e i =
        let g : next_at blank p (b ∷ bs) (next (suc p) bs) ≡ found t = rw e at h in
        let s = i g in
        let f : suc p + s.0 ≡ p + suc s.0 = omega arith in
        (suc s.0, let q = s.1 in omega arith, let q = s.2 in omega arith, rw e (s.3 ∙ ap (λ (m : ℕ). then t (row_from false m (drop s.0 bs))) f))
    go letter e i = word_step p b bs t e (rw e at h)
    go digit e i = absurd (no_found {s = no_token p} (rw e at h))
    go other e i = absurd (no_found {s = no_token p} (rw e at h))
    go (sign k) e i =
        let f : suc p ≡ p + 1 = omega arith in
        subst (Step p (b ∷ bs)) (found_same (rw e at h))
        (1, refl, omega arith, rw e (ap (λ (m : ℕ). then (token k p 1) (row_from false m bs)) f))

word_stop : (p b : ℕ) (bs : List ℕ) (s : Stop) → byte b ≡ letter → next_word p (b ∷ bs) ≡ none s → row_from false p (b ∷ bs) ≡ stopped s
word_stop p b bs s e h = go (leb n 16) refl
  where
    n : ℕ
    n = prefix_len in_name (b ∷ bs)

    w : Token
    w = token (word_kind (take n (b ∷ bs))) p n

    go : (x : Bool) → leb n 16 ≡ x → row_from false p (b ∷ bs) ≡ stopped s
    go true f = absurd (no_found {s = s} {t = w} (sym (rw f at h)))
    go false f = ap (λ (k : Byte). row_at k false p (b ∷ bs) (λ v. row_from v (suc p) bs)) e ∙ ap (λ (x : Bool). cond x (then w (row_from true (suc p) bs)) (stopped (long_name p))) f ∙ ap stopped (none_same (rw f at h))

halts : (p : ℕ) (bs : List ℕ) (s : Stop) → next p bs ≡ none s → row_from false p bs ≡ stopped s
halts p [] s h = ap stopped (none_same h)
halts p (b ∷ bs) s h = go (byte b) refl (halts (suc p) bs s)
  where
    go : (k : Byte) → byte b ≡ k → (next (suc p) bs ≡ none s → row_from false (suc p) bs ≡ stopped s) → row_from false p (b ∷ bs) ≡ stopped s
    go blank e i = rw e (i (rw e at h))
    go letter e i = word_stop p b bs s e (rw e at h)
    go digit e i = rw e (ap stopped (none_same {s = no_token p} (rw e at h)))
    go other e i = rw e (ap stopped (none_same {s = no_token p} (rw e at h)))
    go (sign k) e i = absurd (no_found {s = s} {t = token k p 1} (sym (rw e at h)))

-- ---- in the text
onto_then : (before : List Token) (t : Token) (r : Row) → onto before (then t r) ≡ onto (before ++ (t ∷ [])) r
onto_then before t r = let p = append_assoc before (t ∷ []) r.tokens in let q = sym p in λ i. record { tokens = q i; stop = r.stop }

pub read_start : (text : List ℕ) → Reached text [] 0
read_start text = (omega arith, refl)

pub reads_on : (text : List ℕ) (before : List Token) (q : ℕ) (t : Token) → Reached text before q → next q (drop q text) ≡ found t → Reached text (before ++ (t ∷ [])) (t.place + t.len)
reads_on text before q t r h =
    let s = steps q (drop q text) t h in
    let j = s.0 in
    let e : drop j (drop q text) ≡ drop (t.place + t.len) text = drop-drop j q text ∙ ap (λ (m : ℕ). drop m text) (sym s.1) in (
      (let l = r.0 in let a = s.1 in let b = s.2 in let c = length-drop q text in omega arith),
      r.1 ∙ ap (onto before) (s.3 ∙ ap (λ (m : ℕ). then t (row_from false m (drop j (drop q text)))) (sym s.1) ∙ ap (λ (x : List ℕ). then t (row_from false (t.place + t.len) x)) e)
          ∙ onto_then before t (row_from false (t.place + t.len) (drop (t.place + t.len) text)),
    )

pub stops : (text : List ℕ) (before : List Token) (q : ℕ) (s : Stop) → Reached text before q → next q (drop q text) ≡ none s → row_of text ≡ onto before (stopped s)
stops text before q s r h = r.1 ∙ ap (onto before) (halts q (drop q text) s h)
