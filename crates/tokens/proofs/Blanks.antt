-- Blanks at the front are passed over.
use Rattle.std.proofs.Common.{◌≡◌, ℕ, suc, ◌+◌, cond, List, [], ◌∷◌, length, drop, refl, sym, ap, ◌∙◌, subst, arith, drop-drop}
use Rattle.std.specs.List.{prefix_len, between}
use Rattle.std.proofs.lemmas.Slice.{between_to_end}
use Rattle.tokens.specs.Tokens.{Byte, blank, letter, digit, other, sign, byte, is_gap, in_gap}
use Rattle.tokens.specs.Reader.{next, next_at, Solid}

-- how many blanks stand at the front, where a byte of a kind stands before n of them
abbrev gap : Byte → ℕ → ℕ
gap k n = cond (is_gap k) (1 + n) 0

solid : (xs : List ℕ) → Solid (drop (prefix_len in_gap xs) xs)
solid [] = tt
solid (x ∷ xs) = go (byte x) refl (solid xs)
  where
    go : (k : Byte) → byte x ≡ k → Solid (drop (prefix_len in_gap xs) xs) → Solid (drop (gap k (prefix_len in_gap xs)) (x ∷ xs))
    go blank e h = let s : suc (prefix_len in_gap xs) ≡ 1 + prefix_len in_gap xs = omega arith in subst (λ (m : ℕ). Solid (drop m (x ∷ xs))) s h
    go letter e h = λ b. cc
    go digit e h = λ b. cc
    go other e h = λ b. cc
    go (sign k) e h = λ b. cc

passed : (xs : List ℕ) (p : ℕ) → next p xs ≡ next (p + prefix_len in_gap xs) (drop (prefix_len in_gap xs) xs)
passed [] p = refl
passed (x ∷ xs) p = go (byte x) refl (passed xs (suc p))
  where
    go : (k : Byte) → byte x ≡ k → next (suc p) xs ≡ next (suc p + prefix_len in_gap xs) (drop (prefix_len in_gap xs) xs) →
        next_at k p (x ∷ xs) (next (suc p) xs) ≡ next (p + gap k (prefix_len in_gap xs)) (drop (gap k (prefix_len in_gap xs)) (x ∷ xs))
    go blank e h =
        let s : suc (prefix_len in_gap xs) ≡ 1 + prefix_len in_gap xs = omega arith in
        let q : suc p + prefix_len in_gap xs ≡ p + (1 + prefix_len in_gap xs) = omega arith in
        h ∙ ap (λ (m : ℕ). next m (drop (prefix_len in_gap xs) xs)) q ∙ ap (λ (m : ℕ). next (p + (1 + prefix_len in_gap xs)) (drop m (x ∷ xs))) s
    go letter e h = ap (λ j. next_at j p (x ∷ xs) (next (suc p) xs)) (sym e) ∙ ap (λ q. next q (x ∷ xs)) (omega arith)
    go digit e h = ap (λ j. next_at j p (x ∷ xs) (next (suc p) xs)) (sym e) ∙ ap (λ q. next q (x ∷ xs)) (omega arith)
    go other e h = ap (λ j. next_at j p (x ∷ xs) (next (suc p) xs)) (sym e) ∙ ap (λ q. next q (x ∷ xs)) (omega arith)
    go (sign k) e h = ap (λ j. next_at j p (x ∷ xs) (next (suc p) xs)) (sym e) ∙ ap (λ q. next q (x ∷ xs)) (omega arith)

-- the same of a part of the text to its end, as the code makes it
module _ (text : List ℕ) (p n : ℕ) (e : n ≡ prefix_len in_gap (between p (length text) text)) where
  from : n ≡ prefix_len in_gap (drop p text)
  from = e ∙ ap (prefix_len in_gap) (between_to_end text p (length text) (omega arith))

  behind : drop n (drop p text) ≡ between (p + n) (length text) text
  behind = drop-drop n p text ∙ sym (between_to_end text (p + n) (length text) (omega arith))

  pub solid_behind : Solid (between (p + n) (length text) text)
  solid_behind = subst Solid behind (subst (λ k. Solid (drop k (drop p text))) (sym from) (solid (drop p text)))

  pub next_behind : next p (drop p text) ≡ next (p + n) (between (p + n) (length text) text)
  next_behind = subst (λ k. next p (drop p text) ≡ next (p + k) (drop k (drop p text))) (sym from) (passed (drop p text) p) ∙ ap (next (p + n)) behind
