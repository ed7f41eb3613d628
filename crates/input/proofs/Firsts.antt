-- The first line of some bytes: there is one, and only one.
use Rattle.std.proofs.Common.{◌≡◌, ◌==◌, Option, Some, None, Bool, false, ℕ, zero, suc, ◌+◌, ◌-◌, ◌<◌, ◌≤◌, ◌≢◌, ◌⊎◌, List, [], ◌∷◌, ◌++◌, length, get_or, take, drop, sym, refl, ap, ◌∙◌, subst, inl, inr, arith}
use Rattle.std.specs.List.{AllByRecursion, position, position_or_len, before_first, after_first}
use Rattle.std.proofs.lemmas.List.{get_or_append_left, get_or-take, length-take, append-nil, append_assoc, length-append, take-append-drop, take_rest, drop_more, drop-drop, drop_at}
use Rattle.std.proofs.lemmas.Bool.{cases_lt, cond_below, eqb-true, eqb-false, ne_eqb}
use Rattle.std.proofs.lemmas.List.Quantifiers.{position-Some}
use Rattle.std.proofs.lemmas.List.Sums.{fails_before_first, position_or_len_is}
use Rattle.std.proofs.lemmas.List.Elements.{All-from_recursion}
use Rattle.std.proofs.lemmas.Grind.{common_steps}
use lib.Seq.{get_or-append_seam}
use Rattle.std.proofs.lemmas.Option.{none-some}
use Rattle.input.specs.Input.{FirstLine, Lines, none, more, OneList}

abbrev Row : List ℕ → Type 0
Row = AllByRecursion (λ b. b ≢ 10)

-- whether a byte ends a line
abbrev ends : ℕ → Bool
ends b = b == 10

-- a row without the byte 10, byte by byte
row_from : (bytes : List ℕ) → ((k : ℕ) → k < length bytes → ends (get_or bytes k 0) ≡ false) → Row bytes
row_from [] h = tt
row_from (b ∷ bs) h = (eqb-false b 10 (h 0 (omega arith)), row_from bs (λ k lt. h (suc k) (omega arith)))

row_at : (bytes : List ℕ) → Row bytes → (k : ℕ) → k < length bytes → ends (get_or bytes k 0) ≡ false
row_at bytes row k lt = ne_eqb (get_or bytes k 0) 10 (All-from_recursion (λ b. b ≢ 10) bytes row k 0 lt)

-- ---- the first byte 10, found or not
pub line_ended : (bytes : List ℕ) (end : ℕ) → position ends bytes ≡ Some end → FirstLine bytes (take end bytes) (take (length bytes - (end + 1)) (drop (end + 1) bytes))
line_ended bytes end e =
    let at = position-Some ends bytes end 0 e in
    let long : length (take end bytes) ≡ end = simp length-take (omega arith) in
    let rest : take (length bytes - (end + 1)) (drop (end + 1) bytes) ≡ drop (end + 1) bytes = take_rest bytes (end + 1) in
    record {
      within = row_from (take end bytes) (λ k lt. ap ends (get_or-take end bytes k 0 (omega (arith, long))) ∙ at.2 k (omega (arith, long)));
      ends = inl (sym (take-append-drop end bytes) ∙ ap (λ r. take end bytes ++ r) (drop_more bytes end 0 at.0 ∙ (λ i. eqb-true (get_or bytes end 0) 10 at.1 i ∷ sym rest i)));
    }

pub last_line : (bytes : List ℕ) → bytes ≢ [] → position ends bytes ≡ None → FirstLine bytes bytes []
last_line bytes some e = record { within = row_from bytes (λ k lt. fails_before_first ends bytes k 0 (go (cases_lt (position_or_len ends bytes) (length bytes)) k lt)); ends = inr (refl, some, refl) }
  where
    go : (position_or_len ends bytes < length bytes) ⊎ (length bytes ≤ position_or_len ends bytes) → (k : ℕ) → k < length bytes → k < position_or_len ends bytes
    go (inl lt) k l = absurd (none-some _ (sym (cond_below _ _ _ _ lt ∙ e)))
    go (inr le) k l = omega arith

-- ---- there is one
pub some_byte : (b : ℕ) (bs : List ℕ) → b ∷ bs ≢ []
some_byte b bs e = let n = ap length e in omega arith

abbrev SomeFirst : List ℕ → Type 0
SomeFirst bytes = (line : List ℕ) × (rest : List ℕ) × FirstLine bytes line rest

pub some_first : (bytes : List ℕ) → bytes ≢ [] → SomeFirst bytes
some_first bytes some = go (position ends bytes) refl
  where
    go : (r : Option ℕ) → position ends bytes ≡ r → SomeFirst bytes
    go (Some end) e = (_, _, line_ended bytes end e)
    go None e = (_, _, last_line bytes some e)

-- ---- there is only one
-- a line is as long as the place of the first byte 10 says
long_as : (bytes line rest : List ℕ) → FirstLine bytes line rest → position_or_len ends bytes ≡ length line
long_as bytes line rest f = go f.ends
  where
    go : (bytes ≡ line ++ (10 ∷ rest)) ⊎ ((bytes ≡ line) × (line ≢ []) × (rest ≡ [])) → position_or_len ends bytes ≡ length line
    go (inl e) = ap (position_or_len ends) e ∙ position_or_len_is ends (line ++ (10 ∷ rest)) (length line) 0 (let l = length-append line (10 ∷ rest) in omega arith)
        (λ k lt. ap ends (get_or_append_left line (10 ∷ rest) 0 k lt) ∙ row_at line f.within k lt) (λ _. ap ends (get_or-append_seam line 10 rest 0))
    go (inr p) = ap (position_or_len ends) p.0 ∙ position_or_len_is ends line (length line) 0 (omega arith) (row_at line f.within) (λ lt. absurd (omega arith))

-- the line stands before the first byte 10, and what follows behind it
sides : (bytes line rest : List ℕ) → FirstLine bytes line rest → (before_first ends bytes ≡ line) × (after_first ends bytes ≡ rest)
sides bytes line rest f = let n = long_as bytes line rest f in go n f.ends
  where
    go : position_or_len ends bytes ≡ length line → (bytes ≡ line ++ (10 ∷ rest)) ⊎ ((bytes ≡ line) × (line ≢ []) × (rest ≡ [])) → (before_first ends bytes ≡ line) × (after_first ends bytes ≡ rest)
    go n (inl e) = (
      grind (arith, common_steps),
      ap (λ k. drop (k + 1) bytes) n ∙ ap (drop (length line + 1)) e ∙ sym (drop-drop 1 (length line) (line ++ (10 ∷ rest))) ∙ ap (drop 1) (drop_at line (10 ∷ rest) (length line) refl),
    )
    go n (inr p) = (grind (arith, common_steps), grind (arith, common_steps))

pub one_first : (bytes a b r s : List ℕ) → FirstLine bytes a r → FirstLine bytes b s → (a ≡ b) × (r ≡ s)
one_first bytes a b r s f g =
    let h = sides bytes a r f in
    let k = sides bytes b s g in
    (sym h.0 ∙ k.0, sym h.1 ∙ k.1)

pub empty_first : (a r : List ℕ) → FirstLine [] a r → ⊥
empty_first a r f = go f.ends
  where
    go : ([] ≡ a ++ (10 ∷ r)) ⊎ (([] ≡ a) × (a ≢ []) × (r ≡ [])) → ⊥
    go (inl p) = let z = ap length p in let y = length-append a (10 ∷ r) in omega arith
    go (inr p) = p.1 (sym p.0)

-- what a line takes away
pub front_of : (bytes line rest : List ℕ) → FirstLine bytes line rest → (front : List ℕ) × (bytes ≡ front ++ rest) × (0 < length front)
front_of bytes line rest f = go f.ends
  where
    go : (bytes ≡ line ++ (10 ∷ rest)) ⊎ ((bytes ≡ line) × (line ≢ []) × (rest ≡ [])) → (front : List ℕ) × (bytes ≡ front ++ rest) × (0 < length front)
    go (inl p) = (line ++ (10 ∷ []), p ∙ sym (append_assoc line (10 ∷ []) rest), let z = length-append line (10 ∷ []) in omega arith)
    go (inr p) = (line, p.0 ∙ sym (append-nil line) ∙ ap (λ r. line ++ r) (sym p.2), some line p.1)
      where
        some : (l : List ℕ) → l ≢ [] → 0 < length l
        some [] h = absurd (h refl)
        some (x ∷ xs) h = omega arith

pub shorter : (bytes line rest : List ℕ) → FirstLine bytes line rest → length rest < length bytes
shorter bytes line rest f =
    let h = front_of bytes line rest f in
    let z = ap length h.1 in
    let y = length-append h.0 rest in
    let x = h.2 in omega arith

-- ---- all lines
some_lines : (n : ℕ) (bytes : List ℕ) → length bytes ≤ n → (lines : List (List ℕ)) × Lines bytes lines
some_lines n [] le = ([], none)
some_lines zero (b ∷ bs) le = absurd (omega arith)
some_lines (suc n) (b ∷ bs) le =
    let f = some_first (b ∷ bs) (some_byte b bs) in
    let s = shorter (b ∷ bs) f.0 f.1 f.2 in
    let m = some_lines n f.1 (omega arith) in
    (f.0 ∷ m.0, more f.2 m.1)

same_lines : (bytes : List ℕ) (l m : List (List ℕ)) → Lines bytes l → Lines bytes m → l ≡ m
same_lines bytes l m none none = refl
same_lines bytes l m none (more {line = b} {rest = s} g y) = absurd (empty_first b s g)
same_lines bytes l m (more {line = a} {rest = r} f x) none = absurd (empty_first a r f)
same_lines bytes l m (more {line = a} {rest = r} {lines = ls} f x) (more {line = b} {rest = s} {lines = ms} g y) =
    let h = one_first bytes a b r s f g in
    ap (λ z. z ∷ ls) h.0 ∙ ap (λ z. b ∷ z) (same_lines r ls ms x (subst (λ z. Lines z ms) (sym h.1) y))

pub one_list : OneList
one_list = record { some = λ bytes. some_lines (length bytes) bytes (omega arith); same = same_lines }
