-- Where a row goes wrong, for any form.
use Rattle.std.proofs.Common.{◌≡◌, ℕ, zero, suc, ◌<◌, ◌≤◌, ◌⊎◌, List, [], ◌∷◌, ◌++◌, length, take, drop, sym, subst, inl, inr, arith}
use Rattle.std.proofs.lemmas.List.{append-nil, append_assoc, take-append-drop, take-take, take_all}
use Rattle.std.proofs.lemmas.Bool.{cases_lt, cases_order}
use Rattle.lines.specs.Lines.{Begins, Wrong, at_byte, stops_short}
use Rattle.lines.specs.Reads.{Longest}

shorter : (F : List ℕ → Type 0) (xs ys : List ℕ) → Begins F (xs ++ ys) → Begins F xs
shorter F xs ys h = (ys ++ h.0, subst F (append_assoc xs ys h.0) h.1)

front : (F : List ℕ → Type 0) (row : List ℕ) (p : ℕ) → Begins F row → Begins F (take p row)
front F row p h = shorter F (take p row) (drop p row) (subst (Begins F) (sym (take-append-drop p row)) h)

-- the bytes before the place begin a row of the form, and with the byte there they begin none
record Reach (F : List ℕ → Type 0) (row : List ℕ) (p : ℕ) : Type 0 where
  within : p ≤ length row
  begun : Begins F (take p row)
  stop : p < length row → Begins F (take (suc p) row) → ⊥

reach : (F : List ℕ → Type 0) (row : List ℕ) (p : ℕ) → Wrong F row p → Reach F row p
reach F row p (at_byte lt b n) = record { within = omega arith; begun = b; stop = λ _. n }
reach F row p (stops_short b n) = record { within = omega arith; begun = front F row (length row) b; stop = λ lt. absurd (omega arith) }

pub not_both : (F : List ℕ → Type 0) (row : List ℕ) (p : ℕ) → F row → Wrong F row p → ⊥
not_both F row p h (at_byte {p = q} lt b n) = n (front F row (suc q) ([], subst F (sym (append-nil row)) h))
not_both F row p h (stops_short b n) = n h

-- no place of a fault lies before another
not_before : (F : List ℕ → Type 0) (row : List ℕ) (p q : ℕ) → Reach F row p → Reach F row q → p < q → ⊥
not_before F row p q a b lt =
    let long = b.within in
    let inside : p < length row = omega arith in
    a.stop inside (subst (Begins F) (take-take (suc p) q row lt) (front F (take q row) (suc p) b.begun))

pub one_place : (F : List ℕ → Type 0) (row : List ℕ) (p q : ℕ) → Wrong F row p → Wrong F row q → p ≡ q
one_place F row p q a b = go (cases_order p q)
  where
    go : (p ≡ q) ⊎ ((p < q) ⊎ (q < p)) → p ≡ q
    go (inl e) = e
    go (inr (inl lt)) = absurd (not_before F row p q (reach F row p a) (reach F row q b) lt)
    go (inr (inr lt)) = absurd (not_before F row q p (reach F row q b) (reach F row p a) lt)

-- two forms with the same rows
pub alike : (F G : List ℕ → Type 0) (row : List ℕ) (p : ℕ) → ((r : List ℕ) → F r → G r) → ((r : List ℕ) → G r → F r) → Wrong F row p → Wrong G row p
alike F G row p to from (at_byte lt b n) = at_byte lt (b.0, to _ b.1) (λ h. n (h.0, from _ h.1))
alike F G row p to from (stops_short b n) = stops_short (b.0, to _ b.1) (λ h. n (from _ h))

-- what stands behind a byte
pub behind : (F : List ℕ → Type 0) (x : ℕ) (row : List ℕ) (p : ℕ) → Wrong (λ r. F (x ∷ r)) row p → Wrong F (x ∷ row) (suc p)
behind F x row p (at_byte lt b n) = at_byte (omega arith) b n
behind F x row p (stops_short b n) = stops_short b n

-- a form with some row, not the empty one, and with each front of a row but the empty one
pub record Growing (F : List ℕ → Type 0) : Type 0 where
  pub none : F [] → ⊥
  pub some : (w : List ℕ) × F w
  pub closed : (b : ℕ) (xs ys : List ℕ) → F (b ∷ (xs ++ ys)) → F (b ∷ xs)

module _ (F : List ℕ → Type 0) (g : Growing F) where
  pub whole : (row : List ℕ) (n : ℕ) → Longest F row n → 0 < n → length row ≤ n → F row
  whole row n l pos le = subst F (take_all n row le) (l.has pos)

  pub broken : (row : List ℕ) (n : ℕ) → Longest F row n → (0 < n → n < length row) → Wrong F row n
  broken [] n l c = let in_row = l.within in let z : n ≡ 0 = omega arith in subst (λ k. Wrong F [] k) (sym z) (stops_short g.some g.none)
  broken (x ∷ xs) n l c =
      let lt : n < length (x ∷ xs) = inside (cases_lt n (length (x ∷ xs))) in
      at_byte lt (begun n l.has) (λ h. l.longest (suc n) (omega arith) lt (g.closed x (take n xs) h.0 h.1))
    where
      inside : (n < length (x ∷ xs)) ⊎ (length (x ∷ xs) ≤ n) → n < length (x ∷ xs)
      inside (inl lt) = lt
      inside (inr le) = c (omega arith)

      begun : (k : ℕ) → (0 < k → F (take k (x ∷ xs))) → Begins F (take k (x ∷ xs))
      begun zero f = g.some
      begun (suc k) f = ([], subst F (sym (append-nil _)) (f (omega arith)))
