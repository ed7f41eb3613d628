-- Names and tickets: one byte of one kind, then others of another, at most so many.
use Rattle.std.proofs.Common.{◌≡◌, ℕ, zero, suc, ◌+◌, ◌<◌, ◌≤◌, Bool, true, false, cond, ◌⊎◌, List, [], ◌∷◌, ◌++◌, length, get_or, take, refl, sym, ◌∙◌, subst, inl, inr, arith}
use Rattle.std.specs.List.{AllByRecursion, prefix_len}
use Rattle.std.proofs.lemmas.List.{length-append, length-take-le}
use Rattle.std.proofs.lemmas.Bool.{both_ways, cases_lt, cond-true}
use Rattle.lines.specs.Lines.{Row}
use Rattle.lines.specs.Reads.{Longest}
use Rattle.lines.proofs.Places.{Growing}

all_front : (P : ℕ → Type 0) (xs ys : List ℕ) → AllByRecursion P (xs ++ ys) → AllByRecursion P xs
all_front P [] ys h = tt
all_front P (x ∷ xs) ys h = (h.0, all_front P xs ys h.1)

module _ (First Other : ℕ → Type 0) (most : ℕ) where
  pub growing : (a : ℕ) → First a → 1 ≤ most → Growing (Row First Other most)
  growing a f pos = record {
    none = λ h. h;
    some = (a ∷ [], (f, tt, pos));
    closed = λ b xs ys h. (h.0, all_front Other xs ys h.1, omega (arith, length-append xs ys, h.2));
  }

-- whether a byte lies between two
pub between_told : (low high b : ℕ) → ((low ≤ b) × (b ≤ high)) ⊎ (low ≤ b → b ≤ high → ⊥)
between_told low high b = go (cases_lt b low) (cases_lt high b)
  where
    go : (b < low) ⊎ (low ≤ b) → (high < b) ⊎ (b ≤ high) → ((low ≤ b) × (b ≤ high)) ⊎ (low ≤ b → b ≤ high → ⊥)
    go (inl a) u = inr (λ l h. omega arith)
    go (inr a) (inl u) = inr (λ l h. omega arith)
    go (inr a) (inr u) = inl (a, u)

-- how many of the first m bytes pass a test, up to the first that does not
abbrev pub run : (ℕ → Bool) → ℕ → List ℕ → ℕ
run q m xs = prefix_len q (take m xs)

-- the first byte is one from low to high, and a test tells which bytes may stand behind it; the first is such a byte too
pub record Told (First Other : ℕ → Type 0) (q : ℕ → Bool) (low high : ℕ) : Type 0 where
  pub first : (b : ℕ) → low ≤ b → b ≤ high → First b
  pub between : (b : ℕ) → First b → (low ≤ b) × (b ≤ high)
  pub yes : (b : ℕ) → q b ≡ true → Other b
  pub no : (b : ℕ) → Other b → q b ≡ true
  pub front : (b : ℕ) → First b → Other b

module _ {First Other : ℕ → Type 0} {q : ℕ → Bool} {low high : ℕ} (told : Told First Other q low high) where
  run_short : (m : ℕ) (bs : List ℕ) → (run q m bs ≤ m) × (run q m bs ≤ length bs)
  run_short zero bs = (omega arith, omega arith)
  run_short (suc m) [] = (omega arith, omega arith)
  run_short (suc m) (b ∷ bs) = go (q b) (run_short m bs)
    where
      go : (t : Bool) → (run q m bs ≤ m) × (run q m bs ≤ length bs) → (cond t (1 + run q m bs) 0 ≤ suc m) × (cond t (1 + run q m bs) 0 ≤ suc (length bs))
      go true h = (omega arith, omega arith)
      go false h = (omega arith, omega arith)

  run_all : (m : ℕ) (bs : List ℕ) → AllByRecursion Other (take (run q m bs) bs)
  run_all zero bs = tt
  run_all (suc m) [] = tt
  run_all (suc m) (b ∷ bs) = go (q b) refl (run_all m bs)
    where
      go : (t : Bool) → q b ≡ t → AllByRecursion Other (take (run q m bs) bs) → AllByRecursion Other (take (cond t (1 + run q m bs) 0) (b ∷ bs))
      go true e h = let s : suc (run q m bs) ≡ 1 + run q m bs = omega arith in subst (λ (k : ℕ). AllByRecursion Other (take k (b ∷ bs))) s (told.yes b e, h)
      go false e h = tt

  run_ends : (m : ℕ) (bs : List ℕ) (j : ℕ) → run q m bs < j → j ≤ m → j ≤ length bs → AllByRecursion Other (take j bs) → ⊥
  run_ends m bs zero lt up le h = omega arith
  run_ends zero bs (suc j) lt up le h = omega arith
  run_ends (suc m) [] (suc j) lt up le h = omega arith
  run_ends (suc m) (b ∷ bs) (suc j) lt up le h = go (q b) refl (run_ends m bs j) lt
    where
      go : (t : Bool) → q b ≡ t → (run q m bs < j → j ≤ m → j ≤ length bs → AllByRecursion Other (take j bs) → ⊥) → cond t (1 + run q m bs) 0 < suc j → ⊥
      go true e f l = f (omega arith) (omega arith) (omega arith) h.1
      go false e f l = both_ways (q b) e (told.no b h.0)

  -- the longest row that some bytes begin with
  pub row_run : (most : ℕ) → 1 ≤ most → (xs : List ℕ) → 0 < length xs → low ≤ get_or xs 0 0 → get_or xs 0 0 ≤ high → Longest (Row First Other most) xs (run q most xs)
  row_run most pos [] lt l u = absurd (omega arith)
  row_run most pos (b ∷ bs) lt l u = go most pos
    where
      f : First b
      f = told.first b l u

      begun : (m : ℕ) → Longest (Row First Other (suc m)) (b ∷ bs) (suc (run q m bs))
      begun m =
          let up = run_short m bs in
          record {
            within = omega arith;
            has = λ _. (f, run_all m bs, omega (arith, length-take-le (run q m bs) bs up.1));
            longest = ends m;
          }
        where
          ends : (m j : ℕ) → suc (run q m bs) < j → j ≤ suc (length bs) → Row First Other (suc m) (take j (b ∷ bs)) → ⊥
          ends m zero lt le r = omega arith
          ends m (suc j) lt le r = run_ends m bs j (omega arith) (omega (arith, length-take-le j bs (omega arith), r.2)) (omega arith) r.1

      go : (m : ℕ) → 1 ≤ m → Longest (Row First Other m) (b ∷ bs) (run q m (b ∷ bs))
      go zero p = omega arith
      go (suc m) p =
          let s : suc (run q m bs) ≡ 1 + run q m bs = omega arith in
          subst (Longest (Row First Other (suc m)) (b ∷ bs)) (s ∙ sym (cond-true (q b) (1 + run q m bs) 0 (told.no b (told.front b f)))) (begun m)

  pub row_none : (most : ℕ) (xs : List ℕ) → (0 < length xs → low ≤ get_or xs 0 0 → get_or xs 0 0 ≤ high → ⊥) → Longest (Row First Other most) xs 0
  row_none most xs f = record { within = omega arith; has = λ lt. absurd (omega arith); longest = none xs f }
    where
      none : (xs : List ℕ) → (0 < length xs → low ≤ get_or xs 0 0 → get_or xs 0 0 ≤ high → ⊥) → (m : ℕ) → 0 < m → m ≤ length xs → Row First Other most (take m xs) → ⊥
      none [] f m lt le r = omega arith
      none (b ∷ bs) f zero lt le r = omega arith
      none (b ∷ bs) f (suc m) lt le r = let h = told.between b r.0 in f (omega arith) h.0 h.1

  pub row_found : (most : ℕ) → 1 ≤ most → (xs : List ℕ) → (n : ℕ) × Longest (Row First Other most) xs n
  row_found most pos xs = go (cases_lt 0 (length xs)) (between_told low high (get_or xs 0 0))
    where
      go : (0 < length xs) ⊎ (length xs ≤ 0) → ((low ≤ get_or xs 0 0) × (get_or xs 0 0 ≤ high)) ⊎ (low ≤ get_or xs 0 0 → get_or xs 0 0 ≤ high → ⊥) → (n : ℕ) × Longest (Row First Other most) xs n
      go (inr le) b = (0, row_none most xs (λ lt. absurd (omega arith)))
      go (inl lt) (inl h) = (run q most xs, row_run most pos xs lt h.0 h.1)
      go (inl lt) (inr f) = (0, row_none most xs (λ _. f))
