-- Five histories judged, and the doors of two texts shown, from the definitions.
use Rattle.std.specs.Prelude.{◌≡◌, List, [], ◌∷◌, ℕ}
use Rattle.paths.specs.Grammar.{Sequence, last, ◌⨟◌, only, ◌or◌, name, brace, one, more}
use Rattle.paths.specs.Words.{⊕, ⊖, History, Fits}
use Rattle.paths.specs.Doors.{Door, plain, counted, Occurrence, Standing, next}
use Rattle.paths.specs.Texts.{text_doors, text_opening}

-- two operations
abbrev pub a : ℕ
a = 0

abbrev pub b : ℕ
b = 1

-- path a;b end
abbrev pub a_then_b : Sequence
a_then_b = only (name a) ⨟ last (only (name b))

-- path {a};b end
abbrev pub many_a_then_b : Sequence
many_a_then_b = only (brace (last (only (name a)))) ⨟ last (only (name b))

-- what fits the two paths, and what does not
pub record Judged : Type 0 where
  -- a, then b, then a again
  pub again : Fits a_then_b (⊕ a ∷ ⊖ a ∷ ⊕ b ∷ ⊖ b ∷ ⊕ a ∷ [])
  -- b before a has ended
  pub too_early : ¬ Fits a_then_b (⊕ a ∷ ⊕ b ∷ [])
  -- two a that overlap, then b
  pub together : Fits many_a_then_b (⊕ a ∷ ⊕ a ∷ ⊖ a ∷ ⊖ a ∷ ⊕ b ∷ [])
  -- a second a when the first is over
  pub apart : ¬ Fits many_a_then_b (⊕ a ∷ ⊖ a ∷ ⊕ a ∷ [])
  -- b while an a still runs
  pub one_runs : ¬ Fits many_a_then_b (⊕ a ∷ ⊕ a ∷ ⊖ a ∷ ⊕ b ∷ [])

-- path arm; {touch, hand}; split end, its names numbered from 0
abbrev pub arms : Sequence
arms = only (name 0) ⨟ only (brace (last (name 1 or only (name 2)))) ⨟ last (only (name 3))

-- in path n operation a, with its left and its right door
abbrev pub occurrence : ℕ → ℕ → Door → Door → Occurrence
occurrence n a l r = record { path = n; operation = a; left = l; right = r }

-- semaphores 0, 1 and 2, and counter 0
abbrev pub row : Standing → List ℕ
row σ = σ.semaphore 0 ∷ σ.semaphore 1 ∷ σ.semaphore 2 ∷ σ.counter 0 ∷ []

-- how they stand on that path from σ on, before and after each event
abbrev pub rows : Standing → History → List (List ℕ)
rows σ [] = row σ ∷ []
rows σ (e ∷ h) = row σ ∷ rows (next (text_doors (one arms) 0 0 0) e σ) h

-- the doors of two texts, and what one turn of the first does to them
pub record DoorsShown : Type 0 where
  -- path arm; {touch, hand}; split end
  pub one_path : text_doors (one arms) 0 0 0
      ≡ occurrence 0 0 (plain 0) (plain 1) ∷ occurrence 0 1 (counted 1 0) (counted 2 0) ∷ occurrence 0 2 (counted 1 0) (counted 2 0) ∷ occurrence 0 3 (plain 2) (plain 0) ∷ []
  -- path {a};b end path {a};b end
  pub two_paths : text_doors (more many_a_then_b (one many_a_then_b)) 0 0 0
      ≡ occurrence 0 0 (counted 0 0) (counted 1 0) ∷ occurrence 0 1 (plain 1) (plain 0) ∷ occurrence 1 0 (counted 2 1) (counted 3 1) ∷ occurrence 1 1 (plain 3) (plain 2) ∷ []
  -- arm; touch and hand, overlapping; split
  pub one_turn : rows (text_opening (one arms)) (⊕ 0 ∷ ⊖ 0 ∷ ⊕ 1 ∷ ⊕ 2 ∷ ⊖ 1 ∷ ⊖ 2 ∷ ⊕ 3 ∷ ⊖ 3 ∷ [])
      ≡ (1 ∷ 0 ∷ 0 ∷ 0 ∷ [])
      ∷ (0 ∷ 0 ∷ 0 ∷ 0 ∷ [])
      ∷ (0 ∷ 1 ∷ 0 ∷ 0 ∷ [])
      ∷ (0 ∷ 0 ∷ 0 ∷ 1 ∷ [])
      ∷ (0 ∷ 0 ∷ 0 ∷ 2 ∷ [])
      ∷ (0 ∷ 0 ∷ 0 ∷ 1 ∷ [])
      ∷ (0 ∷ 0 ∷ 1 ∷ 0 ∷ [])
      ∷ (0 ∷ 0 ∷ 0 ∷ 0 ∷ [])
      ∷ (1 ∷ 0 ∷ 0 ∷ 0 ∷ [])
      ∷ []
