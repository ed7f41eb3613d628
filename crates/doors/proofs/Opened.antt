-- The memory of a text before anything happened.
use Rattle.std.proofs.Common.{◌≡◌, ℕ, zero, suc, ◌+◌, ◌<◌, ◌≤◌, Bool, true, false, cond, eqb, ◌⊎◌, List, [], ◌∷◌, ◌++◌, length, get_or, take, Some, filter, Option, sym, refl, ap, ◌∙◌, subst, inl, inr, append-nil, arith}
use mathlib.Core.List.Memᴰ
use mathlib.Core.List.{Memᴰ}
use Rattle.std.proofs.lemmas.List.Elements.{filter_more}
use Rattle.std.proofs.lemmas.List.{map_more, take_all, take-map}
use Rattle.std.proofs.lemmas.Bool.{cases_lt, lt-ltb}
use Rattle.std.proofs.lemmas.Bool.Decides.{nat_tests}
use Rattle.paths.specs.Grammar.{Text, one, more}
use Rattle.paths.specs.Words.{names_of_sequence}
use Rattle.paths.specs.Doors.{Occurrence as TheOccurrence, Standing, semaphore_of, path_doors, semaphores_in_sequence, counters_in_sequence}
use Rattle.paths.specs.Texts.{text_doors, names_of_text}
use Rattle.paths.specs.Runs.{occurring, opened_by}
use Rattle.paths.proofs.Occs.{mem_ops}
use Rattle.paths.proofs.Texts.{path_names}
use Rattle.paths.proofs.Opening.{begins_path, begins_snoc, opened_more, once_a_path, opening_is_told}
use Rattle.doors.specs.declared.Occurrence.{Occurrence}
use Rattle.doors.specs.declared.Doors.{Doors}
use Rattle.doors.specs.Told.{told, all_told}
use Rattle.doors.specs.Memory.{standing_of, row, room, of_operation, with_open, begins, Tells, Limited}

-- the occurrences of operation a, in order
abbrev own : ℕ → List Occurrence → List Occurrence
own a xs = filter (λ (o : Occurrence). eqb a o.operation) xs

-- how the doors stand before anything happened, told by the occurrences
abbrev opened : List TheOccurrence → Standing
opened os = record { semaphore = opened_by os; counter = λ j. 0 }

-- The memory after the first n records: the rows have their occurrences as far as the places reach, the semaphores of the paths begun so far are
-- open, and `before` is the path of the last.
pub record Kept (xs : List Occurrence) (n : ℕ) (d : Doors) (before : Option ℕ) : Type 0 where
  pub rows : (a : ℕ) → row d.rows a ≡ take (room a) (own a (take n xs))
  pub levels : standing_of d.levels ≡ opened (all_told (take n xs))
  pub path : (o : TheOccurrence) → begins_path (all_told (take n xs)) o ≡ begins before o.path

-- ---- one occurrence more
pub take_again : {X : Type 0} (n : ℕ) (xs ys : List X) → take n (take n xs ++ ys) ≡ take n (xs ++ ys)
take_again zero xs ys = refl
take_again (suc n) [] ys = refl
take_again {X} (suc n) (x ∷ xs) ys = ap (λ (l : List X). x ∷ l) (take_again n xs ys)

module _ (xs : List Occurrence) (i : ℕ) (d : Occurrence) (h : i < length xs) where
  -- the occurrence at i
  abbrev x : Occurrence
  x = get_or xs i d

  rows_more : (a : ℕ) (before after : List Occurrence) → before ≡ take (room a) (own a (take i xs)) →
      after ≡ cond (eqb a x.operation) (take (room a) (before ++ x ∷ [])) before → after ≡ take (room a) (own a (take (i + 1) xs))
  rows_more a before after was is = grind (arith, take_again (room a) (own a (take i xs)) (x ∷ []), filter_more (λ (o : Occurrence). eqb a o.operation) xs i d h, append-nil (own a (take i xs)))

  levels_more : (first : Bool) (before after : Standing) → begins_path (all_told (take i xs)) (told x) ≡ first → before ≡ opened (all_told (take i xs)) →
      after ≡ cond first (with_open (semaphore_of (told x).left) before) before → after ≡ opened (all_told (take (i + 1) xs))
  levels_more first before after begin was is =
      let os = all_told (take i xs) in
      let s = semaphore_of (told x).left in
      is ∙ ap (λ (σ : Standing). cond first (with_open s σ) σ) was ∙ ap (λ b. cond b (with_open s (opened os)) (opened os)) (sym begin) ∙ go (begins_path os (told x))
      ∙ (λ k. record { semaphore = λ j. sym (opened_more os (told x) j) k; counter = λ j. 0 }) ∙ ap opened (sym (map_more told xs i d h))
    where
      go : (b : Bool) → cond b (with_open (semaphore_of (told x).left) (opened (all_told (take i xs)))) (opened (all_told (take i xs)))
          ≡ record { semaphore = λ j. cond b (cond (eqb j (semaphore_of (told x).left)) 1 (opened_by (all_told (take i xs)) j)) (opened_by (all_told (take i xs)) j); counter = λ j. 0 }
      go true = refl
      go false = refl

  pub kept_more : (d₀ d₁ : Doors) (before : Option ℕ) → Kept xs i d₀ before →
      ((a : ℕ) → row d₁.rows a ≡ cond (eqb a x.operation) (take (room a) (row d₀.rows a ++ x ∷ [])) (row d₀.rows a)) →
      standing_of d₁.levels ≡ cond (begins before x.path) (with_open (semaphore_of (told x).left) (standing_of d₀.levels)) (standing_of d₀.levels) →
      Kept xs (i + 1) d₁ (Some x.path)
  kept_more d₀ d₁ before k rows levels = record {
    rows = λ a. rows_more a (row d₀.rows a) (row d₁.rows a) (k.rows a) (rows a);
    levels = levels_more (begins before x.path) (standing_of d₀.levels) (standing_of d₁.levels) (k.path (told x)) k.levels levels;
    path = λ o. ap (λ (os : List TheOccurrence). begins_path os o) (map_more told xs i d h) ∙ begins_snoc (all_told (take i xs)) (told x) o;
  }

-- ---- all occurrences of a text
told_own : (a : ℕ) (xs : List Occurrence) → all_told (own a xs) ≡ of_operation a (all_told xs)
told_own a [] = refl
told_own a (x ∷ xs) = grind (arith, told_own a xs)

own_occurring : (a : ℕ) (os : List TheOccurrence) → length (of_operation a os) ≡ occurring a os
own_occurring a [] = refl
own_occurring a (o ∷ os) = grind (arith, own_occurring a os)

none_occurring : (a : ℕ) (os : List TheOccurrence) → ((o : TheOccurrence) → Memᴰ o os → o.operation < a) → occurring a os ≡ 0
none_occurring a [] f = refl
none_occurring a (o ∷ os) f = grind (arith, nat_tests, f o (Memᴰ.head refl), none_occurring a os (λ p m. f p (Memᴰ.tail m)))

text_names : (t : Text) (n s c : ℕ) (o : TheOccurrence) → Memᴰ o (text_doors t n s c) → Memᴰ o.operation (names_of_text t)
text_names (one p) n s c o m = subst (Memᴰ o.operation) (path_names p n s c) (mem_ops o (path_doors p n s c) m)
text_names (more p t) n s c o m =
    let s' = s + 1 + semaphores_in_sequence p in
    let c' = c + counters_in_sequence p in
    elim (Memᴰ.append_cases (path_doors p n s c) m) [
      | inl k ↦ Memᴰ.append_left (names_of_text t) (subst (Memᴰ o.operation) (path_names p n s c) (mem_ops o (path_doors p n s c) k))
      | inr k ↦ Memᴰ.append_right (names_of_sequence p) (text_names t (n + 1) s' c' o k)
    ]

room_known : (a : ℕ) → a < 64 → room a ≡ 32
room_known a h = ap (λ b. cond {A = ℕ} b 32 0) (lt-ltb a 64 h)

has_room : (t : Text) → Limited t → (a : ℕ) → length (of_operation a (text_doors t 0 0 0)) ≤ room a
has_room t l a = go (cases_lt a 64)
  where
    go : (a < 64) ⊎ (64 ≤ a) → length (of_operation a (text_doors t 0 0 0)) ≤ room a
    go (inl h) = omega (arith, own_occurring a (text_doors t 0 0 0), once_a_path t l.proper a, l.few_paths, room_known a h)
    go (inr h) =
        let none = none_occurring a (text_doors t 0 0 0) (λ o m. omega (arith, l.few_operations o.operation (text_names t 0 0 0 o m))) in
        omega (arith, own_occurring a (text_doors t 0 0 0), none)

pub kept_all : (xs : List Occurrence) (n : ℕ) (d : Doors) (before : Option ℕ) → Kept xs n d before → length xs ≤ n →
    (t : Text) → Limited t → all_told xs ≡ text_doors t 0 0 0 → Tells d t []
kept_all xs n d before k all t limited is =
    let every = take_all n xs all in
    record {
      rows = λ a.
          ap all_told (k.rows a ∙ ap (λ (l : List Occurrence). take (room a) (own a l)) every) ∙ sym (take-map told (room a) (own a xs))
          ∙ ap (take (room a)) (told_own a xs ∙ ap (of_operation a) is) ∙ take_all (room a) (of_operation a (text_doors t 0 0 0)) (has_room t limited a);
      stands =
          k.levels ∙ ap (λ (l : List Occurrence). opened (all_told l)) every ∙ ap opened is
          ∙ (λ i. record { semaphore = λ j. sym (opening_is_told t j) i; counter = λ j. 0 });
    }
