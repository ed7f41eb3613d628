-- Counting what a text takes.
use mathlib.Core.Path.{◌≡◌, refl, sym, ◌∙◌, ap, subst}
use mathlib.Core.Logic.{◌⊎◌, inl, inr}
use mathlib.Core.List.Memᴰ
use mathlib.Core.List.{List, [], ◌∷◌, ◌++◌, Memᴰ}
use Prim.Native.Nat.{ℕ, ◌+◌, ◌≤◌, ◌<◌}
use native.Mathlib.Omega.{arith}
use lib.ListN.{length, length-append}
use Rattle.paths.specs.Grammar.{Terminal, semicolon, comma, round_close, brace_close, end, Text, one, more, yield_text, yield_path, yield_sequence, yield_selection, yield_element}
use Rattle.paths.specs.Grammar.{Sequence, Selection, Element, last, ◌⨟◌, only, ◌or◌, name, round, brace}
use Rattle.paths.specs.Words.{names_of_sequence, names_of_selection, names_of_element}
use Rattle.paths.specs.Doors.{Door, plain, with_counter, Occurrence, path_doors, semaphores_in_sequence, counters_in_sequence}
use Rattle.paths.specs.Doors.{sequence_doors, selection_doors, element_doors, semaphores_in_selection, semaphores_in_element, counters_in_selection, counters_in_element}
use Rattle.paths.specs.Texts.{text_doors}
use Rattle.paths.specs.Sizes.{how_many, names, paths, brackets, semaphores, counters, Below, DoorsAreFew}
use Rattle.paths.proofs.Occs.{ops}
use Rattle.paths.proofs.Texts.{path_within, path_names, within_below, below_more}

pub many_append : (f : Terminal → ℕ) (y z : List Terminal) → how_many f (y ++ z) ≡ how_many f y + how_many f z
many_append f [] z = omega arith
many_append f (x ∷ y) z = let i = many_append f y z in omega arith

-- what the terminals y take: s semaphores, c counters, n names
pub record Taken (y : List Terminal) (s c n : ℕ) : Type 0 where
  pub semaphores_are : how_many semaphores y ≡ s
  pub counters_are : how_many counters y ≡ c
  pub names_are : how_many names y ≡ n
  pub few : s + 1 ≤ n
  pub fewer : c ≤ how_many brackets y

taken_between : (x : Terminal) (y z : List Terminal) (s c n s' c' n' : ℕ) → semaphores x ≤ 1 → counters x ≡ 0 → names x ≡ 0 → Taken y s c n → Taken z s' c' n' →
    Taken (y ++ (x ∷ z)) (s + semaphores x + s') (c + c') (n + n')
taken_between x y z s c n s' c' n' a b d Y Z = record {
  semaphores_are = let e = many_append semaphores y (x ∷ z) in omega arith;
  counters_are = let e = many_append counters y (x ∷ z) in omega arith;
  names_are = let e = many_append names y (x ∷ z) in omega arith;
  few = omega arith;
  fewer = let e = many_append brackets y (x ∷ z) in omega arith;
}

-- what a sequence, a selection and an element take
abbrev TakenS : Sequence → Type 0
TakenS q = Taken (yield_sequence q) (semaphores_in_sequence q) (counters_in_sequence q) (length (names_of_sequence q))

abbrev TakenL : Selection → Type 0
TakenL l = Taken (yield_selection l) (semaphores_in_selection l) (counters_in_selection l) (length (names_of_selection l))

abbrev TakenE : Element → Type 0
TakenE e = Taken (yield_element e) (semaphores_in_element e) (counters_in_element e) (length (names_of_element e))

then_taken : (l : Selection) (q : Sequence) → TakenL l → TakenS q → TakenS (l ⨟ q)
then_taken l q L Q =
    subst (λ (n : ℕ). Taken (yield_sequence (l ⨟ q)) (semaphores_in_sequence (l ⨟ q)) (counters_in_sequence (l ⨟ q)) n) (sym (length-append (names_of_selection l) (names_of_sequence q)))
    (taken_between semicolon (yield_selection l) (yield_sequence q) (semaphores_in_selection l) (counters_in_selection l) (length (names_of_selection l))
    (semaphores_in_sequence q) (counters_in_sequence q) (length (names_of_sequence q)) (omega arith) refl refl L Q)

or_taken : (e : Element) (l : Selection) → TakenE e → TakenL l → TakenL (e or l)
or_taken e l E L =
    subst (λ (n : ℕ). Taken (yield_selection (e or l)) (semaphores_in_selection (e or l)) (counters_in_selection (e or l)) n) (sym (length-append (names_of_element e) (names_of_selection l)))
    (subst (λ (s : ℕ). Taken (yield_selection (e or l)) s (counters_in_selection (e or l)) (length (names_of_element e) + length (names_of_selection l)))
    (let r : semaphores_in_element e + 0 + semaphores_in_selection l ≡ semaphores_in_element e + semaphores_in_selection l = omega arith in r)
    (taken_between comma (yield_element e) (yield_selection l) (semaphores_in_element e) (counters_in_element e) (length (names_of_element e))
    (semaphores_in_selection l) (counters_in_selection l) (length (names_of_selection l)) (omega arith) refl refl E L))

round_taken : (q : Sequence) → TakenS q → TakenE (round q)
round_taken q Q = let y = yield_sequence q in let z : List Terminal = round_close ∷ [] in record {
  semaphores_are = let e = many_append semaphores y z in omega arith;
  counters_are = let e = many_append counters y z in omega arith;
  names_are = let e = many_append names y z in omega arith;
  few = Q.few;
  fewer = let e = many_append brackets y z in omega arith;
}

brace_taken : (q : Sequence) → TakenS q → TakenE (brace q)
brace_taken q Q = let y = yield_sequence q in let z : List Terminal = brace_close ∷ [] in record {
  semaphores_are = let e = many_append semaphores y z in omega arith;
  counters_are = let e = many_append counters y z in omega arith;
  names_are = let e = many_append names y z in omega arith;
  few = Q.few;
  fewer = let e = many_append brackets y z in omega arith;
}

name_taken : (a : ℕ) → TakenE (name a)
name_taken a = record { semaphores_are = refl; counters_are = refl; names_are = refl; few = omega arith; fewer = omega arith }

mutual
  taken_s : (q : Sequence) → TakenS q
  taken_s (last l) = taken_l l
  taken_s (l ⨟ q) = then_taken l q (taken_l l) (taken_s q)

  taken_l : (l : Selection) → TakenL l
  taken_l (only e) = taken_e e
  taken_l (e or l) = or_taken e l (taken_e e) (taken_l l)

  taken_e : (e : Element) → TakenE e
  taken_e (name a) = name_taken a
  taken_e (round q) = round_taken q (taken_s q)
  taken_e (brace q) = brace_taken q (taken_s q)

-- ---- a path, and the text
pub record PathTaken (p : Sequence) : Type 0 where
  pub semaphores_are : how_many semaphores (yield_path p) ≡ 1 + semaphores_in_sequence p
  pub counters_are : how_many counters (yield_path p) ≡ counters_in_sequence p
  pub names_are : how_many names (yield_path p) ≡ length (names_of_sequence p)
  pub few : how_many semaphores (yield_path p) ≤ how_many names (yield_path p)
  pub fewer : how_many counters (yield_path p) ≤ how_many brackets (yield_path p)

path_taken : (p : Sequence) → PathTaken p
path_taken p =
    let Q = taken_s p in
    let y = yield_sequence p in
    let z : List Terminal = end ∷ [] in
    let a = many_append semaphores y z in
    let b = many_append counters y z in
    let c = many_append names y z in
    let d = many_append brackets y z in
    record { semaphores_are = omega arith; counters_are = omega arith; names_are = omega arith; few = omega arith; fewer = omega arith }

length_ops : (os : List Occurrence) → length os ≡ length (ops os)
length_ops [] = refl
length_ops (o ∷ os) = let i = length_ops os in omega arith

path_occurrences : (p : Sequence) (π s c : ℕ) → length (path_doors p π s c) ≡ how_many names (yield_path p)
path_occurrences p π s c = length_ops (path_doors p π s c) ∙ ap length (path_names p π s c) ∙ sym (path_taken p).names_are

text_occurrences : (t : Text) (π s c : ℕ) → length (text_doors t π s c) ≡ how_many names (yield_text t)
text_occurrences (one p) π s c = path_occurrences p π s c
text_occurrences (more p t) π s c =
    let s₁ = s + 1 + semaphores_in_sequence p in
    let c₁ = c + counters_in_sequence p in
    let i = text_occurrences t (π + 1) s₁ c₁ in
    let j = path_occurrences p π s c in
    let k = length-append (path_doors p π s c) (text_doors t (π + 1) s₁ c₁) in
    let l = many_append names (yield_path p) (yield_text t) in
    omega arith

-- both doors of o have numbers below s and c
abbrev BothBelow : ℕ → ℕ → Occurrence → Type 0
BothBelow s c o = Below s c o.left × Below s c o.right

both_more : (s c s' c' : ℕ) (o : Occurrence) → s ≤ s' → c ≤ c' → BothBelow s c o → BothBelow s' c' o
both_more s c s' c' o x y w = (below_more s c s' c' o.left x y w.0, below_more s c s' c' o.right x y w.1)

path_below : (p : Sequence) (π s c : ℕ) (o : Occurrence) → Memᴰ o (path_doors p π s c) → BothBelow (s + how_many semaphores (yield_path p)) (c + how_many counters (yield_path p)) o
path_below p π s c o m =
    let w = path_within p π s c o m in
    let P = path_taken p in
    both_more (s + 1 + semaphores_in_sequence p) (c + counters_in_sequence p) (s + how_many semaphores (yield_path p)) (c + how_many counters (yield_path p)) o (omega arith) (omega arith)
    (within_below p s c o.left w.0, within_below p s c o.right w.1)

text_below : (t : Text) (π s c : ℕ) (o : Occurrence) → Memᴰ o (text_doors t π s c) → BothBelow (s + how_many semaphores (yield_text t)) (c + how_many counters (yield_text t)) o
text_below (one p) π s c o m = path_below p π s c o m
text_below (more p t) π s c o m = go (Memᴰ.append_cases (path_doors p π s c) m) (text_below t (π + 1) (s + 1 + semaphores_in_sequence p) (c + counters_in_sequence p) o)
  where
    y : List Terminal
    y = yield_path p ++ yield_text t

    S : how_many semaphores y ≡ how_many semaphores (yield_path p) + how_many semaphores (yield_text t)
    S = many_append semaphores (yield_path p) (yield_text t)

    C : how_many counters y ≡ how_many counters (yield_path p) + how_many counters (yield_text t)
    C = many_append counters (yield_path p) (yield_text t)

    go : Memᴰ o (path_doors p π s c) ⊎ Memᴰ o (text_doors t (π + 1) (s + 1 + semaphores_in_sequence p) (c + counters_in_sequence p)) →
        (Memᴰ o (text_doors t (π + 1) (s + 1 + semaphores_in_sequence p) (c + counters_in_sequence p)) →
        BothBelow (s + 1 + semaphores_in_sequence p + how_many semaphores (yield_text t)) (c + counters_in_sequence p + how_many counters (yield_text t)) o) →
        BothBelow (s + how_many semaphores y) (c + how_many counters y) o
    go (inl k) ih =
        both_more (s + how_many semaphores (yield_path p)) (c + how_many counters (yield_path p)) (s + how_many semaphores y) (c + how_many counters y) o
        (let e = S in omega arith) (let e = C in omega arith) (path_below p π s c o k)
    go (inr k) ih =
        both_more (s + 1 + semaphores_in_sequence p + how_many semaphores (yield_text t)) (c + counters_in_sequence p + how_many counters (yield_text t)) (s + how_many semaphores y) (c + how_many counters y) o
        (let e = S in let P = path_taken p in omega arith) (let e = C in let P = path_taken p in omega arith) (ih k)

-- ---- the paths' numbers
-- all of os are of path n
abbrev pub OfPath : ℕ → List Occurrence → Type 0
OfPath n os = (o : Occurrence) → Memᴰ o os → o.path ≡ n

of_both : (n : ℕ) (os ps : List Occurrence) → OfPath n os → OfPath n ps → OfPath n (os ++ ps)
of_both n os ps f g o m = go (Memᴰ.append_cases os m)
  where
    go : Memᴰ o os ⊎ Memᴰ o ps → o.path ≡ n
    go (inl k) = f o k
    go (inr k) = g o k

of_name : (n a : ℕ) (l r : Door) → OfPath n (record { path = n; operation = a; left = l; right = r } ∷ [])
of_name n a l r o m = ap (λ (z : Occurrence). z.path) (Memᴰ.eq_of_singleton m)

mutual
  pub of_s : (q : Sequence) (n : ℕ) (l r : Door) (s c : ℕ) → OfPath n (sequence_doors q n l r s c)
  of_s (last x) n l r s c = of_l x n l r s c
  of_s (x ⨟ q) n l r s c =
      let m = s + semaphores_in_selection x in
      let c' = c + counters_in_selection x in
      of_both n (selection_doors x n l (plain m) s c) (sequence_doors q n (plain m) r (m + 1) c') (of_l x n l (plain m) s c) (of_s q n (plain m) r (m + 1) c')

  of_l : (x : Selection) (n : ℕ) (l r : Door) (s c : ℕ) → OfPath n (selection_doors x n l r s c)
  of_l (only e) n l r s c = of_e e n l r s c
  of_l (e or x) n l r s c =
      let s' = s + semaphores_in_element e in
      let c' = c + counters_in_element e in
      of_both n (element_doors e n l r s c) (selection_doors x n l r s' c') (of_e e n l r s c) (of_l x n l r s' c')

  of_e : (e : Element) (n : ℕ) (l r : Door) (s c : ℕ) → OfPath n (element_doors e n l r s c)
  of_e (name a) n l r s c = of_name n a l r
  of_e (round q) n l r s c = of_s q n l r s c
  of_e (brace q) n l r s c = of_s q n (with_counter c l) (with_counter c r) s (c + 1)

pub some_path : (p : Sequence) → 1 ≤ how_many paths (yield_path p)
some_path p = omega arith

text_paths : (t : Text) (n s c : ℕ) (o : Occurrence) → Memᴰ o (text_doors t n s c) → o.path < n + how_many paths (yield_text t)
text_paths (one p) n s c o m = let e = of_s p n (plain s) (plain s) (s + 1) c o m in let a = some_path p in omega arith
text_paths (more p t) n s c o m = go (Memᴰ.append_cases (path_doors p n s c) m) (text_paths t (n + 1) (s + 1 + semaphores_in_sequence p) (c + counters_in_sequence p) o)
  where
    go : Memᴰ o (path_doors p n s c) ⊎ Memᴰ o (text_doors t (n + 1) (s + 1 + semaphores_in_sequence p) (c + counters_in_sequence p)) →
        (Memᴰ o (text_doors t (n + 1) (s + 1 + semaphores_in_sequence p) (c + counters_in_sequence p)) → o.path < n + 1 + how_many paths (yield_text t)) →
        o.path < n + how_many paths (yield_path p ++ yield_text t)
    go (inl k) ih = let e = of_s p n (plain s) (plain s) (s + 1) c o k in let a = some_path p in let b = many_append paths (yield_path p) (yield_text t) in omega arith
    go (inr k) ih = let e = ih k in let a = some_path p in let b = many_append paths (yield_path p) (yield_text t) in omega arith

text_few : (t : Text) → (how_many semaphores (yield_text t) ≤ how_many names (yield_text t)) × (how_many counters (yield_text t) ≤ how_many brackets (yield_text t))
text_few (one p) = ((path_taken p).few, (path_taken p).fewer)
text_few (more p t) =
    let i = text_few t in
    let P = path_taken p in
    let a = many_append semaphores (yield_path p) (yield_text t) in
    let b = many_append counters (yield_path p) (yield_text t) in
    let c = many_append names (yield_path p) (yield_text t) in
    let d = many_append brackets (yield_path p) (yield_text t) in
    (omega arith, omega arith)

pub doors_are_few : DoorsAreFew
doors_are_few t = record {
  occurrences = text_occurrences t 0 0 0;
  path_numbers = λ o m. let e = text_paths t 0 0 0 o m in omega arith;
  numbers = λ o m. both_more (0 + how_many semaphores (yield_text t)) (0 + how_many counters (yield_text t)) (how_many semaphores (yield_text t)) (how_many counters (yield_text t)) o
      (omega arith) (omega arith) (text_below t 0 0 0 o m);
  few_semaphores = (text_few t).0;
  few_counters = (text_few t).1;
}
