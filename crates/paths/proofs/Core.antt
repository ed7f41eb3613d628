-- The trees once more, with two parts to a sequence and to a selection: what is proved by induction is proved on these.
use mathlib.Core.Path.{◌≡◌, refl, ◌∙◌, ap}
use mathlib.Core.Logic.{◌⊎◌}
use mathlib.Core.List.{List, [], ◌∷◌, ◌++◌}
use Prim.Native.Nat.{ℕ, suc, ◌+◌, max}
use Rattle.paths.specs.Grammar.{Sequence, Selection, Element, last, ◌⨟◌, only, ◌or◌, name, round, brace}
use Rattle.paths.specs.Words.{⊕, ⊖, History, Language, Burst, word_of_sequence, word_of_selection, word_of_element}
use Rattle.paths.specs.Words.{names_of_sequence, names_of_selection, names_of_element, braces_of_sequence, braces_of_selection, braces_of_element}
use Rattle.paths.specs.Doors.{Door, plain, with_counter, Occurrence}
use Rattle.paths.specs.Doors.{semaphores_in_sequence, semaphores_in_selection, semaphores_in_element}
use Rattle.paths.specs.Doors.{counters_in_sequence, counters_in_selection, counters_in_element, sequence_doors, selection_doors, element_doors}

-- a leaf has the number of its path and a name
pub data Core : Type 0 where
  leaf : ℕ → ℕ → Core
  seq alt : Core → Core → Core
  burst : Core → Core

-- the tree of path π in this form
abbrev mutual
  pub core_s : ℕ → Sequence → Core
  core_s π (last l) = core_l π l
  core_s π (l ⨟ s) = seq (core_l π l) (core_s π s)

  pub core_l : ℕ → Selection → Core
  core_l π (only e) = core_e π e
  core_l π (e or l) = alt (core_e π e) (core_l π l)

  pub core_e : ℕ → Element → Core
  core_e π (name a) = leaf π a
  core_e π (round s) = core_s π s
  core_e π (brace s) = burst (core_s π s)

-- its words
abbrev pub W : Core → Language
W (leaf π a) w = w ≡ ⊕ a ∷ ⊖ a ∷ []
W (seq x y) w = (u v : History) × (w ≡ u ++ v) × W x u × W y v
W (alt x y) w = W x w ⊎ W y w
W (burst x) w = Burst (W x) w

-- how many semaphores it takes
abbrev pub sems : Core → ℕ
sems (leaf π a) = 0
sems (seq x y) = sems x + 1 + sems y
sems (alt x y) = sems x + sems y
sems (burst x) = sems x

-- how many counters it takes
abbrev pub ctrs : Core → ℕ
ctrs (leaf π a) = 0
ctrs (seq x y) = ctrs x + ctrs y
ctrs (alt x y) = ctrs x + ctrs y
ctrs (burst x) = 1 + ctrs x

-- its names, from left to right
abbrev pub names : Core → List ℕ
names (leaf π a) = a ∷ []
names (seq x y) = names x ++ names y
names (alt x y) = names x ++ names y
names (burst x) = names x

-- how many braces are open at once, at most
abbrev pub braces : Core → ℕ
braces (leaf π a) = 0
braces (seq x y) = max (braces x) (braces y)
braces (alt x y) = max (braces x) (braces y)
braces (burst x) = suc (braces x)

-- its occurrences between doors l and r, with semaphores from s on and counters from c on
abbrev pub D : Core → Door → Door → ℕ → ℕ → List Occurrence
D (leaf π a) l r s c = record { path = π; operation = a; left = l; right = r } ∷ []
D (seq x y) l r s c = D x l (plain (s + sems x)) s c ++ D y (plain (s + sems x)) r (s + sems x + 1) (c + ctrs x)
D (alt x y) l r s c = D x l r s c ++ D y l r (s + sems x) (c + ctrs x)
D (burst x) l r s c = D x (with_counter c l) (with_counter c r) s (c + 1)

-- ---- they say the same
mutual
  pub word_s : (π : ℕ) (s : Sequence) → word_of_sequence s ≡ W (core_s π s)
  word_s π (last l) = word_l π l
  word_s π (l ⨟ s) = let p = word_l π l in let q = word_s π s in λ i w. (u v : History) × (w ≡ u ++ v) × p i u × q i v

  pub word_l : (π : ℕ) (l : Selection) → word_of_selection l ≡ W (core_l π l)
  word_l π (only e) = word_e π e
  word_l π (e or l) = let p = word_e π e in let q = word_l π l in λ i w. p i w ⊎ q i w

  pub word_e : (π : ℕ) (e : Element) → word_of_element e ≡ W (core_e π e)
  word_e π (name a) = refl
  word_e π (round s) = word_s π s
  word_e π (brace s) = let p = word_s π s in λ i w. Burst (p i) w

mutual
  pub names_s : (π : ℕ) (s : Sequence) → names_of_sequence s ≡ names (core_s π s)
  names_s π (last l) = names_l π l
  names_s π (l ⨟ s) = let p = names_l π l in let q = names_s π s in λ i. p i ++ q i

  pub names_l : (π : ℕ) (l : Selection) → names_of_selection l ≡ names (core_l π l)
  names_l π (only e) = names_e π e
  names_l π (e or l) = let p = names_e π e in let q = names_l π l in λ i. p i ++ q i

  pub names_e : (π : ℕ) (e : Element) → names_of_element e ≡ names (core_e π e)
  names_e π (name a) = refl
  names_e π (round s) = names_s π s
  names_e π (brace s) = names_s π s

mutual
  pub braces_s : (π : ℕ) (s : Sequence) → braces_of_sequence s ≡ braces (core_s π s)
  braces_s π (last l) = braces_l π l
  braces_s π (l ⨟ s) = let p = braces_l π l in let q = braces_s π s in λ i. max (p i) (q i)

  pub braces_l : (π : ℕ) (l : Selection) → braces_of_selection l ≡ braces (core_l π l)
  braces_l π (only e) = braces_e π e
  braces_l π (e or l) = let p = braces_e π e in let q = braces_l π l in λ i. max (p i) (q i)

  pub braces_e : (π : ℕ) (e : Element) → braces_of_element e ≡ braces (core_e π e)
  braces_e π (name a) = refl
  braces_e π (round s) = braces_s π s
  braces_e π (brace s) = let p = braces_s π s in λ i. suc (p i)

mutual
  pub sems_s : (π : ℕ) (s : Sequence) → semaphores_in_sequence s ≡ sems (core_s π s)
  sems_s π (last l) = sems_l π l
  sems_s π (l ⨟ s) = let p = sems_l π l in let q = sems_s π s in λ i. p i + 1 + q i

  pub sems_l : (π : ℕ) (l : Selection) → semaphores_in_selection l ≡ sems (core_l π l)
  sems_l π (only e) = sems_e π e
  sems_l π (e or l) = let p = sems_e π e in let q = sems_l π l in λ i. p i + q i

  pub sems_e : (π : ℕ) (e : Element) → semaphores_in_element e ≡ sems (core_e π e)
  sems_e π (name a) = refl
  sems_e π (round s) = sems_s π s
  sems_e π (brace s) = sems_s π s

mutual
  pub ctrs_s : (π : ℕ) (s : Sequence) → counters_in_sequence s ≡ ctrs (core_s π s)
  ctrs_s π (last l) = ctrs_l π l
  ctrs_s π (l ⨟ s) = let p = ctrs_l π l in let q = ctrs_s π s in λ i. p i + q i

  pub ctrs_l : (π : ℕ) (l : Selection) → counters_in_selection l ≡ ctrs (core_l π l)
  ctrs_l π (only e) = ctrs_e π e
  ctrs_l π (e or l) = let p = ctrs_e π e in let q = ctrs_l π l in λ i. p i + q i

  pub ctrs_e : (π : ℕ) (e : Element) → counters_in_element e ≡ ctrs (core_e π e)
  ctrs_e π (name a) = refl
  ctrs_e π (round s) = ctrs_s π s
  ctrs_e π (brace s) = let p = ctrs_s π s in λ i. 1 + p i

mutual
  pub doors_s : (π : ℕ) (q : Sequence) (l r : Door) (s c : ℕ) → sequence_doors q π l r s c ≡ D (core_s π q) l r s c
  doors_s π (last x) l r s c = doors_l π x l r s c
  doors_s π (x ⨟ q) l r s c =
      let n = sems_l π x in
      let k = ctrs_l π x in
      ap (λ (m : ℕ). selection_doors x π l (plain (s + m)) s c ++ sequence_doors q π (plain (s + m)) r (s + m + 1) (c + counters_in_selection x)) n
      ∙ ap (λ (m : ℕ). selection_doors x π l (plain (s + sems (core_l π x))) s c ++ sequence_doors q π (plain (s + sems (core_l π x))) r (s + sems (core_l π x) + 1) (c + m)) k
      ∙ ap (λ (os : List Occurrence). os ++ sequence_doors q π (plain (s + sems (core_l π x))) r (s + sems (core_l π x) + 1) (c + ctrs (core_l π x))) (doors_l π x l (plain (s + sems (core_l π x))) s c)
      ∙ ap (λ (os : List Occurrence). D (core_l π x) l (plain (s + sems (core_l π x))) s c ++ os) (doors_s π q (plain (s + sems (core_l π x))) r (s + sems (core_l π x) + 1) (c + ctrs (core_l π x)))

  pub doors_l : (π : ℕ) (x : Selection) (l r : Door) (s c : ℕ) → selection_doors x π l r s c ≡ D (core_l π x) l r s c
  doors_l π (only e) l r s c = doors_e π e l r s c
  doors_l π (e or x) l r s c =
      ap (λ (m : ℕ). element_doors e π l r s c ++ selection_doors x π l r (s + m) (c + counters_in_element e)) (sems_e π e)
      ∙ ap (λ (m : ℕ). element_doors e π l r s c ++ selection_doors x π l r (s + sems (core_e π e)) (c + m)) (ctrs_e π e)
      ∙ ap (λ (os : List Occurrence). os ++ selection_doors x π l r (s + sems (core_e π e)) (c + ctrs (core_e π e))) (doors_e π e l r s c)
      ∙ ap (λ (os : List Occurrence). D (core_e π e) l r s c ++ os) (doors_l π x l r (s + sems (core_e π e)) (c + ctrs (core_e π e)))

  pub doors_e : (π : ℕ) (e : Element) (l r : Door) (s c : ℕ) → element_doors e π l r s c ≡ D (core_e π e) l r s c
  doors_e π (name a) l r s c = refl
  doors_e π (round q) l r s c = doors_s π q l r s c
  doors_e π (brace q) l r s c = doors_s π q (with_counter c l) (with_counter c r) s (c + 1)
