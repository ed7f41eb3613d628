-- What the automaton's state says of the row that led to it.
use Rattle.std.proofs.Common.{◌≡◌, ℕ, ◌+◌, ◌*◌, ◌≤◌, false, eqb, ◌≢◌, List, [], ◌∷◌, ◌++◌, length, sym, refl, ap, ◌∙◌, append-nil, arith}
use Rattle.paths.specs.Grammar.{Terminal, semicolon, comma, round_open, round_close, brace_open, brace_close, path, end, word}
use Rattle.paths.specs.Words.{among}
use Rattle.paths.specs.Sizes.{how_many, paths}
use Rattle.rules.specs.Automaton.{Bracket, round_bracket, brace_bracket, State, start, between, before_element, behind_element, stuck, step, run}
use Rattle.rules.specs.Rules.{opening, closing, opened, closed, and_names, names_of, own_with, own_from}
use Rattle.rules.specs.Rules.{Rule, begins_sentence, all_paths, all_occurrences, all_brackets, Breaks, Kept}
use Rattle.rules.proofs.Among.{or_left, or_right, among_none}
use Rattle.rules.proofs.Automaton.{viable, stays_stuck}

-- ---- open brackets
module _ (r b : ℕ) where
  abbrev pub weight : List Bracket → ℕ
  weight [] = 0
  weight (round_bracket ∷ bs) = r + weight bs
  weight (brace_bracket ∷ bs) = b + weight bs

  abbrev pub load : State → ℕ
  load start = 0
  load between = 0
  load (before_element bs) = weight bs
  load (behind_element bs) = weight bs
  load stuck = 0

  load_step : (s : State) (t : Terminal) → step s t ≢ stuck → load s + opening r b t ≡ load (step s t) + closing r b t
  load_step start semicolon h = absurd (h refl)
  load_step start comma h = absurd (h refl)
  load_step start round_open h = absurd (h refl)
  load_step start round_close h = absurd (h refl)
  load_step start brace_open h = absurd (h refl)
  load_step start brace_close h = absurd (h refl)
  load_step start path h = omega arith
  load_step start end h = absurd (h refl)
  load_step start (word n) h = absurd (h refl)
  load_step between semicolon h = absurd (h refl)
  load_step between comma h = absurd (h refl)
  load_step between round_open h = absurd (h refl)
  load_step between round_close h = absurd (h refl)
  load_step between brace_open h = absurd (h refl)
  load_step between brace_close h = absurd (h refl)
  load_step between path h = omega arith
  load_step between end h = absurd (h refl)
  load_step between (word n) h = absurd (h refl)
  load_step (before_element bs) semicolon h = absurd (h refl)
  load_step (before_element bs) comma h = absurd (h refl)
  load_step (before_element bs) round_open h = omega arith
  load_step (before_element bs) round_close h = absurd (h refl)
  load_step (before_element bs) brace_open h = omega arith
  load_step (before_element bs) brace_close h = absurd (h refl)
  load_step (before_element bs) path h = absurd (h refl)
  load_step (before_element bs) end h = absurd (h refl)
  load_step (before_element bs) (word n) h = omega arith
  load_step (behind_element bs) semicolon h = omega arith
  load_step (behind_element bs) comma h = omega arith
  load_step (behind_element bs) round_open h = absurd (h refl)
  load_step (behind_element []) round_close h = absurd (h refl)
  load_step (behind_element (round_bracket ∷ bs)) round_close h = omega arith
  load_step (behind_element (brace_bracket ∷ bs)) round_close h = absurd (h refl)
  load_step (behind_element bs) brace_open h = absurd (h refl)
  load_step (behind_element []) brace_close h = absurd (h refl)
  load_step (behind_element (round_bracket ∷ bs)) brace_close h = absurd (h refl)
  load_step (behind_element (brace_bracket ∷ bs)) brace_close h = omega arith
  load_step (behind_element bs) path h = absurd (h refl)
  load_step (behind_element []) end h = omega arith
  load_step (behind_element (b ∷ bs)) end h = absurd (h refl)
  load_step (behind_element bs) (word n) h = absurd (h refl)
  load_step stuck t h = absurd (h refl)

still : (s : State) (t : Terminal) (row : List Terminal) → run (step s t) row ≢ stuck → step s t ≢ stuck
still s t row h e = h (ap (λ (q : State). run q row) e ∙ stays_stuck row)

module _ (r b : ℕ) where
  load_run : (s : State) (row : List Terminal) → run s row ≢ stuck → load r b s + opened r b row ≡ load r b (run s row) + closed r b row
  load_run s [] h = omega arith
  load_run s (t ∷ row) h = let i = load_run (step s t) row h in let j = load_step r b s t (still s t row h) in omega arith

  -- what opened is what closed and what is open
  pub brackets_open : (row : List Terminal) → run start row ≢ stuck → opened r b row ≡ load r b (run start row) + closed r b row
  brackets_open row h = let i = load_run start row h in omega arith

-- ---- how long a row is
abbrev credit : State → ℕ
credit start = 0
credit between = 0
credit (before_element bs) = 0
credit (behind_element bs) = 1
credit stuck = 0

abbrev named : Terminal → ℕ
named t = length (and_names t [])

credit_step : (s : State) (t : Terminal) → step s t ≢ stuck →
    1 + credit (step s t) ≡ 2 * named t + opening 1 1 t + closing 1 1 t + paths t + credit s
credit_step start semicolon h = absurd (h refl)
credit_step start comma h = absurd (h refl)
credit_step start round_open h = absurd (h refl)
credit_step start round_close h = absurd (h refl)
credit_step start brace_open h = absurd (h refl)
credit_step start brace_close h = absurd (h refl)
credit_step start path h = refl
credit_step start end h = absurd (h refl)
credit_step start (word n) h = absurd (h refl)
credit_step between semicolon h = absurd (h refl)
credit_step between comma h = absurd (h refl)
credit_step between round_open h = absurd (h refl)
credit_step between round_close h = absurd (h refl)
credit_step between brace_open h = absurd (h refl)
credit_step between brace_close h = absurd (h refl)
credit_step between path h = refl
credit_step between end h = absurd (h refl)
credit_step between (word n) h = absurd (h refl)
credit_step (before_element bs) semicolon h = absurd (h refl)
credit_step (before_element bs) comma h = absurd (h refl)
credit_step (before_element bs) round_open h = refl
credit_step (before_element bs) round_close h = absurd (h refl)
credit_step (before_element bs) brace_open h = refl
credit_step (before_element bs) brace_close h = absurd (h refl)
credit_step (before_element bs) path h = absurd (h refl)
credit_step (before_element bs) end h = absurd (h refl)
credit_step (before_element bs) (word n) h = refl
credit_step (behind_element bs) semicolon h = refl
credit_step (behind_element bs) comma h = refl
credit_step (behind_element bs) round_open h = absurd (h refl)
credit_step (behind_element []) round_close h = absurd (h refl)
credit_step (behind_element (round_bracket ∷ bs)) round_close h = refl
credit_step (behind_element (brace_bracket ∷ bs)) round_close h = absurd (h refl)
credit_step (behind_element bs) brace_open h = absurd (h refl)
credit_step (behind_element []) brace_close h = absurd (h refl)
credit_step (behind_element (round_bracket ∷ bs)) brace_close h = absurd (h refl)
credit_step (behind_element (brace_bracket ∷ bs)) brace_close h = refl
credit_step (behind_element bs) path h = absurd (h refl)
credit_step (behind_element []) end h = refl
credit_step (behind_element (b ∷ bs)) end h = absurd (h refl)
credit_step (behind_element bs) (word n) h = absurd (h refl)
credit_step stuck t h = absurd (h refl)

named_names : (t : Terminal) (ns : List ℕ) → length (and_names t ns) ≡ named t + length ns
named_names semicolon ns = omega arith
named_names comma ns = omega arith
named_names round_open ns = omega arith
named_names round_close ns = omega arith
named_names brace_open ns = omega arith
named_names brace_close ns = omega arith
named_names path ns = omega arith
named_names end ns = omega arith
named_names (word n) ns = omega arith

credit_run : (s : State) (row : List Terminal) → run s row ≢ stuck →
    length row + credit (run s row) ≡ 2 * length (names_of row) + opened 1 1 row + closed 1 1 row + how_many paths row + credit s
credit_run s [] h = omega arith
credit_run s (t ∷ row) h =
    let i = credit_run (step s t) row h in let j = credit_step s t (still s t row h) in let k = named_names t (names_of row) in omega arith

-- a row that keeps the rules fits into 1,056 places
pub kept_length : (row : List Terminal) → Kept row → length row ≤ 1056
kept_length row k =
    let all : (r : Rule) → ¬ Breaks r row = λ r. k row [] r (sym (append-nil row)) in
    let alive : run start row ≢ stuck = λ e. all begins_sentence (λ b. (viable row).0 b e) in
    let i = credit_run start row alive in
    let j = brackets_open 1 1 row alive in
    let x = all all_paths in
    let y = all all_occurrences in
    let z = all all_brackets in
    omega arith

-- ---- one more terminal
pub own_snoc : (ns : List ℕ) (row : List Terminal) (t : Terminal) → own_from ns (row ++ (t ∷ [])) ≡ own_with t (own_from ns row)
own_snoc ns [] t = refl
own_snoc ns (x ∷ row) t = own_snoc (own_with x ns) row t

-- the names of the path are among all names
pub own_among : (n : ℕ) (ns : List ℕ) (row : List Terminal) → among n ns ≡ false → among n (names_of row) ≡ false → among n (own_from ns row) ≡ false
own_among n ns [] p q = p
own_among n ns (semicolon ∷ row) p q = own_among n ns row p q
own_among n ns (comma ∷ row) p q = own_among n ns row p q
own_among n ns (round_open ∷ row) p q = own_among n ns row p q
own_among n ns (round_close ∷ row) p q = own_among n ns row p q
own_among n ns (brace_open ∷ row) p q = own_among n ns row p q
own_among n ns (brace_close ∷ row) p q = own_among n ns row p q
own_among n ns (end ∷ row) p q = own_among n ns row p q
own_among n ns (path ∷ row) p q = own_among n [] row refl q
own_among n ns (word m ∷ row) p q =
    own_among n (ns ++ (m ∷ [])) row (among_none n ns m p (or_left (eqb n m) _ q)) (or_right (eqb n m) _ q)
