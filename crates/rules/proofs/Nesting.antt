-- How many brackets are open along a row, and how deep they stand in a derivation.
use Rattle.std.proofs.Common.{◌≡◌, ℕ, ◌+◌, ◌≤◌, max, List, [], ◌∷◌, ◌++◌, sym, refl, ap, subst, append_assoc, append-nil, arith}
use Rattle.paths.specs.Grammar.{Terminal, semicolon, comma, round_close, brace_close, end}
use Rattle.paths.specs.Grammar.{Sequence, Selection, Element, Text, last, ◌⨟◌, only, ◌or◌, name, round, brace, one, more}
use Rattle.paths.specs.Grammar.{yield_sequence, yield_selection, yield_element, yield_path, yield_text}
use Rattle.paths.specs.Words.{braces_of_sequence, braces_of_selection, braces_of_element}
use Rattle.rules.specs.Rules.{opening, closing, opened, closed, depth_of_sequence, depth_of_selection, depth_of_element}

-- each path of a text
abbrev pub Each : (Sequence → Type 0) → Text → Type 0
Each P (one s) = P s
Each P (more s t) = P s × Each P t

-- how deep brackets stand inside each other; a round one counts r, a brace b
abbrev mutual
  pub nesting_of_sequence : ℕ → ℕ → Sequence → ℕ
  nesting_of_sequence r b (last l) = nesting_of_selection r b l
  nesting_of_sequence r b (l ⨟ s) = max (nesting_of_selection r b l) (nesting_of_sequence r b s)

  pub nesting_of_selection : ℕ → ℕ → Selection → ℕ
  nesting_of_selection r b (only e) = nesting_of_element r b e
  nesting_of_selection r b (e or l) = max (nesting_of_element r b e) (nesting_of_selection r b l)

  pub nesting_of_element : ℕ → ℕ → Element → ℕ
  nesting_of_element r b (name n) = 0
  nesting_of_element r b (round s) = r + nesting_of_sequence r b s
  nesting_of_element r b (brace s) = b + nesting_of_sequence r b s

-- all brackets counted, it is the depth; braces alone, the braces open at once
mutual
  pub all_sequence : (s : Sequence) → nesting_of_sequence 1 1 s ≡ depth_of_sequence s
  all_sequence (last l) = all_selection l
  all_sequence (l ⨟ s) = let i = all_selection l in let j = all_sequence s in omega arith

  all_selection : (l : Selection) → nesting_of_selection 1 1 l ≡ depth_of_selection l
  all_selection (only e) = all_element e
  all_selection (e or l) = let i = all_element e in let j = all_selection l in omega arith

  all_element : (e : Element) → nesting_of_element 1 1 e ≡ depth_of_element e
  all_element (name n) = refl
  all_element (round s) = let i = all_sequence s in omega arith
  all_element (brace s) = let i = all_sequence s in omega arith

mutual
  pub braces_sequence : (s : Sequence) → nesting_of_sequence 0 1 s ≡ braces_of_sequence s
  braces_sequence (last l) = braces_selection l
  braces_sequence (l ⨟ s) = let i = braces_selection l in let j = braces_sequence s in omega arith

  braces_selection : (l : Selection) → nesting_of_selection 0 1 l ≡ braces_of_selection l
  braces_selection (only e) = braces_element e
  braces_selection (e or l) = let i = braces_element e in let j = braces_selection l in omega arith

  braces_element : (e : Element) → nesting_of_element 0 1 e ≡ braces_of_element e
  braces_element (name n) = refl
  braces_element (round s) = let i = braces_sequence s in omega arith
  braces_element (brace s) = let i = braces_sequence s in omega arith

-- a round bracket counts r, a brace b, and k is the limit
module _ (r b k : ℕ) where
  -- behind o that opened and c that closed, the row stays within the limit
  abbrev pub Low : ℕ → ℕ → List Terminal → Type 0
  Low o c [] = Unit {0}
  Low o c (t ∷ row) = (o + opening r b t ≤ k + (c + closing r b t)) × Low (o + opening r b t) (c + closing r b t) row

  pub low_prefix : (u v : List Terminal) (o c : ℕ) → o ≤ k + c → Low o c (u ++ v) → o + opened r b u ≤ k + (c + closed r b u)
  low_prefix [] v o c h l = omega arith
  low_prefix (t ∷ u) v o c h l = let i = low_prefix u v (o + opening r b t) (c + closing r b t) l.0 l.1 in omega arith

  pub prefix_low : (row : List Terminal) (o c : ℕ) → ((u v : List Terminal) → row ≡ u ++ v → o + opened r b u ≤ k + (c + closed r b u)) → Low o c row
  prefix_low [] o c h = tt
  prefix_low (t ∷ row) o c h = (
    (let i = h (t ∷ []) row refl in omega arith),
    prefix_low row (o + opening r b t) (c + closing r b t) (λ u v p. let i = h (t ∷ u) v (ap (λ (w : List Terminal). t ∷ w) p) in omega arith),
  )

  shift : (row : List Terminal) (o c o' c' : ℕ) → o + c' ≡ o' + c → Low o c row → Low o' c' row
  shift [] o c o' c' e l = tt
  shift (t ∷ row) o c o' c' e l =
      (let h = l.0 in omega arith, shift row (o + opening r b t) (c + closing r b t) (o' + opening r b t) (c' + closing r b t) (omega arith) l.1)

  mutual
    pub low_sequence : (s : Sequence) (row : List Terminal) (o c : ℕ) → Low o c (yield_sequence s ++ row) → (o + nesting_of_sequence r b s ≤ k + c) × Low o c row
    low_sequence (last l) row o c h = low_selection l row o c h
    low_sequence (l ⨟ s) row o c h =
        let i = low_selection l (semicolon ∷ (yield_sequence s ++ row)) o c (subst (Low o c) (append_assoc (yield_selection l) (semicolon ∷ yield_sequence s) row) h) in
        let j = low_sequence s row o c (shift (yield_sequence s ++ row) (o + 0) (c + 0) o c (omega arith) i.1.1) in
        (let x = i.0 in let y = j.0 in omega arith, j.1)

    pub low_selection : (l : Selection) (row : List Terminal) (o c : ℕ) → Low o c (yield_selection l ++ row) → (o + nesting_of_selection r b l ≤ k + c) × Low o c row
    low_selection (only e) row o c h = low_element e row o c h
    low_selection (e or l) row o c h =
        let i = low_element e (comma ∷ (yield_selection l ++ row)) o c (subst (Low o c) (append_assoc (yield_element e) (comma ∷ yield_selection l) row) h) in
        let j = low_selection l row o c (shift (yield_selection l ++ row) (o + 0) (c + 0) o c (omega arith) i.1.1) in
        (let x = i.0 in let y = j.0 in omega arith, j.1)

    pub low_element : (e : Element) (row : List Terminal) (o c : ℕ) → Low o c (yield_element e ++ row) → (o + nesting_of_element r b e ≤ k + c) × Low o c row
    low_element (name n) row o c h = (let x = h.0 in omega arith, shift row (o + 0) (c + 0) o c (omega arith) h.1)
    low_element (round s) row o c h =
        let i = low_sequence s (round_close ∷ row) (o + r) (c + 0) (subst (Low (o + r) (c + 0)) (append_assoc (yield_sequence s) (round_close ∷ []) row) h.1) in
        (let x = i.0 in omega arith, shift row (o + r + 0) (c + 0 + r) o c (omega arith) i.1.1)
    low_element (brace s) row o c h =
        let i = low_sequence s (brace_close ∷ row) (o + b) (c + 0) (subst (Low (o + b) (c + 0)) (append_assoc (yield_sequence s) (brace_close ∷ []) row) h.1) in
        (let x = i.0 in omega arith, shift row (o + b + 0) (c + 0 + b) o c (omega arith) i.1.1)

  mutual
    pub sequence_low : (s : Sequence) (row : List Terminal) (o c : ℕ) → o + nesting_of_sequence r b s ≤ k + c → Low o c row → Low o c (yield_sequence s ++ row)
    sequence_low (last l) row o c h w = selection_low l row o c h w
    sequence_low (l ⨟ s) row o c h w =
        let j = sequence_low s row o c (omega arith) w in
        let i : Low o c (semicolon ∷ (yield_sequence s ++ row)) = (omega arith, shift (yield_sequence s ++ row) o c (o + 0) (c + 0) (omega arith) j) in
        subst (Low o c) (sym (append_assoc (yield_selection l) (semicolon ∷ yield_sequence s) row)) (selection_low l (semicolon ∷ (yield_sequence s ++ row)) o c (omega arith) i)

    pub selection_low : (l : Selection) (row : List Terminal) (o c : ℕ) → o + nesting_of_selection r b l ≤ k + c → Low o c row → Low o c (yield_selection l ++ row)
    selection_low (only e) row o c h w = element_low e row o c h w
    selection_low (e or l) row o c h w =
        let j = selection_low l row o c (omega arith) w in
        let i : Low o c (comma ∷ (yield_selection l ++ row)) = (omega arith, shift (yield_selection l ++ row) o c (o + 0) (c + 0) (omega arith) j) in
        subst (Low o c) (sym (append_assoc (yield_element e) (comma ∷ yield_selection l) row)) (element_low e (comma ∷ (yield_selection l ++ row)) o c (omega arith) i)

    pub element_low : (e : Element) (row : List Terminal) (o c : ℕ) → o + nesting_of_element r b e ≤ k + c → Low o c row → Low o c (yield_element e ++ row)
    element_low (name n) row o c h w = (omega arith, shift row o c (o + 0) (c + 0) (omega arith) w)
    element_low (round s) row o c h w =
        let i : Low (o + r) (c + 0) (round_close ∷ row) = (omega arith, shift row o c (o + r + 0) (c + 0 + r) (omega arith) w) in
        (omega arith, subst (Low (o + r) (c + 0)) (sym (append_assoc (yield_sequence s) (round_close ∷ []) row)) (sequence_low s (round_close ∷ row) (o + r) (c + 0) (omega arith) i))
    element_low (brace s) row o c h w =
        let i : Low (o + b) (c + 0) (brace_close ∷ row) = (omega arith, shift row o c (o + b + 0) (c + 0 + b) (omega arith) w) in
        (omega arith, subst (Low (o + b) (c + 0)) (sym (append_assoc (yield_sequence s) (brace_close ∷ []) row)) (sequence_low s (brace_close ∷ row) (o + b) (c + 0) (omega arith) i))

  abbrev pub Nested : Sequence → Type 0
  Nested s = nesting_of_sequence r b s ≤ k

  low_path : (s : Sequence) (row : List Terminal) → Low 0 0 (yield_path s ++ row) → Nested s × Low 0 0 row
  low_path s row h =
      let i = low_sequence s (end ∷ row) (0 + 0) (0 + 0) (subst (Low (0 + 0) (0 + 0)) (append_assoc (yield_sequence s) (end ∷ []) row) h.1) in
      (let x = i.0 in omega arith, i.1.1)

  path_low : (s : Sequence) (row : List Terminal) → Nested s → Low 0 0 row → Low 0 0 (yield_path s ++ row)
  path_low s row h w =
      let i : Low 0 0 (end ∷ row) = (omega arith, w) in
      (omega arith, subst (Low 0 0) (sym (append_assoc (yield_sequence s) (end ∷ []) row)) (sequence_low s (end ∷ row) 0 0 (omega arith) i))

  pub low_text : (t : Text) → Low 0 0 (yield_text t) → Each Nested t
  low_text (one s) h = (low_path s [] (subst (Low 0 0) (sym (append-nil (yield_path s))) h)).0
  low_text (more s t) h = let i = low_path s (yield_text t) h in (i.0, low_text t i.1)

  pub text_low : (t : Text) → Each Nested t → Low 0 0 (yield_text t)
  text_low (one s) h = subst (Low 0 0) (append-nil (yield_path s)) (path_low s [] h tt)
  text_low (more s t) h = path_low s (yield_text t) h.0 (text_low t h.1)
