-- The names, brackets and paths of a row and of a derivation.
use Rattle.std.proofs.Common.{◌≡◌, ℕ, ◌+◌, List, [], ◌∷◌, ◌++◌, sym, refl, ap, ◌∙◌, append_assoc, append-nil, arith}
use Rattle.paths.specs.Grammar.{Terminal, semicolon, comma, round_open, round_close, brace_open, brace_close, path, end, word}
use Rattle.paths.specs.Grammar.{Sequence, Selection, Element, Text, last, ◌⨟◌, only, ◌or◌, name, round, brace, one, more}
use Rattle.paths.specs.Grammar.{yield_sequence, yield_selection, yield_element, yield_path, yield_text}
use Rattle.paths.specs.Words.{names_of_sequence, names_of_selection, names_of_element}
use Rattle.paths.specs.Texts.{names_of_text}
use Rattle.paths.specs.Sizes.{how_many, paths}
use Rattle.rules.specs.Rules.{opening, opened, and_names, names_of, brackets_of_sequence, brackets_of_selection, brackets_of_element, brackets_of_text, paths_of_text}

-- ---- a row and another behind it
pub many_append : (f : Terminal → ℕ) (u v : List Terminal) → how_many f (u ++ v) ≡ how_many f u + how_many f v
many_append f [] v = omega arith
many_append f (t ∷ u) v = let i = many_append f u v in omega arith

and_names_append : (t : Terminal) (xs ys : List ℕ) → and_names t (xs ++ ys) ≡ and_names t xs ++ ys
and_names_append semicolon xs ys = refl
and_names_append comma xs ys = refl
and_names_append round_open xs ys = refl
and_names_append round_close xs ys = refl
and_names_append brace_open xs ys = refl
and_names_append brace_close xs ys = refl
and_names_append path xs ys = refl
and_names_append end xs ys = refl
and_names_append (word n) xs ys = refl

pub names_append : (u v : List Terminal) → names_of (u ++ v) ≡ names_of u ++ names_of v
names_append [] v = refl
names_append (t ∷ u) v = ap (and_names t) (names_append u v) ∙ and_names_append t (names_of u) (names_of v)

-- ---- over what a derivation yields, and a rest
mutual
  names_sequence : (s : Sequence) (row : List Terminal) → names_of (yield_sequence s ++ row) ≡ names_of_sequence s ++ names_of row
  names_sequence (last l) row = names_selection l row
  names_sequence (l ⨟ s) row =
      ap names_of (append_assoc (yield_selection l) (semicolon ∷ yield_sequence s) row) ∙ names_selection l (semicolon ∷ (yield_sequence s ++ row))
      ∙ ap (λ (w : List ℕ). names_of_selection l ++ w) (names_sequence s row) ∙ sym (append_assoc (names_of_selection l) (names_of_sequence s) (names_of row))

  names_selection : (l : Selection) (row : List Terminal) → names_of (yield_selection l ++ row) ≡ names_of_selection l ++ names_of row
  names_selection (only e) row = names_element e row
  names_selection (e or l) row =
      ap names_of (append_assoc (yield_element e) (comma ∷ yield_selection l) row) ∙ names_element e (comma ∷ (yield_selection l ++ row))
      ∙ ap (λ (w : List ℕ). names_of_element e ++ w) (names_selection l row) ∙ sym (append_assoc (names_of_element e) (names_of_selection l) (names_of row))

  names_element : (e : Element) (row : List Terminal) → names_of (yield_element e ++ row) ≡ names_of_element e ++ names_of row
  names_element (name n) row = refl
  names_element (round s) row = ap names_of (append_assoc (yield_sequence s) (round_close ∷ []) row) ∙ names_sequence s (round_close ∷ row)
  names_element (brace s) row = ap names_of (append_assoc (yield_sequence s) (brace_close ∷ []) row) ∙ names_sequence s (brace_close ∷ row)

pub names_text : (t : Text) → names_of (yield_text t) ≡ names_of_text t
names_text (one s) = names_sequence s (end ∷ []) ∙ append-nil (names_of_sequence s)
names_text (more s t) =
    ap names_of (append_assoc (yield_sequence s) (end ∷ []) (yield_text t)) ∙ names_sequence s (end ∷ yield_text t) ∙ ap (λ (w : List ℕ). names_of_sequence s ++ w) (names_text t)

mutual
  brackets_sequence : (s : Sequence) → opened 1 1 (yield_sequence s) ≡ brackets_of_sequence s
  brackets_sequence (last l) = brackets_selection l
  brackets_sequence (l ⨟ s) =
      let p = many_append (opening 1 1) (yield_selection l) (semicolon ∷ yield_sequence s) in let i = brackets_selection l in let j = brackets_sequence s in omega arith

  brackets_selection : (l : Selection) → opened 1 1 (yield_selection l) ≡ brackets_of_selection l
  brackets_selection (only e) = brackets_element e
  brackets_selection (e or l) =
      let p = many_append (opening 1 1) (yield_element e) (comma ∷ yield_selection l) in let i = brackets_element e in let j = brackets_selection l in omega arith

  brackets_element : (e : Element) → opened 1 1 (yield_element e) ≡ brackets_of_element e
  brackets_element (name n) = refl
  brackets_element (round s) = let p = many_append (opening 1 1) (yield_sequence s) (round_close ∷ []) in let i = brackets_sequence s in omega arith
  brackets_element (brace s) = let p = many_append (opening 1 1) (yield_sequence s) (brace_close ∷ []) in let i = brackets_sequence s in omega arith

brackets_path : (s : Sequence) → opened 1 1 (yield_path s) ≡ brackets_of_sequence s
brackets_path s = let p = many_append (opening 1 1) (yield_sequence s) (end ∷ []) in let i = brackets_sequence s in omega arith

pub brackets_text : (t : Text) → opened 1 1 (yield_text t) ≡ brackets_of_text t
brackets_text (one s) = brackets_path s
brackets_text (more s t) = let p = many_append (opening 1 1) (yield_path s) (yield_text t) in let i = brackets_path s in let j = brackets_text t in omega arith

mutual
  paths_sequence : (s : Sequence) → how_many paths (yield_sequence s) ≡ 0
  paths_sequence (last l) = paths_selection l
  paths_sequence (l ⨟ s) = let p = many_append paths (yield_selection l) (semicolon ∷ yield_sequence s) in let i = paths_selection l in let j = paths_sequence s in omega arith

  paths_selection : (l : Selection) → how_many paths (yield_selection l) ≡ 0
  paths_selection (only e) = paths_element e
  paths_selection (e or l) = let p = many_append paths (yield_element e) (comma ∷ yield_selection l) in let i = paths_element e in let j = paths_selection l in omega arith

  paths_element : (e : Element) → how_many paths (yield_element e) ≡ 0
  paths_element (name n) = refl
  paths_element (round s) = let p = many_append paths (yield_sequence s) (round_close ∷ []) in let i = paths_sequence s in omega arith
  paths_element (brace s) = let p = many_append paths (yield_sequence s) (brace_close ∷ []) in let i = paths_sequence s in omega arith

paths_path : (s : Sequence) → how_many paths (yield_path s) ≡ 1
paths_path s = let p = many_append paths (yield_sequence s) (end ∷ []) in let i = paths_sequence s in omega arith

pub paths_text : (t : Text) → how_many paths (yield_text t) ≡ paths_of_text t
paths_text (one s) = paths_path s
paths_text (more s t) = let p = many_append paths (yield_path s) (yield_text t) in let i = paths_path s in let j = paths_text t in omega arith
