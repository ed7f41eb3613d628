-- No name stands twice in its path, along a row and in a derivation.
use Rattle.std.proofs.Common.{◌≡◌, ℕ, List, [], ◌∷◌, ◌++◌, sym, refl, ap, subst, append_assoc, append-nil}
use Rattle.paths.specs.Grammar.{Terminal, semicolon, comma, round_close, brace_close, end}
use Rattle.paths.specs.Grammar.{Sequence, Selection, Element, Text, last, ◌⨟◌, only, ◌or◌, name, round, brace, one, more}
use Rattle.paths.specs.Grammar.{yield_sequence, yield_selection, yield_element, yield_path, yield_text}
use Rattle.paths.specs.Words.{Distinct, names_of_sequence, names_of_selection, names_of_element}
use Rattle.rules.specs.Rules.{own_with, own_from}
use Rattle.rules.proofs.Among.{distinct_part}
use Rattle.rules.proofs.Nesting.{Each}

-- ---- along a row
abbrev pub Fresh : List ℕ → List Terminal → Type 0
Fresh ns [] = Unit {0}
Fresh ns (t ∷ row) = Distinct (own_with t ns) × Fresh (own_with t ns) row

pub fresh_prefix : (u v : List Terminal) (ns : List ℕ) → Distinct ns → Fresh ns (u ++ v) → Distinct (own_from ns u)
fresh_prefix [] v ns h f = h
fresh_prefix (t ∷ u) v ns h f = fresh_prefix u v (own_with t ns) f.0 f.1

pub prefix_fresh : (row : List Terminal) (ns : List ℕ) → ((u v : List Terminal) → row ≡ u ++ v → Distinct (own_from ns u)) → Fresh ns row
prefix_fresh [] ns h = tt
prefix_fresh (t ∷ row) ns h = (h (t ∷ []) row refl, prefix_fresh row (own_with t ns) (λ u v p. h (t ∷ u) v (ap (λ (w : List Terminal). t ∷ w) p)))

mutual
  fresh_sequence : (s : Sequence) (row : List Terminal) (ns : List ℕ) → Fresh ns (yield_sequence s ++ row) → Distinct (ns ++ names_of_sequence s) × Fresh (ns ++ names_of_sequence s) row
  fresh_sequence (last l) row ns f = fresh_selection l row ns f
  fresh_sequence (l ⨟ s) row ns f =
      let i = fresh_selection l (semicolon ∷ (yield_sequence s ++ row)) ns (subst (Fresh ns) (append_assoc (yield_selection l) (semicolon ∷ yield_sequence s) row) f) in
      let j = fresh_sequence s row (ns ++ names_of_selection l) i.1.1 in
      let e = append_assoc ns (names_of_selection l) (names_of_sequence s) in
      (subst Distinct e j.0, subst (λ (w : List ℕ). Fresh w row) e j.1)

  fresh_selection : (l : Selection) (row : List Terminal) (ns : List ℕ) → Fresh ns (yield_selection l ++ row) → Distinct (ns ++ names_of_selection l) × Fresh (ns ++ names_of_selection l) row
  fresh_selection (only e) row ns f = fresh_element e row ns f
  fresh_selection (e or l) row ns f =
      let i = fresh_element e (comma ∷ (yield_selection l ++ row)) ns (subst (Fresh ns) (append_assoc (yield_element e) (comma ∷ yield_selection l) row) f) in
      let j = fresh_selection l row (ns ++ names_of_element e) i.1.1 in
      let e = append_assoc ns (names_of_element e) (names_of_selection l) in
      (subst Distinct e j.0, subst (λ (w : List ℕ). Fresh w row) e j.1)

  fresh_element : (e : Element) (row : List Terminal) (ns : List ℕ) → Fresh ns (yield_element e ++ row) → Distinct (ns ++ names_of_element e) × Fresh (ns ++ names_of_element e) row
  fresh_element (name n) row ns f = f
  fresh_element (round s) row ns f =
      let i = fresh_sequence s (round_close ∷ row) ns (subst (Fresh ns) (append_assoc (yield_sequence s) (round_close ∷ []) row) f.1) in (i.0, i.1.1)
  fresh_element (brace s) row ns f =
      let i = fresh_sequence s (brace_close ∷ row) ns (subst (Fresh ns) (append_assoc (yield_sequence s) (brace_close ∷ []) row) f.1) in (i.0, i.1.1)

mutual
  sequence_fresh : (s : Sequence) (row : List Terminal) (ns : List ℕ) → Distinct (ns ++ names_of_sequence s) → Fresh (ns ++ names_of_sequence s) row → Fresh ns (yield_sequence s ++ row)
  sequence_fresh (last l) row ns h f = selection_fresh l row ns h f
  sequence_fresh (l ⨟ s) row ns h f =
      let e = sym (append_assoc ns (names_of_selection l) (names_of_sequence s)) in
      let k = subst Distinct e h in
      let k' = distinct_part (ns ++ names_of_selection l) (names_of_sequence s) k in
      let j = sequence_fresh s row (ns ++ names_of_selection l) k (subst (λ (w : List ℕ). Fresh w row) e f) in
      subst (Fresh ns) (sym (append_assoc (yield_selection l) (semicolon ∷ yield_sequence s) row)) (selection_fresh l (semicolon ∷ (yield_sequence s ++ row)) ns k' (k', j))

  selection_fresh : (l : Selection) (row : List Terminal) (ns : List ℕ) → Distinct (ns ++ names_of_selection l) → Fresh (ns ++ names_of_selection l) row → Fresh ns (yield_selection l ++ row)
  selection_fresh (only e) row ns h f = element_fresh e row ns h f
  selection_fresh (e or l) row ns h f =
      let p = sym (append_assoc ns (names_of_element e) (names_of_selection l)) in
      let k = subst Distinct p h in
      let k' = distinct_part (ns ++ names_of_element e) (names_of_selection l) k in
      let j = selection_fresh l row (ns ++ names_of_element e) k (subst (λ (w : List ℕ). Fresh w row) p f) in
      subst (Fresh ns) (sym (append_assoc (yield_element e) (comma ∷ yield_selection l) row)) (element_fresh e (comma ∷ (yield_selection l ++ row)) ns k' (k', j))

  element_fresh : (e : Element) (row : List Terminal) (ns : List ℕ) → Distinct (ns ++ names_of_element e) → Fresh (ns ++ names_of_element e) row → Fresh ns (yield_element e ++ row)
  element_fresh (name n) row ns h f = (h, f)
  element_fresh (round s) row ns h f =
      (distinct_part ns (names_of_sequence s) h, subst (Fresh ns) (sym (append_assoc (yield_sequence s) (round_close ∷ []) row)) (sequence_fresh s (round_close ∷ row) ns h (h, f)))
  element_fresh (brace s) row ns h f =
      (distinct_part ns (names_of_sequence s) h, subst (Fresh ns) (sym (append_assoc (yield_sequence s) (brace_close ∷ []) row)) (sequence_fresh s (brace_close ∷ row) ns h (h, f)))

abbrev pub Once : Sequence → Type 0
Once s = Distinct (names_of_sequence s)

-- before a path, whatever names the path before it had
abbrev FreshAnyhow : List Terminal → Type 0
FreshAnyhow row = (ns : List ℕ) → Distinct ns → Fresh ns row

fresh_path : (s : Sequence) (row : List Terminal) (ns : List ℕ) → Fresh ns (yield_path s ++ row) → Once s × Fresh (names_of_sequence s) row
fresh_path s row ns f =
    let i = fresh_sequence s (end ∷ row) [] (subst (Fresh []) (append_assoc (yield_sequence s) (end ∷ []) row) f.1) in (i.0, i.1.1)

path_fresh : (s : Sequence) (row : List Terminal) (ns : List ℕ) → Once s → Fresh (names_of_sequence s) row → Fresh ns (yield_path s ++ row)
path_fresh s row ns h f = (tt, subst (Fresh []) (sym (append_assoc (yield_sequence s) (end ∷ []) row)) (sequence_fresh s (end ∷ row) [] h (h, f)))

pub fresh_text : (t : Text) (ns : List ℕ) → Fresh ns (yield_text t) → Each Once t
fresh_text (one s) ns f = (fresh_path s [] ns (subst (Fresh ns) (sym (append-nil (yield_path s))) f)).0
fresh_text (more s t) ns f = let i = fresh_path s (yield_text t) ns f in (i.0, fresh_text t (names_of_sequence s) i.1)

pub text_fresh : (t : Text) (ns : List ℕ) → Each Once t → Fresh ns (yield_text t)
text_fresh (one s) ns h = subst (Fresh ns) (append-nil (yield_path s)) (path_fresh s [] ns h tt)
text_fresh (more s t) ns h = path_fresh s (yield_text t) ns h.0 (text_fresh t (names_of_sequence s) h.1)
