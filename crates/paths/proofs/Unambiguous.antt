-- No row of terminals has two derivations.
use mathlib.Core.Path.{◌≡◌, sym, ◌∙◌, ap}
use mathlib.Core.List.{List, [], ◌∷◌, ◌++◌, append_assoc, append-nil, tail-eq_of_cons-eq}
use Prim.Native.Nat.{ℕ}
use native.Mathlib.Omega.{arith}
use Rattle.paths.specs.Grammar.{Terminal, semicolon, comma, round_open, round_close, brace_open, brace_close, path, end}
use Rattle.paths.specs.Grammar.{Sequence, Selection, Element, Text, last, ◌⨟◌, only, ◌or◌, name, round, brace, one, more}
use Rattle.paths.specs.Grammar.{yield_sequence, yield_selection, yield_element, yield_path, yield_text, Unambiguous}

-- r does not begin with t
abbrev Avoids : Terminal → List Terminal → Type 0
Avoids t r = (q : List Terminal) → r ≡ t ∷ q → ⊥

regroup : (x y r : List Terminal) (t : Terminal) → (x ++ (t ∷ y)) ++ r ≡ x ++ (t ∷ (y ++ r))
regroup x y r t = append_assoc x (t ∷ y) r

close_avoids_comma : (r : List Terminal) → Avoids comma (round_close ∷ r)
close_avoids_comma r q p = let z : ◌≡◌ {A = ℕ} 0 1 = cc in omega arith

close_avoids_semicolon : (r : List Terminal) → Avoids semicolon (round_close ∷ r)
close_avoids_semicolon r q p = let z : ◌≡◌ {A = ℕ} 0 1 = cc in omega arith

shut_avoids_comma : (r : List Terminal) → Avoids comma (brace_close ∷ r)
shut_avoids_comma r q p = let z : ◌≡◌ {A = ℕ} 0 1 = cc in omega arith

shut_avoids_semicolon : (r : List Terminal) → Avoids semicolon (brace_close ∷ r)
shut_avoids_semicolon r q p = let z : ◌≡◌ {A = ℕ} 0 1 = cc in omega arith

end_avoids_comma : (r : List Terminal) → Avoids comma (end ∷ r)
end_avoids_comma r q p = let z : ◌≡◌ {A = ℕ} 0 1 = cc in omega arith

end_avoids_semicolon : (r : List Terminal) → Avoids semicolon (end ∷ r)
end_avoids_semicolon r q p = let z : ◌≡◌ {A = ℕ} 0 1 = cc in omega arith

semicolon_avoids_comma : (r : List Terminal) → Avoids comma (semicolon ∷ r)
semicolon_avoids_comma r q p = let z : ◌≡◌ {A = ℕ} 0 1 = cc in omega arith

-- what stands inside a pair of brackets
enclosed : (x y r r' : List Terminal) (o t : Terminal) →
    (o ∷ (x ++ (t ∷ []))) ++ r ≡ (o ∷ (y ++ (t ∷ []))) ++ r' → x ++ (t ∷ r) ≡ y ++ (t ∷ r')
enclosed x y r r' o t p = sym (append_assoc x (t ∷ []) r) ∙ tail-eq_of_cons-eq p ∙ append_assoc y (t ∷ []) r'

mutual
  sequence_unique : (s s' : Sequence) (r r' : List Terminal) → Avoids comma r → Avoids semicolon r → Avoids comma r' → Avoids semicolon r' →
      yield_sequence s ++ r ≡ yield_sequence s' ++ r' → (s ≡ s') × (r ≡ r')
  sequence_unique (last l) (last l') r r' c h c' h' p =
      let i = selection_unique l l' r r' c c' p in (ap last i.0, i.1)
  sequence_unique (last l) (l' ⨟ s') r r' c h c' h' p =
      let i = selection_unique l l' r (semicolon ∷ (yield_sequence s' ++ r')) c (semicolon_avoids_comma (yield_sequence s' ++ r'))
      (p ∙ regroup (yield_selection l') (yield_sequence s') r' semicolon) in
      absurd (h (yield_sequence s' ++ r') i.1)
  sequence_unique (l ⨟ s) (last l') r r' c h c' h' p =
      let i = selection_unique l l' (semicolon ∷ (yield_sequence s ++ r)) r' (semicolon_avoids_comma (yield_sequence s ++ r)) c'
      (sym (regroup (yield_selection l) (yield_sequence s) r semicolon) ∙ p) in
      absurd (h' (yield_sequence s ++ r) (sym i.1))
  sequence_unique (l ⨟ s) (l' ⨟ s') r r' c h c' h' p =
      let i = selection_unique l l' (semicolon ∷ (yield_sequence s ++ r)) (semicolon ∷ (yield_sequence s' ++ r'))
      (semicolon_avoids_comma (yield_sequence s ++ r)) (semicolon_avoids_comma (yield_sequence s' ++ r'))
      (sym (regroup (yield_selection l) (yield_sequence s) r semicolon) ∙ p ∙ regroup (yield_selection l') (yield_sequence s') r' semicolon) in
      let j = sequence_unique s s' r r' c h c' h' (tail-eq_of_cons-eq i.1) in
      (cc, j.1)

  selection_unique : (l l' : Selection) (r r' : List Terminal) → Avoids comma r → Avoids comma r' →
      yield_selection l ++ r ≡ yield_selection l' ++ r' → (l ≡ l') × (r ≡ r')
  selection_unique (only e) (only e') r r' c c' p =
      let i = element_unique e e' r r' p in (ap only i.0, i.1)
  selection_unique (only e) (e' or l') r r' c c' p =
      let i = element_unique e e' r (comma ∷ (yield_selection l' ++ r')) (p ∙ regroup (yield_element e') (yield_selection l') r' comma) in
      absurd (c (yield_selection l' ++ r') i.1)
  selection_unique (e or l) (only e') r r' c c' p =
      let i = element_unique e e' (comma ∷ (yield_selection l ++ r)) r' (sym (regroup (yield_element e) (yield_selection l) r comma) ∙ p) in
      absurd (c' (yield_selection l ++ r) (sym i.1))
  selection_unique (e or l) (e' or l') r r' c c' p =
      let i = element_unique e e' (comma ∷ (yield_selection l ++ r)) (comma ∷ (yield_selection l' ++ r'))
      (sym (regroup (yield_element e) (yield_selection l) r comma) ∙ p ∙ regroup (yield_element e') (yield_selection l') r' comma) in
      let j = selection_unique l l' r r' c c' (tail-eq_of_cons-eq i.1) in
      (cc, j.1)

  element_unique : (e e' : Element) (r r' : List Terminal) → yield_element e ++ r ≡ yield_element e' ++ r' → (e ≡ e') × (r ≡ r')
  element_unique (name n) (name n') r r' p = (cc, cc)
  element_unique (name n) (round s') r r' p = (cc, cc)
  element_unique (name n) (brace s') r r' p = (cc, cc)
  element_unique (round s) (name n') r r' p = (cc, cc)
  element_unique (round s) (round s') r r' p =
      let i = sequence_unique s s' (round_close ∷ r) (round_close ∷ r') (close_avoids_comma r) (close_avoids_semicolon r) (close_avoids_comma r')
      (close_avoids_semicolon r') (enclosed (yield_sequence s) (yield_sequence s') r r' round_open round_close p) in
      (ap round i.0, tail-eq_of_cons-eq i.1)
  element_unique (round s) (brace s') r r' p = (cc, cc)
  element_unique (brace s) (name n') r r' p = (cc, cc)
  element_unique (brace s) (round s') r r' p = (cc, cc)
  element_unique (brace s) (brace s') r r' p =
      let i = sequence_unique s s' (brace_close ∷ r) (brace_close ∷ r') (shut_avoids_comma r) (shut_avoids_semicolon r) (shut_avoids_comma r')
      (shut_avoids_semicolon r') (enclosed (yield_sequence s) (yield_sequence s') r r' brace_open brace_close p) in
      (ap brace i.0, tail-eq_of_cons-eq i.1)

path_unique : (s s' : Sequence) (r r' : List Terminal) → yield_path s ++ r ≡ yield_path s' ++ r' → (s ≡ s') × (r ≡ r')
path_unique s s' r r' p =
    let i = sequence_unique s s' (end ∷ r) (end ∷ r') (end_avoids_comma r) (end_avoids_semicolon r) (end_avoids_comma r') (end_avoids_semicolon r')
    (enclosed (yield_sequence s) (yield_sequence s') r r' path end p) in
    (i.0, tail-eq_of_cons-eq i.1)

not_empty : (t : Text) → [] ≡ yield_text t → ⊥
not_empty (one s) p = let z : ◌≡◌ {A = ℕ} 0 1 = cc in omega arith
not_empty (more s t) p = let z : ◌≡◌ {A = ℕ} 0 1 = cc in omega arith

pub unambiguous : Unambiguous
unambiguous (one s) (one s') p =
    let i = path_unique s s' [] [] (append-nil (yield_path s) ∙ p ∙ sym (append-nil (yield_path s'))) in ap one i.0
unambiguous (one s) (more s' t') p =
    let i = path_unique s s' [] (yield_text t') (append-nil (yield_path s) ∙ p) in absurd (not_empty t' i.1)
unambiguous (more s t) (one s') p =
    let i = path_unique s s' (yield_text t) [] (p ∙ sym (append-nil (yield_path s'))) in absurd (not_empty t (sym i.1))
unambiguous (more s t) (more s' t') p =
    let i = path_unique s s' (yield_text t) (yield_text t') p in
    let j = unambiguous t t' i.1 in
    cc
