-- The scan goes past a tree, and counts its semaphores.
use Rattle.std.proofs.Common.{◌≡◌, ℕ, zero, suc, ◌+◌, ◌<◌, ◌≤◌, List, ◌∷◌, map, length, get_or, Some, None, sym, ap, ◌∙◌, arith}
use Rattle.std.proofs.lemmas.List.{drop_more, drop-map}
use Rattle.paths.specs.Grammar.{Sequence, Selection, Element, last, ◌⨟◌, only, ◌or◌, name, round, brace}
use Rattle.paths.specs.Doors.{semaphores_in_sequence, semaphores_in_selection, semaphores_in_element}
use Rattle.tokens.specs.declared.Kind.{Kind}
use Rattle.tokens.specs.declared.Kind.TheVariants.{Comma}
use Rattle.tokens.specs.declared.Token.{Token}
use Rattle.translation.specs.Rows.{kinds_from, kind_of, front, later}
use Rattle.paths.specs.Grammar.{Terminal, semicolon, comma, round_close, brace_close}
use Rattle.translation.specs.Trees.{spell_sequence, spell_selection, spell_element, Closed, scan}

pub clash : {A : Type 0} → ◌≡◌ {A = ℕ} 0 1 → A
clash e = absurd (omega arith)

pub later_is : (n : ℕ) → n < 256 → later n ≡ n + 1
later_is n h = omega arith

mutual
  scan_sequence : (q : Sequence) (d n : ℕ) (rest : List Terminal) → n + semaphores_in_sequence q ≤ 256 → scan (suc d) n (map kind_of (spell_sequence q rest)) ≡ scan (suc d) (n + semaphores_in_sequence q) (map kind_of rest)
  scan_sequence (last l) d n rest h = scan_selection l (suc d) n rest h
  scan_sequence (l ⨟ q) d n rest h =
      let m = semaphores_in_selection l in
      grind (arith, scan_selection l (suc d) n (semicolon ∷ spell_sequence q rest) (omega arith), scan_sequence q d (n + m + 1) rest (omega arith))

  scan_selection : (l : Selection) (d n : ℕ) (rest : List Terminal) → n + semaphores_in_selection l ≤ 256 → scan d n (map kind_of (spell_selection l rest)) ≡ scan d (n + semaphores_in_selection l) (map kind_of rest)
  scan_selection (only e) d n rest h = scan_element e d n rest h
  scan_selection (e or l) d n rest h =
      grind (arith, scan_element e d n (comma ∷ spell_selection l rest) (omega arith), scan_selection l d (n + semaphores_in_element e) rest (omega arith))

  scan_element : (e : Element) (d n : ℕ) (rest : List Terminal) → n + semaphores_in_element e ≤ 256 → scan d n (map kind_of (spell_element e rest)) ≡ scan d (n + semaphores_in_element e) (map kind_of rest)
  scan_element (name m) d n rest h = grind arith
  scan_element (round q) d n rest h = scan_sequence q d n (round_close ∷ rest) h
  scan_element (brace q) d n rest h = scan_sequence q d n (brace_close ∷ rest) h

closed_scan : {rest : List Terminal} (n : ℕ) → Closed rest → scan zero n (map kind_of rest) ≡ None
closed_scan n cl = grind arith

pub closed_comma : {rest : List Terminal} → Closed rest → front (map kind_of rest) ≡ Some Comma → ⊥
closed_comma cl e = grind arith

-- the last selection of a sequence, and one with a ';' behind it
pub scan_last : (l : Selection) (n : ℕ) (rest : List Terminal) → Closed rest → n + semaphores_in_selection l ≤ 256 → scan 0 n (map kind_of (spell_selection l rest)) ≡ None
scan_last l n rest cl h = scan_selection l 0 n rest h ∙ closed_scan (n + semaphores_in_selection l) cl

pub scan_more : (l : Selection) (n : ℕ) (rest : List Terminal) → n + semaphores_in_selection l ≤ 256 → scan 0 n (map kind_of (spell_selection l (semicolon ∷ rest))) ≡ Some (n + semaphores_in_selection l)
scan_more l n rest h = scan_selection l 0 n (semicolon ∷ rest) h

-- ---- the loop's step: one token on
pub scan_at : (ts : List Token) (i d n : ℕ) (e : Token) → i < length ts → scan d n (kinds_from ts i) ≡ scan d n ((get_or ts i e).kind ∷ kinds_from ts (i + 1))
scan_at ts i d n e h =
    let f : Token → Kind = λ y. y.kind in
    ap (scan d n) (drop-map f i ts ∙ ap (map f) (drop_more ts i e h) ∙ ap (λ ks. f (get_or ts i e) ∷ ks) (sym (drop-map f (i + 1) ts)))
