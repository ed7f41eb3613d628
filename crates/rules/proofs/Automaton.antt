-- The automaton goes through the beginnings of sentences, and through nothing else.
use Rattle.std.proofs.Common.{◌≡◌, ℕ, ◌≢◌, ◌⊎◌, ◌↔◌, List, [], ◌∷◌, ◌++◌, sym, refl, ap, ◌∙◌, inl, inr, append_assoc, append-nil, arith}
use Rattle.paths.specs.Grammar.{Terminal, semicolon, comma, round_open, round_close, brace_open, brace_close, path, end, word}
use Rattle.paths.specs.Grammar.{Sequence, Selection, Element, Text, last, ◌⨟◌, only, ◌or◌, name, round, brace, one, more}
use Rattle.paths.specs.Grammar.{yield_sequence, yield_selection, yield_element, yield_path, yield_text, Sentence, Begins}
use Rattle.rules.specs.Automaton.{Bracket, round_bracket, brace_bracket, State, start, between, before_element, behind_element, stuck, step, run}

pub run_append : (s : State) (u v : List Terminal) → run s (u ++ v) ≡ run (run s u) v
run_append s [] v = refl
run_append s (t ∷ u) v = run_append (step s t) u v

pub stays_stuck : (row : List Terminal) → run stuck row ≡ stuck
stays_stuck [] = refl
stays_stuck (t ∷ row) = stays_stuck row

different_states : {s : State} → s ≡ stuck → s ≡ between → ⊥
different_states p q = let z : ◌≡◌ {A = ℕ} 0 1 = cc in omega arith

-- ---- it goes through what a derivation yields
mutual
  through_sequence : (s : Sequence) (bs : List Bracket) (r : List Terminal) → run (before_element bs) (yield_sequence s ++ r) ≡ run (behind_element bs) r
  through_sequence (last l) bs r = through_selection l bs r
  through_sequence (l ⨟ s) bs r =
      ap (run (before_element bs)) (append_assoc (yield_selection l) (semicolon ∷ yield_sequence s) r)
      ∙ through_selection l bs (semicolon ∷ (yield_sequence s ++ r)) ∙ through_sequence s bs r

  through_selection : (l : Selection) (bs : List Bracket) (r : List Terminal) → run (before_element bs) (yield_selection l ++ r) ≡ run (behind_element bs) r
  through_selection (only e) bs r = through_element e bs r
  through_selection (e or l) bs r =
      ap (run (before_element bs)) (append_assoc (yield_element e) (comma ∷ yield_selection l) r)
      ∙ through_element e bs (comma ∷ (yield_selection l ++ r)) ∙ through_selection l bs r

  through_element : (e : Element) (bs : List Bracket) (r : List Terminal) → run (before_element bs) (yield_element e ++ r) ≡ run (behind_element bs) r
  through_element (name n) bs r = refl
  through_element (round s) bs r =
      ap (run (before_element (round_bracket ∷ bs))) (append_assoc (yield_sequence s) (round_close ∷ []) r)
      ∙ through_sequence s (round_bracket ∷ bs) (round_close ∷ r)
  through_element (brace s) bs r =
      ap (run (before_element (brace_bracket ∷ bs))) (append_assoc (yield_sequence s) (brace_close ∷ []) r)
      ∙ through_sequence s (brace_bracket ∷ bs) (brace_close ∷ r)

through_path : (s : Sequence) (r : List Terminal) → run (before_element []) ((yield_sequence s ++ (end ∷ [])) ++ r) ≡ run between r
through_path s r = ap (run (before_element [])) (append_assoc (yield_sequence s) (end ∷ []) r) ∙ through_sequence s [] (end ∷ r)

through_text' : (t : Text) → run between (yield_text t) ≡ between
through_text' (one s) = through_sequence s [] (end ∷ [])
through_text' (more s t) = through_path s (yield_text t) ∙ through_text' t

through_text : (t : Text) → run start (yield_text t) ≡ between
through_text (one s) = through_sequence s [] (end ∷ [])
through_text (more s t) = through_path s (yield_text t) ∙ through_text' t

-- ---- what it goes through to the end is a derivation's yield
-- what may follow an element: more of its selection, more of its sequence
data Tail : Type 0 where
  nothing : Tail
  more_elements : Selection → Tail
  more_selections : Sequence → Tail
  more_of_both : Selection → Sequence → Tail

abbrev tail_yield : Tail → List Terminal
tail_yield nothing = []
tail_yield (more_elements l) = comma ∷ yield_selection l
tail_yield (more_selections s) = semicolon ∷ yield_sequence s
tail_yield (more_of_both l s) = comma ∷ (yield_selection l ++ (semicolon ∷ yield_sequence s))

abbrev with_tail : Element → Tail → Sequence
with_tail e nothing = last (only e)
with_tail e (more_elements l) = last (e or l)
with_tail e (more_selections s) = only e ⨟ s
with_tail e (more_of_both l s) = (e or l) ⨟ s

with_tail_yield : (e : Element) (m : Tail) → yield_sequence (with_tail e m) ≡ yield_element e ++ tail_yield m
with_tail_yield e nothing = sym (append-nil (yield_element e))
with_tail_yield e (more_elements l) = refl
with_tail_yield e (more_selections s) = refl
with_tail_yield e (more_of_both l s) = append_assoc (yield_element e) (comma ∷ yield_selection l) (semicolon ∷ yield_sequence s)

abbrev comma_tail : Sequence → Tail
comma_tail (last l) = more_elements l
comma_tail (l ⨟ s) = more_of_both l s

comma_tail_yield : (s : Sequence) → tail_yield (comma_tail s) ≡ comma ∷ yield_sequence s
comma_tail_yield (last l) = refl
comma_tail_yield (l ⨟ s) = refl

-- no path, or a text
abbrev Paths : List Terminal → Type 0
Paths row = (row ≡ []) ⊎ Sentence row

abbrev close : Bracket → Terminal
close round_bracket = round_close
close brace_bracket = brace_close

-- the rest of a sentence that closes the open brackets
abbrev Closes : List Bracket → List Terminal → Type 0
Closes [] row = (r : List Terminal) × (row ≡ end ∷ r) × Paths r
Closes (b ∷ bs) row = (r : List Terminal) × (m : Tail) × (q : List Terminal) × (row ≡ close b ∷ r) × (r ≡ tail_yield m ++ q) × Closes bs q

abbrev Behind : List Bracket → List Terminal → Type 0
Behind bs row = (m : Tail) × (q : List Terminal) × (row ≡ tail_yield m ++ q) × Closes bs q

abbrev Before : List Bracket → List Terminal → Type 0
Before bs row = (s : Sequence) × (q : List Terminal) × (row ≡ yield_sequence s ++ q) × Closes bs q

abbrev Rest : State → List Terminal → Type 0
Rest start row = Sentence row
Rest between row = Paths row
Rest (before_element bs) row = Before bs row
Rest (behind_element bs) row = Behind bs row
Rest stuck row = ⊥

cons : (t : Terminal) {u v : List Terminal} → u ≡ v → (t ∷ u) ≡ (t ∷ v)
cons t p = ap (λ (w : List Terminal). t ∷ w) p

-- an element and what follows it
element_first : (e : Element) (bs : List Bracket) (row : List Terminal) → Behind bs row → Before bs (yield_element e ++ row)
element_first e bs row h =
    let m = h.0 in
    let q = h.1 in
    (with_tail e m, q, ap (λ (w : List Terminal). yield_element e ++ w) h.2 ∙ sym (append_assoc (yield_element e) (tail_yield m) q) ∙ ap (λ (w : List Terminal). w ++ q) (sym (with_tail_yield e m)), h.3)

round_first : (bs : List Bracket) (row : List Terminal) → Before (round_bracket ∷ bs) row → Before bs (round_open ∷ row)
round_first bs row h =
    let s = h.0 in
    let c = h.3 in
    let i = element_first (round s) bs c.0 (c.1, c.2, c.4, c.5) in
    let p : (round_open ∷ row) ≡ yield_element (round s) ++ c.0 =
    cons round_open (h.2 ∙ ap (λ (w : List Terminal). yield_sequence s ++ w) c.3 ∙ sym (append_assoc (yield_sequence s) (round_close ∷ []) c.0)) in
    (i.0, i.1, p ∙ i.2, i.3)

brace_first : (bs : List Bracket) (row : List Terminal) → Before (brace_bracket ∷ bs) row → Before bs (brace_open ∷ row)
brace_first bs row h =
    let s = h.0 in
    let c = h.3 in
    let i = element_first (brace s) bs c.0 (c.1, c.2, c.4, c.5) in
    let p : (brace_open ∷ row) ≡ yield_element (brace s) ++ c.0 =
    cons brace_open (h.2 ∙ ap (λ (w : List Terminal). yield_sequence s ++ w) c.3 ∙ sym (append_assoc (yield_sequence s) (brace_close ∷ []) c.0)) in
    (i.0, i.1, p ∙ i.2, i.3)

path_first : (row : List Terminal) → Before [] row → Sentence (path ∷ row)
path_first row h = go h.3.2
  where
    s : Sequence
    s = h.0

    r : List Terminal
    r = h.3.0

    p : (path ∷ row) ≡ yield_path s ++ r
    p = cons path (h.2 ∙ ap (λ (w : List Terminal). yield_sequence s ++ w) h.3.1 ∙ sym (append_assoc (yield_sequence s) (end ∷ []) r))

    go : Paths r → Sentence (path ∷ row)
    go (inl e) = (one s, sym (append-nil (yield_path s)) ∙ ap (λ (w : List Terminal). yield_path s ++ w) (sym e) ∙ sym p)
    go (inr t) = (more s t.0, ap (λ (w : List Terminal). yield_path s ++ w) t.1 ∙ sym p)

rest_of : (s : State) (row : List Terminal) → run s row ≡ between → Rest s row
rest_of start [] p = absurd (let z : ◌≡◌ {A = ℕ} 0 1 = cc in omega arith)
rest_of between [] p = inl refl
rest_of (before_element bs) [] p = absurd (let z : ◌≡◌ {A = ℕ} 0 1 = cc in omega arith)
rest_of (behind_element bs) [] p = absurd (let z : ◌≡◌ {A = ℕ} 0 1 = cc in omega arith)
rest_of stuck [] p = different_states refl p
rest_of start (semicolon ∷ row) p = absurd (different_states (stays_stuck row) p)
rest_of start (comma ∷ row) p = absurd (different_states (stays_stuck row) p)
rest_of start (round_open ∷ row) p = absurd (different_states (stays_stuck row) p)
rest_of start (round_close ∷ row) p = absurd (different_states (stays_stuck row) p)
rest_of start (brace_open ∷ row) p = absurd (different_states (stays_stuck row) p)
rest_of start (brace_close ∷ row) p = absurd (different_states (stays_stuck row) p)
rest_of start (path ∷ row) p = path_first row (rest_of (before_element []) row p)
rest_of start (end ∷ row) p = absurd (different_states (stays_stuck row) p)
rest_of start (word n ∷ row) p = absurd (different_states (stays_stuck row) p)
rest_of between (semicolon ∷ row) p = absurd (different_states (stays_stuck row) p)
rest_of between (comma ∷ row) p = absurd (different_states (stays_stuck row) p)
rest_of between (round_open ∷ row) p = absurd (different_states (stays_stuck row) p)
rest_of between (round_close ∷ row) p = absurd (different_states (stays_stuck row) p)
rest_of between (brace_open ∷ row) p = absurd (different_states (stays_stuck row) p)
rest_of between (brace_close ∷ row) p = absurd (different_states (stays_stuck row) p)
rest_of between (path ∷ row) p = inr (path_first row (rest_of (before_element []) row p))
rest_of between (end ∷ row) p = absurd (different_states (stays_stuck row) p)
rest_of between (word n ∷ row) p = absurd (different_states (stays_stuck row) p)
rest_of (before_element bs) (semicolon ∷ row) p = absurd (different_states (stays_stuck row) p)
rest_of (before_element bs) (comma ∷ row) p = absurd (different_states (stays_stuck row) p)
rest_of (before_element bs) (round_open ∷ row) p = round_first bs row (rest_of (before_element (round_bracket ∷ bs)) row p)
rest_of (before_element bs) (round_close ∷ row) p = absurd (different_states (stays_stuck row) p)
rest_of (before_element bs) (brace_open ∷ row) p = brace_first bs row (rest_of (before_element (brace_bracket ∷ bs)) row p)
rest_of (before_element bs) (brace_close ∷ row) p = absurd (different_states (stays_stuck row) p)
rest_of (before_element bs) (path ∷ row) p = absurd (different_states (stays_stuck row) p)
rest_of (before_element bs) (end ∷ row) p = absurd (different_states (stays_stuck row) p)
rest_of (before_element bs) (word n ∷ row) p = element_first (name n) bs row (rest_of (behind_element bs) row p)
rest_of (behind_element bs) (semicolon ∷ row) p =
    let h = rest_of (before_element bs) row p in (more_selections h.0, h.1, cons semicolon h.2, h.3)
rest_of (behind_element bs) (comma ∷ row) p =
    let h = rest_of (before_element bs) row p in
    (comma_tail h.0, h.1, cons comma h.2 ∙ ap (λ (w : List Terminal). w ++ h.1) (sym (comma_tail_yield h.0)), h.3)
rest_of (behind_element bs) (round_open ∷ row) p = absurd (different_states (stays_stuck row) p)
rest_of (behind_element []) (round_close ∷ row) p = absurd (different_states (stays_stuck row) p)
rest_of (behind_element (round_bracket ∷ bs)) (round_close ∷ row) p =
    let h = rest_of (behind_element bs) row p in (nothing, round_close ∷ row, refl, (row, h.0, h.1, refl, h.2, h.3))
rest_of (behind_element (brace_bracket ∷ bs)) (round_close ∷ row) p = absurd (different_states (stays_stuck row) p)
rest_of (behind_element bs) (brace_open ∷ row) p = absurd (different_states (stays_stuck row) p)
rest_of (behind_element []) (brace_close ∷ row) p = absurd (different_states (stays_stuck row) p)
rest_of (behind_element (round_bracket ∷ bs)) (brace_close ∷ row) p = absurd (different_states (stays_stuck row) p)
rest_of (behind_element (brace_bracket ∷ bs)) (brace_close ∷ row) p =
    let h = rest_of (behind_element bs) row p in (nothing, brace_close ∷ row, refl, (row, h.0, h.1, refl, h.2, h.3))
rest_of (behind_element bs) (path ∷ row) p = absurd (different_states (stays_stuck row) p)
rest_of (behind_element []) (end ∷ row) p = (nothing, end ∷ row, refl, (row, refl, rest_of between row p))
rest_of (behind_element (b ∷ bs)) (end ∷ row) p = absurd (different_states (stays_stuck row) p)
rest_of (behind_element bs) (word n ∷ row) p = absurd (different_states (stays_stuck row) p)
rest_of stuck (t ∷ row) p = different_states (stays_stuck row) p

pub decides : (row : List Terminal) → Sentence row ↔ (run start row ≡ between)
decides row = ((λ h. ap (run start) (sym h.1) ∙ through_text h.0), λ p. rest_of start row p)

-- ---- from every state but one it comes to the end
closing_row : List Bracket → List Terminal
closing_row [] = end ∷ []
closing_row (b ∷ bs) = close b ∷ closing_row bs

closes_all : (bs : List Bracket) → run (behind_element bs) (closing_row bs) ≡ between
unfolding closing_row
closes_all [] = refl
closes_all (round_bracket ∷ bs) = closes_all bs
closes_all (brace_bracket ∷ bs) = closes_all bs

ending : (s : State) → s ≢ stuck → (row : List Terminal) × (run s row ≡ between)
ending start h = (path ∷ word 0 ∷ end ∷ [], refl)
ending between h = ([], refl)
ending (before_element bs) h = (word 0 ∷ closing_row bs, closes_all bs)
ending (behind_element bs) h = (closing_row bs, closes_all bs)
ending stuck h = absurd (h refl)

pub viable : (row : List Terminal) → Begins row ↔ (run start row ≢ stuck)
viable row = (
  (λ b e. different_states {s = run start (row ++ b.0)} (run_append start row b.0 ∙ ap (λ s. run s b.0) e ∙ stays_stuck b.0) ((decides (row ++ b.0)).0 b.1)),
  λ h. let e = ending (run start row) h in (e.0, (decides (row ++ e.0)).1 (run_append start row e.0 ∙ e.1)),
)
