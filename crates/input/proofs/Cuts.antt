-- The text and the log of an input: they are there, and only these.
use Rattle.std.proofs.Common.{◌≡◌, ℕ, zero, suc, ◌+◌, ◌≤◌, ◌≢◌, ◌⊎◌, List, [], ◌∷◌, ◌++◌, length, get_or, take, codes, sym, refl, ap, ◌∙◌, subst, inl, inr, arith, take_at, length-append}
use Rattle.std.proofs.lemmas.List.{append-nil, append_assoc, append_cancel_right}
use Rattle.std.proofs.lemmas.Bool.{cases_eq}
use Rattle.input.specs.Input.{FirstLine, Cut, nothing, at_mark, past_line, OneCut}
use Rattle.input.proofs.Firsts.{one_first, empty_first, front_of, shorter, some_byte, some_first}

pub mark_is : (line : List ℕ) → (length line ≡ 1) × (get_or line 0 0 ≡ 37) → line ≡ codes "%"
mark_is [] h = absurd (omega arith)
mark_is (b ∷ []) h = ap (λ x. x ∷ []) h.1
mark_is (b ∷ c ∷ cs) h = absurd (omega arith)

pub mark_reads : (line : List ℕ) → line ≡ codes "%" → (length line ≡ 1) × (get_or line 0 0 ≡ 37)
mark_reads line e = (ap length e, ap (λ l. get_or l 0 0) e)

-- a line is told from the mark
mark_told : (line : List ℕ) → (line ≡ codes "%") ⊎ (line ≢ codes "%")
mark_told line = go (cases_eq (length line) 1) (cases_eq (get_or line 0 0) 37)
  where
    go : (length line ≡ 1) ⊎ (length line ≡ 1 → ⊥) → (get_or line 0 0 ≡ 37) ⊎ (get_or line 0 0 ≡ 37 → ⊥) → (line ≡ codes "%") ⊎ (line ≢ codes "%")
    go (inl a) (inl b) = inl (mark_is line (a, b))
    go (inl a) (inr n) = inr (λ e. n (mark_reads line e).1)
    go (inr n) b = inr (λ e. n (mark_reads line e).0)

abbrev SomeCut : List ℕ → Type 0
SomeCut input = (text : List ℕ) × (log : List ℕ) × Cut input text log

some_cut : (n : ℕ) (input : List ℕ) → length input ≤ n → SomeCut input
some_cut n [] le = ([], [], nothing)
some_cut zero (b ∷ bs) le = absurd (omega arith)
some_cut (suc n) (b ∷ bs) le =
    let f = some_first (b ∷ bs) (some_byte b bs) in
    let s = shorter (b ∷ bs) f.0 f.1 f.2 in
    go f.0 f.1 f.2 (mark_told f.0) (some_cut n f.1 (omega arith))
  where
    go : (line rest : List ℕ) → FirstLine (b ∷ bs) line rest → (line ≡ codes "%") ⊎ (line ≢ codes "%") → SomeCut rest → SomeCut (b ∷ bs)
    go line rest f (inl e) c = ([], rest, at_mark (subst (λ l. FirstLine (b ∷ bs) l rest) e f))
    go line rest f (inr n) c = let h = front_of (b ∷ bs) line rest f in (h.0 ++ c.0, c.1, past_line h.0 f n h.1 c.2)

same_cut : (input t u l m : List ℕ) → Cut input t l → Cut input u m → (t ≡ u) × (l ≡ m)
same_cut input t u l m nothing nothing = (refl, refl)
same_cut input t u l m nothing (at_mark {log = s} g) = absurd (empty_first (codes "%") s g)
same_cut input t u l m nothing (past_line {line = b} {rest = s} q g o k d) = absurd (empty_first b s g)
same_cut input t u l m (at_mark {log = r} f) nothing = absurd (empty_first (codes "%") r f)
same_cut input t u l m (at_mark {log = r} f) (at_mark {log = s} g) = (refl, (one_first input (codes "%") (codes "%") r s f g).1)
same_cut input t u l m (at_mark {log = r} f) (past_line {line = b} {rest = s} q g o k d) = absurd (o (sym (one_first input (codes "%") b r s f g).0))
same_cut input t u l m (past_line {line = a} {rest = r} p f n e c) nothing = absurd (empty_first a r f)
same_cut input t u l m (past_line {line = a} {rest = r} p f n e c) (at_mark {log = s} g) = absurd (n (one_first input a (codes "%") r s f g).0)
same_cut input t u l m (past_line {line = a} {rest = r} {text = v} {log = x} p f n e c) (past_line {line = b} {rest = s} {text = w} {log = y} q g o k d) =
    let h = one_first input a b r s f g in
    let i = same_cut r v w x y c (subst (λ z. Cut z w y) (sym h.1) d) in
    let j = append_cancel_right p q r (sym e ∙ k ∙ ap (λ z. q ++ z) (sym h.1)) in
    (ap (λ z. z ++ v) j ∙ ap (λ z. q ++ z) i.0, i.1)

pub one_cut : OneCut
one_cut = record { some = λ input. some_cut (length input) input (omega arith); same = same_cut }

-- ---- going through the lines
-- no line of the front is the mark: how the rest is cut tells how the input is cut
pub record Going (input rest : List ℕ) : Type 0 where
  pub front : List ℕ
  pub joined : input ≡ front ++ rest
  pub past : (text log : List ℕ) → Cut rest text log → Cut input (front ++ text) log

pub going_start : (input rest : List ℕ) → rest ≡ input → Going input rest
going_start input rest e = record { front = []; joined = sym e; past = λ text log c. subst (λ i. Cut i text log) e c }

module _ (input rest : List ℕ) (go : Going input rest) where
  pub going_more : (line behind : List ℕ) → FirstLine rest line behind → line ≢ codes "%" → Going input behind
  going_more line behind f n =
      let h = front_of rest line behind f in
      record {
        front = go.front ++ h.0;
        joined = go.joined ∙ ap (λ r. go.front ++ r) h.1 ∙ sym (append_assoc go.front h.0 behind);
        past = λ text log c. subst (λ t. Cut input t log) (sym (append_assoc go.front h.0 text)) (go.past (h.0 ++ text) log (past_line h.0 f n h.1 c));
      }

  pub rest_within : length rest ≤ length input
  rest_within = omega (arith, ap length go.joined, length-append go.front rest)

  -- the first n bytes are the front
  module _ (n : ℕ) (long : n + length rest ≡ length input) where
    front_is : go.front ≡ take n input
    front_is = sym (ap (take n) go.joined ∙ take_at go.front rest n (let l = length-append go.front rest in omega (arith, long, l, ap length go.joined)))

    pub cut_at_mark : (line log : List ℕ) → FirstLine rest line log → line ≡ codes "%" → Cut input (take n input) log
    cut_at_mark line log f e = subst (λ x. Cut input x log) (append-nil go.front ∙ front_is) (go.past [] log (at_mark (subst (λ l. FirstLine rest l log) e f)))

    pub mark_between : (line log : List ℕ) → FirstLine rest line log → (mark : List ℕ) × (input ≡ take n input ++ (mark ++ log))
    mark_between line log f = let h = front_of rest line log f in (h.0, go.joined ∙ (λ i. front_is i ++ h.1 i))

  pub cut_at_end : rest ≡ [] → (log : List ℕ) → log ≡ [] → Cut input input log
  cut_at_end e log l =
      let all : input ≡ go.front ++ [] = go.joined ∙ ap (λ r. go.front ++ r) e in
      subst (λ x. Cut input x log) (sym all) (go.past [] log (subst (λ r. Cut r [] log) (sym e) (subst (Cut [] []) (sym l) nothing)))
