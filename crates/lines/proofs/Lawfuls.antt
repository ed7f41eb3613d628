-- Lines: lawful, or faulty at a place.
use Rattle.std.proofs.Common.{◌≡◌, ℕ, suc, ◌+◌, ◌<◌, ◌≤◌, ◌≢◌, ◌⊎◌, List, [], ◌∷◌, ◌++◌, length, get_or, take, drop, sym, Ok, refl, ap, ◌∙◌, subst, inl, inr, arith}
use Rattle.std.specs.Str.Parse.{digits_value}
use Rattle.std.proofs.lemmas.List.{length-append, length-drop, length-take-le, take_all, take-append-drop, take_at, drop_at, take_more, drop_more}
use Rattle.std.proofs.lemmas.Bool.{cases_eq, cases_lt}
use Rattle.lines.specs.Lines.{Meaning, begin, end, withdraw, IsName, IsTicket, Lawful, IsLawful, Begins, Wrong, at_byte, stops_short, Faulty, OneMeaning, OneVerdict}
use Rattle.lines.specs.Reads.{Longest, IsRank, Ranked}
use Rattle.lines.proofs.Places.{not_both, one_place, alike, behind, whole, broken}
use Rattle.lines.proofs.Rows.{between_told}
use Rattle.lines.proofs.Tails.{first, digit_most, digit_is, name_found, ticket_found, names, tickets, rank_none, rank_space, rank_over, rank_is, BeginRest, begin_none, begin_wrong}

-- ---- the letter and the space
abbrev letter_of : Meaning → ℕ
letter_of (begin w r) = 98
letter_of (end w) = 101
letter_of (withdraw t) = 119

starts : (line : List ℕ) (m : Meaning) → Lawful line m → get_or line 0 0 ≡ letter_of m
starts line (begin w r) h = ap (λ l. get_or l 0 0) h.1
starts line (end w) h = ap (λ l. get_or l 0 0) h.0
starts line (withdraw t) h = ap (λ l. get_or l 0 0) h.1

spaced : (line : List ℕ) (m : Meaning) → Lawful line m → get_or line 1 0 ≡ 32
spaced line (begin w r) h = ap (λ l. get_or l 1 0) h.1
spaced line (end w) h = ap (λ l. get_or l 1 0) h.0
spaced line (withdraw t) h = ap (λ l. get_or l 1 0) h.1

abbrev NoLetter : ℕ → Type 0
NoLetter b = (b ≢ 98) × (b ≢ 101) × (b ≢ 119)

unlettered : (line : List ℕ) → NoLetter (get_or line 0 0) → IsLawful line → ⊥
unlettered line f h = go h.0 h.1
  where
    go : (m : Meaning) → Lawful line m → ⊥
    go (begin w r) l = f.0 (starts line (begin w r) l)
    go (end w) l = f.1 (starts line (end w) l)
    go (withdraw t) l = f.2 (starts line (withdraw t) l)

abbrev IsLetter : ℕ → Type 0
IsLetter b = (b ≡ 98) ⊎ ((b ≡ 101) ⊎ (b ≡ 119))

-- some lawful line with a letter
example : (b : ℕ) → IsLetter b → (rest : List ℕ) × IsLawful (b ∷ rest)
example b (inl e) = (32 ∷ 97 ∷ 32 ∷ 48 ∷ [], (begin (97 ∷ []) 0, (48, ap (λ c. c ∷ 32 ∷ 97 ∷ 32 ∷ 48 ∷ []) e, (refl, tt, omega arith), refl, refl)))
example b (inr (inl e)) = (32 ∷ 97 ∷ [], (end (97 ∷ []), (ap (λ c. c ∷ 32 ∷ 97 ∷ []) e, (refl, tt, omega arith))))
example b (inr (inr e)) = (32 ∷ 49 ∷ [], (withdraw 1, (49 ∷ [], ap (λ c. c ∷ 32 ∷ 49 ∷ []) e, ((refl, omega arith), tt, omega arith), refl)))

some_line : Begins IsLawful []
some_line = let h = example 101 (inr (inl refl)) in (101 ∷ h.0, h.1)

pub no_letter : (line : List ℕ) → (0 < length line → NoLetter (get_or line 0 0)) → Faulty line 0
no_letter [] f = stops_short some_line (unlettered [] (omega arith, omega arith, omega arith))
no_letter (x ∷ xs) f = at_byte (omega arith) some_line (λ h. unlettered (x ∷ h.0) (f (omega arith)) h.1)

pub no_space : (x : ℕ) (tail : List ℕ) → IsLetter x → (0 < length tail → get_or tail 0 0 ≢ 32) → Faulty (x ∷ tail) 1
no_space x [] l f = stops_short (example x l) (λ h. let z = spaced (x ∷ []) h.0 h.1 in omega arith)
no_space x (y ∷ ys) l f = at_byte (omega arith) (example x l) (λ h. f (omega arith) (spaced (x ∷ y ∷ h.0) h.1.0 h.1.1))

-- ---- behind the space
-- a line with the letter x is lawful just where what stands behind the space has the form
module _ (x : ℕ) (Form : List ℕ → Type 0) (to : (r : List ℕ) → Form r → IsLawful (x ∷ 32 ∷ r)) (from : (r : List ℕ) → IsLawful (x ∷ 32 ∷ r) → Form r) where
  in_line : (rest : List ℕ) (p : ℕ) → Wrong Form rest p → Faulty (x ∷ 32 ∷ rest) (2 + p)
  in_line rest p h =
      let e : suc (suc p) ≡ 2 + p = omega arith in
      subst (λ k. Faulty (x ∷ 32 ∷ rest) k) e (behind IsLawful x (32 ∷ rest) (suc p) (behind (λ r. IsLawful (x ∷ r)) 32 rest p (alike Form (λ r. IsLawful (x ∷ 32 ∷ r)) rest p to from h)))

from_end : (r : List ℕ) → IsLawful (101 ∷ 32 ∷ r) → IsName r
from_end r h = go h.0 h.1
  where
    go : (m : Meaning) → Lawful (101 ∷ 32 ∷ r) m → IsName r
    go (begin w k) l = let z = starts (101 ∷ 32 ∷ r) (begin w k) l in absurd (omega arith)
    go (end w) l = subst IsName (sym (ap (drop 2) l.0)) l.1
    go (withdraw t) l = let z = starts (101 ∷ 32 ∷ r) (withdraw t) l in absurd (omega arith)

from_withdraw : (r : List ℕ) → IsLawful (119 ∷ 32 ∷ r) → IsTicket r
from_withdraw r h = go h.0 h.1
  where
    go : (m : Meaning) → Lawful (119 ∷ 32 ∷ r) m → IsTicket r
    go (begin w k) l = let z = starts (119 ∷ 32 ∷ r) (begin w k) l in absurd (omega arith)
    go (end w) l = let z = starts (119 ∷ 32 ∷ r) (end w) l in absurd (omega arith)
    go (withdraw t) l = subst IsTicket (sym (ap (drop 2) l.1)) l.2

from_begin : (r : List ℕ) → IsLawful (98 ∷ 32 ∷ r) → BeginRest r
from_begin r h = go h.0 h.1
  where
    go : (m : Meaning) → Lawful (98 ∷ 32 ∷ r) m → BeginRest r
    go (begin w k) l = (w, l.0, ap (drop 2) l.1, l.2, l.3)
    go (end w) l = let z = starts (98 ∷ 32 ∷ r) (end w) l in absurd (omega arith)
    go (withdraw t) l = let z = starts (98 ∷ 32 ∷ r) (withdraw t) l in absurd (omega arith)

to_begin : (r : List ℕ) → BeginRest r → IsLawful (98 ∷ 32 ∷ r)
to_begin r h = (begin h.0 (digits_value 10 (h.1 ∷ [])), (h.1, ap (λ l. 98 ∷ 32 ∷ l) h.2, h.3, h.4, refl))

pub end_faulty : (rest : List ℕ) (n : ℕ) → Longest IsName rest n → (0 < n → n < length rest) → Faulty (101 ∷ 32 ∷ rest) (2 + n)
end_faulty rest n l c = in_line 101 IsName (λ r h. (end r, (refl, h))) from_end rest n (broken IsName names rest n l c)

pub end_lawful : (rest : List ℕ) (n : ℕ) → Longest IsName rest n → (n ≡ 0 → ⊥) → length rest ≤ n → Lawful (101 ∷ 32 ∷ rest) (end rest)
end_lawful rest n l pos le = (refl, whole IsName names rest n l (omega arith) le)

pub withdraw_faulty : (rest : List ℕ) (n : ℕ) → Longest IsTicket rest n → (0 < n → n < length rest) → Faulty (119 ∷ 32 ∷ rest) (2 + n)
withdraw_faulty rest n l c = in_line 119 IsTicket (λ r h. (withdraw (digits_value 10 r), (r, refl, h, refl))) from_withdraw rest n (broken IsTicket tickets rest n l c)

pub withdraw_lawful : (rest : List ℕ) (n ticket : ℕ) → Longest IsTicket rest n → (n ≡ 0 → ⊥) → length rest ≤ n → ticket ≡ digits_value 10 (take n rest) → Lawful (119 ∷ 32 ∷ rest) (withdraw ticket)
withdraw_lawful rest n ticket l pos le e = (rest, refl, whole IsTicket tickets rest n l (omega arith) le, e ∙ ap (digits_value 10) (take_all n rest le))

pub begin_nameless : (rest : List ℕ) (n : ℕ) → Longest IsName rest n → n ≡ 0 → Faulty (98 ∷ 32 ∷ rest) 2
begin_nameless rest n l e = in_line 98 BeginRest to_begin from_begin rest 0 (begin_none rest (subst (Longest IsName rest) e l))

module _ (rest : List ℕ) (n : ℕ) (l : Longest IsName rest n) (pos : n ≡ 0 → ⊥) where
  named : IsName (take n rest)
  named = l.has (omega arith)

  -- no name goes on behind the longest
  no_longer : (y : ℕ) (ys : List ℕ) → drop n rest ≡ y ∷ ys → IsName (take n rest ++ (y ∷ [])) → ⊥
  no_longer y ys e h =
      let m = l.within in
      let long = ap length e in
      let lt : n < length rest = omega (arith, length-drop n rest) in
      let same : get_or rest n 0 ≡ y = first (sym (drop_more rest n 0 lt) ∙ e) in
      l.longest (n + 1) (omega arith) (omega arith) (subst IsName (ap (λ b. take n rest ++ (b ∷ [])) (sym same) ∙ sym (take_more rest n 0 lt)) h)

  pub begin_faulty : (q : ℕ) → Wrong IsRank (drop n rest) q → Faulty (98 ∷ 32 ∷ rest) (2 + (n + q))
  begin_faulty q h =
      let at_name = length-take-le n rest l.within in
      in_line 98 BeginRest to_begin from_begin rest (n + q) (subst (λ r. Wrong BeginRest r (n + q)) (take-append-drop n rest) (subst (λ k. Wrong BeginRest (take n rest ++ drop n rest) (k + q)) at_name (begin_wrong (take n rest) (drop n rest) named no_longer q h)))

  pub begin_lawful : (name : List ℕ) (rank : ℕ) → name ≡ take n rest → Ranked (drop n rest) (Ok rank) → Lawful (98 ∷ 32 ∷ rest) (begin name rank)
  begin_lawful name rank e r = (
    r.0,
    ap (λ l. 98 ∷ 32 ∷ l) (sym (take-append-drop n rest) ∙ ap (λ l. take n rest ++ l) r.1 ∙ ap (λ l. l ++ (32 ∷ r.0 ∷ [])) (sym e)),
    subst IsName (sym e) named,
    r.2,
    r.3,
  )

-- ---- no line is lawful in two ways
same_begin : (w v : List ℕ) (c d : ℕ) → w ++ (32 ∷ c ∷ []) ≡ v ++ (32 ∷ d ∷ []) → (w ≡ v) × (c ≡ d)
same_begin w v c d e =
    let a = length-append w (32 ∷ c ∷ []) in
    let b = length-append v (32 ∷ d ∷ []) in
    let k = ap length e in
    let same : length v ≡ length w = omega arith in (
      sym (take_at w (32 ∷ c ∷ []) (length w) refl) ∙ ap (take (length w)) e ∙ take_at v (32 ∷ d ∷ []) (length w) same,
      ap (λ r. get_or r 1 0) (sym (drop_at w (32 ∷ c ∷ []) (length w) refl) ∙ ap (drop (length w)) e ∙ drop_at v (32 ∷ d ∷ []) (length w) same),
    )

pub one_meaning : OneMeaning
one_meaning line m n h k = go m n h k (sym (starts line m h) ∙ starts line n k)
  where
    go : (m n : Meaning) → Lawful line m → Lawful line n → letter_of m ≡ letter_of n → m ≡ n
    go (begin w r) (begin v s) h k e =
        let t = same_begin w v h.0 k.0 (ap (drop 2) (sym h.1 ∙ k.1)) in
        let u : r ≡ s = h.4 ∙ ap (λ d. digits_value 10 (d ∷ [])) t.1 ∙ sym k.4 in
        ap (λ x. begin x r) t.0 ∙ ap (begin v) u
    go (begin w r) (end v) h k e = absurd (omega arith)
    go (begin w r) (withdraw t) h k e = absurd (omega arith)
    go (end w) (begin v s) h k e = absurd (omega arith)
    go (end w) (end v) h k e = ap end (ap (drop 2) (sym h.0 ∙ k.0))
    go (end w) (withdraw t) h k e = absurd (omega arith)
    go (withdraw t) (begin v s) h k e = absurd (omega arith)
    go (withdraw t) (end v) h k e = absurd (omega arith)
    go (withdraw t) (withdraw u) h k e = ap withdraw (h.3 ∙ ap (digits_value 10) (ap (drop 2) (sym h.1 ∙ k.1)) ∙ sym k.3)

-- ---- every line is lawful or faulty
abbrev Told : Type 0 → Type 0
Told P = P ⊎ (P → ⊥)

abbrev Verdict : List ℕ → Type 0
Verdict line = IsLawful line ⊎ ((p : ℕ) × Faulty line p)

rank_told : (t : List ℕ) → IsRank t ⊎ ((q : ℕ) × Wrong IsRank t q)
rank_told t = go (cases_lt 0 (length t)) (cases_eq (get_or t 0 0) 32) (between_told 48 57 (get_or t 1 0)) (cases_lt 1 (length t)) (cases_lt 2 (length t))
  where
    go : (0 < length t) ⊎ (length t ≤ 0) → Told (get_or t 0 0 ≡ 32) → ((48 ≤ get_or t 1 0) × (get_or t 1 0 ≤ 57)) ⊎ (48 ≤ get_or t 1 0 → get_or t 1 0 ≤ 57 → ⊥) → (1 < length t) ⊎ (length t ≤ 1) → (2 < length t) ⊎ (length t ≤ 2) →
        IsRank t ⊎ ((q : ℕ) × Wrong IsRank t q)
    go (inr none) s d two over = inr (0, rank_none t (λ lt. absurd (omega arith)))
    go (inl some) (inr n) d two over = inr (0, rank_none t (λ _. n))
    go (inl some) (inl s) (inr f) two over = inr (1, rank_space t some s (λ _. f))
    go (inl some) (inl s) (inl d) (inr one) over = inr (1, rank_space t some s (λ lt. absurd (omega arith)))
    go (inl some) (inl s) (inl d) (inl two) (inl more) = inr (2, rank_over t more s d.0 d.1)
    go (inl some) (inl s) (inl d) (inl two) (inr just) = inl (get_or t 1 0, rank_is t s (omega arith), digit_is _ d.0 d.1)

begin_told : (rest : List ℕ) → Verdict (98 ∷ 32 ∷ rest)
begin_told rest = go (name_found rest)
  where
    go : (n : ℕ) × Longest IsName rest n → Verdict (98 ∷ 32 ∷ rest)
    go h = by_count (cases_eq h.0 0)
      where
        by_rank : (h.0 ≡ 0 → ⊥) → IsRank (drop h.0 rest) ⊎ ((q : ℕ) × Wrong IsRank (drop h.0 rest) q) → Verdict (98 ∷ 32 ∷ rest)
        by_rank pos (inl k) = inl (begin (take h.0 rest) (digits_value 10 (k.0 ∷ [])), begin_lawful rest h.0 h.1 pos (take h.0 rest) (digits_value 10 (k.0 ∷ [])) refl (k.0, k.1, k.2, refl, digit_most k.0 k.2))
        by_rank pos (inr k) = inr (2 + (h.0 + k.0), begin_faulty rest h.0 h.1 pos k.0 k.1)

        by_count : Told (h.0 ≡ 0) → Verdict (98 ∷ 32 ∷ rest)
        by_count (inl e) = inr (2, begin_nameless rest h.0 h.1 e)
        by_count (inr pos) = by_rank pos (rank_told (drop h.0 rest))

-- where all that stands behind the letter x and the space has one form
module _ (Form : List ℕ → Type 0) (x : ℕ) (faulty : (rest : List ℕ) (n : ℕ) → Longest Form rest n → (0 < n → n < length rest) → Faulty (x ∷ 32 ∷ rest) (2 + n)) (lawful : (rest : List ℕ) (n : ℕ) → Longest Form rest n → (n ≡ 0 → ⊥) → length rest ≤ n → IsLawful (x ∷ 32 ∷ rest)) where
  whole_told : (rest : List ℕ) → (n : ℕ) × Longest Form rest n → Verdict (x ∷ 32 ∷ rest)
  whole_told rest h = go (cases_eq h.0 0) (cases_lt h.0 (length rest))
    where
      go : Told (h.0 ≡ 0) → (h.0 < length rest) ⊎ (length rest ≤ h.0) → Verdict (x ∷ 32 ∷ rest)
      go (inl e) o = inr (2 + h.0, faulty rest h.0 h.1 (λ pos. absurd (omega arith)))
      go (inr pos) (inl lt) = inr (2 + h.0, faulty rest h.0 h.1 (λ _. lt))
      go (inr pos) (inr le) = inl (lawful rest h.0 h.1 pos le)

end_told : (rest : List ℕ) → Verdict (101 ∷ 32 ∷ rest)
end_told rest = whole_told IsName 101 end_faulty (λ r n l pos le. (end r, end_lawful r n l pos le)) rest (name_found rest)

withdraw_told : (rest : List ℕ) → Verdict (119 ∷ 32 ∷ rest)
withdraw_told rest = whole_told IsTicket 119 withdraw_faulty (λ r n l pos le. (withdraw (digits_value 10 (take n r)), withdraw_lawful r n _ l pos le refl)) rest (ticket_found rest)

judged : (line : List ℕ) → Verdict line
judged [] = inr (0, no_letter [] (λ lt. absurd (omega arith)))
judged (x ∷ xs) = go (cases_eq x 98) (cases_eq x 101) (cases_eq x 119)
  where
    -- with a letter, if the line is told wherever a space stands behind it
    spaced_told : IsLetter x → ((rest : List ℕ) → Verdict (x ∷ 32 ∷ rest)) → Verdict (x ∷ xs)
    spaced_told l f = by_tail xs
      where
        by_tail : (tail : List ℕ) → Verdict (x ∷ tail)
        by_tail [] = inr (1, no_space x [] l (λ lt. absurd (omega arith)))
        by_tail (y ∷ ys) = by_space (cases_eq y 32)
          where
            by_space : Told (y ≡ 32) → Verdict (x ∷ y ∷ ys)
            by_space (inl e) = subst (λ b. Verdict (x ∷ b ∷ ys)) (sym e) (f ys)
            by_space (inr n) = inr (1, no_space x (y ∷ ys) l (λ _. n))

    go : Told (x ≡ 98) → Told (x ≡ 101) → Told (x ≡ 119) → Verdict (x ∷ xs)
    go (inl b) e w = spaced_told (inl b) (λ r. subst (λ a. Verdict (a ∷ 32 ∷ r)) (sym b) (begin_told r))
    go (inr b) (inl e) w = spaced_told (inr (inl e)) (λ r. subst (λ a. Verdict (a ∷ 32 ∷ r)) (sym e) (end_told r))
    go (inr b) (inr e) (inl w) = spaced_told (inr (inr w)) (λ r. subst (λ a. Verdict (a ∷ 32 ∷ r)) (sym w) (withdraw_told r))
    go (inr b) (inr e) (inr w) = inr (0, no_letter (x ∷ xs) (λ _. (b, e, w)))

pub one_verdict : OneVerdict
one_verdict = record {
  judged = judged;
  apart = λ line p h f. not_both IsLawful line p h f;
  place = λ line p q f g. one_place IsLawful line p q f g;
}
