-- Which rule a row breaks is decided.
use Rattle.std.proofs.Common.{◌≡◌, ℕ, suc, ◌-◌, ◌<◌, Bool, true, false, cond, not, ◌&&◌, eqb, ltb, ◌≢◌, ◌⊎◌, List, [], ◌∷◌, ◌++◌, length, sym, refl, ap, ◌∙◌, subst, inl, inr, append_assoc, append-nil, arith, ltb-false, ltb-true, lt-ltb}
use native.Mathlib.Decide.{dec_lt}
use borrow.Author.Tests.{both_ways}
use Rattle.paths.specs.Grammar.{Terminal, Sentence}
use Rattle.rules.specs.Automaton.{State, start, between, before_element, behind_element, stuck, run}
use Rattle.paths.specs.Sizes.{how_many, paths}
use Rattle.rules.specs.Rules.{opened, closed, names_of, own_from, different}
use Rattle.rules.specs.Rules.{Rule, begins_sentence, open_brackets, open_braces, name_once, all_paths, all_names, all_occurrences, all_brackets, number, Breaks, Kept, Told}
use Rattle.rules.proofs.Among.{twice, distinct_once, once_distinct}
use Rattle.rules.proofs.Automaton.{viable, decides}
use Rattle.paths.proofs.Lists.{append_nil_left, snoc_cut}

abbrev pub is_stuck : State → Bool
is_stuck start = false
is_stuck between = false
is_stuck (before_element bs) = false
is_stuck (behind_element bs) = false
is_stuck stuck = true

stuck_true : (s : State) → is_stuck s ≡ true → s ≡ stuck
stuck_true start p = absurd (both_ways false refl p)
stuck_true between p = absurd (both_ways false refl p)
stuck_true (before_element bs) p = absurd (both_ways false refl p)
stuck_true (behind_element bs) p = absurd (both_ways false refl p)
stuck_true stuck p = refl

stuck_false : (s : State) → is_stuck s ≡ false → s ≢ stuck
stuck_false s p q = both_ways (is_stuck s) p (ap is_stuck q)

abbrev pub is_between : State → Bool
is_between start = false
is_between between = true
is_between (before_element bs) = false
is_between (behind_element bs) = false
is_between stuck = false

between_true : (s : State) → is_between s ≡ true → s ≡ between
between_true start p = absurd (both_ways false refl p)
between_true between p = refl
between_true (before_element bs) p = absurd (both_ways false refl p)
between_true (behind_element bs) p = absurd (both_ways false refl p)
between_true stuck p = absurd (both_ways false refl p)

pub sentence_yes : (row : List Terminal) → is_between (run start row) ≡ true → Sentence row
sentence_yes row p = (decides row).1 (between_true (run start row) p)

pub sentence_no : (row : List Terminal) → is_between (run start row) ≡ false → ¬ Sentence row
sentence_no row p h = both_ways (is_between (run start row)) p (ap is_between ((decides row).0 h))

abbrev pub breaks : Rule → List Terminal → Bool
breaks begins_sentence row = is_stuck (run start row)
breaks open_brackets row = ltb 16 (opened 1 1 row - closed 1 1 row)
breaks open_braces row = ltb 1 (opened 0 1 row - closed 0 1 row)
breaks name_once row = twice (own_from [] row)
breaks all_paths row = ltb 32 (how_many paths row)
breaks all_names row = ltb 64 (different (names_of row))
breaks all_occurrences row = ltb 256 (length (names_of row))
breaks all_brackets row = ltb 256 (opened 1 1 row)

pub breaks_true : (r : Rule) (row : List Terminal) → breaks r row ≡ true → Breaks r row
breaks_true begins_sentence row p = λ b. (viable row).0 b (stuck_true (run start row) p)
breaks_true open_brackets row p = ltb-true _ _ p
breaks_true open_braces row p = ltb-true _ _ p
breaks_true name_once row p = λ d. both_ways (twice (own_from [] row)) (distinct_once (own_from [] row) d) p
breaks_true all_paths row p = ltb-true _ _ p
breaks_true all_names row p = ltb-true _ _ p
breaks_true all_occurrences row p = ltb-true _ _ p
breaks_true all_brackets row p = ltb-true _ _ p

beyond : (a b : ℕ) → ltb a b ≡ false → a < b → ⊥
beyond a b p h = let k = ltb-false a b p in omega arith

pub breaks_false : (r : Rule) (row : List Terminal) → breaks r row ≡ false → ¬ Breaks r row
breaks_false begins_sentence row p h = h ((viable row).1 (stuck_false (run start row) p))
breaks_false open_brackets row p h = beyond 16 (opened 1 1 row - closed 1 1 row) p h
breaks_false open_braces row p h = beyond 1 (opened 0 1 row - closed 0 1 row) p h
breaks_false name_once row p h = h (once_distinct (own_from [] row) p)
breaks_false all_paths row p h = beyond 32 (how_many paths row) p h
breaks_false all_names row p h = beyond 64 (different (names_of row)) p h
breaks_false all_occurrences row p h = beyond 256 (length (names_of row)) p h
breaks_false all_brackets row p h = beyond 256 (opened 1 1 row) p h

-- ---- the rules in order
abbrev rule_of : ℕ → Rule
rule_of n = cond (eqb n 4) begins_sentence (cond (eqb n 6) open_brackets (cond (eqb n 7) open_braces (cond (eqb n 8) name_once
    (cond (eqb n 9) all_paths (cond (eqb n 10) all_names (cond (eqb n 11) all_occurrences all_brackets))))))

rule_of_number : (r : Rule) → rule_of (number r) ≡ r
rule_of_number begins_sentence = refl
rule_of_number open_brackets = refl
rule_of_number open_braces = refl
rule_of_number name_once = refl
rule_of_number all_paths = refl
rule_of_number all_names = refl
rule_of_number all_occurrences = refl
rule_of_number all_brackets = refl

same_rule : (r s : Rule) → number r ≡ number s → r ≡ s
same_rule r s p = sym (rule_of_number r) ∙ ap rule_of p ∙ rule_of_number s

none_below_4 : (s : Rule) → number s < 4 → ⊥
none_below_4 begins_sentence h = omega arith
none_below_4 open_brackets h = omega arith
none_below_4 open_braces h = omega arith
none_below_4 name_once h = omega arith
none_below_4 all_paths h = omega arith
none_below_4 all_names h = omega arith
none_below_4 all_occurrences h = omega arith
none_below_4 all_brackets h = omega arith

none_is_5 : (s : Rule) → number s < 6 → number s < 5
none_is_5 begins_sentence h = omega arith
none_is_5 open_brackets h = omega arith
none_is_5 open_braces h = omega arith
none_is_5 name_once h = omega arith
none_is_5 all_paths h = omega arith
none_is_5 all_names h = omega arith
none_is_5 all_occurrences h = omega arith
none_is_5 all_brackets h = omega arith

pub all_below_13 : (s : Rule) → number s < 13
all_below_13 begins_sentence = omega arith
all_below_13 open_brackets = omega arith
all_below_13 open_braces = omega arith
all_below_13 name_once = omega arith
all_below_13 all_paths = omega arith
all_below_13 all_names = omega arith
all_below_13 all_occurrences = omega arith
all_below_13 all_brackets = omega arith

-- a row keeps all rules, or one is told
abbrev pub Judged : List Terminal → Type 0
Judged row = ((s : Rule) → ¬ Breaks s row) ⊎ ((r : Rule) × Told r row)

abbrev Clear : List Terminal → ℕ → Type 0
Clear row k = (s : Rule) → number s < k → ¬ Breaks s row

clear_more : (row : List Terminal) (r : Rule) → Clear row (number r) → breaks r row ≡ false → Clear row (suc (number r))
clear_more row r c e s h = go (dec_lt (number s) (number r))
  where
    go : Dec (number s < number r) → ¬ Breaks s row
    go (yes k) = c s k
    go (no k) = subst (λ (q : Rule). ¬ Breaks q row) (same_rule r s (omega arith)) (breaks_false r row e)

try : (row : List Terminal) (r : Rule) → Clear row (number r) → (Clear row (suc (number r)) → Judged row) → Judged row
try row r c k = go (breaks r row) refl
  where
    go : (b : Bool) → breaks r row ≡ b → Judged row
    go true e = inr (r, record { broken = breaks_true r row e; smallest = c })
    go false e = k (clear_more row r c e)

pub judged : (row : List Terminal) → Judged row
judged row =
    try row begins_sentence (λ s h. absurd (none_below_4 s h)) λ c4.
    try row open_brackets (λ s h. c4 s (none_is_5 s h)) λ c6.
    try row open_braces c6 λ c7.
    try row name_once c7 λ c8.
    try row all_paths c8 λ c9.
    try row all_names c9 λ c10.
    try row all_occurrences c10 λ c11.
    try row all_brackets c11 λ c12.
    inl (λ s. c12 s (all_below_13 s))

-- ---- rows that keep the rules
none_broken : (r : Rule) → breaks r [] ≡ false
none_broken begins_sentence = refl
none_broken open_brackets = refl
none_broken open_braces = refl
none_broken name_once = refl
none_broken all_paths = refl
none_broken all_names = refl
none_broken all_occurrences = refl
none_broken all_brackets = refl

pub kept_nil : Kept []
kept_nil u v r p = subst (λ (w : List Terminal). ¬ Breaks r w) (sym (append_nil_left u v (sym p))) (breaks_false r [] (none_broken r))

pub kept_snoc : (row : List Terminal) (t : Terminal) → Kept row → ((r : Rule) → ¬ Breaks r (row ++ (t ∷ []))) → Kept (row ++ (t ∷ []))
kept_snoc row t k h u v r p = go (snoc_cut row t u v p)
  where
    go : (v ≡ []) ⊎ ((m : List Terminal) × (v ≡ m ++ (t ∷ [])) × (row ≡ u ++ m)) → ¬ Breaks r u
    go (inl e) = subst (λ (w : List Terminal). ¬ Breaks r w) (p ∙ ap (λ (w : List Terminal). u ++ w) e ∙ append-nil u) (h r)
    go (inr q) = k u q.0 r q.2

-- ---- by computing
abbrev pub every : (Rule → Bool) → Bool
every f = f begins_sentence && (f open_brackets && (f open_braces && (f name_once && (f all_paths && (f all_names && (f all_occurrences && f all_brackets))))))

and_left : (a b : Bool) → (a && b) ≡ true → a ≡ true
and_left true b p = refl
and_left false b p = p

and_right : (a b : Bool) → (a && b) ≡ true → b ≡ true
and_right true b p = p
and_right false b p = absurd (both_ways false refl p)

every_true : (f : Rule → Bool) → every f ≡ true → (r : Rule) → f r ≡ true
every_true f p begins_sentence = and_left _ _ p
every_true f p open_brackets = and_left _ _ (and_right (f begins_sentence) _ p)
every_true f p open_braces = and_left _ _ (and_right (f open_brackets) _ (and_right (f begins_sentence) _ p))
every_true f p name_once = and_left _ _ (and_right (f open_braces) _ (and_right (f open_brackets) _ (and_right (f begins_sentence) _ p)))
every_true f p all_paths = and_left _ _ (and_right (f name_once) _ (and_right (f open_braces) _ (and_right (f open_brackets) _ (and_right (f begins_sentence) _ p))))
every_true f p all_names = and_left _ _ (and_right (f all_paths) _ (and_right (f name_once) _ (and_right (f open_braces) _ (and_right (f open_brackets) _ (and_right (f begins_sentence) _ p)))))
every_true f p all_occurrences = and_left _ _ (and_right (f all_names) _ (and_right (f all_paths) _ (and_right (f name_once) _ (and_right (f open_braces) _ (and_right (f open_brackets) _ (and_right (f begins_sentence) _ p))))))
every_true f p all_brackets = and_right (f all_occurrences) _ (and_right (f all_names) _ (and_right (f all_paths) _ (and_right (f name_once) _ (and_right (f open_braces) _ (and_right (f open_brackets) _ (and_right (f begins_sentence) _ p))))))

not_true : (b : Bool) → not b ≡ true → b ≡ false
not_true true p = sym p
not_true false p = refl

abbrev pub keeps_from : List Terminal → List Terminal → Bool
keeps_from u [] = true
keeps_from u (t ∷ v) = every (λ r. not (breaks r (u ++ (t ∷ [])))) && keeps_from (u ++ (t ∷ [])) v

kept_from : (u v : List Terminal) → Kept u → keeps_from u v ≡ true → Kept (u ++ v)
kept_from u [] k p = subst Kept (sym (append-nil u)) k
kept_from u (t ∷ v) k p =
    let e = and_left _ _ p in
    let here : Kept (u ++ (t ∷ [])) = kept_snoc u t k (λ r. breaks_false r _ (not_true _ (every_true (λ s. not (breaks s (u ++ (t ∷ [])))) e r))) in
    subst Kept (append_assoc u (t ∷ []) v) (kept_from (u ++ (t ∷ [])) v here (and_right (every (λ r. not (breaks r (u ++ (t ∷ []))))) _ p))

pub kept : (row : List Terminal) → keeps_from [] row ≡ true → Kept row
kept row p = kept_from [] row kept_nil p

when_true : (a b : Bool) → a ≡ true → cond a b true ≡ true → b ≡ true
when_true true b p q = q
when_true false b p q = absurd (both_ways false refl p)

abbrev pub first : Rule → List Terminal → Bool
first r row = breaks r row && every (λ s. cond (ltb (number s) (number r)) (not (breaks s row)) true)

pub told : (r : Rule) (row : List Terminal) → first r row ≡ true → Told r row
told r row p = record {
  broken = breaks_true r row (and_left _ _ p);
  smallest = λ s h. breaks_false s row (not_true _ (when_true (ltb (number s) (number r)) _ (lt-ltb _ _ h)
      (every_true (λ q. cond (ltb (number q) (number r)) (not (breaks q row)) true) (and_right (breaks r row) _ p) s)));
}
