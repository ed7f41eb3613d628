-- One more terminal: which rule it breaks, told from what stands before it.
use Rattle.std.proofs.Common.{◌≡◌, ℕ, ◌+◌, ◌<◌, ◌≤◌, Bool, true, false, cond, ◌≢◌, List, [], ◌∷◌, ◌++◌, length, sym, refl, ap, ◌∙◌, subst, append-nil, arith, length-append}
use Rattle.paths.specs.Grammar.{Terminal, path, word}
use Rattle.paths.specs.Words.{among, Distinct}
use Rattle.paths.specs.Sizes.{how_many, paths}
use Rattle.rules.specs.Automaton.{start, stuck, run}
use Rattle.rules.specs.Rules.{different, opening, closing, opened, closed, names_of, own_with, own_from}
use Rattle.rules.specs.Rules.{Rule, begins_sentence, open_brackets, open_braces, name_once, all_paths, all_names, all_occurrences, all_brackets, number, Breaks, Kept, Told}
use Rattle.rules.proofs.Among.{distinct_new, not_distinct, sure, different_snoc}
use Rattle.rules.proofs.Automaton.{viable}
use Rattle.rules.proofs.Decided.{kept_snoc, all_below_13}
use Rattle.rules.proofs.Rows.{many_append, names_append}
use Rattle.rules.proofs.Counts.{own_snoc}

abbrev and_then : List Terminal → Terminal → List Terminal
and_then row x = row ++ (x ∷ [])

pub none_breaks : (row : List Terminal) → Kept row → (r : Rule) → ¬ Breaks r row
none_breaks row k r = k row [] r (sym (append-nil row))

pub alive : (row : List Terminal) → Kept row → run start row ≢ stuck
alive row k e = none_breaks row k begins_sentence (λ b. (viable row).0 b e)

-- the numbers 4 to 12 below k, one by one
smaller : (row : List Terminal) (k : ℕ) → (4 < k → ¬ Breaks begins_sentence row) → (6 < k → ¬ Breaks open_brackets row) → (7 < k → ¬ Breaks open_braces row) →
    (8 < k → ¬ Breaks name_once row) → (9 < k → ¬ Breaks all_paths row) → (10 < k → ¬ Breaks all_names row) → (11 < k → ¬ Breaks all_occurrences row) →
    (12 < k → ¬ Breaks all_brackets row) → (s : Rule) → number s < k → ¬ Breaks s row
smaller row k b4 b6 b7 b8 b9 b10 b11 b12 begins_sentence h = b4 h
smaller row k b4 b6 b7 b8 b9 b10 b11 b12 open_brackets h = b6 h
smaller row k b4 b6 b7 b8 b9 b10 b11 b12 open_braces h = b7 h
smaller row k b4 b6 b7 b8 b9 b10 b11 b12 name_once h = b8 h
smaller row k b4 b6 b7 b8 b9 b10 b11 b12 all_paths h = b9 h
smaller row k b4 b6 b7 b8 b9 b10 b11 b12 all_names h = b10 h
smaller row k b4 b6 b7 b8 b9 b10 b11 b12 all_occurrences h = b11 h
smaller row k b4 b6 b7 b8 b9 b10 b11 b12 all_brackets h = b12 h

module _ (row : List Terminal) (x : Terminal) (k : Kept row) (goes : run start (and_then row x) ≢ stuck) where
  sentence_kept : ¬ Breaks begins_sentence (and_then row x)
  sentence_kept h = h ((viable (and_then row x)).1 goes)

  -- so many are open behind the row
  depth_kept : (d : ℕ) → d + closed 1 1 row ≡ opened 1 1 row → d + opening 1 1 x ≤ 16 → ¬ Breaks open_brackets (and_then row x)
  depth_kept d e h b = let i = many_append (opening 1 1) row (x ∷ []) in let j = many_append (closing 1 1) row (x ∷ []) in omega arith

  depth_broken : (d : ℕ) → d + closed 1 1 row ≡ opened 1 1 row → closing 1 1 x ≡ 0 → 16 < d + opening 1 1 x → Breaks open_brackets (and_then row x)
  depth_broken d e z h = let i = many_append (opening 1 1) row (x ∷ []) in let j = many_append (closing 1 1) row (x ∷ []) in omega arith

  braces_kept : (d : ℕ) → d + closed 0 1 row ≡ opened 0 1 row → d + opening 0 1 x ≤ 1 → ¬ Breaks open_braces (and_then row x)
  braces_kept d e h b = let i = many_append (opening 0 1) row (x ∷ []) in let j = many_append (closing 0 1) row (x ∷ []) in omega arith

  braces_broken : (d : ℕ) → d + closed 0 1 row ≡ opened 0 1 row → closing 0 1 x ≡ 0 → 1 < d + opening 0 1 x → Breaks open_braces (and_then row x)
  braces_broken d e z h = let i = many_append (opening 0 1) row (x ∷ []) in let j = many_append (closing 0 1) row (x ∷ []) in omega arith

  depth_same : opening 1 1 x ≡ 0 → ¬ Breaks open_brackets (and_then row x)
  depth_same e b =
      let i = many_append (opening 1 1) row (x ∷ []) in let j = many_append (closing 1 1) row (x ∷ []) in let n = none_breaks row k open_brackets in
      n (omega arith)

  braces_same : opening 0 1 x ≡ 0 → ¬ Breaks open_braces (and_then row x)
  braces_same e b =
      let i = many_append (opening 0 1) row (x ∷ []) in let j = many_append (closing 0 1) row (x ∷ []) in let n = none_breaks row k open_braces in
      n (omega arith)

  pairs_kept : opened 1 1 row + opening 1 1 x ≤ 256 → ¬ Breaks all_brackets (and_then row x)
  pairs_kept h b = let i = many_append (opening 1 1) row (x ∷ []) in omega arith

  pairs_broken : 256 < opened 1 1 row + opening 1 1 x → Breaks all_brackets (and_then row x)
  pairs_broken h = let i = many_append (opening 1 1) row (x ∷ []) in omega arith

  paths_kept : how_many paths row + paths x ≤ 32 → ¬ Breaks all_paths (and_then row x)
  paths_kept h b = let i = many_append paths row (x ∷ []) in omega arith

  paths_broken : 32 < how_many paths row + paths x → Breaks all_paths (and_then row x)
  paths_broken h = let i = many_append paths row (x ∷ []) in omega arith

  once_kept : Distinct (own_with x (own_from [] row)) → ¬ Breaks name_once (and_then row x)
  once_kept d b = b (subst Distinct (sym (own_snoc [] row x)) d)

  names_kept : different (names_of row ++ names_of (x ∷ [])) ≤ 64 → ¬ Breaks all_names (and_then row x)
  names_kept h b = let i = ap different (names_append row (x ∷ [])) in omega arith

  occurrences_kept : length (names_of row) + length (names_of (x ∷ [])) ≤ 256 → ¬ Breaks all_occurrences (and_then row x)
  occurrences_kept h b = let i = ap length (names_append row (x ∷ [])) in let j = length-append (names_of row) (names_of (x ∷ [])) in omega arith

  own_kept : Distinct (own_from [] row)
  own_kept = sure (own_from [] row) (none_breaks row k name_once)

  no_names : names_of (x ∷ []) ≡ [] → (¬ Breaks all_names (and_then row x)) × (¬ Breaks all_occurrences (and_then row x))
  no_names e = (
    names_kept (let i = ap (λ (w : List ℕ). different (names_of row ++ w)) e in let j = ap different (append-nil (names_of row)) in let n = none_breaks row k all_names in omega arith),
    occurrences_kept (let i = ap (λ (w : List ℕ). length w) e in let n = none_breaks row k all_occurrences in omega arith),
  )

  pairs_same : opening 1 1 x ≡ 0 → ¬ Breaks all_brackets (and_then row x)
  pairs_same e = pairs_kept (let n = none_breaks row k all_brackets in omega arith)

  paths_same : paths x ≡ 0 → ¬ Breaks all_paths (and_then row x)
  paths_same e = paths_kept (let n = none_breaks row k all_paths in omega arith)

  tell : (r : Rule) → Breaks r (and_then row x) → ((s : Rule) → number s < number r → ¬ Breaks s (and_then row x)) → Told r (and_then row x)
  tell r b s = record { broken = b; smallest = s }

  keep : ((s : Rule) → ¬ Breaks s (and_then row x)) → Kept (and_then row x)
  keep h = kept_snoc row x k h

-- ---- a name
module _ (row : List Terminal) (n : ℕ) (k : Kept row) (goes : run start (and_then row (word n)) ≢ stuck) where
  pub tell_again : among n (own_from [] row) ≡ true → Told name_once (and_then row (word n))
  tell_again e =
      tell row (word n) k goes name_once (λ d. not_distinct (own_from [] row) n e (subst Distinct (own_snoc [] row (word n)) d))
      (smaller _ 8 (λ _. sentence_kept row (word n) k goes) (λ _. depth_same row (word n) k goes refl) (λ _. braces_same row (word n) k goes refl)
      (λ h. absurd (omega arith)) (λ h. absurd (omega arith)) (λ h. absurd (omega arith)) (λ h. absurd (omega arith)) (λ h. absurd (omega arith)))

  once : among n (own_from [] row) ≡ false → ¬ Breaks name_once (and_then row (word n))
  once e = once_kept row (word n) k goes (distinct_new (own_from [] row) n (own_kept row (word n) k goes) e)

  pub tell_names : among n (own_from [] row) ≡ false → among n (names_of row) ≡ false → 64 ≤ different (names_of row) → Told all_names (and_then row (word n))
  tell_names e f h =
      tell row (word n) k goes all_names
      (let i = ap different (names_append row (word n ∷ [])) in let d = different_snoc [] (names_of row) n in
      let d' : different (names_of row ++ (n ∷ [])) ≡ different (names_of row) + cond false 0 1 = d ∙ ap (λ (c : Bool). different (names_of row) + cond c 0 1) f in omega arith)
      (smaller _ 10 (λ _. sentence_kept row (word n) k goes) (λ _. depth_same row (word n) k goes refl) (λ _. braces_same row (word n) k goes refl)
      (λ _. once e) (λ _. paths_same row (word n) k goes refl) (λ h. absurd (omega arith)) (λ h. absurd (omega arith)) (λ h. absurd (omega arith)))

  -- a name that is known, or for which there is a place
  abbrev pub HasPlace : Type 0
  HasPlace = among n (names_of row) ≡ false → different (names_of row) < 64

  placed : HasPlace → ¬ Breaks all_names (and_then row (word n))
  placed p = names_kept row (word n) k goes (go (among n (names_of row)) refl)
    where
      d : different (names_of row ++ (n ∷ [])) ≡ different (names_of row) + cond (among n (names_of row)) 0 1
      d = different_snoc [] (names_of row) n

      go : (c : Bool) → among n (names_of row) ≡ c → different (names_of row ++ (n ∷ [])) ≤ 64
      go true f = let d' = d ∙ ap (λ (c : Bool). different (names_of row) + cond c 0 1) f in let z = none_breaks row k all_names in omega arith
      go false f = let d' = d ∙ ap (λ (c : Bool). different (names_of row) + cond c 0 1) f in let z = p f in omega arith

  pub tell_occurrences : among n (own_from [] row) ≡ false → HasPlace → 256 ≤ length (names_of row) → Told all_occurrences (and_then row (word n))
  tell_occurrences e p h =
      tell row (word n) k goes all_occurrences
      (let i = ap length (names_append row (word n ∷ [])) in let j = length-append (names_of row) (n ∷ []) in omega arith)
      (smaller _ 11 (λ _. sentence_kept row (word n) k goes) (λ _. depth_same row (word n) k goes refl) (λ _. braces_same row (word n) k goes refl)
      (λ _. once e) (λ _. paths_same row (word n) k goes refl) (λ _. placed p) (λ h. absurd (omega arith)) (λ h. absurd (omega arith)))

  pub keep_name : among n (own_from [] row) ≡ false → HasPlace → length (names_of row) < 256 → Kept (and_then row (word n))
  keep_name e p h =
      keep row (word n) k goes (λ s.
      smaller _ 13 (λ _. sentence_kept row (word n) k goes) (λ _. depth_same row (word n) k goes refl) (λ _. braces_same row (word n) k goes refl)
      (λ _. once e) (λ _. paths_same row (word n) k goes refl) (λ _. placed p) (λ _. occurrences_kept row (word n) k goes (omega arith)) (λ _. pairs_same row (word n) k goes refl)
      s (all_below_13 s))

-- ---- a bracket that opens
-- a terminal that names nothing and begins no path
pub record Plain (x : Terminal) : Type 0 where
  pub nameless : names_of (x ∷ []) ≡ []
  pub inner : (ns : List ℕ) → own_with x ns ≡ ns
  pub inside : paths x ≡ 0

-- d brackets and e braces are open behind the row
module _ (row : List Terminal) (x : Terminal) (k : Kept row) (goes : run start (and_then row x) ≢ stuck) (opens : opening 1 1 x ≡ 1) (p : Plain x)
    (d e : ℕ) (open_now : d + closed 1 1 row ≡ opened 1 1 row) (braces_now : e + closed 0 1 row ≡ opened 0 1 row) where
  same_own : ¬ Breaks name_once (and_then row x)
  same_own = once_kept row x k goes (subst Distinct (sym (p.inner (own_from [] row))) (own_kept row x k goes))

  pub tell_depth : closing 1 1 x ≡ 0 → 16 ≤ d → Told open_brackets (and_then row x)
  tell_depth z h =
      tell row x k goes open_brackets (depth_broken row x k goes d open_now z (omega arith))
      (smaller _ 6 (λ _. sentence_kept row x k goes) (λ h. absurd (omega arith)) (λ h. absurd (omega arith)) (λ h. absurd (omega arith)) (λ h. absurd (omega arith))
      (λ h. absurd (omega arith)) (λ h. absurd (omega arith)) (λ h. absurd (omega arith)))

  pub tell_braces : closing 0 1 x ≡ 0 → d < 16 → 1 < e + opening 0 1 x → Told open_braces (and_then row x)
  tell_braces z g h =
      tell row x k goes open_braces (braces_broken row x k goes e braces_now z h)
      (smaller _ 7 (λ _. sentence_kept row x k goes) (λ _. depth_kept row x k goes d open_now (omega arith)) (λ h. absurd (omega arith)) (λ h. absurd (omega arith))
      (λ h. absurd (omega arith)) (λ h. absurd (omega arith)) (λ h. absurd (omega arith)) (λ h. absurd (omega arith)))

  pub tell_brackets : d < 16 → e + opening 0 1 x ≤ 1 → 256 ≤ opened 1 1 row → Told all_brackets (and_then row x)
  tell_brackets g f h =
      tell row x k goes all_brackets (pairs_broken row x k goes (omega arith))
      (smaller _ 12 (λ _. sentence_kept row x k goes) (λ _. depth_kept row x k goes d open_now (omega arith)) (λ _. braces_kept row x k goes e braces_now f)
      (λ _. same_own) (λ _. paths_same row x k goes p.inside) (λ _. (no_names row x k goes p.nameless).0) (λ _. (no_names row x k goes p.nameless).1) (λ h. absurd (omega arith)))

  pub keep_bracket : d < 16 → e + opening 0 1 x ≤ 1 → opened 1 1 row < 256 → Kept (and_then row x)
  keep_bracket g f h =
      keep row x k goes (λ s.
      smaller _ 13 (λ _. sentence_kept row x k goes) (λ _. depth_kept row x k goes d open_now (omega arith)) (λ _. braces_kept row x k goes e braces_now f)
      (λ _. same_own) (λ _. paths_same row x k goes p.inside) (λ _. (no_names row x k goes p.nameless).0) (λ _. (no_names row x k goes p.nameless).1)
      (λ _. pairs_kept row x k goes (omega arith)) s (all_below_13 s))

-- ---- the word `path`
module _ (row : List Terminal) (k : Kept row) (goes : run start (and_then row path) ≢ stuck) where
  new_own : ¬ Breaks name_once (and_then row path)
  new_own = once_kept row path k goes tt

  pub tell_paths : 32 ≤ how_many paths row → Told all_paths (and_then row path)
  tell_paths h =
      tell row path k goes all_paths (paths_broken row path k goes (omega arith))
      (smaller _ 9 (λ _. sentence_kept row path k goes) (λ _. depth_same row path k goes refl) (λ _. braces_same row path k goes refl) (λ _. new_own)
      (λ h. absurd (omega arith)) (λ h. absurd (omega arith)) (λ h. absurd (omega arith)) (λ h. absurd (omega arith)))

  pub keep_path : how_many paths row < 32 → Kept (and_then row path)
  keep_path h =
      keep row path k goes (λ s.
      smaller _ 13 (λ _. sentence_kept row path k goes) (λ _. depth_same row path k goes refl) (λ _. braces_same row path k goes refl) (λ _. new_own)
      (λ _. paths_kept row path k goes (omega arith)) (λ _. (no_names row path k goes refl).0) (λ _. (no_names row path k goes refl).1) (λ _. pairs_same row path k goes refl) s (all_below_13 s))

-- ---- what else the grammar lets through
module _ (row : List Terminal) (x : Terminal) (k : Kept row) (goes : run start (and_then row x) ≢ stuck) (shut : opening 1 1 x ≡ 0) (shut' : opening 0 1 x ≡ 0) (p : Plain x) where
  pub keep_other : Kept (and_then row x)
  keep_other =
      keep row x k goes (λ s.
      smaller _ 13 (λ _. sentence_kept row x k goes) (λ _. depth_same row x k goes shut) (λ _. braces_same row x k goes shut')
      (λ _. once_kept row x k goes (subst Distinct (sym (p.inner (own_from [] row))) (own_kept row x k goes))) (λ _. paths_same row x k goes p.inside)
      (λ _. (no_names row x k goes p.nameless).0) (λ _. (no_names row x k goes p.nameless).1) (λ _. pairs_same row x k goes shut) s (all_below_13 s))

-- ---- what the grammar does not let through
pub tell_sentence : (row : List Terminal) → run start row ≡ stuck → Told begins_sentence row
tell_sentence row e = record {
  broken = λ b. (viable row).0 b e;
  smallest = smaller row 4 (λ h. absurd (omega arith)) (λ h. absurd (omega arith)) (λ h. absurd (omega arith)) (λ h. absurd (omega arith))
      (λ h. absurd (omega arith)) (λ h. absurd (omega arith)) (λ h. absurd (omega arith)) (λ h. absurd (omega arith));
}
