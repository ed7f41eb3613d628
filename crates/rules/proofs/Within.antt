-- A row keeps the rules exactly when its derivation is within the limits.
use Rattle.std.proofs.Common.{◌≡◌, ℕ, ◌-◌, ◌<◌, ◌≤◌, ◌⊎◌, List, [], ◌∷◌, ◌++◌, length, sym, refl, ap, ◌∙◌, subst, inl, inr, append-nil, arith, length-append}
use Rattle.paths.specs.Grammar.{Terminal, semicolon, comma, round_open, round_close, brace_open, brace_close, path, end, word, Text, one, more, yield_text}
use Rattle.paths.specs.Texts.{EachProper}
use Rattle.paths.specs.Sizes.{how_many, names, brackets, paths}
use Rattle.paths.proofs.Unambiguous.{unambiguous}
use Rattle.rules.specs.Rules.{opening, opened, closed, names_of, different, depth_of_text, Within, LimitsCount}
use Rattle.rules.specs.Rules.{Rule, begins_sentence, open_brackets, open_braces, name_once, all_paths, all_names, all_occurrences, all_brackets, Breaks, Kept}
use Rattle.rules.specs.Faults.{Accepted, Derivable, Acceptance, OneDerivation, ToldOrDerived, FirstFault}
use Rattle.rules.proofs.Among.{sure, different_mono}
use Rattle.rules.proofs.Rows.{many_append, names_append, names_text, brackets_text, paths_text}
use Rattle.rules.proofs.Nesting.{Each, Low, Nested, low_prefix, prefix_low, low_text, text_low, all_sequence, braces_sequence}
use Rattle.rules.proofs.Fresh.{Fresh, Once, fresh_prefix, prefix_fresh, fresh_text, text_fresh}
use Rattle.rules.proofs.Scan.{Passes, outcome, passes_no_fault}

-- ---- path by path
each_proper : (t : Text) → Each (Nested 0 1 1) t → Each Once t → EachProper t
each_proper (one s) y z = record { distinct = z; unnested = let e = braces_sequence s in omega arith }
each_proper (more s t) y z = (record { distinct = z.0; unnested = let e = braces_sequence s in let h = y.0 in omega arith }, each_proper t y.1 z.1)

proper_braces : (t : Text) → EachProper t → Each (Nested 0 1 1) t
proper_braces (one s) w = let e = braces_sequence s in let h = w.unnested in omega arith
proper_braces (more s t) w = (let e = braces_sequence s in let h = w.0.unnested in omega arith, proper_braces t w.1)

proper_once : (t : Text) → EachProper t → Each Once t
proper_once (one s) w = w.distinct
proper_once (more s t) w = (w.0.distinct, proper_once t w.1)

nested_depth : (t : Text) → Each (Nested 1 1 16) t → depth_of_text t ≤ 16
nested_depth (one s) x = let e = all_sequence s in omega arith
nested_depth (more s t) x = let e = all_sequence s in let h = x.0 in let i = nested_depth t x.1 in omega arith

depth_nested : (t : Text) → depth_of_text t ≤ 16 → Each (Nested 1 1 16) t
depth_nested (one s) h = let e = all_sequence s in omega arith
depth_nested (more s t) h = (let e = all_sequence s in omega arith, depth_nested t (omega arith))

-- ---- row and derivation
kept_low : (r b k : ℕ) (row : List Terminal) → ((u v : List Terminal) → row ≡ u ++ v → ¬ (k < opened r b u - closed r b u)) → Low r b k 0 0 row
kept_low r b k row h = prefix_low r b k row 0 0 (λ u v p. let i = h u v p in omega arith)

pub kept_within : (t : Text) → Kept (yield_text t) → Within t
kept_within t k =
    let row = yield_text t in
    let all : (r : Rule) → ¬ Breaks r row = λ r. k row [] r (sym (append-nil row)) in
    record {
      proper = each_proper t
          (low_text 0 1 1 t (kept_low 0 1 1 row (λ u v p. k u v open_braces p)))
          (fresh_text t [] (prefix_fresh row [] (λ u v p. sure _ (k u v name_once p))));
      depth = nested_depth t (low_text 1 1 16 t (kept_low 1 1 16 row (λ u v p. k u v open_brackets p)));
      paths = let e = paths_text t in let h = all all_paths in omega arith;
      names = let e = ap different (names_text t) in let h = all all_names in omega arith;
      occurrences = let e = ap length (names_text t) in let h = all all_occurrences in omega arith;
      brackets = let e = brackets_text t in let h = all all_brackets in omega arith;
    }

within_kept : (t : Text) → Within t → Kept (yield_text t)
within_kept t w u v begins_sentence p h = h (v, (t, p))
within_kept t w u v open_brackets p h =
    let l = low_prefix 1 1 16 u v 0 0 (omega arith) (subst (Low 1 1 16 0 0) p (text_low 1 1 16 t (depth_nested t w.depth))) in omega arith
within_kept t w u v open_braces p h =
    let l = low_prefix 0 1 1 u v 0 0 (omega arith) (subst (Low 0 1 1 0 0) p (text_low 0 1 1 t (proper_braces t w.proper))) in omega arith
within_kept t w u v name_once p h =
    h (fresh_prefix u v [] tt (subst (Fresh []) p (text_fresh t [] (proper_once t w.proper))))
within_kept t w u v all_paths p h =
    let e = paths_text t in let f = ap (how_many paths) p in let g = many_append paths u v in let k = w.paths in omega arith
within_kept t w u v all_names p h =
    let e = ap different (names_text t) in let f = ap (λ (x : List Terminal). different (names_of x)) p in let g = ap different (names_append u v) in
    let m = different_mono [] (names_of u) (names_of v) in let k = w.names in omega arith
within_kept t w u v all_occurrences p h =
    let e = ap length (names_text t) in let f = ap (λ (x : List Terminal). length (names_of x)) p in let g = ap length (names_append u v) in
    let m = length-append (names_of u) (names_of v) in let k = w.occurrences in omega arith
within_kept t w u v all_brackets p h =
    let e = brackets_text t in let f = ap (opened 1 1) p in let g = many_append (opening 1 1) u v in let k = w.brackets in omega arith

pub one_derivation : OneDerivation
one_derivation text t t' d d' = unambiguous t t' (d.yields ∙ sym d'.yields)

passes_derived : (text : List ℕ) → Passes text → Derivable text
passes_derived text s =
    let t = s.sentence.0 in
    let e = s.sentence.1 in
    (t, record { whole = s.whole; yields = e }, kept_within t (subst Kept (sym e) s.keeps), s.short)

derived_passes : (text : List ℕ) → Derivable text → Passes text
derived_passes text d = record {
  short = d.3;
  whole = d.1.whole;
  keeps = subst Kept d.1.yields (within_kept d.0 d.2);
  sentence = (d.0, d.1.yields);
}

pub told_or_derived : ToldOrDerived
told_or_derived text = go (outcome text)
  where
    go : Passes text ⊎ ((n p : ℕ) × FirstFault text n p) → Derivable text ⊎ ((n p : ℕ) × FirstFault text n p)
    go (inl s) = inl (passes_derived text s)
    go (inr f) = inr f

pub acceptance : Acceptance
acceptance text = (there (told_or_derived text), λ d n p f. passes_no_fault text (derived_passes text d) f.1)
  where
    there : Derivable text ⊎ ((n p : ℕ) × FirstFault text n p) → Accepted text → Derivable text
    there (inl d) a = d
    there (inr f) a = absurd (a f.0 f.1 f.2)

-- ---- the limits, counted on the terminals
pub count_names : (row : List Terminal) → how_many names row ≡ length (names_of row)
count_names [] = refl
count_names (semicolon ∷ row) = let i = count_names row in omega arith
count_names (comma ∷ row) = let i = count_names row in omega arith
count_names (round_open ∷ row) = let i = count_names row in omega arith
count_names (round_close ∷ row) = let i = count_names row in omega arith
count_names (brace_open ∷ row) = let i = count_names row in omega arith
count_names (brace_close ∷ row) = let i = count_names row in omega arith
count_names (path ∷ row) = let i = count_names row in omega arith
count_names (end ∷ row) = let i = count_names row in omega arith
count_names (word n ∷ row) = let i = count_names row in omega arith

count_brackets : (row : List Terminal) → how_many brackets row ≡ opened 1 1 row
count_brackets [] = refl
count_brackets (semicolon ∷ row) = let i = count_brackets row in omega arith
count_brackets (comma ∷ row) = let i = count_brackets row in omega arith
count_brackets (round_open ∷ row) = let i = count_brackets row in omega arith
count_brackets (round_close ∷ row) = let i = count_brackets row in omega arith
count_brackets (brace_open ∷ row) = let i = count_brackets row in omega arith
count_brackets (brace_close ∷ row) = let i = count_brackets row in omega arith
count_brackets (path ∷ row) = let i = count_brackets row in omega arith
count_brackets (end ∷ row) = let i = count_brackets row in omega arith
count_brackets (word n ∷ row) = let i = count_brackets row in omega arith

pub limits_count : LimitsCount
limits_count t w = (
  (let e = count_names (yield_text t) in let f = ap length (names_text t) in let k = w.occurrences in omega arith),
  (let e = count_brackets (yield_text t) in let f = brackets_text t in let k = w.brackets in omega arith),
  (let e = paths_text t in let k = w.paths in omega arith),
)
