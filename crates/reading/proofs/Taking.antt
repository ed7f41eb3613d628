-- One token more is taken, or passes a limit.
use Rattle.std.proofs.Common.{◌≡◌, ℕ, ◌+◌, ◌<◌, ◌≤◌, true, false, ◌≢◌, List, [], ◌∷◌, ◌++◌, length, Option, Result, sym, refl, ap, ◌∙◌, subst, arith}
use native.Mathlib.Decide.{dec_lt}
use Rattle.std.proofs.lemmas.Bool.{both_ways}
use Rattle.std.proofs.lemmas.List.{get_or_past}
use Rattle.table.specs.Contents.{contents}
use Rattle.paths.specs.Grammar.{Terminal, semicolon, comma, round_open, round_close, brace_open, brace_close, path, end, word}
use Rattle.paths.specs.Words.{among}
use Rattle.tokens.specs.declared.Kind.{Kind}
use Rattle.tokens.specs.declared.Kind.TheVariants.{Semicolon, Comma, RoundOpen, RoundClose, BraceOpen, BraceClose, Path, End, Name}
use Rattle.tokens.specs.declared.Token.{Token}
use Rattle.tokens.specs.declared.BytesFault.{BytesFault}
use Rattle.tokens.specs.Tokens.{tokens, spelling, number_of}
use Rattle.rules.specs.Names.{firsts, terminal_of, terminal}
use Rattle.rules.specs.Rules.{opening, closing, opened, closed, names_of, own_from, different}
use Rattle.rules.specs.Rules.{Rule, open_brackets, open_braces, name_once, all_paths, all_names, all_occurrences, all_brackets, number, Kept, Told}
use Rattle.rules.specs.Reader.{Reached}
use Rattle.rules.specs.Automaton.{start, stuck, run}
use Rattle.rules.proofs.Automaton.{run_append}
use Rattle.rules.proofs.Rows.{many_append}
use Rattle.rules.proofs.Counts.{brackets_open}
use Rattle.rules.proofs.Numbers.{numbered, numbers_stay, room_enough, number_bound, new_name, has_place}
use Rattle.rules.proofs.Admit.{Plain, tell_again, tell_names, tell_occurrences, keep_name, tell_depth, tell_braces, tell_brackets, keep_bracket, tell_paths, keep_path, keep_other}
use Rattle.rules.proofs.Steps.{one_more}
use Rattle.reading.specs.declared.Limit.{Limit}
use Rattle.reading.specs.declared.Limit.TheVariants.{OpenBrackets, OpenBraces, NameOnce, Paths, Names, Occurrences, Brackets}
use Rattle.reading.specs.Faults.{limit_number}
use Rattle.reading.specs.declared.Reading.{Reading}
use Rattle.reading.specs.Counting.{known_as, marked, Closable, Allowed, Passes}
use Rattle.reading.specs.Standing.{Follows}
use Rattle.reading.specs.State.{bytes, taken, row, Fits}

-- the rule that a limit stands for
abbrev pub rule_of : Limit → Rule
rule_of OpenBrackets = open_brackets
rule_of OpenBraces = open_braces
rule_of NameOnce = name_once
rule_of Paths = all_paths
rule_of Names = all_names
rule_of Occurrences = all_occurrences
rule_of Brackets = all_brackets

pub same_number : (l : Limit) → number (rule_of l) ≡ limit_number l
same_number OpenBrackets = refl
same_number OpenBraces = refl
same_number NameOnce = refl
same_number Paths = refl
same_number Names = refl
same_number Occurrences = refl
same_number Brackets = refl

-- only a name's terminal has a number
same_terminal : (k : Kind) (m n : ℕ) → (k ≡ Name → m ≡ n) → terminal_of k m ≡ terminal_of k n
same_terminal Semicolon m n h = refl
same_terminal Comma m n h = refl
same_terminal RoundOpen m n h = refl
same_terminal RoundClose m n h = refl
same_terminal BraceOpen m n h = refl
same_terminal BraceClose m n h = refl
same_terminal Path m n h = refl
same_terminal End m n h = refl
same_terminal Name m n h = ap word (h refl)

word_number : (k : Kind) (m n : ℕ) → terminal_of k m ≡ word n → m ≡ n
word_number Semicolon m n p = cc
word_number Comma m n p = cc
word_number RoundOpen m n p = cc
word_number RoundClose m n p = cc
word_number BraceOpen m n p = cc
word_number BraceClose m n p = cc
word_number Path m n p = cc
word_number End m n p = cc
word_number Name m n p = cc

-- a terminal does not both open and close
one_way : (r b : ℕ) (y : Terminal) (d : ℕ) → closing r b y ≤ d + opening r b y → closing r b y ≤ d
one_way r b semicolon d h = omega arith
one_way r b comma d h = omega arith
one_way r b round_open d h = omega arith
one_way r b round_close d h = omega arith
one_way r b brace_open d h = omega arith
one_way r b brace_close d h = omega arith
one_way r b path d h = omega arith
one_way r b end d h = omega arith
one_way r b (word n) d h = omega arith

-- a terminal that opens a bracket does nothing else
record Opening (y : Terminal) : Type 0 where
  plain : Plain y
  none_closes : closing 1 1 y ≡ 0

opening_is : (y : Terminal) → opening 1 1 y ≡ 1 → Opening y
opening_is semicolon o = absurd (omega (arith, o))
opening_is comma o = absurd (omega (arith, o))
opening_is round_open o = record { plain = record { nameless = refl; inner = λ ns. refl; inside = refl }; none_closes = refl }
opening_is round_close o = absurd (omega (arith, o))
opening_is brace_open o = record { plain = record { nameless = refl; inner = λ ns. refl; inside = refl }; none_closes = refl }
opening_is brace_close o = absurd (omega (arith, o))
opening_is path o = absurd (omega (arith, o))
opening_is end o = absurd (omega (arith, o))
opening_is (word n) o = absurd (omega (arith, o))

-- ---- the token that follows
module _ (r : Reading) (t : Token) (f : Fits t r) where
  pub reached : Reached (bytes r) (taken r ++ (t ∷ [])) r.source.place
  reached = subst (λ (a : Result (Option Token) BytesFault). Follows (bytes r) (taken r) r.source.place a) f.0 r.follows

  after : List Token
  after = (one_more (bytes r) (taken r) r.source.place t reached).0

  cut : tokens (bytes r) ≡ taken r ++ (t ∷ after)
  unfolding after
  cut = (one_more (bytes r) (taken r) r.source.place t reached).1

  abbrev pub terminal_now : Terminal
  terminal_now = known_as (bytes r) (contents r.names.now) t

  -- its number is known
  pub known : terminal (bytes r) t ≡ terminal_now
  known =
      same_terminal t.kind _ _ (λ e. word_number t.kind _ _ (numbers_stay (bytes r) (taken r) after t cut e))
      ∙ ap (λ fs. terminal_of t.kind (number_of (bytes r) fs (spelling (bytes r) t))) (sym r.listed)

  pub goes : run start (row r ++ (terminal_now ∷ [])) ≢ stuck
  goes p = f.1 (sym (run_append start (row r) (terminal (bytes r) t ∷ [])) ∙ ap (λ (x : Terminal). run start (row r ++ (x ∷ []))) known ∙ p)

  -- what closes was open
  closes : (x b k : ℕ) → k + closed x b (row r) ≡ opened x b (row r) → closing x b terminal_now ≤ k
  closes x b k e =
      let i = brackets_open x b (row r ++ (terminal_now ∷ [])) goes in
      let j = many_append (opening x b) (row r) (terminal_now ∷ []) in
      let l = many_append (closing x b) (row r) (terminal_now ∷ []) in
      one_way x b terminal_now k (omega arith)

  pub closable : Closable terminal_now r.counts
  closable = (closes 1 1 _ r.counted.depth, closes 0 1 _ r.counted.braces)

  -- ---- a name
  few_firsts : length (firsts (bytes r) (taken r)) ≤ 64
  few_firsts = (room_enough (bytes r) (taken r) (t ∷ after) cut r.kept).1

  number_low : (n : ℕ) → terminal_now ≡ word n → n ≤ length (firsts (bytes r) (taken r))
  number_low n e =
      let k = word_number t.kind _ n e in
      let b = number_bound (bytes r) (contents r.names.now) (spelling (bytes r) t) in
      let l = ap length r.listed in
      omega arith

  -- a number that is marked is low
  low : (n : ℕ) → Dec (n < 64) → marked r.counts n ≡ true → n < 64
  low n (yes l) m = l
  low n (no l) m = absurd (both_ways _ (get_or_past r.counts.own n false (let w = r.counted.own.wide in omega arith)) m)

  again : (n : ℕ) → marked r.counts n ≡ true → among n (own_from [] (row r)) ≡ true
  again n m = sym (r.counted.own.marks n (low n (dec_lt n 64) m)) ∙ m

  not_again : (n : ℕ) → marked r.counts n ≡ false → among n (own_from [] (row r)) ≡ false
  not_again n m = go (dec_lt n 64)
    where
      go : Dec (n < 64) → among n (own_from [] (row r)) ≡ false
      go (yes l) = sym (r.counted.own.marks n l) ∙ m
      go (no l) = let k = few_firsts in (new_name (bytes r) (taken r) (t ∷ after) n cut (omega arith)).1

  -- ---- which limit it passes
  placed : (n : ℕ) → n < 64 → among n (names_of (row r)) ≡ false → different (names_of (row r)) < 64
  placed n l = has_place (bytes r) (taken r) (t ∷ after) n cut l

  -- the terminal by its name
  at : (x : Rule) (y : Terminal) → terminal_now ≡ y → Told x (row r ++ (y ∷ [])) → Told x (row r ++ (terminal_now ∷ []))
  at x y e = subst (λ (y : Terminal). Told x (row r ++ (y ∷ []))) (sym e)

  goes_at : (y : Terminal) → terminal_now ≡ y → run start (row r ++ (y ∷ [])) ≢ stuck
  goes_at y e p = goes (ap (λ (y : Terminal). run start (row r ++ (y ∷ []))) e ∙ p)

  pub limit_told : (l : Limit) → Passes terminal_now r.counts l → Told (rule_of l) (row r ++ (terminal_now ∷ []))
  limit_told OpenBrackets k =
      let o = opening_is terminal_now k.0 in
      tell_depth (row r) terminal_now r.kept goes k.0 o.plain _ _ r.counted.depth r.counted.braces o.none_closes k.1
  limit_told OpenBraces k =
      at open_braces brace_open k.0
      (tell_braces (row r) brace_open r.kept (goes_at brace_open k.0) refl (opening_is brace_open refl).plain _ _ r.counted.depth r.counted.braces refl k.1 (omega (arith, k.2)))
  limit_told NameOnce k = at name_once (word k.0) k.1 (tell_again (row r) k.0 r.kept (goes_at (word k.0) k.1) (again k.0 k.2))
  limit_told Paths k = at all_paths path k.0 (tell_paths (row r) r.kept (goes_at path k.0) (omega (arith, k.1, r.counted.paths)))
  limit_told Names k =
      let n = k.0 in
      let a = number_low n k.1 in
      let c = (numbered (bytes r) (taken r) (t ∷ after) cut).count in
      let l = few_firsts in
      let m = k.3 in
      at all_names (word n) k.1
      (tell_names (row r) n r.kept (goes_at (word n) k.1) (not_again n k.2) (new_name (bytes r) (taken r) (t ∷ after) n cut (omega arith)).0 (omega arith))
  limit_told Occurrences k =
      at all_occurrences (word k.0) k.1
      (tell_occurrences (row r) k.0 r.kept (goes_at (word k.0) k.1) (not_again k.0 k.2) (placed k.0 k.3) (omega (arith, k.4, r.counted.occurrences)))
  limit_told Brackets k =
      let o = opening_is terminal_now k.0 in
      tell_brackets (row r) terminal_now r.kept goes k.0 o.plain _ _ r.counted.depth r.counted.braces k.1 k.2 (omega (arith, k.3, r.counted.brackets))

  -- ---- or none
  bracket_kept : (y : Terminal) → opening 1 1 y ≡ 1 → run start (row r ++ (y ∷ [])) ≢ stuck → r.counts.depth < 16 → r.counts.braces + opening 0 1 y ≤ 1 →
      r.counts.brackets < 256 → Kept (row r ++ (y ∷ []))
  bracket_kept y o g i j k =
      keep_bracket (row r) y r.kept g o (opening_is y o).plain _ _ r.counted.depth r.counted.braces i j (omega (arith, k, r.counted.brackets))

  other_kept : (y : Terminal) → opening 1 1 y ≡ 0 → opening 0 1 y ≡ 0 → Plain y → run start (row r ++ (y ∷ [])) ≢ stuck → Kept (row r ++ (y ∷ []))
  other_kept y o p q g = keep_other (row r) y r.kept g o p q

  pub allowed_kept : Allowed terminal_now r.counts → Kept (row r ++ (terminal_now ∷ []))
  allowed_kept a = go terminal_now goes a
    where
      go : (y : Terminal) → run start (row r ++ (y ∷ [])) ≢ stuck → Allowed y r.counts → Kept (row r ++ (y ∷ []))
      go semicolon g a = other_kept semicolon refl refl (record { nameless = refl; inner = λ ns. refl; inside = refl }) g
      go comma g a = other_kept comma refl refl (record { nameless = refl; inner = λ ns. refl; inside = refl }) g
      go round_open g a = bracket_kept round_open refl g a.0 (omega (arith, r.counts.single)) a.1
      go round_close g a = other_kept round_close refl refl (record { nameless = refl; inner = λ ns. refl; inside = refl }) g
      go brace_open g a = bracket_kept brace_open refl g a.0 (omega (arith, a.1)) a.2
      go brace_close g a = other_kept brace_close refl refl (record { nameless = refl; inner = λ ns. refl; inside = refl }) g
      go path g a = keep_path (row r) r.kept g (let e = r.counted.paths in omega arith)
      go end g a = other_kept end refl refl (record { nameless = refl; inner = λ ns. refl; inside = refl }) g
      go (word n) g a = keep_name (row r) n r.kept g (not_again n a.0) (placed n a.1) (let m = a.2 in let e = r.counted.occurrences in omega arith)
