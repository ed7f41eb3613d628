-- What stands behind the letter and the space of a line.
use Rattle.std.proofs.Common.{◌≡◌, ℕ, zero, suc, ◌+◌, ◌-◌, ◌*◌, ◌<◌, ◌≤◌, true, false, ◌≢◌, ◌⊎◌, List, [], ◌∷◌, ◌++◌, length, get_or, take, drop, sym, refl, ap, ◌∙◌, subst, inl, inr, arith}
use lib.Seq.{take-append-add}
use Rattle.std.specs.Str.Parse.{digits_value, AllDigits}
use Rattle.std.specs.Char.{digit_value, is_ascii_digit}
use Rattle.std.specs.List.{AllByRecursion, prefix_len}
use Rattle.std.proofs.lemmas.List.{append_assoc, length-append}
use Rattle.std.proofs.lemmas.Int.Digits.{digits_value_more}
use Rattle.std.proofs.lemmas.Str.Parse.{numerals_by_value, tells_digits, digits_value_short, digits_value-take-le}
use Rattle.std.proofs.lemmas.Bool.Decides.{nat_tests}
use Rattle.std.proofs.lemmas.Bool.{both_ways}
use Rattle.tokens.specs.Tokens.{byte, letter, digit, goes_on, in_name}
use Rattle.lines.specs.Lines.{IsName, IsTicket, Begins, Wrong, at_byte, stops_short}
use Rattle.lines.specs.Reads.{Longest, IsRank}
use Rattle.lines.proofs.Places.{Growing}
use Rattle.lines.proofs.Rows.{Told, growing, row_none, row_run, row_found}

pub first : {x y : ℕ} {xs ys : List ℕ} → x ∷ xs ≡ y ∷ ys → x ≡ y
first e = cc

-- ---- names and tickets
letter_is : (b : ℕ) → 97 ≤ b → b ≤ 122 → byte b ≡ letter
letter_is b l u = grind (arith, nat_tests)

letter_in : (b : ℕ) → byte b ≡ letter → (97 ≤ b) × (b ≤ 122)
letter_in b e = (grind (arith, nat_tests), grind (arith, nat_tests))

pub digit_is : (b : ℕ) → 48 ≤ b → b ≤ 57 → byte b ≡ digit
digit_is b l u = grind (arith, nat_tests)

digit_in : (b : ℕ) → byte b ≡ digit → (48 ≤ b) × (b ≤ 57)
digit_in b e = (grind (arith, nat_tests), grind (arith, nat_tests))

pub names : Growing IsName
names = growing (λ b. byte b ≡ letter) (λ b. in_name b ≡ true) 16 97 refl (omega arith)

pub tickets : Growing IsTicket
tickets = growing (λ b. (byte b ≡ digit) × (b ≢ 48)) (λ b. byte b ≡ digit) 7 49 (refl, omega arith) (omega arith)

name_told : Told (λ b. byte b ≡ letter) (λ b. in_name b ≡ true) in_name 97 122
name_told = record { first = letter_is; between = letter_in; yes = λ b e. e; no = λ b e. e; front = λ b e. ap goes_on e }

ticket_told : Told (λ b. (byte b ≡ digit) × (b ≢ 48)) (λ b. byte b ≡ digit) is_ascii_digit 49 57
ticket_told = record {
  first = λ b l u. (digit_is b (omega arith) u, omega arith);
  between = λ b h. let r = digit_in b h.0 in (omega (arith, h.1), r.1);
  yes = λ b e. grind (arith, nat_tests);
  no = λ b e. grind (arith, nat_tests);
  front = λ b h. h.0;
}

pub name_run : (xs : List ℕ) → 0 < length xs → 97 ≤ get_or xs 0 0 → get_or xs 0 0 ≤ 122 → Longest IsName xs (prefix_len in_name (take 16 xs))
name_run = row_run name_told 16 (omega arith)

pub no_name : (xs : List ℕ) → (0 < length xs → 97 ≤ get_or xs 0 0 → get_or xs 0 0 ≤ 122 → ⊥) → Longest IsName xs 0
no_name = row_none name_told 16

pub name_found : (xs : List ℕ) → (n : ℕ) × Longest IsName xs n
name_found = row_found name_told 16 (omega arith)

pub ticket_run : (xs : List ℕ) → 0 < length xs → 49 ≤ get_or xs 0 0 → get_or xs 0 0 ≤ 57 → Longest IsTicket xs (prefix_len is_ascii_digit (take 7 xs))
ticket_run = row_run ticket_told 7 (omega arith)

pub no_ticket : (xs : List ℕ) → (0 < length xs → 49 ≤ get_or xs 0 0 → get_or xs 0 0 ≤ 57 → ⊥) → Longest IsTicket xs 0
no_ticket = row_none ticket_told 7

pub ticket_found : (xs : List ℕ) → (n : ℕ) × Longest IsTicket xs n
ticket_found = row_found ticket_told 7 (omega arith)

-- ---- the number of a ticket
digit_small : (b : ℕ) → byte b ≡ digit → digit_value b < 10
digit_small b e = grind (arith, nat_tests)

pub digit_most : (b : ℕ) → byte b ≡ digit → digits_value 10 (b ∷ []) ≤ 9
digit_most b e = omega (arith, digit_small b e)

digit_worth : (b : ℕ) → byte b ≡ digit → digit_value b ≡ b - 48
digit_worth b e = grind (arith, nat_tests)

digits : (ds : List ℕ) → IsTicket ds → AllByRecursion (λ b. byte b ≡ digit) ds
digits [] h = absurd h
digits (d ∷ ds) h = (h.0.0, h.1)

digit_at : (ds : List ℕ) (i : ℕ) → AllByRecursion (λ b. byte b ≡ digit) ds → i < length ds → byte (get_or ds i 0) ≡ digit
digit_at [] i h lt = absurd (omega arith)
digit_at (d ∷ ds) zero h lt = h.0
digit_at (d ∷ ds) (suc i) h lt = digit_at ds i h.1 (omega arith)

all_small : (ds : List ℕ) → AllByRecursion (λ b. byte b ≡ digit) ds → AllDigits 10 ds
all_small [] h = tt
all_small (d ∷ ds) h = (digit_small d h.0, all_small ds h.1)

ticket_length : (ds : List ℕ) → IsTicket ds → length ds ≤ 7
ticket_length [] h = absurd h
ticket_length (d ∷ ds) h = h.2

pub ticket_more : (ds : List ℕ) (i : ℕ) → IsTicket ds → i < length ds → digits_value 10 (take (i + 1) ds) ≡ digits_value 10 (take i ds) * 10 + (get_or ds i 0 - 48)
ticket_more ds i h lt = digits_value_more 10 ds i lt ∙ ap (λ v. digits_value 10 (take i ds) * 10 + v) (digit_worth _ (digit_at ds i (digits ds h) lt))

pub ticket_small : (ds : List ℕ) (i : ℕ) → IsTicket ds → digits_value 10 (take i ds) ≤ 9999999
ticket_small ds i h =
    let whole = digits_value_short (numerals_by_value (AllDigits 10) tells_digits) ds 7 (all_small ds (digits ds h)) (ticket_length ds h) in
    omega (arith, digits_value-take-le 10 ds i (omega arith), whole)

abbrev NameBytes : List ℕ → Type 0
NameBytes = AllByRecursion (λ b. in_name b ≡ true)

name_bytes : (w : List ℕ) → IsName w → NameBytes w
name_bytes [] h = absurd h
name_bytes (b ∷ bs) h = (ap goes_on h.0, h.1)

-- a name that goes on behind another makes a name with one byte more
name_grows : (w : List ℕ) (y : ℕ) (ys : List ℕ) → IsName w → IsName (w ++ (y ∷ ys)) → IsName (w ++ (y ∷ []))
name_grows [] y ys h n = absurd h
name_grows (b ∷ bs) y ys h n = names.closed b (bs ++ (y ∷ [])) ys (subst (λ l. IsName (b ∷ l)) (sym (append_assoc bs (y ∷ []) ys)) n)

-- ---- the rank
pub rank_none : (t : List ℕ) → (0 < length t → get_or t 0 0 ≢ 32) → Wrong IsRank t 0
rank_none [] f = stops_short (32 ∷ 48 ∷ [], (48, refl, refl)) (λ h. let z = ap length h.1 in omega arith)
rank_none (x ∷ xs) f = at_byte (omega arith) (32 ∷ 48 ∷ [], (48, refl, refl)) (λ h. f (omega arith) (first h.1.1))

pub rank_space : (t : List ℕ) → 0 < length t → get_or t 0 0 ≡ 32 → (1 < length t → 48 ≤ get_or t 1 0 → get_or t 1 0 ≤ 57 → ⊥) → Wrong IsRank t 1
rank_space [] lt e f = absurd (omega arith)
rank_space (x ∷ []) lt e f = subst (λ y. Wrong IsRank (y ∷ []) 1) (sym e) (stops_short (48 ∷ [], (48, refl, refl)) (λ h. let z = ap length h.1 in omega arith))
rank_space (x ∷ d ∷ ds) lt e f =
    subst (λ y. Wrong IsRank (y ∷ d ∷ ds) 1) (sym e) (at_byte (omega arith) (48 ∷ [], (48, refl, refl)) (λ h. let r = digit_in d (subst (λ b. byte b ≡ digit) (sym (ap (λ l. get_or l 1 0) h.1.1)) h.1.2) in f (omega arith) r.0 r.1))

pub rank_over : (t : List ℕ) → 2 < length t → get_or t 0 0 ≡ 32 → 48 ≤ get_or t 1 0 → get_or t 1 0 ≤ 57 → Wrong IsRank t 2
rank_over [] lt e l u = absurd (omega arith)
rank_over (x ∷ []) lt e l u = absurd (omega arith)
rank_over (x ∷ d ∷ []) lt e l u = absurd (omega arith)
rank_over (x ∷ d ∷ c ∷ cs) lt e l u = at_byte (omega arith) ([], (d, ap (λ y. y ∷ d ∷ []) e, digit_is d l u)) (λ h. let z = ap length h.1.1 in omega arith)

pub rank_is : (t : List ℕ) → get_or t 0 0 ≡ 32 → length t ≡ 2 → t ≡ 32 ∷ get_or t 1 0 ∷ []
rank_is [] e l = absurd (omega arith)
rank_is (x ∷ []) e l = absurd (omega arith)
rank_is (x ∷ d ∷ []) e l = ap (λ y. y ∷ d ∷ []) e
rank_is (x ∷ d ∷ c ∷ cs) e l = absurd (omega arith)

-- ---- a name, a space and a digit
abbrev pub BeginRest : List ℕ → Type 0
BeginRest r = (w : List ℕ) × (d : ℕ) × (r ≡ w ++ (32 ∷ d ∷ [])) × IsName w × (byte d ≡ digit)

-- two rows of name bytes before the same bytes: they are one, or the second goes on
meet : (w v u s : List ℕ) (x : ℕ) → NameBytes w → NameBytes v → in_name x ≡ false → w ++ u ≡ v ++ (x ∷ s) →
    ((w ≡ v) × (u ≡ x ∷ s)) ⊎ ((y : ℕ) × (ys : List ℕ) × (us : List ℕ) × (v ≡ w ++ (y ∷ ys)) × (u ≡ y ∷ us))
meet [] [] u s x a b f e = inl (refl, e)
meet [] (y ∷ ys) u s x a b f e = inr (y, ys, ys ++ (x ∷ s), refl, e)
meet (c ∷ cs) [] u s x a b f e = absurd (both_ways (in_name x) f (subst (λ z. in_name z ≡ true) (first e) a.0))
meet (c ∷ cs) (y ∷ ys) u s x a b f e = go (meet cs ys u s x a.1 b.1 f (ap (drop 1) e))
  where
    go : ((cs ≡ ys) × (u ≡ x ∷ s)) ⊎ ((z : ℕ) × (zs : List ℕ) × (us : List ℕ) × (ys ≡ cs ++ (z ∷ zs)) × (u ≡ z ∷ us)) →
        ((c ∷ cs ≡ y ∷ ys) × (u ≡ x ∷ s)) ⊎ ((z : ℕ) × (zs : List ℕ) × (us : List ℕ) × (y ∷ ys ≡ c ∷ (cs ++ (z ∷ zs))) × (u ≡ z ∷ us))
    go (inl h) = inl (ap (λ l. c ∷ l) h.0 ∙ ap (λ z. z ∷ ys) (first e), h.1)
    go (inr h) = inr (h.0, h.1, h.2, ap (λ l. y ∷ l) h.3 ∙ ap (λ z. z ∷ (cs ++ (h.0 ∷ h.1))) (sym (first e)), h.4)

some_begin : Begins BeginRest []
some_begin = (97 ∷ 32 ∷ 48 ∷ [], (97 ∷ [], 48, refl, (refl, tt, omega arith), refl))

-- what begins so begins with a letter
begin_letter : (x : ℕ) (r w u : List ℕ) → IsName w → x ∷ r ≡ w ++ u → byte x ≡ letter
begin_letter x r [] u h e = absurd h
begin_letter x r (b ∷ bs) u h e = subst (λ c. byte c ≡ letter) (sym (first e)) h.0

pub begin_none : (rest : List ℕ) → Longest IsName rest 0 → Wrong BeginRest rest 0
begin_none [] l = stops_short some_begin (λ h. let z = ap length h.2 in omega (arith, length-append h.0 (32 ∷ h.1 ∷ [])))
begin_none (x ∷ xs) l =
    at_byte (omega arith) some_begin (λ h. l.longest 1 (omega arith) (omega arith) (begin_letter x h.0 h.1.0 (32 ∷ h.1.1 ∷ []) h.1.3 h.1.2, tt, omega arith))

same_first : (t r : List ℕ) (q : ℕ) → q < length t → (y : ℕ) (us : List ℕ) → take (suc q) t ++ r ≡ y ∷ us → (ys : List ℕ) × (t ≡ y ∷ ys)
same_first [] r q lt y us e = absurd (omega arith)
same_first (z ∷ zs) r q lt y us e = (zs, ap (λ x. x ∷ zs) (first e))

-- behind the longest name w stands t
module _ (w t : List ℕ) (name : IsName w) (longest : (y : ℕ) (ys : List ℕ) → t ≡ y ∷ ys → IsName (w ++ (y ∷ [])) → ⊥) where
  -- what goes along with the name and with the first byte of t has no other name
  only : (u : List ℕ) → ((y : ℕ) (us : List ℕ) → u ≡ y ∷ us → (ys : List ℕ) × (t ≡ y ∷ ys)) → BeginRest (w ++ u) → IsRank u
  only u same h = go (meet w h.0 u (h.1 ∷ []) 32 (name_bytes w name) (name_bytes h.0 h.3) refl h.2)
    where
      go : ((w ≡ h.0) × (u ≡ 32 ∷ h.1 ∷ [])) ⊎ ((y : ℕ) × (ys : List ℕ) × (us : List ℕ) × (h.0 ≡ w ++ (y ∷ ys)) × (u ≡ y ∷ us)) → IsRank u
      go (inl k) = (h.1, k.1, h.4)
      go (inr k) = let s = same k.0 k.2 k.4 in absurd (longest k.0 s.0 s.1 (name_grows w k.0 k.1 name (subst IsName k.3 h.3)))

  with_name : (u r : List ℕ) → IsRank (u ++ r) → BeginRest ((w ++ u) ++ r)
  with_name u r h = (w, h.0, append_assoc w u r ∙ ap (λ l. w ++ l) h.1, name, h.2)

  pub begin_wrong : (q : ℕ) → Wrong IsRank t q → Wrong BeginRest (w ++ t) (length w + q)
  begin_wrong q (at_byte {p = k} lt b n) =
      at_byte (omega (arith, length-append w t))
      (b.0, subst (λ l. BeginRest (l ++ b.0)) (sym (take-append-add w t k)) (with_name (take k t) b.0 b.1))
      (λ h. n (h.0, only (take (suc k) t ++ h.0) (same_first t h.0 k lt) (subst BeginRest (cut h.0) h.1)))
    where
      cut : (r : List ℕ) → take (suc (length w + k)) (w ++ t) ++ r ≡ w ++ (take (suc k) t ++ r)
      cut r =
          let e : suc (length w + k) ≡ length w + suc k = omega arith in
          ap (λ j. take j (w ++ t) ++ r) e ∙ ap (λ l. l ++ r) (take-append-add w t (suc k)) ∙ append_assoc w (take (suc k) t) r
  begin_wrong q (stops_short b n) =
      subst (λ k. Wrong BeginRest (w ++ t) k) (length-append w t) (stops_short (b.0, with_name t b.0 b.1) (λ h. n (only t (λ y us e. (us, e)) h)))
