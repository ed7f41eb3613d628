-- Names are numbered by first occurrence, and the number does not change as more is read.
use Rattle.std.proofs.Common.{◌≡◌, ℕ, suc, ◌+◌, ◌<◌, ◌≤◌, Bool, true, false, cond, not, ◌&&◌, ◌||◌, eqb, ltb, ◌≢◌, List, [], ◌∷◌, ◌++◌, length, get_or, sym, refl, ap, ◌∙◌, subst, append_assoc, append-nil, arith, length-append, ltb-false, le-ltb, eqb-true}
use lib.ListN.{length-map}
use borrow.Author.Tests.{eqb-false}
use Rattle.std.specs.List.{prefix_len}
use Rattle.std.specs.Str.{bytes_eq}
use Rattle.std.proofs.lemmas.Slice.Eq.{bytes_eq-Decides}
use Rattle.std.proofs.lemmas.List.{map-append}
use Rattle.std.proofs.lemmas.Bool.Decides.{nat_tests}
use Rattle.paths.specs.Grammar.{Text, word}
use Rattle.paths.specs.Words.{among}
use Rattle.paths.specs.Texts.{names_of_text}
use Rattle.tokens.specs.declared.Kind.{Kind}
use Rattle.tokens.specs.declared.Kind.TheVariants.{Semicolon, Comma, RoundOpen, RoundClose, BraceOpen, BraceClose, Path, End, Name}
use Rattle.tokens.specs.declared.Token.{Token}
use Rattle.tokens.specs.declared.Name.{Name as First}
use Rattle.tokens.specs.Tokens.{spelled, spelling, number_of, tokens}
use Rattle.rules.specs.Names.{is_name, first_of, with_first, firsts_from, firsts, terminal_of, terminal, terminals, NumbersTellNames, NumbersStay}
use Rattle.rules.specs.Rules.{different, names_of, own_from, all_names}
use Rattle.rules.specs.Faults.{Derives, RoomEnough, NamesNumbered, NamesCounted}
use Rattle.rules.proofs.Among.{among_snoc, different_snoc}
use Rattle.rules.proofs.Rows.{names_append, names_text}
use Rattle.rules.proofs.Counts.{kept_length, own_among}

abbrev spelled_first : List ℕ → First → List ℕ
spelled_first text u = spelled text u.place u.len

-- ---- the place of the first that passes a test
module _ {A : Type 0} (p : A → Bool) where
  leading_bound : (xs : List A) → prefix_len p xs ≤ length xs
  leading_bound [] = omega arith
  leading_bound (x ∷ xs) = go (p x) (leading_bound xs)
    where
      go : (c : Bool) → prefix_len p xs ≤ length xs → cond c (1 + prefix_len p xs) 0 ≤ suc (length xs)
      go true h = omega arith
      go false h = omega arith

  -- more behind does not change it
  leading_more : (xs ys : List A) → prefix_len p xs < length xs → prefix_len p (xs ++ ys) ≡ prefix_len p xs
  leading_more [] ys h = absurd (omega arith)
  leading_more (x ∷ xs) ys h = go (p x) refl (leading_more xs ys)
    where
      go : (c : Bool) → p x ≡ c → (prefix_len p xs < length xs → prefix_len p (xs ++ ys) ≡ prefix_len p xs) → cond (p x) (1 + prefix_len p (xs ++ ys)) 0 ≡ cond (p x) (1 + prefix_len p xs) 0
      go true e i = rw e (let k : cond (p x) (1 + prefix_len p xs) 0 < suc (length xs) = h in let k' : 1 + prefix_len p xs < suc (length xs) = rw e at k in let j = i (omega arith) in omega arith)
      go false e i = rw e refl

  leading_all : (xs : List A) (y : A) → prefix_len p xs ≡ length xs → p y ≡ false → prefix_len p (xs ++ (y ∷ [])) ≡ length xs
  leading_all [] y h q = rw q refl
  leading_all (x ∷ xs) y h q = go (p x) refl (leading_all xs y)
    where
      go : (c : Bool) → p x ≡ c → (prefix_len p xs ≡ length xs → p y ≡ false → prefix_len p (xs ++ (y ∷ [])) ≡ length xs) → cond (p x) (1 + prefix_len p (xs ++ (y ∷ []))) 0 ≡ suc (length xs)
      go true e i = let k : 1 + prefix_len p xs ≡ suc (length xs) = rw e at h in rw e (let j = i (omega arith) q in omega arith)
      go false e i = absurd (let k : ◌≡◌ {A = ℕ} 0 (suc (length xs)) = rw e at h in omega arith)

module _ (text : List ℕ) where
  -- a token is spelled as itself
  self : (t : Token) → not (bytes_eq (spelling text t) (spelling text t)) ≡ false
  self t = ap not ((bytes_eq-Decides (spelling text t) (spelling text t)).1 refl)

  firsts_append : (known : List First) (us vs : List Token) → firsts_from text known (us ++ vs) ≡ firsts_from text (firsts_from text known us) vs
  firsts_append known [] vs = refl
  firsts_append known (t ∷ us) vs = firsts_append (with_first text known t) us vs

  pub firsts_snoc : (before : List Token) (t : Token) → firsts text (before ++ (t ∷ [])) ≡ with_first text (firsts text before) t
  firsts_snoc before t = firsts_append [] before (t ∷ [])

  -- those known stay in front
  firsts_front : (known : List First) (ts : List Token) → (more : List First) × (firsts_from text known ts ≡ known ++ more)
  firsts_front known [] = ([], sym (append-nil known))
  firsts_front known (t ∷ ts) = go (is_name t.kind && eqb (number_of text known (spelling text t)) (length known)) (λ k. firsts_front k ts)
    where
      go : (c : Bool) → ((k : List First) → (more : List First) × (firsts_from text k ts ≡ k ++ more)) →
          (more : List First) × (firsts_from text (cond c (known ++ (first_of t ∷ [])) known) ts ≡ known ++ more)
      go true f = let i = f (known ++ (first_of t ∷ [])) in (first_of t ∷ i.0, i.1 ∙ append_assoc known (first_of t ∷ []) i.0)
      go false f = f known

  test_of : (known : List First) (t : Token) → (c : Bool) → eqb (number_of text known (spelling text t)) (length known) ≡ c → is_name t.kind ≡ true →
      (is_name t.kind && eqb (number_of text known (spelling text t)) (length known)) ≡ c
  test_of known t c e h = rw h e

  -- a name's number is the one that it had when it was read
  stable : (before after : List Token) (t : Token) → is_name t.kind ≡ true →
      number_of text (firsts text (before ++ (t ∷ after))) (spelling text t) ≡ number_of text (firsts text before) (spelling text t)
  stable before after t h = go (eqb (number_of text known (spelling text t)) (length known)) refl
    where
      known : List First
      known = firsts text before

      same : First → Bool
      same u = not (bytes_eq (spelled_first text u) (spelling text t))

      more : List First
      more = (firsts_front (with_first text known t) after).0

      whole : firsts text (before ++ (t ∷ after)) ≡ with_first text known t ++ more
      whole = firsts_append [] before (t ∷ after) ∙ (firsts_front (with_first text known t) after).1

      go : (c : Bool) → eqb (number_of text known (spelling text t)) (length known) ≡ c → number_of text (firsts text (before ++ (t ∷ after))) (spelling text t) ≡ number_of text known (spelling text t)
      go true e =
          let k : with_first text known t ≡ known ++ (first_of t ∷ []) = ap (λ (c : Bool). cond c (known ++ (first_of t ∷ [])) known) (test_of known t true e h) in
          let w : prefix_len same known ≡ length known = eqb-true _ _ e in
          let a = leading_all same known (first_of t) w (self t) in
          let b = leading_more same (known ++ (first_of t ∷ [])) more (let z = length-append known (first_of t ∷ []) in omega arith) in
          ap (prefix_len same) (whole ∙ ap (λ (x : List First). x ++ more) k) ∙ b ∙ a ∙ sym w
      go false e =
          let k : with_first text known t ≡ known = ap (λ (c : Bool). cond c (known ++ (first_of t ∷ [])) known) (test_of known t false e h) in
          let n : prefix_len same known ≢ length known = eqb-false _ _ e in
          let b = leading_more same known more (let z = leading_bound same known in omega arith) in
          ap (prefix_len same) (whole ∙ ap (λ (x : List First). x ++ more) k) ∙ b

  -- ---- the numbers so far are those below the count of first occurrences
  pub record Numbered (before : List Token) : Type 0 where
    pub below : (n : ℕ) → among n (names_of (terminals text before)) ≡ ltb n (length (firsts text before))
    pub count : different (names_of (terminals text before)) ≡ length (firsts text before)

  names_one : (k : Kind) (n : ℕ) → names_of (terminal_of k n ∷ []) ≡ cond (is_name k) (n ∷ []) []
  names_one Semicolon n = refl
  names_one Comma n = refl
  names_one RoundOpen n = refl
  names_one RoundClose n = refl
  names_one BraceOpen n = refl
  names_one BraceClose n = refl
  names_one Path n = refl
  names_one End n = refl
  names_one Name n = refl

  numbered_more : (b a : List Token) (t : Token) → tokens text ≡ b ++ (t ∷ a) → Numbered b → Numbered (b ++ (t ∷ []))
  numbered_more b a t p h = by_kind (is_name t.kind) refl
    where
      known : List First
      known = firsts text b

      ns : List ℕ
      ns = names_of (terminals text b)

      n : ℕ
      n = number_of text (firsts text (tokens text)) (spelling text t)

      names_are : names_of (terminals text (b ++ (t ∷ []))) ≡ ns ++ cond (is_name t.kind) (n ∷ []) []
      names_are = ap names_of (map-append (terminal text) b (t ∷ [])) ∙ names_append (terminals text b) (terminal text t ∷ []) ∙ ap (λ (x : List ℕ). ns ++ x) (names_one t.kind n)

      from : (ms : List ℕ) (ks : List First) → names_of (terminals text (b ++ (t ∷ []))) ≡ ms → firsts text (b ++ (t ∷ [])) ≡ ks →
          ((m : ℕ) → among m ms ≡ ltb m (length ks)) → different ms ≡ length ks → Numbered (b ++ (t ∷ []))
      from ms ks e f x y = record {
        below = λ m. ap (among m) e ∙ x m ∙ ap (λ (q : List First). ltb m (length q)) (sym f);
        count = ap different e ∙ y ∙ ap length (sym f);
      }

      by_test : is_name t.kind ≡ true → n ≡ number_of text known (spelling text t) → (c : Bool) → eqb (number_of text known (spelling text t)) (length known) ≡ c → Numbered (b ++ (t ∷ []))
      by_test e s true f =
          let k : n ≡ length known = s ∙ eqb-true _ _ f in
          let z = length-append known (first_of t ∷ []) in
          from (ns ++ (n ∷ [])) (known ++ (first_of t ∷ [])) (names_are ∙ ap (λ (c : Bool). ns ++ cond c (n ∷ []) []) e)
          (firsts_snoc b t ∙ ap (λ (c : Bool). cond c (known ++ (first_of t ∷ [])) known) (test_of known t true f e))
          (λ m. among_snoc m ns n ∙ ap (λ (c : Bool). c || eqb m n) (h.below m) ∙ (let l : length (known ++ (first_of t ∷ [])) ≡ length known + 1 = z in grind (arith, nat_tests)))
          (let d = different_snoc [] ns n in let i = h.below n in let j = h.count in
          let q : among n ns ≡ false = i ∙ grind (arith, nat_tests) in
          let d' : different (ns ++ (n ∷ [])) ≡ different ns + cond false 0 1 = d ∙ ap (λ (c : Bool). different ns + cond c 0 1) q in omega arith)
      by_test e s false f =
          let k : n ≢ length known = λ q. eqb-false _ _ f (sym s ∙ q) in
          let l : n ≤ length known = let z = leading_bound (λ u. not (bytes_eq (spelled_first text u) (spelling text t))) known in omega arith in
          from (ns ++ (n ∷ [])) known (names_are ∙ ap (λ (c : Bool). ns ++ cond c (n ∷ []) []) e)
          (firsts_snoc b t ∙ ap (λ (c : Bool). cond c (known ++ (first_of t ∷ [])) known) (test_of known t false f e))
          (λ m. among_snoc m ns n ∙ ap (λ (c : Bool). c || eqb m n) (h.below m) ∙ grind (arith, nat_tests))
          (let d = different_snoc [] ns n in let i = h.below n in let j = h.count in
          let q : among n ns ≡ true = i ∙ grind (arith, nat_tests) in
          let d' : different (ns ++ (n ∷ [])) ≡ different ns + cond true 0 1 = d ∙ ap (λ (c : Bool). different ns + cond c 0 1) q in omega arith)

      by_kind : (c : Bool) → is_name t.kind ≡ c → Numbered (b ++ (t ∷ []))
      by_kind true e =
          by_test e (ap (λ (x : List Token). number_of text (firsts text x) (spelling text t)) p ∙ stable b a t e) (eqb (number_of text known (spelling text t)) (length known)) refl
      by_kind false e =
          from ns known (names_are ∙ ap (λ (c : Bool). ns ++ cond c (n ∷ []) []) e ∙ append-nil ns)
          (firsts_snoc b t ∙ ap (λ (c : Bool). cond (c && eqb (number_of text known (spelling text t)) (length known)) (known ++ (first_of t ∷ [])) known) e)
          h.below h.count

  numbered_from : (b a rest : List Token) → tokens text ≡ b ++ (a ++ rest) → Numbered b → Numbered (b ++ a)
  numbered_from b [] rest p h = subst Numbered (sym (append-nil b)) h
  numbered_from b (t ∷ a) rest p h =
      subst Numbered (append_assoc b (t ∷ []) a)
      (numbered_from (b ++ (t ∷ [])) a rest (p ∙ sym (append_assoc b (t ∷ []) (a ++ rest))) (numbered_more b (a ++ rest) t p h))

  pub numbered : (before rest : List Token) → tokens text ≡ before ++ rest → Numbered before
  numbered before rest p = numbered_from [] before rest p (record { below = λ n. grind (arith, nat_tests); count = refl })

-- ---- a number tells the name
module _ {A : Type 0} (p : A → Bool) where
  leading_at : (xs : List A) (d : A) → prefix_len p xs < length xs → p (get_or xs (prefix_len p xs) d) ≡ false
  leading_at [] d h = absurd (omega arith)
  leading_at (x ∷ xs) d h = go (p x) refl (leading_at xs d)
    where
      go : (c : Bool) → p x ≡ c → (prefix_len p xs < length xs → p (get_or xs (prefix_len p xs) d) ≡ false) → p (get_or (x ∷ xs) (cond (p x) (1 + prefix_len p xs) 0) d) ≡ false
      go true e i =
          let k : cond (p x) (1 + prefix_len p xs) 0 < suc (length xs) = h in
          let k' : 1 + prefix_len p xs < suc (length xs) = rw e at k in
          let f : suc (prefix_len p xs) ≡ 1 + prefix_len p xs = omega arith in
          ap (λ (c : Bool). p (get_or (x ∷ xs) (cond c (1 + prefix_len p xs) 0) d)) e ∙ ap (λ (m : ℕ). p (get_or (x ∷ xs) m d)) (sym f) ∙ i (omega arith)
      go false e i = ap (λ (c : Bool). p (get_or (x ∷ xs) (cond c (1 + prefix_len p xs) 0) d)) e ∙ e

not_false : (c : Bool) → not c ≡ false → c ≡ true
not_false true e = refl
not_false false e = sym e

module _ (text : List ℕ) where
  length_front : (xs ys : List First) → length xs ≤ length (xs ++ ys)
  length_front xs ys = let e = length-append xs ys in omega arith

  -- a name of the text is among the first occurrences
  in_reach : (b a : List Token) (t : Token) → is_name t.kind ≡ true → number_of text (firsts text (b ++ (t ∷ a))) (spelling text t) < length (firsts text (b ++ (t ∷ a)))
  in_reach b a t h = go (eqb (number_of text known (spelling text t)) (length known)) refl
    where
      known : List First
      known = firsts text b

      all : List First
      all = firsts text (b ++ (t ∷ a))

      front : (more : List First) × (firsts_from text (with_first text known t) a ≡ with_first text known t ++ more)
      front = firsts_front text (with_first text known t) a

      whole : all ≡ with_first text known t ++ front.0
      whole = firsts_append text [] b (t ∷ a) ∙ front.1

      longer : length (with_first text known t) ≤ length all
      longer = let e = ap length whole in let l = length_front (with_first text known t) front.0 in omega arith

      same : number_of text all (spelling text t) ≡ number_of text known (spelling text t)
      same = stable text b a t h

      go : (c : Bool) → eqb (number_of text known (spelling text t)) (length known) ≡ c → number_of text all (spelling text t) < length all
      go true e =
          let k = ap length (ap (λ (c : Bool). cond c (known ++ (first_of t ∷ [])) known) (test_of text known t true e h)) in
          let z = length-append known (first_of t ∷ []) in
          let w = eqb-true _ _ e in
          let l = longer in let q = same in omega arith
      go false e =
          let k = ap length (ap (λ (c : Bool). cond c (known ++ (first_of t ∷ [])) known) (test_of text known t false e h)) in
          let n : number_of text known (spelling text t) ≢ length known = eqb-false _ _ e in
          let z = leading_bound (λ u. not (bytes_eq (spelled_first text u) (spelling text t))) known in
          let l = longer in let q = same in omega arith

  -- the first occurrence of a name's number is spelled as the name
  spelled_as : (fs : List First) (d : First) (t : Token) → number_of text fs (spelling text t) < length fs →
      spelled_first text (get_or fs (number_of text fs (spelling text t)) d) ≡ spelling text t
  spelled_as fs d t h =
      (bytes_eq-Decides _ _).0 (not_false _ (leading_at (λ u. not (bytes_eq (spelled_first text u) (spelling text t))) fs d h))

word_same : {m n : ℕ} → word m ≡ word n → m ≡ n
word_same p = cc

as_name : (text : List ℕ) (t : Token) → t.kind ≡ Name → terminal text t ≡ word (number_of text (firsts text (tokens text)) (spelling text t))
as_name text t e = ap (λ (k : Kind). terminal_of k (number_of text (firsts text (tokens text)) (spelling text t))) e

pub numbers_tell_names : NumbersTellNames
numbers_tell_names text b a b' a' t u p q e f = (there, back)
  where
    fs : List First
    fs = firsts text (tokens text)

    reach : (b a : List Token) (t : Token) → tokens text ≡ b ++ (t ∷ a) → t.kind ≡ Name → number_of text fs (spelling text t) < length fs
    reach b a t p e = subst (λ (ts : List Token). number_of text (firsts text ts) (spelling text t) < length (firsts text ts)) (sym p) (in_reach text b a t (ap is_name e))

    there : terminal text t ≡ terminal text u → spelling text t ≡ spelling text u
    there x =
        let n : number_of text fs (spelling text t) ≡ number_of text fs (spelling text u) = word_same (sym (as_name text t e) ∙ x ∙ as_name text u f) in
        let l = reach b a t p e in
        let m = reach b' a' u q f in
        sym (spelled_as text fs (first_of t) t l) ∙ ap (λ (i : ℕ). spelled_first text (get_or fs i (first_of t))) n ∙ spelled_as text fs (first_of t) u m

    back : spelling text t ≡ spelling text u → terminal text t ≡ terminal text u
    back x = as_name text t e ∙ ap (λ (s : List ℕ). word (prefix_len (λ v. not (bytes_eq (spelled_first text v) s)) fs)) x ∙ sym (as_name text u f)

pub numbers_stay : NumbersStay
numbers_stay text b a t p e = as_name text t e ∙ ap word (ap (λ (ts : List Token). number_of text (firsts text ts) (spelling text t)) p ∙ stable text b a t (ap is_name e))

pub room_enough : RoomEnough
room_enough text b a p k =
    let n = (numbered text b a p).count in
    let h = k (terminals text b) [] all_names (sym (append-nil (terminals text b))) in
    let l = kept_length (terminals text b) k in
    let m = length-map b (terminal text) in
    (omega arith, omega arith)

names_derived : (text : List ℕ) (t : Text) → Derives text t → names_of_text t ≡ names_of (terminals text (tokens text))
names_derived text t d = sym (names_text t) ∙ ap names_of d.yields

pub names_numbered : NamesNumbered
names_numbered text t d n = ap (among n) (names_derived text t d) ∙ (numbered text (tokens text) [] (sym (append-nil (tokens text)))).below n

pub names_counted : NamesCounted
names_counted text t d = ap different (names_derived text t d) ∙ (numbered text (tokens text) [] (sym (append-nil (tokens text)))).count

-- ---- what the reader of a name knows
pub number_bound : (text : List ℕ) (fs : List First) (w : List ℕ) → number_of text fs w ≤ length fs
number_bound text fs w = leading_bound (λ u. not (bytes_eq (spelled_first text u) w)) fs

-- the number of a name that is new is the count of those known: it is among none of the names before it
pub new_name : (text : List ℕ) (b a : List Token) (n : ℕ) → tokens text ≡ b ++ a → length (firsts text b) ≤ n →
    (among n (names_of (terminals text b)) ≡ false) × (among n (own_from [] (terminals text b)) ≡ false)
new_name text b a n p h =
    let e : among n (names_of (terminals text b)) ≡ false = (numbered text b a p).below n ∙ le-ltb _ _ h in
    (e, own_among n [] (terminals text b) refl e)

-- a name of number below 64 is known, or there is a place for it
pub has_place : (text : List ℕ) (b a : List Token) (n : ℕ) → tokens text ≡ b ++ a → n < 64 → among n (names_of (terminals text b)) ≡ false → different (names_of (terminals text b)) < 64
has_place text b a n p h e =
    let l = ltb-false n (length (firsts text b)) (sym ((numbered text b a p).below n) ∙ e) in
    let c = (numbered text b a p).count in
    omega arith
