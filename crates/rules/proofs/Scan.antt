-- The first fault of a text: there is one, or the text passes; and there is only one.
use Rattle.std.proofs.Common.{◌≡◌, ℕ, ◌<◌, ◌≤◌, Bool, true, false, ◌⊎◌, List, [], ◌∷◌, ◌++◌, length, sym, refl, ap, ◌∙◌, subst, inl, inr, append_assoc, append-nil, arith}
use native.Mathlib.Decide.{dec_lt}
use Rattle.std.proofs.lemmas.List.{map-append}
use Rattle.tokens.specs.declared.Token.{Token}
use Rattle.paths.specs.Grammar.{Terminal, Sentence}
use Rattle.rules.specs.Automaton.{start, run}
use Rattle.tokens.specs.Tokens.{Stop, at_end, no_token, long_name, tokens, stop}
use Rattle.rules.specs.Names.{terminal, terminals}
use Rattle.rules.specs.Rules.{Rule, number, Breaks, Kept, Told}
use Rattle.rules.specs.Faults.{Refused, too_long, at_token, at_byte, at_name, at_end_of_text, FirstFault, OneFault}
use Rattle.paths.proofs.Lists.{two_cuts}
use Rattle.rules.proofs.Decided.{judged, Judged, kept_nil, kept_snoc, is_between, sentence_yes, sentence_no}

-- a text that no fault is told of
pub record Passes (text : List ℕ) : Type 0 where
  pub short : length text ≤ 16384
  pub whole : stop text ≡ at_end
  pub keeps : Kept (terminals text (tokens text))
  pub sentence : Sentence (terminals text (tokens text))

-- ---- there is one, or the text passes
module _ (text : List ℕ) where
  abbrev Scanned : List Token → Type 0
  Scanned ts =
      Kept (terminals text ts)
      ⊎ ((b : List Token) × (t : Token) × (a : List Token) × (r : Rule) × (ts ≡ b ++ (t ∷ a)) × Kept (terminals text b) × Told r (terminals text (b ++ (t ∷ []))))

  scan : (b a : List Token) → Kept (terminals text b) → Scanned (b ++ a)
  scan b [] k = inl (subst (λ (ts : List Token). Kept (terminals text ts)) (sym (append-nil b)) k)
  scan b (t ∷ a) k = go (judged (terminals text (b ++ (t ∷ [])))) (scan (b ++ (t ∷ [])) a)
    where
      go : Judged (terminals text (b ++ (t ∷ []))) → (Kept (terminals text (b ++ (t ∷ []))) → Scanned ((b ++ (t ∷ [])) ++ a)) → Scanned (b ++ (t ∷ a))
      go (inr q) later = inr (b, t, a, q.0, refl, k, q.1)
      go (inl h) later =
          let e : terminals text (b ++ (t ∷ [])) ≡ terminals text b ++ (terminal text t ∷ []) = map-append (terminal text) b (t ∷ []) in
          subst Scanned (append_assoc b (t ∷ []) a)
          (later (subst Kept (sym e) (kept_snoc (terminals text b) (terminal text t) k (λ r. subst (λ (w : List Terminal). ¬ Breaks r w) e (h r)))))

  abbrev Outcome : Type 0
  Outcome = Passes text ⊎ ((n p : ℕ) × FirstFault text n p)

  at_the_stop : length text ≤ 16384 → Kept (terminals text (tokens text)) → (s : Stop) → stop text ≡ s → (b : Bool) → is_between (run start (terminals text (tokens text))) ≡ b → Outcome
  at_the_stop l k at_end e true f = inl (record { short = l; whole = e; keeps = k; sentence = sentence_yes _ f })
  at_the_stop l k at_end e false f = inr (5, length text, (tokens text, at_end_of_text l e k (sentence_no _ f)))
  at_the_stop l k (no_token p) e b f = inr (2, p, (tokens text, at_byte l e k))
  at_the_stop l k (long_name p) e b f = inr (3, p, (tokens text, at_name l e k))

  after_scan : length text ≤ 16384 → Scanned (tokens text) → Outcome
  after_scan l (inl k) = at_the_stop l k (stop text) refl (is_between (run start (terminals text (tokens text)))) refl
  after_scan l (inr q) = inr (number q.3, q.1.place, (q.0, at_token q.1 q.2 q.3 l q.4 q.5 q.6))

  by_length : Dec (16384 < length text) → Outcome
  by_length (yes h) = inr (1, 16384, ([], too_long h))
  by_length (no h) = after_scan (omega arith) (scan [] (tokens text) kept_nil)

  pub outcome : Outcome
  outcome = by_length (dec_lt 16384 (length text))

-- ---- there is only one
module _ (text : List ℕ) where
  -- what keeps the rules has no token at which a rule is told
  no_token_told : (ts b a : List Token) (t : Token) (r : Rule) → Kept (terminals text ts) → ts ≡ b ++ (t ∷ a) → Told r (terminals text (b ++ (t ∷ []))) → ⊥
  no_token_told ts b a t r k p w =
      k (terminals text (b ++ (t ∷ []))) (terminals text a) r
      (ap (terminals text) (p ∙ sym (append_assoc b (t ∷ []) a)) ∙ map-append (terminal text) (b ++ (t ∷ [])) a) w.broken

  same_number : (r s : Rule) (row : List Terminal) → Told r row → Told s row → number r ≡ number s
  same_number r s row x y = go (dec_lt (number r) (number s)) (dec_lt (number s) (number r))
    where
      go : Dec (number r < number s) → Dec (number s < number r) → number r ≡ number s
      go (yes h) d = absurd (y.smallest r h x.broken)
      go (no h) (yes k) = absurd (x.smallest s k y.broken)
      go (no h) (no k) = omega arith

  same_place : (b a b' a' : List Token) (t t' : Token) (r r' : Rule) → Kept (terminals text b) → Kept (terminals text b') →
      Told r (terminals text (b ++ (t ∷ []))) → Told r' (terminals text (b' ++ (t' ∷ []))) → b ++ (t ∷ a) ≡ b' ++ (t' ∷ a') →
      (b ≡ b') × (number r ≡ number r') × (t.place ≡ t'.place)
  same_place b a b' a' t t' r r' k k' w w' p = go (two_cuts b (t ∷ a) b' (t' ∷ a') p)
    where
      left : (m : List Token) → b ≡ b' ++ m → (t' ∷ a') ≡ m ++ (t ∷ a) → (b ≡ b') × (number r ≡ number r') × (t.place ≡ t'.place)
      left [] e f =
          let g : t ≡ t' = cc in
          let i : b ++ (t ∷ []) ≡ b' ++ (t' ∷ []) = ap (λ (w : List Token). w ++ (t ∷ [])) (e ∙ append-nil b') ∙ ap (λ (u : Token). b' ++ (u ∷ [])) g in
          (e ∙ append-nil b', same_number r r' _ w (subst (λ (w : List Token). Told r' (terminals text w)) (sym i) w'), ap (λ (u : Token). u.place) g)
      left (x ∷ m) e f =
          let g : x ≡ t' = cc in
          absurd (no_token_told b b' m t' r' k (e ∙ ap (λ (u : Token). b' ++ (u ∷ m)) g) w')

      right : (m : List Token) → b' ≡ b ++ m → (t ∷ a) ≡ m ++ (t' ∷ a') → (b ≡ b') × (number r ≡ number r') × (t.place ≡ t'.place)
      right [] e f =
          let g : t ≡ t' = cc in
          let i : b ++ (t ∷ []) ≡ b' ++ (t' ∷ []) = ap (λ (w : List Token). w ++ (t ∷ [])) (sym (append-nil b) ∙ sym e) ∙ ap (λ (u : Token). b' ++ (u ∷ [])) g in
          (sym (e ∙ append-nil b), same_number r r' _ w (subst (λ (w : List Token). Told r' (terminals text w)) (sym i) w'), ap (λ (u : Token). u.place) g)
      right (x ∷ m) e f =
          let g : x ≡ t = cc in
          absurd (no_token_told b' b m t r k' (e ∙ ap (λ (u : Token). b ++ (u ∷ m)) g) w)

      go : ((m : List Token) × (b ≡ b' ++ m) × ((t' ∷ a') ≡ m ++ (t ∷ a))) ⊎ ((m : List Token) × (b' ≡ b ++ m) × ((t ∷ a) ≡ m ++ (t' ∷ a'))) →
          (b ≡ b') × (number r ≡ number r') × (t.place ≡ t'.place)
      go (inl q) = left q.0 q.1 q.2
      go (inr q) = right q.0 q.1 q.2

  pub passes_no_fault : {b : List Token} {n p : ℕ} → Passes text → Refused text b n p → ⊥
  passes_no_fault s (too_long h) = let l = s.short in omega arith
  passes_no_fault s (at_token t a r l e k w) = no_token_told _ _ a t r s.keeps e w
  passes_no_fault s (at_byte l e k) = let f = s.whole in let z : ◌≡◌ {A = ℕ} 0 1 = cc in omega arith
  passes_no_fault s (at_name l e k) = let f = s.whole in let z : ◌≡◌ {A = ℕ} 0 1 = cc in omega arith
  passes_no_fault s (at_end_of_text l e k h) = h s.sentence

  one : {b b' : List Token} {n m p q : ℕ} → Refused text b n p → Refused text b' m q → (b ≡ b') × (n ≡ m) × (p ≡ q)
  one (too_long h) (too_long h') = (refl, refl, refl)
  one (too_long h) (at_token t' a' r' l' e' k' w') = absurd (omega arith)
  one (too_long h) (at_byte l' e' k') = absurd (omega arith)
  one (too_long h) (at_name l' e' k') = absurd (omega arith)
  one (too_long h) (at_end_of_text l' e' k' n') = absurd (omega arith)
  one (at_token t a r l e k w) (too_long h') = absurd (omega arith)
  one (at_token t a r l e k w) (at_token t' a' r' l' e' k' w') = same_place _ a _ a' t t' r r' k k' w w' (sym e ∙ e')
  one (at_token t a r l e k w) (at_byte l' e' k') = absurd (no_token_told _ _ a t r k' e w)
  one (at_token t a r l e k w) (at_name l' e' k') = absurd (no_token_told _ _ a t r k' e w)
  one (at_token t a r l e k w) (at_end_of_text l' e' k' n') = absurd (no_token_told _ _ a t r k' e w)
  one (at_byte l e k) (too_long h') = absurd (omega arith)
  one (at_byte l e k) (at_token t' a' r' l' e' k' w') = absurd (no_token_told _ _ a' t' r' k e' w')
  one (at_byte l e k) (at_byte l' e' k') = (refl, refl, cc)
  one (at_byte l e k) (at_name l' e' k') = (refl, cc, cc)
  one (at_byte l e k) (at_end_of_text l' e' k' n') = (refl, cc, cc)
  one (at_name l e k) (too_long h') = absurd (omega arith)
  one (at_name l e k) (at_token t' a' r' l' e' k' w') = absurd (no_token_told _ _ a' t' r' k e' w')
  one (at_name l e k) (at_byte l' e' k') = (refl, cc, cc)
  one (at_name l e k) (at_name l' e' k') = (refl, refl, cc)
  one (at_name l e k) (at_end_of_text l' e' k' n') = (refl, cc, cc)
  one (at_end_of_text l e k n) (too_long h') = absurd (omega arith)
  one (at_end_of_text l e k n) (at_token t' a' r' l' e' k' w') = absurd (no_token_told _ _ a' t' r' k e' w')
  one (at_end_of_text l e k n) (at_byte l' e' k') = (refl, cc, cc)
  one (at_end_of_text l e k n) (at_name l' e' k') = (refl, cc, cc)
  one (at_end_of_text l e k n) (at_end_of_text l' e' k' n') = (refl, refl, refl)

pub one_fault : OneFault
one_fault text b b' n m p q f g = one text f g
