-- What can be told of a text whose tokens before keep the rules.
use Rattle.std.proofs.Common.{◌≡◌, ℕ, ◌≤◌, false, ◌≢◌, List, [], ◌∷◌, ◌++◌, length, drop, sym, ap, ◌∙◌, subst, append_assoc, append-nil}
use Rattle.std.proofs.lemmas.List.{map-append}
use Rattle.paths.specs.Grammar.{Sentence}
use Rattle.tokens.specs.declared.Token.{Token}
use Rattle.tokens.specs.Tokens.{Stop, at_end, no_token, long_name, Row, stopped, row_from, row_of, tokens}
use Rattle.rules.specs.Names.{terminal, terminals}
use Rattle.rules.specs.Rules.{Rule, number, Kept, Told}
use Rattle.rules.specs.Faults.{Refused, at_token, at_byte, at_name, at_end_of_text, Derivable}
use Rattle.rules.specs.Automaton.{start, between, run}
use Rattle.rules.specs.Reader.{onto, Reached}
use Rattle.rules.proofs.Automaton.{decides}
use Rattle.rules.proofs.Within.{kept_within}

-- the tokens before, one more, and some rest are the tokens of the text
pub one_more : (text : List ℕ) (before : List Token) (q : ℕ) (t : Token) → Reached text (before ++ (t ∷ [])) q → (after : List Token) × (tokens text ≡ before ++ (t ∷ after))
one_more text before q t h =
    let after = (row_from false q (drop q text)).tokens in
    (after, ap (λ (r : Row). r.tokens) h.1 ∙ append_assoc before (t ∷ []) after)

pub terminals_snoc : (text : List ℕ) (before : List Token) (t : Token) → terminals text (before ++ (t ∷ [])) ≡ terminals text before ++ (terminal text t ∷ [])
terminals_snoc text before t = map-append (terminal text) before (t ∷ [])

module _ (text : List ℕ) (before : List Token) (short : length text ≤ 16384) (k : Kept (terminals text before)) where
  pub refused_at : (t : Token) (q : ℕ) (r : Rule) → Reached text (before ++ (t ∷ [])) q → Told r (terminals text before ++ (terminal text t ∷ [])) → Refused text before (number r) t.place
  refused_at t q r h w =
      let m = one_more text before q t h in at_token t m.0 r short m.1 k (subst (Told r) (sym (terminals_snoc text before t)) w)

  all_tokens : (s : Stop) → row_of text ≡ onto before (stopped s) → tokens text ≡ before
  all_tokens s h = ap (λ (r : Row). r.tokens) h ∙ append-nil before

  all_kept : (s : Stop) → row_of text ≡ onto before (stopped s) → Kept (terminals text (tokens text))
  all_kept s h = subst (λ (ts : List Token). Kept (terminals text ts)) (sym (all_tokens s h)) k

  pub refused_byte : (p : ℕ) → row_of text ≡ onto before (stopped (no_token p)) → Refused text before 2 p
  refused_byte p h =
      subst (λ (ts : List Token). Refused text ts 2 p) (all_tokens (no_token p) h) (at_byte short (ap (λ (r : Row). r.stop) h) (all_kept (no_token p) h))

  pub refused_name : (p : ℕ) → row_of text ≡ onto before (stopped (long_name p)) → Refused text before 3 p
  refused_name p h =
      subst (λ (ts : List Token). Refused text ts 3 p) (all_tokens (long_name p) h) (at_name short (ap (λ (r : Row). r.stop) h) (all_kept (long_name p) h))

  pub refused_short : row_of text ≡ onto before (stopped at_end) → run start (terminals text before) ≢ between → Refused text before 5 (length text)
  refused_short h n =
      let e = all_tokens at_end h in
      subst (λ (ts : List Token). Refused text ts 5 (length text)) e
      (at_end_of_text short (ap (λ (r : Row). r.stop) h) (all_kept at_end h)
      (λ s. n ((decides (terminals text before)).0 (subst (λ (ts : List Token). Sentence (terminals text ts)) e s))))

  -- where the text is over behind a path, the grammar derives it
  pub derived : row_of text ≡ onto before (stopped at_end) → run start (terminals text before) ≡ between → Derivable text × (tokens text ≡ before)
  derived h b =
      let e = all_tokens at_end h in
      let s = (decides (terminals text before)).1 b in (
        (s.0, record { whole = ap (λ (r : Row). r.stop) h; yields = s.1 ∙ ap (terminals text) (sym e) }, kept_within s.0 (subst Kept (sym s.1) k), short),
        e,
      )
