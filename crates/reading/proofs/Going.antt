-- How a reading goes on from step to step.
use Rattle.std.proofs.Common.{◌≡◌, ℕ, ◌-◌, ◌<◌, ◌≤◌, List, [], ◌∷◌, length, inl, inr, Ok, Err, Result, sym, refl, ap, ◌∙◌, subst, arith}
use Rattle.std.specs.Result.{IsErrAnd}
use Rattle.table.proofs.Rest.{kept_both}
use Rattle.paths.specs.Grammar.{path, end}
use Rattle.tokens.specs.declared.Kind.{Kind}
use Rattle.tokens.specs.declared.Token.{Token}
use Rattle.tokens.specs.Tokens.{tokens, spelling, number_of}
use Rattle.rules.specs.Names.{firsts, terminal_of, terminal}
use Rattle.rules.specs.Rules.{open_brackets}
use Rattle.rules.specs.Automaton.{Bracket, round_bracket, brace_bracket, State, between, before_element, behind_element, step}
use Rattle.rules.proofs.Counts.{weight, load, brackets_open}
use Rattle.rules.proofs.Admit.{none_breaks, alive}
use Rattle.reading.specs.declared.Reading.{Reading}
use Rattle.reading.specs.declared.ReadFault.{ReadFault}
use Rattle.reading.specs.Outcome.{Tells}
use Rattle.reading.specs.State.{Ahead, PathDue, bytes, taken, row, standing, Onward, Went, Failed, ReadTo, Opens, Awaits, behind}

-- ---- one step and another
pub onward_both : (r s q : Reading) → Onward r s → Onward s q → Onward r q
onward_both r s q h k = record {
  same_text = k.same_text ∙ h.same_text;
  same_tokens = k.same_tokens ∙ h.same_tokens;
  same_names = k.same_names ∙ h.same_names;
  tokens_kept = kept_both r.tokens.now s.tokens.now q.tokens.now h.tokens_kept k.tokens_kept;
  names_kept = kept_both r.names.now s.names.now q.names.now h.names_kept k.names_kept;
}

pub then_failed : (r s q : Reading) (f : ReadFault) → Onward r s → Failed s q f → Failed r q f
then_failed r s q f h k = record { onward = onward_both r s q h k.onward; tells = subst (λ (t : List ℕ). Tells t (taken q) f) h.same_text k.tells }

pub then_went : (r s q : Reading) (x : State) → Onward r s → Went s q x → Went r q x
then_went r s q x h k = record {
  onward = onward_both r s q h k.onward;
  stands = k.stands;
  further = (let a = h.tokens_kept.grows in let b = k.further in omega arith);
}

pub then_read : (r s q : Reading) (x : State) (res : Result (Unit {0}) ReadFault) → Onward r s → ReadTo s q x res → ReadTo r q x res
then_read r s q x (Ok u) h k = then_went r s q x h k
then_read r s q x (Err f) h k = then_failed r s q f h k

-- a fault that `?` hands on
pub then_err : (r s q : Reading) (x : State) (f : ReadFault) (res : Result (Unit {0}) ReadFault) → IsErrAnd res (λ e. e ≡ f) → Onward r s → Failed s q f → ReadTo r q x res
then_err r s q x f (Ok u) e h k = absurd e
then_err r s q x f (Err g) e h k = subst (λ (g : ReadFault). Failed r q g) (sym e) (then_failed r s q f h k)

-- ---- a bracket
-- the state behind a token that opens a bracket, where an element was due
opened : (i j : Kind) (n : ℕ) (bs : List Bracket) → Opens i j → (b : Bracket) × (step (before_element bs) (terminal_of i n) ≡ before_element (b ∷ bs))
    × (step (behind_element (b ∷ bs)) (terminal_of j 0) ≡ behind_element bs)
opened i j n bs (inl o) = (
  round_bracket,
  ap (λ (k : Kind). step (before_element bs) (terminal_of k n)) o.0,
  ap (λ (k : Kind). step (behind_element (round_bracket ∷ bs)) (terminal_of k 0)) o.1,
)
opened i j n bs (inr o) = (
  brace_bracket,
  ap (λ (k : Kind). step (before_element bs) (terminal_of k n)) o.0,
  ap (λ (k : Kind). step (behind_element (brace_bracket ∷ bs)) (terminal_of k 0)) o.1,
)

weigh : (bs : List Bracket) → weight 1 1 bs ≡ length bs
weigh [] = refl
weigh (round_bracket ∷ bs) = let i = weigh bs in omega arith
weigh (brace_bracket ∷ bs) = let i = weigh bs in omega arith

-- at most 16 brackets are open
shallow : (r : Reading) (bs : List Bracket) → standing r ≡ before_element bs → length bs ≤ 16
shallow r bs e =
    let i = brackets_open 1 1 (row r) (alive (row r) r.kept) in
    let j = ap (load 1 1) e in
    let w = weigh bs in
    let n = none_breaks (row r) r.kept open_brackets in
    omega arith

-- at r an element is due, and e is behind the token that opens its bracket
module _ (k : ℕ) (r e : Reading) (t : Token) (j : Kind) (a : Awaits k (standing r)) (o : Opens t.kind j) (h : Went r e (step (standing r) (terminal (bytes r) t))) where
  bs : List Bracket
  bs = a.0

  due : standing r ≡ before_element bs
  unfolding bs
  due = a.1

  n : ℕ
  n = number_of (bytes r) (firsts (bytes r) (tokens (bytes r))) (spelling (bytes r) t)

  b : Bracket
  b = (opened t.kind j n bs o).0

  stands : standing e ≡ before_element (b ∷ bs)
  unfolding b n
  stands = h.stands ∙ ap (λ (s : State). step s (terminal (bytes r) t)) due ∙ (opened t.kind j n bs o).1

  closes : step (behind_element (b ∷ bs)) (terminal_of j 0) ≡ behind_element bs
  unfolding b
  closes = (opened t.kind j n bs o).2

  -- one bracket fewer may open
  pub deeper : (0 < k) × Awaits (k - 1) (standing e)
  unfolding bs
  deeper =
      let n = a.2 in
      let m = shallow e (b ∷ bs) stands in
      (omega arith, (b ∷ bs, stands, omega arith))

  -- the sequence inside, and the token that closes the bracket
  pub around : (f g : Reading) (res : Result (Unit {0}) ReadFault) → Went e f (behind (standing e)) → ReadTo f g (step (standing f) (terminal_of j 0)) res →
      ReadTo r g (behind (standing r)) res
  around f g res i c =
      subst (λ (s : State). ReadTo r g s res)
      (ap (λ (s : State). step s (terminal_of j 0)) (i.stands ∙ ap behind stands) ∙ closes ∙ sym (ap behind due))
      (then_read r f g _ res (onward_both r e f h.onward i.onward) c)

-- ---- a comma or a semicolon, and what it leads to
pub again : (k : ℕ) (r l e f : Reading) (t : Token) (j : Kind) → Awaits k (standing r) → ((bs : List Bracket) (n : ℕ) → step (behind_element bs) (terminal_of j n) ≡ before_element bs) →
    Went r l (behind (standing r)) → t.kind ≡ j → Went l e (step (standing l) (terminal (bytes l) t)) → Went e f (behind (standing e)) → Went r f (behind (standing r))
again k r l e f t j a back w is h i =
    let bs = a.0 in
    let due : standing r ≡ before_element bs = a.1 in
    let n = number_of (bytes l) (firsts (bytes l) (tokens (bytes l))) (spelling (bytes l) t) in
    let s : standing e ≡ before_element bs =
    h.stands ∙ ap (λ (s : State). step s (terminal (bytes l) t)) (w.stands ∙ ap behind due) ∙ ap (λ (k : Kind). step (behind_element bs) (terminal_of k n)) is ∙ back bs n in
    subst (Went r f) (ap behind s ∙ sym (ap behind due)) (then_went r e f _ (onward_both r l e w.onward h.onward) i)

-- ---- a path
-- the state behind the word `path`, a sequence, and the word `end`
over : (a : Ahead) (s : State) → PathDue a s → step (behind (step s path)) end ≡ between
over a s (inl e) = ap (λ (s : State). step (behind (step s path)) end) e
over a s (inr e) = ap (λ (s : State). step (behind (step s path)) end) e.0

pub whole_path : (r e f g : Reading) (res : Result (Unit {0}) ReadFault) → PathDue r.ahead (standing r) → Went r e (step (standing r) path) → Went e f (behind (standing e)) →
    ReadTo f g (step (standing f) end) res → ReadTo r g between res
whole_path r e f g res d h i c =
    subst (λ (s : State). ReadTo r g s res) (ap (λ (s : State). step s end) (i.stands ∙ ap behind h.stands) ∙ over r.ahead (standing r) d)
    (then_read r f g _ res (onward_both r e f h.onward i.onward) c)
