-- What one more event makes of a history, and how many events it has.
use Rattle.std.proofs.Common.{◌≡◌, ℕ, ◌+◌, ◌<◌, ◌≤◌, cond, eqb, [], ◌∷◌, ◌++◌, refl, ap, subst, arith}
use Rattle.std.proofs.lemmas.List.{append_assoc}
use Rattle.paths.specs.Grammar.{Text}
use Rattle.paths.specs.Words.{⊕, ⊖, History}
use Rattle.paths.specs.Doors.{begun as begun_in, ended as ended_in}
use Rattle.paths.specs.Texts.{EachProper, FitsAll}
use Rattle.paths.specs.Runs.{let_in_by}
use Rattle.paths.proofs.Occs.{among_mem}
use Rattle.paths.proofs.Frees.{frees_nobody}
use Rattle.paths.proofs.Tests.{by_eqb}
use Rattle.paths.proofs.Texts.{all_doors_are_right}
use Rattle.run.specs.Memory.{ends_in}
use Rattle.run.specs.Says.{Known, Joins, Runs}

-- who could join after a was let in, could join before
pub joined_before : (t : Text) → EachProper t → (h : History) (a b : ℕ) → Joins t (h ++ (⊕ a ∷ [])) b → Joins t h b
joined_before t ok h a b f = frees_nobody t ok h a b (subst (FitsAll t) (append_assoc h (⊕ a ∷ []) (⊕ b ∷ [])) f)

-- what runs may end
pub may_end : (t : Text) → EachProper t → (h : History) → FitsAll t h → (a : ℕ) → Known t a → Runs h a → FitsAll t (h ++ (⊖ a ∷ []))
may_end t ok h f a k r = ((all_doors_are_right t ok h f a).ends (among_mem a _ k)).0 r

pub let_in_more : (a : ℕ) (h : History) → let_in_by (h ++ (⊕ a ∷ [])) ≡ let_in_by h + 1
let_in_more a [] = refl
let_in_more a (⊕ b ∷ h) = let e = let_in_more a h in omega arith
let_in_more a (⊖ b ∷ h) = let_in_more a h

pub let_in_same : (a : ℕ) (h : History) → let_in_by (h ++ (⊖ a ∷ [])) ≡ let_in_by h
let_in_same a [] = refl
let_in_same a (⊕ b ∷ h) = ap (λ n. 1 + n) (let_in_same a h)
let_in_same a (⊖ b ∷ h) = let_in_same a h

pub ends_more : (a : ℕ) (h : History) → ends_in (h ++ (⊖ a ∷ [])) ≡ ends_in h + 1
ends_more a [] = refl
ends_more a (⊕ b ∷ h) = ends_more a h
ends_more a (⊖ b ∷ h) = let e = ends_more a h in omega arith

pub ends_same : (a : ℕ) (h : History) → ends_in (h ++ (⊕ a ∷ [])) ≡ ends_in h
ends_same a [] = refl
ends_same a (⊕ b ∷ h) = ends_same a h
ends_same a (⊖ b ∷ h) = ap (λ n. 1 + n) (ends_same a h)

pub begun_few : (a : ℕ) (h : History) → begun_in a h ≤ let_in_by h
begun_few a [] = omega arith
begun_few a (⊕ b ∷ h) = let e = begun_few a h in by_eqb a b (λ z. cond z (1 + begun_in a h) (begun_in a h) ≤ 1 + let_in_by h) (λ p. omega arith) (λ p. omega arith)
begun_few a (⊖ b ∷ h) = begun_few a h

-- ---- as many ends as letting-ins, at most

-- h without the first letting-in of a
minus : ℕ → History → History
minus a [] = []
minus a (⊕ b ∷ h) = cond (eqb a b) h (⊕ b ∷ minus a h)
minus a (⊖ b ∷ h) = ⊖ b ∷ minus a h

minus_one : (a : ℕ) (h : History) → 0 < begun_in a h → let_in_by (minus a h) + 1 ≡ let_in_by h
unfolding minus
minus_one a [] l = omega arith
minus_one a (⊕ b ∷ h) l =
    by_eqb a b (λ z. 0 < cond z (1 + begun_in a h) (begun_in a h) → let_in_by (cond z h (⊕ b ∷ minus a h)) + 1 ≡ 1 + let_in_by h)
    (λ p k. omega arith) (λ p k. (let e = minus_one a h k in omega arith)) l
minus_one a (⊖ b ∷ h) l = minus_one a h l

minus_others : (c a : ℕ) (h : History) → begun_in c h ≤ begun_in c (minus a h) + cond (eqb c a) 1 0
unfolding minus
minus_others c a [] = omega arith
minus_others c a (⊕ b ∷ h) =
    let e = minus_others c a h in
    by_eqb a b (λ z. begun_in c (⊕ b ∷ h) ≤ begun_in c (cond z h (⊕ b ∷ minus a h)) + cond (eqb c a) 1 0)
    (λ p. subst (λ d. begun_in c (⊕ d ∷ h) ≤ begun_in c h + cond (eqb c a) 1 0) p (by_eqb c a (λ z. cond z (1 + begun_in c h) (begun_in c h) ≤ begun_in c h + cond z 1 0) (λ q. omega arith) (λ q. omega arith)))
    (λ p. by_eqb c b (λ z. cond z (1 + begun_in c h) (begun_in c h) ≤ cond z (1 + begun_in c (minus a h)) (begun_in c (minus a h)) + cond (eqb c a) 1 0) (λ q. omega arith) (λ q. omega arith))
minus_others c a (⊖ b ∷ h) = minus_others c a h

ends_few_of : (k h : History) → ((a : ℕ) → ended_in a k ≤ begun_in a h) → ends_in k ≤ let_in_by h
ends_few_of [] h below = omega arith
ends_few_of (⊕ a ∷ k) h below = ends_few_of k h below
ends_few_of (⊖ a ∷ k) h below =
    let own : 1 + ended_in a k ≤ begun_in a h = by_eqb a a (λ z. cond z (1 + ended_in a k) (ended_in a k) ≤ begun_in a h → 1 + ended_in a k ≤ begun_in a h) (λ p e. e) (λ p. absurd (p refl)) (below a) in
    let rest : ends_in k ≤ let_in_by (minus a h) = ends_few_of k (minus a h) (λ c.
    let o = minus_others c a h in
    by_eqb c a (λ z. cond z (1 + ended_in c k) (ended_in c k) ≤ begun_in c h → begun_in c h ≤ begun_in c (minus a h) + cond z 1 0 → ended_in c k ≤ begun_in c (minus a h)) (λ p x y. omega arith) (λ p x y. omega arith) (below c) o) in
    let one = minus_one a h (omega arith) in
    omega arith

pub ends_few : (h : History) → ((a : ℕ) → ended_in a h ≤ begun_in a h) → ends_in h ≤ let_in_by h
ends_few h below = ends_few_of h h below
