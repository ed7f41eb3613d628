-- What a run needs to know of the doors beyond what they tell: letting one in frees nobody, the standing stays small, an operation occurs
-- at most once a path, and the opening standing is told by the occurrences.
use Rattle.std.specs.Prelude.{◌≡◌, cond, List, [], ◌∷◌, ◌++◌, ℕ, ◌+◌, ◌≤◌, eqb}
use Rattle.paths.specs.Grammar.{Text, yield_text}
use Rattle.paths.specs.Words.{⊕, ⊖, History}
use Rattle.paths.specs.Doors.{Occurrence, semaphore_of}
use Rattle.paths.specs.Texts.{EachProper, FitsAll, standing, text_doors, opens_at}
use Rattle.paths.specs.Sizes.{how_many, paths}

-- what fits after one more was let in, fitted before
abbrev pub LettingInFreesNobody : Type 0
LettingInFreesNobody = (t : Text) → EachProper t → (h : History) (a b : ℕ) → FitsAll t (h ++ (⊕ a ∷ ⊕ b ∷ [])) → FitsAll t (h ++ (⊕ b ∷ []))

-- how many were let in
abbrev pub let_in_by : History → ℕ
let_in_by [] = 0
let_in_by (⊕ a ∷ h) = 1 + let_in_by h
let_in_by (⊖ a ∷ h) = let_in_by h

-- no counter stands higher than the number of those let in, and no semaphore more than one above that number
pub record Small (t : Text) (h : History) (j : ℕ) : Type 0 where
  pub semaphores : (standing t h).semaphore j ≤ 1 + let_in_by h
  pub counters : (standing t h).counter j ≤ let_in_by h

-- after a history that fits, the standing is small: machine numbers suffice
abbrev pub StandingIsSmall : Type 0
StandingIsSmall = (t : Text) → EachProper t → (h : History) → FitsAll t h → (j : ℕ) → Small t h j

-- how many of the occurrences are of operation a
abbrev pub occurring : ℕ → List Occurrence → ℕ
occurring a [] = 0
occurring a (o ∷ os) = cond (eqb a o.operation) (1 + occurring a os) (occurring a os)

-- in a text of proper paths an operation has no more occurrences than there are paths: at most one in each
abbrev pub OnceAPath : Type 0
OnceAPath = (t : Text) → EachProper t → (a : ℕ) → occurring a (text_doors t 0 0 0) ≤ how_many paths (yield_text t)

-- At what semaphore j is set by one pass over the occurrences that come behind one of path n: wherever the path's number is not that of the
-- occurrence before, the semaphore of the left door is set to 1.
abbrev pub opened_behind : ℕ → List Occurrence → ℕ → ℕ
opened_behind n [] j = 0
opened_behind n (o ∷ os) j =
    cond (eqb o.path n) (opened_behind n os j) (cond (eqb j (semaphore_of o.left)) 1 (opened_behind o.path os j))

-- the same over all occurrences; the first one always sets its semaphore
abbrev pub opened_by : List Occurrence → ℕ → ℕ
opened_by [] j = 0
opened_by (o ∷ os) j = cond (eqb j (semaphore_of o.left)) 1 (opened_behind o.path os j)

-- that pass over the occurrences of a text gives the standing before any event
abbrev pub OpeningIsTold : Type 0
OpeningIsTold = (t : Text) (j : ℕ) → opens_at t 0 j ≡ opened_by (text_doors t 0 0 0) j
