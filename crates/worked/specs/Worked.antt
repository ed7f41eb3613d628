-- Worked cases, from the definitions.
use Rattle.std.specs.Prelude.{ℕ, List, [], ◌∷◌, ◌++◌, codes}
use Rattle.std.specs.List.{flat_map}
use Rattle.paths.specs.Judged.{Judged}
use Rattle.rules.specs.Faults.{Cases}
use Rattle.unit.specs.Output.{OutputOf}

-- lines, each ended by byte 10
abbrev pub written : List (List ℕ) → List ℕ
written lines = flat_map (λ (line : List ℕ). line ++ (10 ∷ [])) lines

-- a text and its log
abbrev pub arm_input : List ℕ
arm_input = written
    (codes "path arm; {touch, hand}; split end"
    ∷ codes "%"
    ∷ codes "b arm 5"
    ∷ codes "b touch 5"
    ∷ codes "e arm"
    ∷ codes "b hand 1"
    ∷ codes "e split"
    ∷ codes "e touch"
    ∷ codes "b split 2"
    ∷ codes "e hand"
    ∷ [])

-- what is printed for it
abbrev pub arm_output : List ℕ
arm_output = written
    (codes "0 arm in 0 out 1"
    ∷ codes "0 touch in 1/0 out 2/0"
    ∷ codes "0 hand in 1/0 out 2/0"
    ∷ codes "0 split in 2 out 0"
    ∷ codes "1 arm in 1"
    ∷ codes "2 touch waits 2"
    ∷ codes "3 arm out"
    ∷ codes "3 touch in 2"
    ∷ codes "4 hand in 3"
    ∷ codes "5 refused 17"
    ∷ codes "6 touch out"
    ∷ codes "7 split waits 4"
    ∷ codes "8 hand out"
    ∷ codes "8 split in 4"
    ∷ codes "total 4 1 0 3 0"
    ∷ [])

-- texts at fault, histories judged, and the output for an input
pub record WorkedCases : Type 0 where
  pub faults : Cases
  pub histories : Judged
  pub output : OutputOf arm_input arm_output
