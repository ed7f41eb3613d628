use Rattle.std.proofs.Common.{◌≡◌, take, fold}
use Rattle.paths.specs.Words.{Event}
use Rattle.doors.specs.Memory.{standing_of, Low, through, PassesBy}
use Rattle.doors.proofs.Doors.pass.Given as goal

-- `self` is lent in parts: the rows, which are read, and the levels
abbrev pub invariant-loop-occurrence : goal.invariant-loop-occurrence
invariant-loop-occurrence g l =
    let before = l.initial.self.1.1.0 in
    let levels = l.self.1.1.0 in
    record {
      passed : (e : Event) → PassesBy e (λ o p q. goal.F-post g l.by p o tt q) → Low (standing_of before) → standing_of levels ≡ fold (through e) (standing_of before) (take l.occurrence-index l.occurrence-items);
      none : l.occurrence-index ≡ 0 → levels ≡ before;
    }
