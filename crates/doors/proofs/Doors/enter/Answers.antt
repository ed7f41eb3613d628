use Rattle.std.proofs.Common.{refl, rules}
use Rattle.paths.specs.Words.{⊕}
use Rattle.doors.proofs.Standings.{holds_next, tells_next}
use Rattle.doors.proofs.Doors.enter.Goals as goal

pub returns : goal.returns
returns c =
    let e = ⊕ c.args.operation in
    let passed = c.pass.ensures.passed e refl (λ o before after called. search rules) in
    record {
      doors = holds_next e c.args.self.now c.pass.new.self passed;
      text = tells_next e c.args.self.now c.pass.new.self passed;
      unknown = c.pass.ensures.unknown;
    }
