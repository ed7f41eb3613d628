use Rattle.run.proofs.Tables.{inside, admits_nobody, admits_one}
use Rattle.run.proofs.state.Run.admit.Goals as goal

pub returns-in_err-entry : goal.returns-in_err-entry
returns-in_err-entry g c = rw c.from_residual.ensures (admits_nobody g.R.Room.rule _ _ _ c.self.view_is _ c.fitting-table.ensures.says c.in_err-entry.ensures.says (let same = c.in_err-entry.ensures.none in cc))

pub go_in-requires : goal.go_in-requires
go_in-requires g c = inside c.fitting-table.result c.in_ok-entry.entry.operation c.fitting-table.ensures.long (g.met.R.Room.sound _ _ _ _ c.in_ok-entry.ensures.says.0).1

pub returns : goal.returns
returns g c =
    let took = c.in_ok-entry.ensures in
    admits_one g.R.Room.rule _ _ _ c.self.view_is _ c.fitting-table.ensures.says c.take.new.self _ _ _ took.says took.remembers
    (inside c.fitting-table.result c.in_ok-entry.entry.operation c.fitting-table.ensures.long (g.met.R.Room.sound _ _ _ _ took.says.0).1) c.go_in.ensures
