use Rattle.std.proofs.Common.{◌*◌, ◌≤◌, length, take}
use Rattle.std.specs.List.{flat_map}
use Rattle.page.specs.Written.{Written}
use Rattle.order_log.specs.Print.{let_in_line}
use Rattle.order_log.specs.Answers.{name_of, ReadNames}
use Rattle.order_log.proofs.prints.Printer.put_all.Given as goal

-- the lines so far
abbrev pub invariant-loop-one : goal.invariant-loop-one
invariant-loop-one l =
    let lines = flat_map (let_in_line (name_of l.self.names) l.self.number) (take l.one-index l.list) in
    Written lines l.initial.part l.part l.at × (ReadNames l.self.names.records.now → length lines ≤ 62 * l.one-index)
