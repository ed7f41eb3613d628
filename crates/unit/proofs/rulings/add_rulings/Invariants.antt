use Rattle.std.proofs.Common.{[], vec_items}
use Rattle.std.specs.Iterator.Adapters.{enumerate_source, enumerate_count}
use Rattle.paths.specs.Grammar.{Text}
use Rattle.run.specs.Memory.{Reached}
use Rattle.input.specs.Told.{unread}
use Rattle.order_log.specs.Answers.{ReadNames}
use Rattle.unit.proofs.Adding.{Going}
use Rattle.unit.proofs.rulings.add_rulings.Given as goal

abbrev pub invariant-loop-i : goal.invariant-loop-i
invariant-loop-i g l =
    (t : Text) → ReadNames (l.names.records.now) → Reached t g.R.Room.rule l.initial.run [] →
    Going g.R.Room.places g.R.Room.rule t l.names.text.now (l.names.records.now) (vec_items l.initial.out) l.log (unread (enumerate_source l.i-iterator)) (enumerate_count l.i-iterator) l.run (vec_items l.out)
