-- What a closed run counted.
use Rattle.std.specs.Prelude.{◌≡◌, ◌+◌, List, length}
use Rattle.run.specs.declared.answer.Totals.{Totals}
use Rattle.run.specs.Records.{Record, accepted, let_in, waiting, ended, withdrawn}

-- the totals are counted from the answers: running are those let in less those ended
pub record Totaled (rs : List Record) (r : Totals) : Type 0 where
  pub accepted : r.accepted ≡ accepted rs
  pub running : r.running + ended rs ≡ let_in rs
  pub waiting : r.waiting ≡ length (waiting rs)
  pub ended : r.ended ≡ ended rs
  pub withdrawn : r.withdrawn ≡ withdrawn rs
