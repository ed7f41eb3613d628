use Rattle.doors.proofs.Opened.{Kept}
use Rattle.doors.proofs.Doors.new.Given as goal

abbrev pub invariant-loop-occurrence : goal.invariant-loop-occurrence
invariant-loop-occurrence l = Kept l.occurrences l.occurrence-index l.doors l.before
