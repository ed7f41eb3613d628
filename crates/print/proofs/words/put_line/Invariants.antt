use Rattle.std.proofs.Common.{◌+◌, ◌≤◌, length, take}
use Rattle.page.specs.Written.{Written}
use Rattle.print.specs.Words.{line_most}
use Rattle.print.proofs.Spaced.{spaced}
use Rattle.print.proofs.words.put_line.Given as goal

-- the words so far
abbrev pub invariant-loop-word : goal.invariant-loop-word
invariant-loop-word l =
    let ws = take l.word-index l.others in
    Written (spaced l.first ws) l.fn.part l.part l.at × (length (spaced l.first ws) + 1 ≤ line_most l.first ws)
