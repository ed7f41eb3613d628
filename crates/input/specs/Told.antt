-- What the calls on an input tell.
use Rattle.std.specs.Prelude.{◌≡◌, ℕ, List, [], Option, Some, None}
use Rattle.std.specs.Borrow.{Bor}
use Rattle.input.specs.declared.LineReader.{LineReader}
use Rattle.input.specs.Input.{FirstLine}

-- the bytes that a reader has still to read
abbrev pub unread : LineReader → List ℕ
unread r = r.rest.now

-- a call of `next` gave the first line of what was unread and left what follows it, or none where all was read
abbrev pub GivesLine : LineReader → Option (Bor (List ℕ)) → LineReader → Type 0
GivesLine old None new = (unread old ≡ []) × (unread new ≡ [])
GivesLine old (Some line) new = FirstLine (unread old) line.now (unread new)
