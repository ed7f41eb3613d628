-- How far the tokens of a text are read.
use Rattle.std.specs.Prelude.{◌≡◌, ℕ, ◌≤◌, false, List, ◌++◌, length, drop}
use Rattle.tokens.specs.declared.Token.{Token}
use Rattle.tokens.specs.Tokens.{Row, row_from, row_of}

-- the tokens before, then those of a row
abbrev pub onto : List Token → Row → Row
onto before r = record { tokens = before ++ r.tokens; stop = r.stop }

-- the text's tokens are those before, and then those from the place q on
abbrev pub Reached : List ℕ → List Token → ℕ → Type 0
Reached text before q = (q ≤ length text) × (row_of text ≡ onto before (row_from false q (drop q text)))
