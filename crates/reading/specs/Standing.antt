-- What always holds of a reading: what follows the tokens taken, and what was counted over them.
use Rattle.std.specs.Prelude.{◌≡◌, ℕ, ◌+◌, List, [], ◌∷◌, ◌++◌, length, Some, None, Ok, Err, Option, Result}
use Rattle.paths.specs.Grammar.{Terminal}
use Rattle.paths.specs.Sizes
use Rattle.paths.specs.Sizes.{how_many}
use Rattle.tokens.specs.declared.Token.{Token}
use Rattle.tokens.specs.declared.BytesFault.{BytesFault}
use Rattle.tokens.specs.declared.BytesFault.TheVariants.{TooLong, NoToken, LongName}
use Rattle.tokens.specs.Tokens.{at_end, no_token, long_name, stopped, row_of}
use Rattle.rules.specs.Rules.{opened, closed, names_of, own_from}
use Rattle.rules.specs.Reader.{onto, Reached}
use Rattle.reading.specs.declared.counting.Counts.{Counts}
use Rattle.reading.specs.Counting.{Own}
use Rattle.std.proofs.Props.{props}
use mathlib.Core.Sum.{⊎_set}

-- what follows the tokens before; the reader is behind it, at q
abbrev pub Follows : List ℕ → List Token → ℕ → Result (Option Token) BytesFault → Type 0
Follows text before q (Ok None) = row_of text ≡ onto before (stopped at_end)
Follows text before q (Ok (Some t)) = Reached text (before ++ (t ∷ [])) q
Follows text before q (Err TooLong) = ⊥
Follows text before q (Err (NoToken p)) = row_of text ≡ onto before (stopped (no_token p))
Follows text before q (Err (LongName p)) = row_of text ≡ onto before (stopped (long_name p))

pub Follows-prop : (text : List ℕ) (before : List Token) (q : ℕ) (a : Result (Option Token) BytesFault) → IsProp (Follows text before q a)
Follows-prop text before q (Ok None) = Prim.hlevel (props, ⊎_set)
Follows-prop text before q (Ok (Some t)) = Prim.hlevel (props, ⊎_set)
Follows-prop text before q (Err TooLong) = Prim.hlevel (props, ⊎_set)
Follows-prop text before q (Err (NoToken p)) = Prim.hlevel (props, ⊎_set)
Follows-prop text before q (Err (LongName p)) = Prim.hlevel (props, ⊎_set)

-- what was counted over a row
pub record Counted (c : Counts) (row : List Terminal) : Type 0 where
  pub paths : c.paths ≡ how_many Sizes.paths row
  pub occurrences : c.occurrences ≡ length (names_of row)
  pub brackets : c.brackets ≡ opened 1 1 row
  pub depth : c.depth + closed 1 1 row ≡ opened 1 1 row
  pub braces : c.braces + closed 0 1 row ≡ opened 0 1 row
  pub own : Own c.own (own_from [] row)
