-- What a part of a page holds after bytes were written at its front.
use Rattle.std.specs.Prelude.{◌≡◌, ℕ, min, List, ◌++◌, length, take, drop}
use Rattle.page.specs.declared.SmallPage.{SmallPage}

-- the number of the refusal
abbrev pub refusal_number : SmallPage → ℕ
refusal_number e = 22

-- bytes over the front of what was there, as far as that reaches; behind them it stays
abbrev pub over : List ℕ → List ℕ → List ℕ
over bytes old = take (length old) bytes ++ drop (length bytes) old

-- the part old became new, and n bytes of it were written
pub record Written (bytes old new : List ℕ) (n : ℕ) : Type 0 where
  pub holds : new ≡ over bytes old
  pub count : n ≡ min (length bytes) (length old)
