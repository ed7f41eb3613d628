-- What a page holds after a print.
use Rattle.std.specs.Prelude.{◌≡◌, ℕ, List, ◌++◌, length, drop, Ok, Err, Result}
use Rattle.paths.specs.Grammar.{Text}
use Rattle.paths.specs.Texts.{text_doors}
use Rattle.tokens.specs.declared.Name.{Name}
use Rattle.tokens.specs.Tokens.{tokens}
use Rattle.rules.specs.Names.{firsts}
use Rattle.rules.specs.Rules.{Within}
use Rattle.doors.specs.declared.Occurrence.{Occurrence}
use Rattle.doors.specs.Told.{all_told}
use Rattle.page.specs.declared.SmallPage.{SmallPage}
use Rattle.page.specs.Written.{Written}

-- the page's front is exactly the bytes, the rest is as it was, and the answer is how many bytes
pub record Whole (bytes old new : List ℕ) (n : ℕ) : Type 0 where
  pub holds : new ≡ bytes ++ drop (length bytes) old
  pub count : n ≡ length bytes

-- printed whole, or refused with the page untouched
abbrev pub Printed : List ℕ → List ℕ → List ℕ → Result ℕ SmallPage → Type 0
Printed bytes old new (Ok n) = Whole bytes old new n
Printed bytes old new (Err e) = new ≡ old

-- printed as far as the page reaches, or refused with the page untouched
abbrev pub Put : List ℕ → List ℕ → List ℕ → Result ℕ SmallPage → Type 0
Put bytes old new (Ok n) = Written bytes old new n
Put bytes old new (Err e) = new ≡ old

-- t is within the limits, the names are the first occurrences of the text's names, and the occurrences are the doors of t
pub record DoorsOf (text : List ℕ) (names : List Name) (occurrences : List Occurrence) (t : Text) : Type 0 where
  pub within : Within t
  pub names_are : names ≡ firsts text (tokens text)
  pub doors_are : all_told occurrences ≡ text_doors t 0 0 0
