-- An input has one output.
use Rattle.std.specs.Prelude.{◌≡◌, ℕ, List}
use Rattle.unit.specs.Output.{Prints, OutputOf}
use Rattle.rooms.specs.Rule.{Rule}

-- over a room with these places and this rule of choice, what is printed for an input is one
abbrev pub OnePrint : ℕ → Rule → Type 0
OnePrint places rule = (input out out' : List ℕ) → Prints places rule input out → Prints places rule input out' → out ≡ out'

-- what the program prints for an input is one
abbrev pub OneOutput : Type 0
OneOutput = (input out out' : List ℕ) → OutputOf input out → OutputOf input out' → out ≡ out'
