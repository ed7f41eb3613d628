-- What is printed for one line fits on a page.
use Rattle.std.proofs.Common.{ℕ, ◌≤◌, List, length, arith, length-take}
use Rattle.tokens.specs.declared.Name.{Name}
use Rattle.tokens.specs.Tokens.{name_bytes}
use Rattle.order_log.specs.Answers.{ReadNames}

pub name_fits : (text : List ℕ) (names : List Name) → ReadNames names → (a : ℕ) → length (name_bytes text names a) ≤ 16
name_fits text names r a = let s = r.short a in simp length-take (omega arith)
