-- What is no text is none of the words.
use Rattle.std.proofs.Common.{◌≡◌, ℕ, List, codes, IsUtf8, sym, subst, rules}
use Rattle.std.proofs.lemmas.Slice.Eq.{bytes_eq-Decides}
use Rattle.std.proofs.lemmas.Str.{IsUtf8-from_ascii}
use Rattle.tokens.specs.declared.Kind.TheVariants.{Name}
use Rattle.tokens.specs.Tokens.{word_kind}

pub no_text : (w : List ℕ) → (IsUtf8 w → ⊥) → word_kind w ≡ Name
no_text w h =
    let p : w ≡ codes "path" → ⊥ = λ e. h (subst IsUtf8 (sym e) (IsUtf8-from_ascii _ (search rules))) in
    let e : w ≡ codes "end" → ⊥ = λ e. h (subst IsUtf8 (sym e) (IsUtf8-from_ascii _ (search rules))) in
    search (rules, bytes_eq-Decides)
