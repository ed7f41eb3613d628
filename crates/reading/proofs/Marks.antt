-- The marks that say which names a path has.
use Rattle.std.proofs.Common.{◌≡◌, ℕ, ◌<◌, Bool, true, false, ◌||◌, eqb, List, [], ◌∷◌, ◌++◌, get_or, set, replicate, sym, refl, ap, ◌∙◌, arith, length-set, get_or-set_other, get_or-set_same, eqb-true}
use mathlib.Core.Bool.{or-true, or-false}
use borrow.Author.Tests.{eqb-false}
use Rattle.std.proofs.lemmas.List.{get_or-replicate}
use Rattle.paths.specs.Words.{among}
use Rattle.rules.proofs.Among.{among_snoc}
use Rattle.reading.specs.Counting.{Own}

-- one name more
pub own_more : (own : List Bool) (ns : List ℕ) (n : ℕ) → n < 64 → Own own ns → Own (set own n true) (ns ++ (n ∷ []))
own_more own ns n l o = record {
  wide = length-set own n true ∙ o.wide;
  marks = λ m h. go m h (eqb m n) refl;
}
  where
    go : (m : ℕ) → m < 64 → (b : Bool) → eqb m n ≡ b → get_or (set own n true) m false ≡ among m (ns ++ (n ∷ []))
    go m h true e =
        let k : m ≡ n = eqb-true m n e in
        ap (λ (i : ℕ). get_or (set own n true) i false) k ∙ get_or-set_same own n true false (let w = o.wide in omega arith)
        ∙ sym (among_snoc m ns n ∙ ap (λ (b : Bool). among m ns || b) e ∙ or-true (among m ns))
    go m h false e =
        get_or-set_other own n m true false (eqb-false m n e) ∙ o.marks m h
        ∙ sym (among_snoc m ns n ∙ ap (λ (b : Bool). among m ns || b) e ∙ or-false (among m ns))

-- none yet
pub no_names : Own (replicate 64 false) []
no_names = record { wide = refl; marks = λ n l. get_or-replicate 64 n false false l }
