use Rattle.std.proofs.Common.{◌≡◌, ◌<◌, ◌≤◌, ℕ, Bool, true, false, Option, Some, None, MatchOption, cond, refl, subst, sym, arith, rules}
use Rattle.std.proofs.Math.Dec.{ltb}
use Rattle.std.proofs.lemmas.Bool.{ltb-true, ltb-false}
use Rattle.std.proofs.lemmas.Iterator.{YieldsList-from_slice}
use Rattle.std.proofs.lemmas.Iterator.Search.{position_from_yields_List}
use Rattle.std.proofs.lemmas.List.Sums.{prefix_len-le-length}
use Rattle.std.specs.Str.{bytes_eq}
use Rattle.tokens.specs.declared.Name.{Name}
use Rattle.tokens.specs.Tokens.{spelled}
use Rattle.tokens.proofs.Names.number.Goals as goal

-- a number below the count, or none where it is the count
told : (n most : ℕ) → n ≤ most → (r : Option ℕ) → r ≡ cond (ltb n most) (Some n) None → MatchOption r (n ≡ most) (λ k. (k < most) × (k ≡ n))
told n most le r e = subst (λ s. MatchOption s (n ≡ most) (λ k. (k < most) × (k ≡ n))) (sym e) (go (ltb n most) refl)
  where
    go : (b : Bool) → ltb n most ≡ b → MatchOption (cond b (Some n) None) (n ≡ most) (λ k. (k < most) × (k ≡ n))
    go true h = (ltb-true n most h, refl)
    go false h = omega (arith, ltb-false n most h)

pub returns : goal.returns
returns c = record {
  number = told _ _ (prefix_len-le-length _ c.args.self.records.now) _
      (position_from_yields_List (λ (u : Name). bytes_eq (spelled c.args.self.text.now u.place u.len) c.args.word.now) _ _ _ c.position.ensures.ran (YieldsList-from_slice c.args.self.records.now cc) (λ x b q k. search rules));
}
