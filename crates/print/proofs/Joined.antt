-- One piece more, and what a page holds where all fits.
use Rattle.std.proofs.Common.{◌≡◌, ℕ, ◌+◌, ◌-◌, ◌<◌, ◌≤◌, List, ◌++◌, length, get_or, take, drop, sym, ap, ◌∙◌, arith, length-append}
use Rattle.std.specs.List.{between, flat_map}
use Rattle.std.proofs.lemmas.List.{flat_map_more, take_more, take_all}
use borrow.Rule.Slice.PartMut.{put_mid}
use Rattle.page.specs.Written.{Written}
use Rattle.page.proofs.Fill.{written_more, same_bytes}
use Rattle.print.specs.Printed.{Whole}

module _ {X : Type 0} (f : X → List ℕ) (bs : List ℕ) (xs : List X) (i : ℕ) (d : X) (here : i < length xs) where
  -- the pieces of the first i items behind some bytes, and that of the item at i
  one_piece : (bs ++ flat_map f (take i xs)) ++ f (get_or xs i d) ≡ bs ++ flat_map f (take (i + 1) xs)
  one_piece = flat_map_more f bs (take i xs) (get_or xs i d) ∙ ap (λ l. bs ++ flat_map f l) (sym (take_more xs i d here))

  pub piece_length : length (bs ++ flat_map f (take (i + 1) xs)) ≡ length (bs ++ flat_map f (take i xs)) + length (f (get_or xs i d))
  piece_length = ap length (sym one_piece) ∙ length-append (bs ++ flat_map f (take i xs)) (f (get_or xs i d))

  pub written_next : {old now part : List ℕ} {a b : ℕ} → Written (bs ++ flat_map f (take i xs)) old now a → Written (f (get_or xs i d)) (between a (length now) now) part b →
      Written (bs ++ flat_map f (take (i + 1) xs)) old (put_mid a (length now - a) now part) (a + b)
  written_next first second = same_bytes one_piece (written_more first second)

-- bytes that fit are written whole
pub whole : {bytes old new : List ℕ} {n : ℕ} → length bytes ≤ length old → Written bytes old new n → Whole bytes old new n
whole {bytes} {old} fits w = record { holds = w.holds ∙ ap (λ l. l ++ drop (length bytes) old) (take_all (length old) bytes fits); count = omega (arith, w.count) }
