-- What is printed of an accepted text fits on a page.
use Rattle.std.proofs.Common.{ℕ, ◌*◌, ◌<◌, ◌≤◌, List, [], ◌∷◌, length, decimal, refl, arith, length-append, length-take}
use mathlib.Core.List.{Memᴰ}
use Rattle.std.proofs.lemmas.Fmt.{length-decimal-le}
use Rattle.paths.specs.Grammar.{Text, yield_text}
use Rattle.paths.specs.Doors.{Door, plain, counted, Occurrence as TheOccurrence}
use Rattle.paths.specs.Texts.{text_doors}
use Rattle.paths.specs.Sizes.{how_many, semaphores, counters, Below}
use Rattle.paths.proofs.Sizes.{doors_are_few}
use Rattle.tokens.specs.declared.Name.{Name}
use Rattle.tokens.specs.Tokens.{tokens, name_at, name_bytes}
use Rattle.rules.specs.Names.{firsts}
use Rattle.rules.specs.Rules.{Within}
use Rattle.rules.proofs.Within.{limits_count}
use Rattle.print.specs.Words.{door_bytes}
use Rattle.print.specs.Lines.{line, lines, doors_print}
use Rattle.print.proofs.Short.{short_name}

pub three : (n : ℕ) → n < 256 → length (decimal n) ≤ 3
three n h = length-decimal-le 3 n (omega arith) (omega arith) (omega arith)

door_length : (d : Door) → Below 256 256 d → length (door_bytes d) ≤ 7
door_length (plain s) h = let a = three s h in omega arith
door_length (counted s c) h = let a = three s h.0 in let b = three c h.1 in simp length-append (omega arith)

module _ (text : List ℕ) (names : List Name) (short : (n : ℕ) → (name_at names n).len ≤ 16) where
  name_length : (n : ℕ) → length (name_bytes text names n) ≤ 16
  name_length n = let s = short n in simp length-take (omega arith)

  line_length : (o : TheOccurrence) → o.path < 256 → Below 256 256 o.left → Below 256 256 o.right → length (line text names o) ≤ 44
  line_length o p l r =
      let path = three o.path p in
      let name = name_length o.operation in
      let left = door_length o.left l in
      let right = door_length o.right r in
      simp length-append (omega arith)

  lines_length : (os : List TheOccurrence) → ((o : TheOccurrence) → Memᴰ o os → length (line text names o) ≤ 44) → length (lines text names os) ≤ 44 * length os
  lines_length [] h = omega arith
  lines_length (o ∷ os) h =
      let one = h o (Memᴰ.head refl) in
      let others = lines_length os (λ p m. h p (Memᴰ.tail m)) in
      omega (arith, length-append (line text names o) (lines text names os))

below_more : (s c : ℕ) (d : Door) → s ≤ 256 → c ≤ 256 → Below s c d → Below 256 256 d
below_more s c (plain i) hs hc h = omega arith
below_more s c (counted i k) hs hc h = (let a = h.0 in omega arith, let b = h.1 in omega arith)

pub doors_fit : (text : List ℕ) (t : Text) → Within t → length (doors_print text t) ≤ 16384
doors_fit text t w =
    let few = doors_are_few t in
    let many = limits_count t w in
    let small : (o : TheOccurrence) → Memᴰ o (text_doors t 0 0 0) → length (line text (firsts text (tokens text)) o) ≤ 44 =
    λ o m. let s : how_many semaphores (yield_text t) ≤ 256 = omega arith in
    let c : how_many counters (yield_text t) ≤ 256 = omega arith in
    let p = few.path_numbers o m in
    line_length text (firsts text (tokens text)) (short_name text) o (omega arith)
    (below_more _ _ o.left s c (few.numbers o m).0) (below_more _ _ o.right s c (few.numbers o m).1) in
    let all = lines_length text (firsts text (tokens text)) (short_name text) (text_doors t 0 0 0) small in
    omega (arith, few.occurrences)
