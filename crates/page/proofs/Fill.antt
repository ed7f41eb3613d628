-- Bytes written behind bytes.
use Rattle.std.proofs.Common.{◌≡◌, ◌<◌, ℕ, ◌+◌, ◌-◌, ◌≤◌, min, ◌⊎◌, List, [], ◌++◌, length, take, drop, sym, ap, ◌∙◌, subst, inl, inr, append_assoc, append-nil, arith, length-append, length-drop, length-take}
use lib.Seq.{take-append-add}
use borrow.Rule.Slice.PartMut.{put_mid}
use Rattle.std.specs.List.{between}
use Rattle.std.proofs.lemmas.Slice.{between_to_end}
use Rattle.std.proofs.lemmas.List.{drop_all, drop-drop}
use Rattle.std.proofs.lemmas.Bool.{cases_lt}
use Rattle.std.proofs.lemmas.Grind.{common_steps}
use Rattle.page.specs.Written.{over, Written}

length_over : (bs old : List ℕ) → length (over bs old) ≡ length old
length_over bs old = simp (length-append, length-take, length-drop) (omega arith)

-- bytes behind bytes, the first written as far as the place n
over_append : (ds bs old : List ℕ) (n : ℕ) → n ≡ min (length ds) (length old) → over (ds ++ bs) old ≡ take n (over ds old) ++ over bs (drop n (over ds old))
over_append ds bs old n e = go (cases_lt (length ds) (length old))
  where
    go : (length ds < length old) ⊎ (length old ≤ length ds) → over (ds ++ bs) old ≡ take n (over ds old) ++ over bs (drop n (over ds old))
    go (inl h) =
        let is : n ≡ length ds = omega (arith, e) in
        let front : take n (over ds old) ≡ ds = grind (arith, common_steps) in
        let back : drop n (over ds old) ≡ drop n old = grind (arith, common_steps) in
        let split : length old ≡ length ds + length (drop n old) = simp length-drop (omega arith) in
        let taken : take (length old) (ds ++ bs) ≡ ds ++ take (length (drop n old)) bs = ap (λ k. take k (ds ++ bs)) split ∙ take-append-add ds bs (length (drop n old)) in
        let dropped : drop (length (ds ++ bs)) old ≡ drop (length bs) (drop n old) = grind (arith, common_steps) in
        (λ i. taken i ++ dropped i) ∙ append_assoc ds _ _ ∙ (λ i. sym front i ++ over bs (sym back i))
    go (inr h) = let is : n ≡ length old = omega (arith, e) in grind (arith, common_steps)

-- a piece in the part behind a first piece
pub written_more : {ds bs old xs part : List ℕ} {a b : ℕ} → Written ds old xs a → Written bs (between a (length xs) xs) part b → Written (ds ++ bs) old (put_mid a (length xs - a) xs part) (a + b)
written_more {ds} {bs} {old} {xs} {part} {a} {b} first second =
    let rest : between a (length xs) xs ≡ drop a xs = between_to_end xs a (length xs) (omega arith) in
    let whole : length xs ≡ length old = ap length first.holds ∙ length_over ds old in
    let left : length (between a (length xs) xs) ≡ length xs - a = ap length rest ∙ length-drop a xs in
    let none : drop (length xs - a) (drop a xs) ≡ [] = drop-drop (length xs - a) a xs ∙ drop_all (a + (length xs - a)) xs (omega arith) in
    let wrote : part ≡ over bs (drop a (over ds old)) = second.holds ∙ ap (over bs) (rest ∙ ap (drop a) first.holds) in
    record {
      holds = ap (λ l. take a xs ++ (part ++ l)) none ∙ ap (λ l. take a xs ++ l) (append-nil part) ∙ (λ i. take a (first.holds i) ++ wrote i) ∙ sym (over_append ds bs old a first.count);
      count = omega (arith, first.count, second.count, whole, left, length-append ds bs);
    }

-- the same bytes, written otherwise
pub same_bytes : {bs cs old new : List ℕ} {n : ℕ} → bs ≡ cs → Written bs old new n → Written cs old new n
same_bytes {old = old} {new = new} {n = n} e w = subst (λ l. Written l old new n) e w
