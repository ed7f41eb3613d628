-- A table to which records are added.
use Rattle.std.proofs.Common.{◌≡◌, ℕ, ◌+◌, ◌-◌, ◌<◌, ◌≤◌, Bool, true, cond, ltb, List, [], ◌∷◌, ◌++◌, length, drop, set, sym, refl, ap, ◌∙◌, arith, length-append, length-set, drop-set-lt, lt-ltb}
use Rattle.std.proofs.lemmas.List.{drop-drop}
use Rattle.table.specs.declared.Table.{Table}
use Rattle.table.specs.Contents.{contents, all_places, RestKept}

module _ {T : Type 0} where
  pub kept_same : (t : Table T) → RestKept t t
  kept_same t = record { same = record { places = refl; rest = refl }; grows = omega arith }

  -- what holds behind a place holds behind a later one
  further : (xs ys : List T) (m n : ℕ) → m ≤ n → drop m xs ≡ drop m ys → drop n xs ≡ drop n ys
  further xs ys m n h e =
      let k : n ≡ m + (n - m) = omega arith in
      ap (λ (i : ℕ). drop i xs) k ∙ sym (drop-drop (n - m) m xs) ∙ ap (drop (n - m)) e ∙ drop-drop (n - m) m ys ∙ ap (λ (i : ℕ). drop i ys) (sym k)

  pub kept_both : (t u v : Table T) → RestKept t u → RestKept u v → RestKept t v
  kept_both t u v h k = record {
    same = record {
      places = k.same.places ∙ h.same.places;
      rest = k.same.rest ∙ further (all_places u) (all_places t) (length (contents u)) (length (contents v)) k.grows h.same.rest;
    };
    grows = (let a = h.grows in let b = k.grows in omega arith);
  }

  -- one record more
  pub record Added (t t' : Table T) (x : T) : Type 0 where
    pub records : contents t' ≡ contents t ++ (x ∷ [])
    pub kept : RestKept t t'

  -- what adding to a table with a place left makes of it
  pub added : (t t' : Table T) (x : T) (b : Bool) → length (contents t) < length (all_places t) → b ≡ ltb (length (contents t)) (length (all_places t)) →
      contents t' ≡ cond b (contents t ++ (x ∷ [])) (contents t) → all_places t' ≡ cond b (set (all_places t) (length (contents t)) x) (all_places t) → Added t t' x
  added t t' x b room full records places =
      let yes : b ≡ true = full ∙ lt-ltb _ _ room in
      let r : contents t' ≡ contents t ++ (x ∷ []) = records ∙ ap (λ (c : Bool). cond c (contents t ++ (x ∷ [])) (contents t)) yes in
      let p : all_places t' ≡ set (all_places t) (length (contents t)) x = places ∙ ap (λ (c : Bool). cond c (set (all_places t) (length (contents t)) x) (all_places t)) yes in
      let l = ap length r in
      let m = length-append (contents t) (x ∷ []) in
      record {
        records = r;
        kept = record {
          same = record {
            places = ap length p ∙ length-set (all_places t) (length (contents t)) x;
            rest = ap (drop (length (contents t'))) p ∙ drop-set-lt (length (contents t')) (all_places t) (length (contents t)) x (omega arith);
          };
          grows = omega arith;
        };
      }
