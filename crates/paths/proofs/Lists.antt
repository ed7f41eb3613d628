-- Lists that grow at their end, and lists cut in two.
use mathlib.Core.Path.{◌≡◌, refl, sym, ◌∙◌, ap, subst}
use mathlib.Core.Logic.{◌⊎◌, inl, inr}
use mathlib.Core.List.{List, [], ◌∷◌, ◌++◌, append_assoc, append-nil}
use Prim.Native.Nat.{ℕ}
use native.Mathlib.Omega.{arith}

module _ {A : Type 0} where
  -- a list is empty, or it is something and one more
  pub snoc_view : (l : List A) → (l ≡ []) ⊎ ((m : List A) × (x : A) × (l ≡ m ++ (x ∷ [])))
  snoc_view [] = inl refl
  snoc_view (y ∷ l) = go (snoc_view l)
    where
      go : (l ≡ []) ⊎ ((m : List A) × (x : A) × (l ≡ m ++ (x ∷ []))) → ((y ∷ l) ≡ []) ⊎ ((m : List A) × (x : A) × ((y ∷ l) ≡ m ++ (x ∷ [])))
      go (inl p) = inr ([], y, ap (λ (k : List A). y ∷ k) p)
      go (inr q) = inr (y ∷ q.0, q.1, ap (λ (k : List A). y ∷ k) q.2)

  from_end : (P : List A → Type 0) → P [] → ((m : List A) (x : A) → P m → P (m ++ (x ∷ []))) → (m l : List A) → P m → P (m ++ l)
  from_end P p0 step m [] p = subst P (sym (append-nil m)) p
  from_end P p0 step m (x ∷ l) p = subst P (append_assoc m (x ∷ []) l) (from_end P p0 step (m ++ (x ∷ [])) l (step m x p))

  pub snoc_ind : (P : List A → Type 0) → P [] → ((m : List A) (x : A) → P m → P (m ++ (x ∷ []))) → (l : List A) → P l
  snoc_ind P p0 step l = from_end P p0 step [] l p0

  pub cons_not_nil : {x : A} {l : List A} → (x ∷ l) ≡ [] → ⊥
  cons_not_nil p = let z : ◌≡◌ {A = ℕ} 0 1 = cc in omega arith

  pub snoc_not_nil : (l : List A) (x : A) → l ++ (x ∷ []) ≡ [] → ⊥
  snoc_not_nil [] x p = cons_not_nil p
  snoc_not_nil (y ∷ l) x p = cons_not_nil p

  pub append_nil_left : (l m : List A) → l ++ m ≡ [] → l ≡ []
  append_nil_left [] m p = refl
  append_nil_left (y ∷ l) m p = absurd (cons_not_nil p)

  pub append_nil_right : (l m : List A) → l ++ m ≡ [] → m ≡ []
  append_nil_right [] m p = p
  append_nil_right (y ∷ l) m p = absurd (cons_not_nil p)

  pub snoc_inj : (l m : List A) (x y : A) → l ++ (x ∷ []) ≡ m ++ (y ∷ []) → (l ≡ m) × (x ≡ y)
  snoc_inj [] [] x y p = (refl, cc)
  snoc_inj [] (b ∷ m) x y p = absurd (snoc_not_nil m y (let q : m ++ (y ∷ []) ≡ [] = cc in q))
  snoc_inj (a ∷ l) [] x y p = absurd (snoc_not_nil l x (let q : l ++ (x ∷ []) ≡ [] = cc in q))
  snoc_inj (a ∷ l) (b ∷ m) x y p = let i = snoc_inj l m x y (let q : l ++ (x ∷ []) ≡ m ++ (y ∷ []) = cc in q) in (cc, i.1)

  -- one cut of a list stands before another, or behind it
  pub two_cuts : (a b u v : List A) → a ++ b ≡ u ++ v → ((m : List A) × (a ≡ u ++ m) × (v ≡ m ++ b)) ⊎ ((m : List A) × (u ≡ a ++ m) × (b ≡ m ++ v))
  two_cuts [] b u v p = inr (u, refl, p)
  two_cuts (x ∷ a) b [] v p = inl (x ∷ a, refl, sym p)
  two_cuts (x ∷ a) b (y ∷ u) v p = go (two_cuts a b u v (let q : a ++ b ≡ u ++ v = cc in q))
    where
      go : ((m : List A) × (a ≡ u ++ m) × (v ≡ m ++ b)) ⊎ ((m : List A) × (u ≡ a ++ m) × (b ≡ m ++ v)) →
          ((m : List A) × ((x ∷ a) ≡ (y ∷ u) ++ m) × (v ≡ m ++ b)) ⊎ ((m : List A) × ((y ∷ u) ≡ (x ∷ a) ++ m) × (b ≡ m ++ v))
      go (inl q) = let e = q.1 in inl (q.0, (cc), q.2)
      go (inr q) = let e = q.1 in inr (q.0, (cc), q.2)

  -- a list that ends in x, cut in two: the second part is empty, or ends in x
  pub snoc_cut : (l : List A) (x : A) (u v : List A) → l ++ (x ∷ []) ≡ u ++ v → (v ≡ []) ⊎ ((m : List A) × (v ≡ m ++ (x ∷ [])) × (l ≡ u ++ m))
  snoc_cut l x u v p = go (snoc_view v)
    where
      go : (v ≡ []) ⊎ ((m : List A) × (y : A) × (v ≡ m ++ (y ∷ []))) → (v ≡ []) ⊎ ((m : List A) × (v ≡ m ++ (x ∷ [])) × (l ≡ u ++ m))
      go (inl e) = inl e
      go (inr q) =
          let i = snoc_inj l (u ++ q.0) x q.1 (p ∙ ap (λ (k : List A). u ++ k) q.2 ∙ sym (append_assoc u q.0 (q.1 ∷ []))) in
          inr (q.0, q.2 ∙ ap (λ (z : A). q.0 ++ (z ∷ [])) (sym i.1), i.0)
