-- What a hand holds of a deal.
use mathlib.Core.Path.{◌≡◌, refl, sym, ◌∙◌, ap}
use mathlib.Core.Logic.{◌⊎◌, inl, inr, ◌≢◌}
use mathlib.Core.Bool.{Bool, true, false, cond}
use mathlib.Core.List.{List, [], ◌∷◌, ◌++◌, append-nil}
use Prim.Native.Nat.{ℕ, suc, ◌+◌, ◌≤◌}
use native.Mathlib.Omega.{arith}
use lib.Dec.{eqb}
use Rattle.paths.specs.Words.{History, Dealt, held, events}
use Rattle.paths.proofs.Tests.{eqb_same, eqb_cases, eqb_apart}
use Rattle.paths.proofs.Lists.{cons_not_nil}

pub held_same : (k : ℕ) (x : Dealt) (d : List Dealt) → k ≡ x.hand → held k (x ∷ d) ≡ x.event ∷ held k d
held_same k x d p = ap (λ (b : Bool). cond b (x.event ∷ held k d) (held k d)) (ap (λ (j : ℕ). eqb k j) (sym p) ∙ eqb_same k)

pub held_other : (k : ℕ) (x : Dealt) (d : List Dealt) → k ≢ x.hand → held k (x ∷ d) ≡ held k d
held_other k x d p = ap (λ (b : Bool). cond b (x.event ∷ held k d) (held k d)) (eqb_apart k x.hand p)

pub held_append : (k : ℕ) (u v : List Dealt) → held k (u ++ v) ≡ held k u ++ held k v
held_append k [] v = refl
held_append k (x ∷ u) v = go (eqb_cases k x.hand) (held_append k u v)
  where
    go : ((k ≡ x.hand) × (eqb k x.hand ≡ true)) ⊎ ((k ≢ x.hand) × (eqb k x.hand ≡ false)) → held k (u ++ v) ≡ held k u ++ held k v →
        held k ((x ∷ u) ++ v) ≡ held k (x ∷ u) ++ held k v
    go (inl p) ih = held_same k x (u ++ v) p.0 ∙ ap (λ (w : History). x.event ∷ w) ih ∙ ap (λ (w : History). w ++ held k v) (sym (held_same k x u p.0))
    go (inr p) ih = held_other k x (u ++ v) p.0 ∙ ih ∙ ap (λ (w : History). w ++ held k v) (sym (held_other k x u p.0))

pub held_snoc_same : (k : ℕ) (d : List Dealt) (x : Dealt) → k ≡ x.hand → held k (d ++ (x ∷ [])) ≡ held k d ++ (x.event ∷ [])
held_snoc_same k d x p = held_append k d (x ∷ []) ∙ ap (λ (w : History). held k d ++ w) (held_same k x [] p)

pub held_snoc_other : (k : ℕ) (d : List Dealt) (x : Dealt) → k ≢ x.hand → held k (d ++ (x ∷ [])) ≡ held k d
held_snoc_other k d x p = held_append k d (x ∷ []) ∙ ap (λ (w : History). held k d ++ w) (held_other k x [] p) ∙ append-nil (held k d)

pub events_append : (u v : List Dealt) → events (u ++ v) ≡ events u ++ events v
events_append [] v = refl
events_append (x ∷ u) v = ap (λ (w : History). x.event ∷ w) (events_append u v)

pub events_nil : (d : List Dealt) → events d ≡ [] → d ≡ []
events_nil [] p = refl
events_nil (x ∷ d) p = absurd (cons_not_nil p)

-- all of w in hand k
abbrev pub tag : ℕ → History → List Dealt
tag k [] = []
tag k (e ∷ w) = record { hand = k; event = e } ∷ tag k w

pub events_tag : (k : ℕ) (w : History) → events (tag k w) ≡ w
events_tag k [] = refl
events_tag k (e ∷ w) = ap (λ (v : History). e ∷ v) (events_tag k w)

pub held_tag : (k : ℕ) (w : History) → held k (tag k w) ≡ w
held_tag k [] = refl
held_tag k (e ∷ w) = held_same k (record { hand = k; event = e }) (tag k w) refl ∙ ap (λ (v : History). e ∷ v) (held_tag k w)

pub held_tag_other : (j k : ℕ) (w : History) → j ≢ k → held j (tag k w) ≡ []
held_tag_other j k [] n = refl
held_tag_other j k (e ∷ w) n = held_other j (record { hand = k; event = e }) (tag k w) n ∙ held_tag_other j k w n

pub tag_nil : (k : ℕ) (w : History) → tag k w ≡ [] → w ≡ []
tag_nil k [] p = refl
tag_nil k (e ∷ w) p = absurd (cons_not_nil p)

pub tag_cut : (k : ℕ) (w : History) (u v : List Dealt) → tag k w ≡ u ++ v → (a b : History) × (u ≡ tag k a) × (v ≡ tag k b)
tag_cut k w [] v p = ([], w, refl, sym p)
tag_cut k [] (x ∷ u) v p = absurd (cons_not_nil (sym p))
tag_cut k (e ∷ w) (x ∷ u) v p =
    let i = tag_cut k w u v (let q : tag k w ≡ u ++ v = cc in q) in
    let h : x ≡ record { hand = k; event = e } = cc in
    let g = i.2 in
    (e ∷ i.0, i.1, (cc), i.3)

pub held_first : (x : Dealt) (d : List Dealt) → held x.hand (x ∷ d) ≢ []
held_first x d p = cons_not_nil (sym (held_same x.hand x d refl) ∙ p)

-- a number above all hands of a deal
abbrev pub hands : List Dealt → ℕ
hands [] = 0
hands (x ∷ d) = suc (x.hand + hands d)

pub no_hand : (d : List Dealt) (k : ℕ) → hands d ≤ k → held k d ≡ []
no_hand [] k h = refl
no_hand (x ∷ d) k h = held_other k x d (λ p. let e : ⊥ = omega arith in e) ∙ no_hand d k (omega arith)
