-- What has begun can be finished.
use mathlib.Core.Path.{◌≡◌, refl, sym, ◌∙◌, ap, subst}
use mathlib.Core.Logic.{◌⊎◌, inl, inr, ◌≢◌}
use mathlib.Core.Bool.{true, false}
use mathlib.Core.List.{List, [], ◌∷◌, ◌++◌, append_assoc, append-nil}
use Prim.Native.Nat.{ℕ, zero, suc, ◌+◌, ◌≤◌, ◌<◌}
use native.Mathlib.Omega.{arith}
use native.Mathlib.Decide.{dec_le}
use lib.Dec.{eqb}
use Rattle.paths.specs.Words.{⊕, ⊖, History, Language, Burst, Dealt, held, events}
use Rattle.paths.specs.Doors.{Door, plain, with_counter}
use Rattle.paths.proofs.Tests.{zero_one, eqb_cases}
use Rattle.paths.proofs.Lists.{cons_not_nil, two_cuts, append_nil_left, append_nil_right}
use Rattle.paths.proofs.Core.{Core, leaf, seq, alt, burst, W, sems, ctrs}
use Rattle.paths.proofs.Deals.{events_nil, events_append, tag, held_tag, held_tag_other, held_append, held_first}
use Rattle.paths.proofs.Now.{Status, idle, done, waiting, running, Node, at, inside, Unfinished, Told, Going, Now, Busy, word_not_nil, some_word}
use Rattle.paths.proofs.Peel.{Good, simple_good, PrefixFree, prefix_free}

-- what stands somewhere, as M tells, goes on to a word of L
abbrev pub Completes : Language → (History → Node → Type 0) → Type 0
Completes L M = (w : History) (n : Node) → M w n → (v : History) × (v ≢ []) × L (w ++ v)

module _ (L : Language) (pf : PrefixFree L) (M : History → Node → Type 0) (fin : Completes L M) where
  rest_of : (k : Status) (w : History) → Told L M k w → (v : History) × (((w ≡ []) × (v ≡ [])) ⊎ L (w ++ v)) × (v ≢ [] → w ≢ []) × (Busy k → v ≢ [])
  rest_of idle w h = ([], inl (h, refl), (λ n. absurd (n refl)), (λ b. absurd b))
  rest_of done w h = ([], inr (subst L (sym (append-nil w)) h), (λ n. absurd (n refl)), (λ b. absurd b))
  rest_of (waiting j) w h = let i = fin w (at (plain j)) h.1 in (i.0, inr i.2, (λ n. h.0), (λ b. i.1))
  rest_of (running o) w h = let i = fin w (inside o) h.1 in (i.0, inr i.2, (λ n. h.0), (λ b. i.1))

  told_busy : (k : Status) (w : History) → Told L M k w → Unfinished L w → Busy k
  told_busy idle w h u = absurd (u.0 h)
  told_busy done w h u = absurd (u.2 (pf w u.1 h u.3))
  told_busy (waiting j) w h u = tt
  told_busy (running o) w h u = tt

  module _ (rest : ℕ → History) where
    rests : ℕ → List Dealt
    rests zero = []
    rests (suc n) = tag n (rest n) ++ rests n

    held_rests : (n k : ℕ) → (k < n → held k (rests n) ≡ rest k) × (n ≤ k → held k (rests n) ≡ [])
    unfolding rests
    held_rests zero k = ((λ h. let e : ⊥ = omega arith in absurd e), (λ h. refl))
    held_rests (suc n) k = go (eqb_cases k n) (held_rests n k)
      where
        go : ((k ≡ n) × (eqb k n ≡ true)) ⊎ ((k ≢ n) × (eqb k n ≡ false)) → (k < n → held k (rests n) ≡ rest k) × (n ≤ k → held k (rests n) ≡ []) →
            (k < suc n → held k (tag n (rest n) ++ rests n) ≡ rest k) × (suc n ≤ k → held k (tag n (rest n) ++ rests n) ≡ [])
        go (inl p) ih = (
          (λ h. held_append k (tag n (rest n)) (rests n)
              ∙ ap (λ (z : History). held k (tag n (rest n)) ++ z) (ih.1 (let e = p.0 in omega arith))
              ∙ append-nil (held k (tag n (rest n)))
              ∙ ap (λ (j : ℕ). held k (tag j (rest j))) (sym p.0)
              ∙ held_tag k (rest k)),
          (λ h. let e : ⊥ = (let q = p.0 in omega arith) in absurd e),
        )
        go (inr p) ih =
            let skip = held_append k (tag n (rest n)) (rests n) ∙ ap (λ (z : History). z ++ held k (rests n)) (held_tag_other k n (rest n) p.0) in
            ((λ h. skip ∙ ih.0 (let q = p.0 in omega arith)), (λ h. skip ∙ ih.1 (omega arith)))

  module _ (d : List Dealt) (N : ℕ) (f : ℕ → Status) (ne : d ≢ []) (G : Going L M d N f) where
    rest : ℕ → History
    rest k = (rest_of (f k) (held k d) (G.each k)).0

    all : List Dealt
    all = rests rest N

    idle_rest : (k : Status) (w : History) (t : Told L M k w) → k ≡ idle → (rest_of k w t).0 ≡ []
    unfolding rest_of
    idle_rest idle w t p = refl
    idle_rest done w t p = refl
    idle_rest (waiting j) w t p = zero_one (cc)
    idle_rest (running o) w t p = zero_one (cc)

    held_all : (k : ℕ) → held k all ≡ rest k
    unfolding all rest
    held_all k = go (dec_le N k)
      where
        go : Dec (N ≤ k) → held k all ≡ rest k
        go (yes h) = (held_rests rest N k).1 h ∙ sym (idle_rest (f k) (held k d) (G.each k) (G.bound k h))
        go (no h) = (held_rests rest N k).0 (omega arith)

    words : (k : ℕ) → (held k (d ++ all) ≡ []) ⊎ L (held k (d ++ all))
    unfolding rest
    words k = go (rest_of (f k) (held k d) (G.each k)).1
      where
        E : held k (d ++ all) ≡ held k d ++ rest k
        E = held_append k d all ∙ ap (λ (z : History). held k d ++ z) (held_all k)

        go : ((held k d ≡ []) × (rest k ≡ [])) ⊎ L (held k d ++ rest k) → (held k (d ++ all) ≡ []) ⊎ L (held k (d ++ all))
        go (inl p) = inl (E ∙ ap (λ (z : History). z ++ rest k) p.0 ∙ p.1)
        go (inr p) = inr (subst L (sym E) p)

    overlap : (u v : List Dealt) → d ++ all ≡ u ++ v → u ≢ [] → v ≢ [] → (k : ℕ) × (held k u ≢ []) × (held k v ≢ [])
    unfolding rest
    overlap u v p nu nv = go (two_cuts d all u v p)
      where
        early : (k : ℕ) → Unfinished L (held k u) → held k v ≢ []
        early k b q = go (words k)
          where
            E : held k (d ++ all) ≡ held k u
            E = ap (held k) p ∙ held_append k u v ∙ ap (λ (z : History). held k u ++ z) q ∙ append-nil (held k u)

            go : (held k (d ++ all) ≡ []) ⊎ L (held k (d ++ all)) → ⊥
            go (inl z) = b.0 (sym E ∙ z)
            go (inr z) = b.2 (pf (held k u) b.1 (subst L E z) b.3)

        late : (v : List Dealt) → v ≢ [] → (m : List Dealt) → u ≡ d ++ m → all ≡ m ++ v → (k : ℕ) × (held k u ≢ []) × (held k v ≢ [])
        late [] n m a b = absurd (n refl)
        late (y ∷ v) n m a b = (
          y.hand,
          (λ q. (rest_of (f y.hand) (held y.hand d) (G.each y.hand)).2
              (λ z. held_first y v (append_nil_right (held y.hand m) (held y.hand (y ∷ v)) (sym (held_append y.hand m (y ∷ v)) ∙ ap (held y.hand) (sym b) ∙ held_all y.hand ∙ z)))
              (append_nil_left (held y.hand d) (held y.hand m) (sym (held_append y.hand d m) ∙ ap (held y.hand) (sym a) ∙ q))),
          held_first y v,
        )

        go : ((m : List Dealt) × (d ≡ u ++ m) × (v ≡ m ++ all)) ⊎ ((m : List Dealt) × (u ≡ d ++ m) × (all ≡ m ++ v)) → (k : ℕ) × (held k u ≢ []) × (held k v ≢ [])
        go (inl i) = let b = G.busy u i.0 i.1 nu in (b.0, b.1.0, early b.0 b.1)
        go (inr i) = late v nv i.0 i.1 i.2

    finish : (v : History) × (v ≢ []) × Burst L (events d ++ v)
    unfolding rest
    finish = (events all, some, (d ++ all, events_append d all, record { some_dealt = λ p. ne (append_nil_left d all p); words = words; inside = overlap }))
      where
        some : events all ≢ []
        some p =
            let b = G.busy d [] (sym (append-nil d)) ne in
            let k = told_busy (f b.0) (held b.0 d) (G.each b.0) b.1 in
            (rest_of (f b.0) (held b.0 d) (G.each b.0)).3 k (sym (held_all b.0) ∙ ap (held b.0) (events_nil all p))

-- a word that has begun, wherever it stands, can be finished
pub complete : (t : Core) → Good t → (l r : Door) (s c : ℕ) → Completes (W t) (Now t l r s c)
complete (leaf π a) g l r s c u n (inl h) = (⊕ a ∷ ⊖ a ∷ [], cons_not_nil, ap (λ (z : History). z ++ (⊕ a ∷ ⊖ a ∷ [])) h.0)
complete (leaf π a) g l r s c u n (inr h) = (⊖ a ∷ [], cons_not_nil, ap (λ (z : History). z ++ (⊖ a ∷ [])) h.0)
complete (seq x y) g l r s c u n (inl h) =
    let i = complete x g.0 l (plain (s + sems x)) s c u n h in
    let w = some_word y in
    (i.0 ++ w.0, (λ p. i.1 (append_nil_left i.0 w.0 p)), (u ++ i.0, w.0, sym (append_assoc u i.0 w.0), i.2, w.1))
complete (seq x y) g l r s c u n (inr h) =
    let i = complete y g.1 (plain (s + sems x)) r (s + sems x + 1) (c + ctrs x) h.1 n h.4 in
    (i.0, i.1, (h.0, h.1 ++ i.0, ap (λ (z : History). z ++ i.0) h.2 ∙ append_assoc h.0 h.1 i.0, h.3, i.2))
complete (alt x y) g l r s c u n (inl h) = let i = complete x g.0 l r s c u n h in (i.0, i.1, inl i.2)
complete (alt x y) g l r s c u n (inr h) = let i = complete y g.1 l r (s + sems x) (c + ctrs x) u n h in (i.0, i.1, inr i.2)
complete (burst x) g l r s c u n (inl h) =
    let w = some_word (burst x) in (w.0, word_not_nil (burst x) w.0 w.1, subst (λ (z : History). Burst (W x) (z ++ w.0)) (sym h.0) w.1)
complete (burst x) g l r s c u n (inr h) =
    let i = finish (W x) (prefix_free x g) (Now x (with_counter c l) (with_counter c r) s (c + 1))
    (complete x (simple_good x g) (with_counter c l) (with_counter c r) s (c + 1)) h.0 h.1 h.2 h.4 h.6 in
    (i.0, i.1, subst (λ (z : History). Burst (W x) (z ++ i.0)) h.3 i.2)
