-- An operation that runs can end.
use mathlib.Core.Path.{◌≡◌, refl, sym, ◌∙◌, ap, subst}
use mathlib.Core.Logic.{◌⊎◌, inl, inr, ◌≢◌}
use mathlib.Core.Bool.{true, false}
use mathlib.Core.List.{List, [], ◌∷◌, ◌++◌, append_assoc, append-nil}
use Prim.Native.Nat.{ℕ, zero, suc, ◌+◌, ◌<◌}
use native.Mathlib.Omega.{arith}
use lib.Dec.{eqb}
use Rattle.paths.specs.Words.{Event, ⊕, ⊖, History, Dealt, held, events}
use Rattle.paths.specs.Doors.{Door, plain, with_counter, Occurrence}
use Rattle.paths.proofs.Tests.{eqb_cases}
use Rattle.paths.proofs.Lists.{snoc_not_nil, snoc_cut}
use Rattle.paths.proofs.Core.{Core, leaf, seq, alt, burst, W, sems, ctrs}
use Rattle.paths.proofs.Deals.{events_append, held_append, held_snoc_same, held_snoc_other}
use Rattle.paths.proofs.Now.{Status, idle, done, waiting, running, Node, at, inside, amid, Unfinished, Told, Now, Busy, start}
use Rattle.paths.proofs.Peel.{Simple, Good, simple_good, put, prefix_free, below, busy_not_idle}
use Rattle.paths.proofs.Enter.{extend, unfinished}

-- where n stands, o runs
abbrev pub Leaves : Node → Occurrence → Type 0
Leaves (at q) o = ⊥
Leaves (inside p) o = p ≡ o
Leaves (amid c N f) o = (k : ℕ) × (f k ≡ running o)

-- u goes on with the end of o, or is a word with it
abbrev pub Gone : Core → Door → Door → ℕ → ℕ → History → Occurrence → Type 0
Gone t l r s c u o =
    ((n : Node) × Now t l r s c (u ++ (⊖ o.operation ∷ [])) n × (Simple t → (j : ℕ) × (n ≡ at (plain j)))) ⊎ W t (u ++ (⊖ o.operation ∷ []))

-- wherever the tree stands, what runs can end
abbrev pub LetsOut : Core → Door → Door → ℕ → ℕ → Type 0
LetsOut t l r s c = (u : History) (n : Node) → Now t l r s c u n → (o : Occurrence) → Leaves n o → Gone t l r s c u o

leaf_leave : (π a : ℕ) (l r : Door) (s c : ℕ) → LetsOut (leaf π a) l r s c
leaf_leave π a l r s c u n (inl (p, q)) o k = absurd (subst (λ (z : Node). Leaves z o) q k)
leaf_leave π a l r s c u n (inr (p, q)) o k =
    let w : record { path = π; operation = a; left = l; right = r } ≡ o = subst (λ (z : Node). Leaves z o) q k in
    let b : a ≡ o.operation = ap (λ (z : Occurrence). z.operation) w in
    inr (ap (λ (z : History). z ++ (⊖ o.operation ∷ [])) p ∙ ap (λ (z : ℕ). ⊕ a ∷ ⊖ z ∷ []) (sym b))

seq_leave : (x y : Core) (l r : Door) (s c : ℕ) → LetsOut x l (plain (s + sems x)) s c → LetsOut y (plain (s + sems x)) r (s + sems x + 1) (c + ctrs x) → LetsOut (seq x y) l r s c
seq_leave x y l r s c X Y u n (inl h) o k = go (X u n h o k)
  where
    e : History
    e = ⊖ o.operation ∷ []

    go : Gone x l (plain (s + sems x)) s c u o → Gone (seq x y) l r s c u o
    go (inl i) = inl (i.0, inl i.1, λ p. i.2 p.0)
    go (inr w) = inl (at (plain (s + sems x)), inr (u ++ e, [], sym (append-nil (u ++ e)), w, start y (plain (s + sems x)) r (s + sems x + 1) (c + ctrs x)), λ p. (s + sems x, refl))
seq_leave x y l r s c X Y u n (inr (a, b, p, wa, h)) o k = go (Y b n h o k)
  where
    e : History
    e = ⊖ o.operation ∷ []

    E : u ++ e ≡ a ++ (b ++ e)
    E = ap (λ (z : History). z ++ e) p ∙ append_assoc a b e

    go : Gone y (plain (s + sems x)) r (s + sems x + 1) (c + ctrs x) b o → Gone (seq x y) l r s c u o
    go (inl i) = inl (i.0, inr (a, b ++ e, E, wa, i.1), λ p. i.2 p.1)
    go (inr w) = inr (a, b ++ e, E, wa, w)

alt_leave : (x y : Core) (l r : Door) (s c : ℕ) → LetsOut x l r s c → LetsOut y l r (s + sems x) (c + ctrs x) → LetsOut (alt x y) l r s c
alt_leave x y l r s c X Y u n (inl h) o k = go (X u n h o k)
  where
    go : Gone x l r s c u o → Gone (alt x y) l r s c u o
    go (inl i) = inl (i.0, inl i.1, λ p. i.2 p.0)
    go (inr w) = inr (inl w)
alt_leave x y l r s c X Y u n (inr h) o k = go (Y u n h o k)
  where
    go : Gone y l r (s + sems x) (c + ctrs x) u o → Gone (alt x y) l r s c u o
    go (inl i) = inl (i.0, inr i.1, λ p. i.2 p.1)
    go (inr w) = inr (inr w)

-- ---- is another hand busy?
busy_dec : (v : Status) → Busy v ⊎ (Busy v → ⊥)
busy_dec idle = inr (λ b. b)
busy_dec done = inr (λ b. b)
busy_dec (waiting j) = inl tt
busy_dec (running o) = inl tt

other_busy : (f : ℕ → Status) (k N : ℕ) → ((i : ℕ) × (i ≢ k) × Busy (f i)) ⊎ ((i : ℕ) → i < N → i ≢ k → Busy (f i) → ⊥)
other_busy f k zero = inr (λ i h n b. let z : ⊥ = omega arith in z)
other_busy f k (suc N) = go (other_busy f k N) (eqb_cases N k) (busy_dec (f N))
  where
    R : Type 0
    R = ((i : ℕ) × (i ≢ k) × Busy (f i)) ⊎ ((i : ℕ) → i < suc N → i ≢ k → Busy (f i) → ⊥)

    go : ((i : ℕ) × (i ≢ k) × Busy (f i)) ⊎ ((i : ℕ) → i < N → i ≢ k → Busy (f i) → ⊥) →
        ((N ≡ k) × (eqb N k ≡ true)) ⊎ ((N ≢ k) × (eqb N k ≡ false)) → Busy (f N) ⊎ (Busy (f N) → ⊥) → R
    go (inl p) q b = inl p
    go (inr p) (inl q) b = inr (λ i h n c. p i (let m : i ≢ N = (λ z. n (z ∙ q.0)) in omega arith) n c)
    go (inr p) (inr q) (inl b) = inl (N, q.0, b)
    go (inr p) (inr q) (inr b) = inr (λ i h n c. last i h n c (eqb_cases i N))
      where
        last : (i : ℕ) → i < suc N → i ≢ k → Busy (f i) → ((i ≡ N) × (eqb i N ≡ true)) ⊎ ((i ≢ N) × (eqb i N ≡ false)) → ⊥
        last i h n c (inl z) = b (subst (λ (j : ℕ). Busy (f j)) z.0 c)
        last i h n c (inr z) = p i (let m = z.0 in omega arith) n c

burst_leave : (x : Core) → Simple x → (l r : Door) (s c : ℕ) → LetsOut x (with_counter c l) (with_counter c r) s (c + 1) → LetsOut (burst x) l r s c
burst_leave x g l r s c X u n (inl (p, q)) o h = absurd (subst (λ (z : Node). Leaves z o) q h)
burst_leave x g l r s c X u n (inr (d, N, f, p, ne, q, G)) o h =
    subst (λ (z : History). Gone (burst x) l r s c z o) p (go (subst (λ (z : Node). Leaves z o) q h))
  where
    In : History → Node → Type 0
    In = Now x (with_counter c l) (with_counter c r) s (c + 1)

    e : Event
    e = ⊖ o.operation

    deal : ℕ → Dealt
    deal k = record { hand = k; event = e }

    more : (k : ℕ) (v : Status) → Told (W x) In v (held k d ++ (e ∷ [])) → ((j : ℕ) × Unfinished (W x) (held j (d ++ (deal k ∷ [])))) → Gone (burst x) l r s c (events d) o
    more k v t still = inl (
      amid c (N + suc k) (put f k v),
      inr (d ++ (deal k ∷ []), N + suc k, put f k v, events_append d (deal k ∷ []), snoc_not_nil d (deal k), refl, extend (W x) In d N f G k e v t still),
      (λ z. absurd z),
    )

    busy_unfinished : (v : Status) (w : History) → Busy v → Told (W x) In v w → Unfinished (W x) w
    busy_unfinished idle w b t = absurd b
    busy_unfinished done w b t = absurd b
    busy_unfinished (waiting j) w b t = unfinished x g (with_counter c l) (with_counter c r) s (c + 1) w (at (plain j)) t.0 t.1
    busy_unfinished (running a) w b t = unfinished x g (with_counter c l) (with_counter c r) s (c + 1) w (inside a) t.0 t.1

    -- all hands have finished
    over : (k : ℕ) → W x (held k d ++ (e ∷ [])) → ((i : ℕ) → i ≢ k → Busy (f i) → ⊥) → W (burst x) (events d ++ (e ∷ []))
    over k w none = (all, events_append d (deal k ∷ []), record { some_dealt = snoc_not_nil d (deal k); words = words; inside = overlap })
      where
        all : List Dealt
        all = d ++ (deal k ∷ [])

        rested : (v : Status) (z : History) → (Busy v → ⊥) → Told (W x) In v z → (z ≡ []) ⊎ W x z
        rested idle z b t = inl t
        rested done z b t = inr t
        rested (waiting j) z b t = absurd (b tt)
        rested (running a) z b t = absurd (b tt)

        words : (i : ℕ) → (held i all ≡ []) ⊎ W x (held i all)
        words i = step (eqb_cases i k)
          where
            step : ((i ≡ k) × (eqb i k ≡ true)) ⊎ ((i ≢ k) × (eqb i k ≡ false)) → (held i all ≡ []) ⊎ W x (held i all)
            step (inl z) = inr (subst (W x) (sym (ap (λ (j : ℕ). held j all) z.0 ∙ held_snoc_same k d (deal k) refl)) w)
            step (inr z) = subst (λ (y : History). (y ≡ []) ⊎ W x y) (sym (held_snoc_other i d (deal k) z.0)) (rested (f i) (held i d) (none i z.0) (G.each i))

        overlap : (a b : List Dealt) → all ≡ a ++ b → a ≢ [] → b ≢ [] → (i : ℕ) × (held i a ≢ []) × (held i b ≢ [])
        overlap a b z na nb = step (snoc_cut d (deal k) a b z)
          where
            step : (b ≡ []) ⊎ ((m : List Dealt) × (b ≡ m ++ (deal k ∷ [])) × (d ≡ a ++ m)) → (i : ℕ) × (held i a ≢ []) × (held i b ≢ [])
            step (inl y) = absurd (nb y)
            step (inr (m, y, t)) = let j = G.busy a m t na in (j.0, j.1.0, early j.0 j.1)
              where
                early : (i : ℕ) → Unfinished (W x) (held i a) → held i b ≢ []
                early i j y = fin (words i)
                  where
                    E : held i all ≡ held i a
                    E = ap (held i) z ∙ held_append i a b ∙ ap (λ (t : History). held i a ++ t) y ∙ append-nil (held i a)

                    fin : (held i all ≡ []) ⊎ W x (held i all) → ⊥
                    fin (inl t) = j.0 (sym E ∙ t)
                    fin (inr t) = j.2 (prefix_free x g (held i a) j.1 (subst (W x) E t) j.3)

    finish : (k : ℕ) → W x (held k d ++ (e ∷ [])) → ((i : ℕ) × (i ≢ k) × Busy (f i)) ⊎ ((i : ℕ) → i < N → i ≢ k → Busy (f i) → ⊥) → Gone (burst x) l r s c (events d) o
    finish k w (inl (i, a, b)) = more k done w (i, subst (Unfinished (W x)) (sym (held_snoc_other i d (deal k) a)) (busy_unfinished (f i) (held i d) b (G.each i)))
    finish k w (inr none) = inr (over k w (λ i a b. none i (below f N G.bound i (busy_not_idle (f i) b)) a b))

    step : (k : ℕ) → Gone x (with_counter c l) (with_counter c r) s (c + 1) (held k d) o → Gone (burst x) l r s c (events d) o
    step k (inl (m, a, b)) =
        let j = b g in
        let a' : In (held k d ++ (e ∷ [])) (at (plain j.0)) = subst (In (held k d ++ (e ∷ []))) j.1 a in
        more k (waiting j.0) (snoc_not_nil (held k d) e, a') (
          k,
          subst (Unfinished (W x)) (sym (held_snoc_same k d (deal k) refl))
              (unfinished x g (with_counter c l) (with_counter c r) s (c + 1) (held k d ++ (e ∷ [])) (at (plain j.0)) (snoc_not_nil (held k d) e) a'),
        )
    step k (inr w) = finish k w (other_busy f k N)

    go : Leaves (amid c N f) o → Gone (burst x) l r s c (events d) o
    go (k, z) =
        let t : Told (W x) In (running o) (held k d) = subst (λ (v : Status). Told (W x) In v (held k d)) z (G.each k) in
        step k (X (held k d) (inside o) t.1 o refl)

pub leave : (t : Core) → Good t → (l r : Door) (s c : ℕ) → LetsOut t l r s c
leave (leaf π a) g l r s c = leaf_leave π a l r s c
leave (seq x y) g l r s c = seq_leave x y l r s c (leave x g.0 l (plain (s + sems x)) s c) (leave y g.1 (plain (s + sems x)) r (s + sems x + 1) (c + ctrs x))
leave (alt x y) g l r s c = alt_leave x y l r s c (leave x g.0 l r s c) (leave y g.1 l r (s + sems x) (c + ctrs x))
leave (burst x) g l r s c = burst_leave x g l r s c (leave x (simple_good x g) (with_counter c l) (with_counter c r) s (c + 1))
