-- An occurrence whose left door lets in goes on with the word.
use mathlib.Core.Path.{◌≡◌, refl, sym, ◌∙◌, ap, subst}
use mathlib.Core.Logic.{◌⊎◌, inl, inr, ◌≢◌}
use mathlib.Core.Bool.{true, false}
use mathlib.Core.List.Memᴰ
use mathlib.Core.List.{List, [], ◌∷◌, ◌++◌, append_assoc, append-nil, Memᴰ}
use Prim.Native.Nat.{ℕ, suc, ◌+◌, ◌≤◌, ◌<◌}
use native.Mathlib.Omega.{arith}
use lib.Dec.{eqb}
use Rattle.paths.specs.Words.{Event, ⊕, History, Language, Dealt, held, events}
use Rattle.paths.specs.Doors.{semaphore_of, Door, plain, counted, with_counter, Occurrence}
use Rattle.paths.proofs.Tests.{zero_one, eqb_cases}
use Rattle.paths.proofs.Lists.{snoc_not_nil, snoc_cut, append_nil_left}
use Rattle.paths.proofs.Core.{Core, leaf, seq, alt, burst, W, sems, ctrs, D}
use Rattle.paths.proofs.Deals.{events_append, held_snoc_same, held_snoc_other}
use Rattle.paths.proofs.Now.{Status, idle, waiting, running, Node, at, inside, amid, Unfinished, Told, Going, Now, start}
use Rattle.paths.proofs.Peel.{Simple, Good, simple_good, Inner, at_node, not_amid, put, put_same, put_other}
use Rattle.paths.proofs.Complete.{complete}
use Rattle.paths.proofs.Range.{Between, sem_with, left_simple, Doored, doored, Amid, amid_node}

-- where n stands, o may be let in
abbrev pub Enters : Node → Occurrence → Type 0
Enters (at q) o = semaphore_of o.left ≡ semaphore_of q
Enters (inside p) o = ⊥
Enters (amid c N f) o = ((i : ℕ) × (o.left ≡ counted i c)) ⊎ ((k j : ℕ) × (f k ≡ waiting j) × (semaphore_of o.left ≡ j))

-- u goes on with the letting-in of o
abbrev pub Entered : Core → Door → Door → ℕ → ℕ → History → Occurrence → Type 0
Entered t l r s c u o = (n : Node) × Now t l r s c (u ++ (⊕ o.operation ∷ [])) n × (Simple t → n ≡ inside o)

-- wherever the tree stands, what may be let in goes on with the word
abbrev pub LetsIn : Core → Door → Door → ℕ → ℕ → Type 0
LetsIn t l r s c = (u : History) (n : Node) → Now t l r s c u n → (o : Occurrence) → Memᴰ o (D t l r s c) → Enters n o → Entered t l r s c u o

-- the door has no counter
abbrev pub Plain : Door → Type 0
Plain q = (j : ℕ) × (q ≡ plain j)

-- ---- one event more in a burst
module _ (L : Language) (M : History → Node → Type 0) (d : List Dealt) (N : ℕ) (f : ℕ → Status) (G : Going L M d N f) where
  pub extend : (k : ℕ) (e : Event) (v : Status) → Told L M v (held k d ++ (e ∷ [])) →
      ((j : ℕ) × Unfinished L (held j (d ++ (record { hand = k; event = e } ∷ [])))) →
      Going L M (d ++ (record { hand = k; event = e } ∷ [])) (N + suc k) (put f k v)
  extend k e v t still = record {
    each = λ i. each i (eqb_cases i k);
    bound = λ i h. put_other f k v i (λ p. let z : ⊥ = omega arith in z) ∙ G.bound i (omega arith);
    busy = λ u w p nu. busy u w p nu (snoc_cut d y u w p);
  }
    where
      y : Dealt
      y = record { hand = k; event = e }

      each : (i : ℕ) → ((i ≡ k) × (eqb i k ≡ true)) ⊎ ((i ≢ k) × (eqb i k ≡ false)) → Told L M (put f k v i) (held i (d ++ (y ∷ [])))
      each i (inl p) =
          subst (λ (z : Status). Told L M z (held i (d ++ (y ∷ [])))) (sym (put_same f k v i p.0))
          (subst (Told L M v) (ap (λ (j : ℕ). held j d ++ (e ∷ [])) (sym p.0) ∙ sym (held_snoc_same i d y p.0)) t)
      each i (inr p) =
          subst (λ (z : Status). Told L M z (held i (d ++ (y ∷ [])))) (sym (put_other f k v i p.0))
          (subst (Told L M (f i)) (sym (held_snoc_other i d y p.0)) (G.each i))

      busy : (u w : List Dealt) → d ++ (y ∷ []) ≡ u ++ w → u ≢ [] → (w ≡ []) ⊎ ((m : List Dealt) × (w ≡ m ++ (y ∷ [])) × (d ≡ u ++ m)) → (j : ℕ) × Unfinished L (held j u)
      busy u w p nu (inl q) =
          subst (λ (z : List Dealt). (j : ℕ) × Unfinished L (held j z)) (p ∙ ap (λ (z : List Dealt). u ++ z) q ∙ append-nil u) still
      busy u w p nu (inr (m, q, r)) = G.busy u m r nu

-- ---- doors of one part and places in another
cross_sem : (q l : Door) (i s n s' n' : ℕ) → Between i s n → (semaphore_of q ≡ semaphore_of l) ⊎ Between (semaphore_of q) s' n' → semaphore_of q ≡ i →
    (s + n ≤ s') ⊎ (s' + n' ≤ s) → (semaphore_of l < s) ⊎ (s + n ≤ semaphore_of l) → ⊥
cross_sem q l i s n s' n' b (inl p) e (inl x) (inl y) = omega arith
cross_sem q l i s n s' n' b (inl p) e (inl x) (inr y) = omega arith
cross_sem q l i s n s' n' b (inl p) e (inr x) (inl y) = omega arith
cross_sem q l i s n s' n' b (inl p) e (inr x) (inr y) = omega arith
cross_sem q l i s n s' n' b (inr p) e (inl x) y = omega arith
cross_sem q l i s n s' n' b (inr p) e (inr x) y = omega arith

cross_amid : (o : Occurrence) (l : Door) (s n c k i N : ℕ) (f : ℕ → Status) (s' n' c' k' : ℕ) → Amid s n c k i f → Doored o.left l s' n' c' k' →
    (s + n ≤ s') ⊎ (s' + n' ≤ s) → (semaphore_of l < s) ⊎ (s + n ≤ semaphore_of l) → (c + k ≤ c') ⊎ (c' + k' ≤ c) → Plain l → Enters (amid i N f) o → ⊥
cross_amid o l s n c k i N f s' n' c' k' A B x y z P (inl h) = go z (B.ctr h.0 i h.1)
  where
    go : (c + k ≤ c') ⊎ (c' + k' ≤ c) → (l ≡ counted h.0 i) ⊎ Between i c' k' → ⊥
    go z (inl p) = zero_one (let q = P.1 in cc)
    go (inl z) (inr p) = let a = A.ctr in omega arith
    go (inr z) (inr p) = let a = A.ctr in omega arith
cross_amid o l s n c k i N f s' n' c' k' A B x y z P (inr h) = cross_sem o.left l h.1 s n s' n' (A.sem h.0 h.1 h.2) B.sem h.3 x y

inner_sem : (q : Door) (s n : ℕ) → Inner q s n → Between (semaphore_of q) s n
inner_sem q s n i = let e : semaphore_of q ≡ i.0 = ap semaphore_of i.1 in let a = i.2 in let b = i.3 in (omega arith, omega arith)

seq_enter : (x y : Core) → Good x → Good y → (l r : Door) (s c : ℕ) → semaphore_of l < s → Plain l ⊎ Simple (seq x y) →
    LetsIn x l (plain (s + sems x)) s c → LetsIn y (plain (s + sems x)) r (s + sems x + 1) (c + ctrs x) → LetsIn (seq x y) l r s c
seq_enter x y gx gy l r s c low P X Y u n now o mem en = go now (Memᴰ.append_cases (D x l (plain m) s c) mem)
  where
    m : ℕ
    m = s + sems x

    -- a place in x, and a door of y
    forth : (n : Node) → Now x l (plain m) s c u n → Memᴰ o (D y (plain m) r (m + 1) (c + ctrs x)) → Enters n o → ⊥
    forth (at q) h k e = step (at_node x l (plain m) s c u q h)
      where
        B : Doored o.left (plain m) (m + 1) (sems y) (c + ctrs x) (ctrs y)
        B = doored y gy (plain m) r (m + 1) (c + ctrs x) o k

        first : q ≡ l → (semaphore_of o.left ≡ m) ⊎ Between (semaphore_of o.left) (m + 1) (sems y) → ⊥
        first p (inl i) = let z = ap semaphore_of p in omega arith
        first p (inr i) = let z = ap semaphore_of p in omega arith

        step : ((u ≡ []) × (q ≡ l)) ⊎ Inner q s (sems x) → ⊥
        step (inl p) = first p.1 B.sem
        step (inr p) = cross_sem o.left (plain m) (semaphore_of q) s (sems x) (m + 1) (sems y) (inner_sem q s (sems x) p) B.sem e (inl (omega arith)) (inr (omega arith))
    forth (inside p) h k e = e
    forth (amid i N f) h k e =
        cross_amid o (plain m) s (sems x) c (ctrs x) i N f (m + 1) (sems y) (c + ctrs x) (ctrs y) (amid_node x gx l (plain m) s c u i N f h)
        (doored y gy (plain m) r (m + 1) (c + ctrs x) o k) (inl (omega arith)) (inr (omega arith)) (inl (omega arith)) (m, refl) e

    -- a place in y, and a door of x
    back : (u : History) (n : Node) → Now y (plain m) r (m + 1) (c + ctrs x) u n → Memᴰ o (D x l (plain m) s c) → Enters n o → ⊥
    back u (at q) h k e = step (at_node y (plain m) r (m + 1) (c + ctrs x) u q h)
      where
        B : Doored o.left l s (sems x) c (ctrs x)
        B = doored x gx l (plain m) s c o k

        first : q ≡ plain m → (semaphore_of o.left ≡ semaphore_of l) ⊎ Between (semaphore_of o.left) s (sems x) → ⊥
        first p (inl i) = let z = ap semaphore_of p in omega arith
        first p (inr i) = let z = ap semaphore_of p in omega arith

        step : ((u ≡ []) × (q ≡ plain m)) ⊎ Inner q (m + 1) (sems y) → ⊥
        step (inl p) = first p.1 B.sem
        step (inr p) = cross_sem o.left l (semaphore_of q) (m + 1) (sems y) s (sems x) (inner_sem q (m + 1) (sems y) p) B.sem e (inr (omega arith)) (inl (omega arith))
    back u (inside p) h k e = e
    back u (amid i N f) h k e = step P
      where
        step : Plain l ⊎ Simple (seq x y) → ⊥
        step (inl p) =
            cross_amid o l (m + 1) (sems y) (c + ctrs x) (ctrs y) i N f s (sems x) c (ctrs x) (amid_node y gy (plain m) r (m + 1) (c + ctrs x) u i N f h)
            (doored x gx l (plain m) s c o k) (inr (omega arith)) (inl (omega arith)) (inr (omega arith)) p e
        step (inr p) = not_amid y p.1 (plain m) r (m + 1) (c + ctrs x) u i N f h

    go : Now (seq x y) l r s c u n → Memᴰ o (D x l (plain m) s c) ⊎ Memᴰ o (D y (plain m) r (m + 1) (c + ctrs x)) → Entered (seq x y) l r s c u o
    go (inl h) (inl k) = let i = X u n h o k en in (i.0, inl i.1, λ p. i.2 p.0)
    go (inl h) (inr k) = absurd (forth n h k en)
    go (inr h) (inl k) = absurd (back h.1 n h.4 k en)
    go (inr h) (inr k) =
        let i = Y h.1 n h.4 o k en in
        let e : List Event = ⊕ o.operation ∷ [] in
        (i.0, inr (h.0, h.1 ++ e, ap (λ (z : History). z ++ e) h.2 ∙ append_assoc h.0 h.1 e, h.3, i.1), λ p. i.2 p.1)

alt_enter : (x y : Core) → Good x → Good y → (l r : Door) (s c : ℕ) → semaphore_of l < s → Plain l ⊎ Simple (alt x y) →
    LetsIn x l r s c → LetsIn y l r (s + sems x) (c + ctrs x) → LetsIn (alt x y) l r s c
alt_enter x y gx gy l r s c low P X Y u n now o mem en = go now (Memᴰ.append_cases (D x l r s c) mem)
  where
    in_x : Entered x l r s c u o → Entered (alt x y) l r s c u o
    in_x i = (i.0, inl i.1, λ p. i.2 p.0)

    in_y : Entered y l r (s + sems x) (c + ctrs x) u o → Entered (alt x y) l r s c u o
    in_y i = (i.0, inr i.1, λ p. i.2 p.1)

    forth : (n : Node) → Now x l r s c u n → Memᴰ o (D y l r (s + sems x) (c + ctrs x)) → Enters n o → Entered (alt x y) l r s c u o
    forth (at q) h k e = step (at_node x l r s c u q h)
      where
        step : ((u ≡ []) × (q ≡ l)) ⊎ Inner q s (sems x) → Entered (alt x y) l r s c u o
        step (inl p) =
            in_y (Y u (at l) (subst (λ (z : History). Now y l r (s + sems x) (c + ctrs x) z (at l)) (sym p.0) (start y l r (s + sems x) (c + ctrs x))) o k (e ∙ ap semaphore_of p.1))
        step (inr p) = absurd (cross_sem o.left l (semaphore_of q) s (sems x) (s + sems x) (sems y) (inner_sem q s (sems x) p) (doored y gy l r (s + sems x) (c + ctrs x) o k).sem e (inl (omega arith)) (inl low))
    forth (inside p) h k e = absurd e
    forth (amid i N f) h k e = step P
      where
        step : Plain l ⊎ Simple (alt x y) → Entered (alt x y) l r s c u o
        step (inl p) =
            absurd (cross_amid o l s (sems x) c (ctrs x) i N f (s + sems x) (sems y) (c + ctrs x) (ctrs y) (amid_node x gx l r s c u i N f h)
            (doored y gy l r (s + sems x) (c + ctrs x) o k) (inl (omega arith)) (inl low) (inl (omega arith)) p e)
        step (inr p) = absurd (not_amid x p.0 l r s c u i N f h)

    back : (n : Node) → Now y l r (s + sems x) (c + ctrs x) u n → Memᴰ o (D x l r s c) → Enters n o → Entered (alt x y) l r s c u o
    back (at q) h k e = step (at_node y l r (s + sems x) (c + ctrs x) u q h)
      where
        step : ((u ≡ []) × (q ≡ l)) ⊎ Inner q (s + sems x) (sems y) → Entered (alt x y) l r s c u o
        step (inl p) = in_x (X u (at l) (subst (λ (z : History). Now x l r s c z (at l)) (sym p.0) (start x l r s c)) o k (e ∙ ap semaphore_of p.1))
        step (inr p) = absurd (cross_sem o.left l (semaphore_of q) (s + sems x) (sems y) s (sems x) (inner_sem q (s + sems x) (sems y) p) (doored x gx l r s c o k).sem e (inr (omega arith)) (inl (omega arith)))
    back (inside p) h k e = absurd e
    back (amid i N f) h k e = step P
      where
        step : Plain l ⊎ Simple (alt x y) → Entered (alt x y) l r s c u o
        step (inl p) =
            absurd (cross_amid o l (s + sems x) (sems y) (c + ctrs x) (ctrs y) i N f s (sems x) c (ctrs x) (amid_node y gy l r (s + sems x) (c + ctrs x) u i N f h)
            (doored x gx l r s c o k) (inr (omega arith)) (inl (omega arith)) (inr (omega arith)) p e)
        step (inr p) = absurd (not_amid y p.1 l r (s + sems x) (c + ctrs x) u i N f h)

    go : Now (alt x y) l r s c u n → Memᴰ o (D x l r s c) ⊎ Memᴰ o (D y l r (s + sems x) (c + ctrs x)) → Entered (alt x y) l r s c u o
    go (inl h) (inl k) = in_x (X u n h o k en)
    go (inl h) (inr k) = forth n h k en
    go (inr h) (inl k) = back n h k en
    go (inr h) (inr k) = in_y (Y u n h o k en)

pub unfinished : (x : Core) → Simple x → (l r : Door) (s c : ℕ) (w : History) (n : Node) → w ≢ [] → Now x l r s c w n → Unfinished (W x) w
unfinished x g l r s c w n nw h = let i = complete x (simple_good x g) l r s c w n h in (nw, i.0, i.1, i.2)

burst_enter : (x : Core) → Simple x → (l r : Door) (s c : ℕ) → LetsIn x (with_counter c l) (with_counter c r) s (c + 1) → LetsIn (burst x) l r s c
burst_enter x g l r s c X u n now o mem en = go now
  where
    In : History → Node → Type 0
    In = Now x (with_counter c l) (with_counter c r) s (c + 1)

    e : Event
    e = ⊕ o.operation

    -- hand k goes on with the event
    more : (d : List Dealt) (N : ℕ) (f : ℕ → Status) → Going (W x) In d N f → (k : ℕ) → In (held k d ++ (e ∷ [])) (inside o) → Entered (burst x) l r s c (events d) o
    more d N f G k h =
        let y : Dealt = record { hand = k; event = e } in
        let E : held k (d ++ (y ∷ [])) ≡ held k d ++ (e ∷ []) = held_snoc_same k d y refl in
        let b = unfinished x g (with_counter c l) (with_counter c r) s (c + 1) (held k d ++ (e ∷ [])) (inside o) (snoc_not_nil (held k d) e) h in (
          amid c (N + suc k) (put f k (running o)),
          inr (
            d ++ (y ∷ []),
            N + suc k,
            put f k (running o),
            events_append d (y ∷ []),
            snoc_not_nil d y,
            refl,
            extend (W x) In d N f G k e (running o) (snoc_not_nil (held k d) e, h) (k, subst (Unfinished (W x)) (sym E) b),
          ),
          (λ p. absurd p),
        )

    none : Going (W x) In [] 0 (λ k. idle)
    none = record { each = λ k. refl; bound = λ k h. refl; busy = λ u v p nu. absurd (nu (append_nil_left u v (sym p))) }

    -- a hand that begins
    begin : (d : List Dealt) (N : ℕ) (f : ℕ → Status) → Going (W x) In d N f → (k : ℕ) → held k d ≡ [] → semaphore_of o.left ≡ semaphore_of (with_counter c l) → Entered (burst x) l r s c (events d) o
    begin d N f G k p q =
        let i = X [] (at (with_counter c l)) (start x (with_counter c l) (with_counter c r) s (c + 1)) o mem q in
        more d N f G k (subst (λ (z : History). In (z ++ (e ∷ [])) (inside o)) (sym p) (subst (In (e ∷ [])) (i.2 g) i.1))

    go_on : (d : List Dealt) (N : ℕ) (f : ℕ → Status) → Going (W x) In d N f → Enters (amid c N f) o → Entered (burst x) l r s c (events d) o
    go_on d N f G (inl h) = start_door (left_simple x g (with_counter c l) (with_counter c r) s (c + 1) o mem)
      where
        start_door : (o.left ≡ with_counter c l) ⊎ Inner o.left s (sems x) → Entered (burst x) l r s c (events d) o
        start_door (inl p) =
            begin d N f G N (subst (λ (z : Status). Told (W x) In z (held N d)) (G.bound N (omega arith)) (G.each N)) (ap semaphore_of p)
        start_door (inr p) = zero_one (let a = h.1 in let b = p.1 in cc)
    go_on d N f G (inr (k, j, p, q)) =
        let told : Told (W x) In (waiting j) (held k d) = subst (λ (z : Status). Told (W x) In z (held k d)) p (G.each k) in
        let i = X (held k d) (at (plain j)) told.1 o mem q in
        more d N f G k (subst (In (held k d ++ (e ∷ []))) (i.2 g) i.1)

    go : Now (burst x) l r s c u n → Entered (burst x) l r s c u o
    go (inl (p, q)) =
        let en' : Enters (at l) o = subst (λ (z : Node). Enters z o) q en in
        subst (λ (z : History). Entered (burst x) l r s c z o) (sym p) (begin [] 0 (λ k. idle) none 0 refl (en' ∙ sym (sem_with c l)))
    go (inr (d, N, f, p, ne, q, G)) =
        subst (λ (z : History). Entered (burst x) l r s c z o) p (go_on d N f G (subst (λ (z : Node). Enters z o) q en))

leaf_enter : (π a : ℕ) (l r : Door) (s c : ℕ) → LetsIn (leaf π a) l r s c
leaf_enter π a l r s c u n (inl (p, q)) o mem en =
    let w : o ≡ record { path = π; operation = a; left = l; right = r } = Memᴰ.eq_of_singleton mem in
    let b : o.operation ≡ a = ap (λ (z : Occurrence). z.operation) w in
    (inside o, inr (ap (λ (z : History). z ++ (⊕ o.operation ∷ [])) p ∙ ap (λ (z : ℕ). ⊕ z ∷ []) b, ap inside w), (λ g. refl))
leaf_enter π a l r s c u n (inr (p, q)) o mem en = absurd (subst (λ (z : Node). Enters z o) q en)

plain_x : (x y : Core) (l : Door) → Plain l ⊎ Simple (seq x y) → Plain l ⊎ Simple x
plain_x x y l (inl p) = inl p
plain_x x y l (inr p) = inr p.0

alt_x : (x y : Core) (l : Door) → Plain l ⊎ Simple (alt x y) → Plain l ⊎ Simple x
alt_x x y l (inl p) = inl p
alt_x x y l (inr p) = inr p.0

alt_y : (x y : Core) (l : Door) → Plain l ⊎ Simple (alt x y) → Plain l ⊎ Simple y
alt_y x y l (inl p) = inl p
alt_y x y l (inr p) = inr p.1

pub enter : (t : Core) → Good t → (l r : Door) (s c : ℕ) → semaphore_of l < s → Plain l ⊎ Simple t → LetsIn t l r s c
enter (leaf π a) g l r s c low P = leaf_enter π a l r s c
enter (seq x y) g l r s c low P =
    seq_enter x y g.0 g.1 l r s c low P (enter x g.0 l (plain (s + sems x)) s c low (plain_x x y l P))
    (enter y g.1 (plain (s + sems x)) r (s + sems x + 1) (c + ctrs x) (omega arith) (inl (s + sems x, refl)))
enter (alt x y) g l r s c low P =
    alt_enter x y g.0 g.1 l r s c low P (enter x g.0 l r s c low (alt_x x y l P)) (enter y g.1 l r (s + sems x) (c + ctrs x) (omega arith) (alt_y x y l P))
enter (burst x) g l r s c low P =
    burst_enter x g l r s c (enter x (simple_good x g) (with_counter c l) (with_counter c r) s (c + 1) (let e = sem_with c l in omega arith) (inr g))
