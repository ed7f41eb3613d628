-- The last event of a begun word: where the word stood before it, and the doors that it passed.
use mathlib.Core.Path.{◌≡◌, refl, sym, ◌∙◌, ap, subst}
use mathlib.Core.Logic.{◌⊎◌, inl, inr, ◌≢◌}
use mathlib.Core.Bool.{Bool, true, false, cond}
use mathlib.Core.List.Memᴰ
use mathlib.Core.List.{List, [], ◌∷◌, ◌++◌, append_assoc, append-nil, Memᴰ}
use Prim.Native.Nat.{ℕ, ◌+◌, ◌≤◌, ◌<◌}
use native.Mathlib.Omega.{arith}
use native.Mathlib.Decide.{dec_le}
use lib.Dec.{eqb}
use Rattle.paths.specs.Words.{Event, ⊕, ⊖, History, Language, Overlapping, Dealt, held, events}
use Rattle.paths.specs.Doors.{semaphore_of, Door, plain, counted, with_counter, Occurrence}
use Rattle.paths.proofs.Tests.{zero_one, eqb_same, eqb_cases, eqb_apart}
use Rattle.paths.proofs.Lists.{snoc_view, cons_not_nil, snoc_not_nil, snoc_inj, snoc_cut, two_cuts, append_nil_left}
use Rattle.paths.proofs.Core.{Core, leaf, seq, alt, burst, W, sems, ctrs, D, names}
use Rattle.paths.proofs.Deals.{events_nil, events_append, held_append, held_snoc_same, held_snoc_other, hands, no_hand}
use Rattle.paths.proofs.Now.{Status, idle, done, waiting, running, Node, at, inside, amid, Unfinished, Told, Going, Now, Busy, HandVia, Via, word_not_nil}

-- no name is in both
abbrev pub Apart : List ℕ → List ℕ → Type 0
Apart ns ms = (a : ℕ) → Memᴰ a ns → Memᴰ a ms → ⊥

-- no braces, and no name on both sides of a comma
abbrev pub Simple : Core → Type 0
Simple (leaf π a) = Unit {0}
Simple (seq x y) = Simple x × Simple y
Simple (alt x y) = Simple x × Simple y × Apart (names x) (names y)
Simple (burst x) = ⊥

-- what stands between braces is simple
abbrev pub Good : Core → Type 0
Good (leaf π a) = Unit {0}
Good (seq x y) = Good x × Good y
Good (alt x y) = Good x × Good y
Good (burst x) = Simple x

pub simple_good : (t : Core) → Simple t → Good t
simple_good (leaf π a) g = tt
simple_good (seq x y) g = (simple_good x g.0, simple_good y g.1)
simple_good (alt x y) g = (simple_good x g.0, simple_good y g.1)
simple_good (burst x) g = absurd g

-- ---- a word of a simple tree is the beginning of no other
pub starts : (t : Core) → Simple t → (w : History) → W t w → (a : ℕ) × (v : History) × (w ≡ ⊕ a ∷ v) × Memᴰ a (names t)
starts (leaf π a) g w h = (a, ⊖ a ∷ [], h, Memᴰ.head refl)
starts (seq x y) g w h =
    let i = starts x g.0 h.0 h.3 in
    (i.0, i.1 ++ h.1, h.2 ∙ ap (λ (z : History). z ++ h.1) i.2, Memᴰ.append_left (names y) i.3)
starts (alt x y) g w (inl h) = let i = starts x g.0 w h in (i.0, i.1, i.2, Memᴰ.append_left (names y) i.3)
starts (alt x y) g w (inr h) = let i = starts y g.1 w h in (i.0, i.1, i.2, Memᴰ.append_right (names x) i.3)
starts (burst x) g w h = absurd g

-- no word of L is the proper beginning of another
abbrev pub PrefixFree : Language → Type 0
PrefixFree L = (u v : History) → L u → L (u ++ v) → v ≡ []

both_free : (L M : Language) → PrefixFree L → PrefixFree M → (a b v a' b' : History) → a ++ (b ++ v) ≡ a' ++ b' → L a → M b → L a' → M b' → v ≡ []
both_free L M fl fm a b v a' b' p la mb la' mb' = go (two_cuts a (b ++ v) a' b' p)
  where
    go : ((m : History) × (a ≡ a' ++ m) × (b' ≡ m ++ (b ++ v))) ⊎ ((m : History) × (a' ≡ a ++ m) × ((b ++ v) ≡ m ++ b')) → v ≡ []
    go (inl q) =
        let e = fl a' q.0 la' (subst L q.1 la) in
        fm b v mb (subst M (q.2 ∙ ap (λ (z : History). z ++ (b ++ v)) e) mb')
    go (inr q) =
        let e = fl a q.0 la (subst L q.1 la') in
        fm b v mb (subst M (sym (q.2 ∙ ap (λ (z : History). z ++ b') e)) mb')

clash : (x y : Core) → Simple x → Simple y → Apart (names x) (names y) → (u v : History) → W x u → W y (u ++ v) → ⊥
clash x y gx gy ap' u v p q =
    let i = starts x gx u p in
    let j = starts y gy (u ++ v) q in
    let e : (⊕ i.0 ∷ (i.1 ++ v)) ≡ ⊕ j.0 ∷ j.1 = ap (λ (z : History). z ++ v) (sym i.2) ∙ j.2 in
    let d : i.0 ≡ j.0 = cc in
    ap' i.0 i.3 (subst (λ (a : ℕ). Memᴰ a (names y)) (sym d) j.3)

pub prefix_free : (t : Core) → Simple t → PrefixFree (W t)
prefix_free (leaf π a) g u v p q = let r : (⊕ a ∷ ⊖ a ∷ []) ++ v ≡ ⊕ a ∷ ⊖ a ∷ [] = ap (λ (z : History). z ++ v) (sym p) ∙ q in cc
prefix_free (seq x y) g u v (a, b, p, wa, wb) (a', b', p', wa', wb') =
    both_free (W x) (W y) (prefix_free x g.0) (prefix_free y g.1) a b v a' b' (sym (append_assoc a b v) ∙ ap (λ (z : History). z ++ v) (sym p) ∙ p') wa wb wa' wb'
prefix_free (alt x y) g u v (inl p) (inl q) = prefix_free x g.0 u v p q
prefix_free (alt x y) g u v (inl p) (inr q) = absurd (clash x y g.0 g.1 g.2 u v p q)
prefix_free (alt x y) g u v (inr p) (inl q) = absurd (clash y x g.1 g.0 (λ a m n. g.2 a n m) u v p q)
prefix_free (alt x y) g u v (inr p) (inr q) = prefix_free y g.1 u v p q
prefix_free (burst x) g u v p q = absurd g

-- ---- where a word that has not begun stands, and a word that stands at a door
pub nil_node : (t : Core) (l r : Door) (s c : ℕ) (n : Node) → Now t l r s c [] n → n ≡ at l
nil_node (leaf π a) l r s c n (inl h) = h.1
nil_node (leaf π a) l r s c n (inr h) = absurd (cons_not_nil (sym h.0))
nil_node (seq x y) l r s c n (inl h) = nil_node x l (plain (s + sems x)) s c n h
nil_node (seq x y) l r s c n (inr h) = absurd (word_not_nil x h.0 h.3 (append_nil_left h.0 h.1 (sym h.2)))
nil_node (alt x y) l r s c n (inl h) = nil_node x l r s c n h
nil_node (alt x y) l r s c n (inr h) = nil_node y l r (s + sems x) (c + ctrs x) n h
nil_node (burst x) l r s c n (inl h) = h.1
nil_node (burst x) l r s c n (inr h) = absurd (h.4 (events_nil h.0 h.3))

-- a door inside the tree
abbrev pub Inner : Door → ℕ → ℕ → Type 0
Inner q s n = (j : ℕ) × (q ≡ plain j) × (s ≤ j) × (j < s + n)

inner_wider : (q : Door) (s n s' n' : ℕ) → s' ≤ s → s + n ≤ s' + n' → Inner q s n → Inner q s' n'
inner_wider q s n s' n' h k i = let a = i.2 in let b = i.3 in (i.0, i.1, (omega arith), (omega arith))

-- nothing has happened and q is the left door, or q is a door inside the tree
abbrev AtDoor : History → Door → Door → ℕ → ℕ → Type 0
AtDoor u q l s n = ((u ≡ []) × (q ≡ l)) ⊎ Inner q s n

at_wider : (u : History) (q l : Door) (s n s' n' : ℕ) → s' ≤ s → s + n ≤ s' + n' → AtDoor u q l s n → AtDoor u q l s' n'
at_wider u q l s n s' n' h k (inl i) = inl i
at_wider u q l s n s' n' h k (inr i) = inr (inner_wider q s n s' n' h k i)

at_second : (u : History) (q : Door) (m n s' n' : ℕ) → s' ≤ m → m + 1 + n ≤ s' + n' → AtDoor u q (plain m) (m + 1) n → Inner q s' n'
at_second u q m n s' n' h k (inl i) = (m, i.1, (omega arith), (omega arith))
at_second u q m n s' n' h k (inr i) = inner_wider q (m + 1) n s' n' (omega arith) k i

pub at_node : (t : Core) (l r : Door) (s c : ℕ) (u : History) (q : Door) → Now t l r s c u (at q) → AtDoor u q l s (sems t)
at_node (leaf π a) l r s c u q (inl h) = inl (h.0, (let e = h.1 in cc))
at_node (leaf π a) l r s c u q (inr h) = zero_one (let e = h.1 in cc)
at_node (seq x y) l r s c u q (inl h) =
    at_wider u q l s (sems x) s (sems x + 1 + sems y) (omega arith) (omega arith) (at_node x l (plain (s + sems x)) s c u q h)
at_node (seq x y) l r s c u q (inr h) =
    inr (at_second h.1 q (s + sems x) (sems y) s (sems x + 1 + sems y) (omega arith) (omega arith)
    (at_node y (plain (s + sems x)) r (s + sems x + 1) (c + ctrs x) h.1 q h.4))
at_node (alt x y) l r s c u q (inl h) = at_wider u q l s (sems x) s (sems x + sems y) (omega arith) (omega arith) (at_node x l r s c u q h)
at_node (alt x y) l r s c u q (inr h) =
    at_wider u q l (s + sems x) (sems y) s (sems x + sems y) (omega arith) (omega arith) (at_node y l r (s + sems x) (c + ctrs x) u q h)
at_node (burst x) l r s c u q (inl h) = inl (h.0, (let e = h.1 in cc))
at_node (burst x) l r s c u q (inr h) = zero_one (let e = h.5 in cc)

pub not_amid : (t : Core) → Simple t → (l r : Door) (s c : ℕ) (u : History) (k N : ℕ) (f : ℕ → Status) → Now t l r s c u (amid k N f) → ⊥
not_amid (leaf π a) g l r s c u k N f (inl h) = zero_one (let e = h.1 in cc)
not_amid (leaf π a) g l r s c u k N f (inr h) = zero_one (let e = h.1 in cc)
not_amid (seq x y) g l r s c u k N f (inl h) = not_amid x g.0 l (plain (s + sems x)) s c u k N f h
not_amid (seq x y) g l r s c u k N f (inr h) = not_amid y g.1 (plain (s + sems x)) r (s + sems x + 1) (c + ctrs x) h.1 k N f h.4
not_amid (alt x y) g l r s c u k N f (inl h) = not_amid x g.0 l r s c u k N f h
not_amid (alt x y) g l r s c u k N f (inr h) = not_amid y g.1 l r (s + sems x) (c + ctrs x) u k N f h
not_amid (burst x) g l r s c u k N f h = absurd g

-- ---- one hand
-- before its last event e the word stood somewhere, and e passed the doors of some occurrence
abbrev pub Before : Core → Door → Door → ℕ → ℕ → History → Event → Node → Type 0
Before t l r s c u e n' = (n : Node) × (o : Occurrence) × Memᴰ o (D t l r s c) × Now t l r s c u n × Via o n e n'

pub with_counter_is : (c : ℕ) (q : Door) → with_counter c q ≡ counted (semaphore_of q) c
with_counter_is c (plain s) = refl
with_counter_is c (counted s d) = refl

-- f, with v at k
abbrev pub put : (ℕ → Status) → ℕ → Status → ℕ → Status
put f k v i = cond (eqb i k) v (f i)

pub put_same : (f : ℕ → Status) (k : ℕ) (v : Status) (i : ℕ) → i ≡ k → put f k v i ≡ v
put_same f k v i p = ap (λ (b : Bool). cond b v (f i)) (ap (λ (j : ℕ). eqb i j) (sym p) ∙ eqb_same i)

pub put_other : (f : ℕ → Status) (k : ℕ) (v : Status) (i : ℕ) → i ≢ k → put f k v i ≡ f i
put_other f k v i p = ap (λ (b : Bool). cond b v (f i)) (eqb_apart i k p)

pub below : (f : ℕ → Status) (N : ℕ) → ((k : ℕ) → N ≤ k → f k ≡ idle) → (i : ℕ) → f i ≢ idle → i < N
below f N b i n = go (dec_le N i)
  where
    go : Dec (N ≤ i) → i < N
    go (yes h) = absurd (n (b i h))
    go (no h) = omega arith

pub busy_not_idle : (k : Status) → Busy k → k ≢ idle
busy_not_idle k b p = subst Busy p b

module _ (x : Core) (g : Simple x) (l r : Door) (s c : ℕ) where
  -- where a word between the braces stands
  abbrev In : History → Node → Type 0
  In = Now x (with_counter c l) (with_counter c r) s (c + 1)

  -- where it stood before its last event
  abbrev Was : History → Event → Node → Type 0
  Was = Before x (with_counter c l) (with_counter c r) s (c + 1)

  inside_not_nil : (w : History) (p : Occurrence) → In w (inside p) → w ≢ []
  inside_not_nil w p h e =
      let i = nil_node x (with_counter c l) (with_counter c r) s (c + 1) (inside p) (subst (λ (z : History). In z (inside p)) e h) in
      zero_one (cc)

  inner_not_nil : (w : History) (j : ℕ) → In w (at (plain j)) → w ≢ []
  inner_not_nil w j h e =
      let i = nil_node x (with_counter c l) (with_counter c r) s (c + 1) (at (plain j)) (subst (λ (z : History). In z (at (plain j))) e h) in
      let k = with_counter_is c l in
      zero_one (cc)

  -- the same for a hand of the burst
  abbrev HandBefore : History → Event → Status → Type 0
  HandBefore w e k' =
      (k : Status) × (o : Occurrence) × Memᴰ o (D x (with_counter c l) (with_counter c r) s (c + 1)) × Told (W x) In k w × HandVia o c k e k'

  to_done : (w : History) (e : Event) → Was w e (at (with_counter c r)) → HandBefore w e done
  to_done w e (at q, o, mem, now, via) = absurd via
  to_done w e (inside p, o, mem, now, via) =
      (running p, o, mem, (inside_not_nil w p now, now), (via.0, via.1, (semaphore_of r, via.2 ∙ with_counter_is c r)))
  to_done w e (amid i N f, o, mem, now, via) = absurd (not_amid x g (with_counter c l) (with_counter c r) s (c + 1) w i N f now)

  to_waiting : (w : History) (e : Event) (j : ℕ) → Was w e (at (plain j)) → HandBefore w e (waiting j)
  to_waiting w e j (at q, o, mem, now, via) = absurd via
  to_waiting w e j (inside p, o, mem, now, via) = (running p, o, mem, (inside_not_nil w p now, now), via)
  to_waiting w e j (amid i N f, o, mem, now, via) = absurd (not_amid x g (with_counter c l) (with_counter c r) s (c + 1) w i N f now)

  to_running : (w : History) (e : Event) (q : Occurrence) → Was w e (inside q) → HandBefore w e (running q)
  to_running w e q (at z, o, mem, now, via) = go (at_node x (with_counter c l) (with_counter c r) s (c + 1) w z now)
    where
      go : ((w ≡ []) × (z ≡ with_counter c l)) ⊎ Inner z s (sems x) → HandBefore w e (running q)
      go (inl h) = (idle, o, mem, h.0, (via.0, via.1, (semaphore_of l, via.2 ∙ h.1 ∙ with_counter_is c l)))
      go (inr h) =
          let now' : In w (at (plain h.0)) = subst (λ (y : Door). In w (at y)) h.1 now in
          (waiting h.0, o, mem, (inner_not_nil w h.0 now', now'), (via.0, via.1, via.2 ∙ h.1))
  to_running w e q (inside p, o, mem, now, via) = absurd via
  to_running w e q (amid i N f, o, mem, now, via) = absurd (not_amid x g (with_counter c l) (with_counter c r) s (c + 1) w i N f now)

  module _ (PW : (u : History) (e : Event) → W x (u ++ (e ∷ [])) → Was u e (at (with_counter c r)))
      (PN : (u : History) (e : Event) (n : Node) → In (u ++ (e ∷ [])) n → Was u e n) where
    hand_peel : (w : History) (e : Event) (k' : Status) → Told (W x) In k' (w ++ (e ∷ [])) → HandBefore w e k'
    hand_peel w e idle h = absurd (snoc_not_nil w e h)
    hand_peel w e done h = to_done w e (PW w e h)
    hand_peel w e (waiting j) h = to_waiting w e j (PN w e (at (plain j)) h.1)
    hand_peel w e (running q) h = to_running w e q (PN w e (inside q) h.1)

    told_nil : (k : Status) → Told (W x) In k [] → k ≡ idle
    told_nil idle h = refl
    told_nil done h = absurd (word_not_nil x [] h refl)
    told_nil (waiting j) h = absurd (h.0 refl)
    told_nil (running o) h = absurd (h.0 refl)

    told_busy : (k : Status) (w : History) → Told (W x) In k w → Unfinished (W x) w → Busy k
    told_busy idle w h u = absurd (u.0 h)
    told_busy done w h u = absurd (u.2 (prefix_free x g w u.1 h u.3))
    told_busy (waiting j) w h u = tt
    told_busy (running o) w h u = tt

    -- the first event of a burst
    first : (y : Dealt) (N : ℕ) (f : ℕ → Status) → Going (W x) In (y ∷ []) N f → Before (burst x) l r s c [] y.event (amid c N f)
    first y N f G = go (f y.hand) refl (subst (Told (W x) In (f y.hand)) (held_snoc_same y.hand [] y refl) (G.each y.hand))
      where
        B : Type 0
        B = Before (burst x) l r s c [] y.event (amid c N f)

        low : f y.hand ≢ idle → y.hand < N
        low = below f N G.bound y.hand

        others : (i : ℕ) → i ≢ y.hand → f i ≡ idle
        others i n = told_nil (f i) (subst (Told (W x) In (f i)) (held_snoc_other i [] y n) (G.each i))

        start_node : (n : Node) → In [] n → n ≡ at (with_counter c l)
        start_node n = nil_node x (with_counter c l) (with_counter c r) s (c + 1) n

        no_end : (q : Door) → Was [] y.event (at q) → B
        no_end q (at z, o, mem, now, via) = absurd via
        no_end q (inside p, o, mem, now, via) = zero_one (let i = start_node (inside p) now in cc)
        no_end q (amid i M h, o, mem, now, via) = zero_one (let j = start_node (amid i M h) now in cc)

        begin : (q : Occurrence) → f y.hand ≡ running q → Was [] y.event (inside q) → B
        begin q p (at z, o, mem, now, via) =
            let i = start_node (at z) now in (
              at l,
              o,
              mem,
              inl (refl, refl),
              (
                via.1,
                via.2 ∙ (let k : z ≡ with_counter c l = cc in k),
                (y.hand, low (λ e. zero_one (cc)), p ∙ ap running (sym via.0), others),
              ),
            )
        begin q p (inside z, o, mem, now, via) = absurd via
        begin q p (amid i M h, o, mem, now, via) = absurd via

        go : (k : Status) → f y.hand ≡ k → Told (W x) In k (y.event ∷ []) → B
        go idle p h = absurd (cons_not_nil h)
        go done p h = no_end (with_counter c r) (PW [] y.event h)
        go (waiting j) p h = no_end (plain j) (PN [] y.event (at (plain j)) h.1)
        go (running q) p h = begin q p (PN [] y.event (inside q) h.1)

    -- one event more
    one_more : (d : List Dealt) → d ≢ [] → (y : Dealt) (N : ℕ) (f : ℕ → Status) → Going (W x) In (d ++ (y ∷ [])) N f →
        Before (burst x) l r s c (events d) y.event (amid c N f)
    one_more d ne y N f G = (
      amid c N f₀,
      hb.1,
      hb.2,
      inr (d, N, f₀, refl, ne, refl, G₀),
      (refl, refl, (y.hand, low, (λ i n. put_other f y.hand hb.0 i n), via), busy₀, busy₁),
    )
      where
        hb : HandBefore (held y.hand d) y.event (f y.hand)
        hb = hand_peel (held y.hand d) y.event (f y.hand) (subst (Told (W x) In (f y.hand)) (held_snoc_same y.hand d y refl) (G.each y.hand))

        f₀ : ℕ → Status
        f₀ = put f y.hand hb.0

        not_idle : f y.hand ≢ idle
        not_idle p = snoc_not_nil (held y.hand d) y.event (sym (held_snoc_same y.hand d y refl) ∙ subst (λ (k : Status). Told (W x) In k (held y.hand (d ++ (y ∷ [])))) p (G.each y.hand))

        low : y.hand < N
        low = below f N G.bound y.hand not_idle

        via : HandVia hb.1 c (f₀ y.hand) y.event (f y.hand)
        via = subst (λ (k : Status). HandVia hb.1 c k y.event (f y.hand)) (sym (put_same f y.hand hb.0 y.hand refl)) hb.4

        each₀ : (i : ℕ) → ((i ≡ y.hand) × (eqb i y.hand ≡ true)) ⊎ ((i ≢ y.hand) × (eqb i y.hand ≡ false)) → Told (W x) In (f₀ i) (held i d)
        each₀ i (inl p) = subst (λ (k : Status). Told (W x) In k (held i d)) (sym (put_same f y.hand hb.0 i p.0)) (subst (λ (j : ℕ). Told (W x) In hb.0 (held j d)) (sym p.0) hb.3)
        each₀ i (inr p) = subst (λ (k : Status). Told (W x) In k (held i d)) (sym (put_other f y.hand hb.0 i p.0)) (subst (Told (W x) In (f i)) (held_snoc_other i d y p.0) (G.each i))

        G₀ : Going (W x) In d N f₀
        G₀ = record {
          each = λ i. each₀ i (eqb_cases i y.hand);
          bound = λ i h. put_other f y.hand hb.0 i (λ p. let k = low in let e : ⊥ = omega arith in e) ∙ G.bound i h;
          busy = λ u v p nu. G.busy u (v ++ (y ∷ [])) (ap (λ (z : List Dealt). z ++ (y ∷ [])) p ∙ append_assoc u v (y ∷ [])) nu;
        }

        busy₀ : (i : ℕ) × (i < N) × Busy (f₀ i)
        busy₀ = let b = G₀.busy d [] (sym (append-nil d)) ne in let k = told_busy (f₀ b.0) (held b.0 d) (G₀.each b.0) b.1 in (b.0, below f₀ N G₀.bound b.0 (busy_not_idle (f₀ b.0) k), k)

        busy₁ : (i : ℕ) × (i < N) × Busy (f i)
        busy₁ = let b = G.busy (d ++ (y ∷ [])) [] (sym (append-nil (d ++ (y ∷ [])))) (snoc_not_nil d y) in let k = told_busy (f b.0) (held b.0 (d ++ (y ∷ []))) (G.each b.0) b.1 in (b.0, below f N G.bound b.0 (busy_not_idle (f b.0) k), k)

    no_end : (e : Event) (q : Door) → Was [] e (at q) → ⊥
    no_end e q (at z, o, mem, now, via) = via
    no_end e q (inside p, o, mem, now, via) = inside_not_nil [] p now refl
    no_end e q (amid i M h, o, mem, now, via) = not_amid x g (with_counter c l) (with_counter c r) s (c + 1) [] i M h now

    -- the last event of a burst
    close : (d : List Dealt) → d ≢ [] → (y : Dealt) → Overlapping (W x) (d ++ (y ∷ [])) → Was (held y.hand d) y.event (at (with_counter c r)) →
        Before (burst x) l r s c (events d) y.event (at r)
    close d ne y O (at z, o, mem, now, via) = absurd via
    close d ne y O (amid i M h, o, mem, now, via) = absurd (not_amid x g (with_counter c l) (with_counter c r) s (c + 1) (held y.hand d) i M h now)
    close d ne y O (inside p, o, mem, now, via) = (
      amid c N f₀,
      o,
      mem,
      inr (d, N, f₀, refl, ne, refl, G₀),
      (y.hand, low, (status y.hand).2 refl ∙ ap running (sym via.0), via.1, via.2, (λ i n. (status i).3 n)),
    )
      where
        N : ℕ
        N = hands (d ++ (y ∷ []))

        not_nil : held y.hand (d ++ (y ∷ [])) ≢ []
        not_nil q = snoc_not_nil (held y.hand d) y.event (sym (held_snoc_same y.hand d y refl) ∙ q)

        low : y.hand < N
        low = go (dec_le N y.hand)
          where
            go : Dec (N ≤ y.hand) → y.hand < N
            go (yes h) = absurd (not_nil (no_hand (d ++ (y ∷ [])) y.hand h))
            go (no h) = omega arith

        status : (i : ℕ) → (k : Status) × Told (W x) In k (held i d) × (i ≡ y.hand → k ≡ running p) × (i ≢ y.hand → Busy k → ⊥)
        status i = go (eqb_cases i y.hand)
          where
            R : Type 0
            R = (k : Status) × Told (W x) In k (held i d) × (i ≡ y.hand → k ≡ running p) × (i ≢ y.hand → Busy k → ⊥)

            other : i ≢ y.hand → (held i (d ++ (y ∷ [])) ≡ []) ⊎ W x (held i (d ++ (y ∷ []))) → R
            other n (inl q) = (idle, sym (held_snoc_other i d y n) ∙ q, (λ e. absurd (n e)), (λ m b. b))
            other n (inr q) = (done, subst (W x) (held_snoc_other i d y n) q, (λ e. absurd (n e)), (λ m b. b))

            go : ((i ≡ y.hand) × (eqb i y.hand ≡ true)) ⊎ ((i ≢ y.hand) × (eqb i y.hand ≡ false)) → R
            go (inl q) =
                let now' : In (held i d) (inside p) = subst (λ (j : ℕ). In (held j d) (inside p)) (sym q.0) now in
                (running p, (inside_not_nil (held i d) p now', now'), (λ e. refl), (λ m. absurd (m q.0)))
            go (inr q) = other q.0 (O.words i)

        f₀ : ℕ → Status
        f₀ i = (status i).0

        finished : (u v : List Dealt) → d ≡ u ++ v → (j : ℕ) → held j u ≢ [] → held j (v ++ (y ∷ [])) ≢ [] → Unfinished (W x) (held j u)
        finished u v q j a b = (a, held j (v ++ (y ∷ [])), b, go (O.words j))
          where
            E : held j (d ++ (y ∷ [])) ≡ held j u ++ held j (v ++ (y ∷ []))
            E = ap (λ (z : List Dealt). held j (z ++ (y ∷ []))) q ∙ ap (held j) (append_assoc u v (y ∷ [])) ∙ held_append j u (v ++ (y ∷ []))

            go : (held j (d ++ (y ∷ [])) ≡ []) ⊎ W x (held j (d ++ (y ∷ []))) → W x (held j u ++ held j (v ++ (y ∷ [])))
            go (inl z) = absurd (a (append_nil_left (held j u) (held j (v ++ (y ∷ []))) (sym E ∙ z)))
            go (inr z) = subst (W x) E z

        G₀ : Going (W x) In d N f₀
        G₀ = record {
          each = λ i. (status i).1;
          bound = λ i h. told_nil (f₀ i) (subst (Told (W x) In (f₀ i)) (append_nil_left (held i d) (held i (y ∷ [])) (sym (held_append i d (y ∷ [])) ∙ no_hand (d ++ (y ∷ [])) i h)) (status i).1);
          busy = λ u v q nu. let i = O.inside u (v ++ (y ∷ [])) (ap (λ (z : List Dealt). z ++ (y ∷ [])) q ∙ append_assoc u v (y ∷ [])) nu (snoc_not_nil v y) in (i.0, finished u v q i.0 i.1 i.2);
        }

    last_one : (d : List Dealt) (y : Dealt) → Overlapping (W x) (d ++ (y ∷ [])) → Before (burst x) l r s c (events d) y.event (at r)
    last_one d y O = go d O (word (O.words y.hand))
      where
        word : (held y.hand (d ++ (y ∷ [])) ≡ []) ⊎ W x (held y.hand (d ++ (y ∷ []))) → W x (held y.hand d ++ (y.event ∷ []))
        word (inl q) = absurd (snoc_not_nil (held y.hand d) y.event (sym (held_snoc_same y.hand d y refl) ∙ q))
        word (inr q) = subst (W x) (held_snoc_same y.hand d y refl) q

        go : (d : List Dealt) → Overlapping (W x) (d ++ (y ∷ [])) → W x (held y.hand d ++ (y.event ∷ [])) → Before (burst x) l r s c (events d) y.event (at r)
        go [] O w = absurd (no_end y.event (with_counter c r) (PW [] y.event w))
        go (z ∷ d) O w = close (z ∷ d) cons_not_nil y O (PW (held y.hand (z ∷ d)) y.event w)

    next_one : (d : List Dealt) (y : Dealt) (N : ℕ) (f : ℕ → Status) → Going (W x) In (d ++ (y ∷ [])) N f → Before (burst x) l r s c (events d) y.event (amid c N f)
    next_one [] y N f G = first y N f G
    next_one (z ∷ d) y N f G = one_more (z ∷ d) cons_not_nil y N f G

    -- the same of the history
    burst_word : (u : History) (e : Event) → W (burst x) (u ++ (e ∷ [])) → Before (burst x) l r s c u e (at r)
    burst_word u e (d, p, O) = go (snoc_view d)
      where
        go : (d ≡ []) ⊎ ((m : List Dealt) × (y : Dealt) × (d ≡ m ++ (y ∷ []))) → Before (burst x) l r s c u e (at r)
        go (inl q) = absurd (O.some_dealt q)
        go (inr (m, y, q)) =
            let i = snoc_inj (events m) u y.event e (sym (events_append m (y ∷ [])) ∙ sym (ap events q) ∙ p) in
            subst (λ (z : History). Before (burst x) l r s c z e (at r)) i.0
            (subst (λ (z : Event). Before (burst x) l r s c (events m) z (at r)) i.1 (last_one m y (subst (Overlapping (W x)) q O)))

    burst_now : (u : History) (e : Event) (n : Node) → Now (burst x) l r s c (u ++ (e ∷ [])) n → Before (burst x) l r s c u e n
    burst_now u e n (inl h) = absurd (snoc_not_nil u e h.0)
    burst_now u e n (inr (d, N, f, p, ne, en, G)) = go (snoc_view d)
      where
        go : (d ≡ []) ⊎ ((m : List Dealt) × (y : Dealt) × (d ≡ m ++ (y ∷ []))) → Before (burst x) l r s c u e n
        go (inl q) = absurd (ne q)
        go (inr (m, y, q)) =
            let i = snoc_inj (events m) u y.event e (sym (events_append m (y ∷ [])) ∙ sym (ap events q) ∙ p) in
            subst (λ (z : Node). Before (burst x) l r s c u e z) (sym en)
            (subst (λ (z : History). Before (burst x) l r s c z e (amid c N f)) i.0
            (subst (λ (z : Event). Before (burst x) l r s c (events m) z (amid c N f)) i.1
            (next_one m y N f (subst (λ (z : List Dealt). Going (W x) In z N f) q G))))

-- the last event can be taken off a word, and off a begun word
abbrev pub Peels : Core → Door → Door → ℕ → ℕ → Type 0
Peels t l r s c =
    ((u : History) (e : Event) → W t (u ++ (e ∷ [])) → Before t l r s c u e (at r))
    × ((u : History) (e : Event) (n : Node) → Now t l r s c (u ++ (e ∷ [])) n → Before t l r s c u e n)

leaf_peel : (π a : ℕ) (l r : Door) (s c : ℕ) → Peels (leaf π a) l r s c
leaf_peel π a l r s c = (word, now)
  where
    o : Occurrence
    o = record { path = π; operation = a; left = l; right = r }

    word : (u : History) (e : Event) → W (leaf π a) (u ++ (e ∷ [])) → Before (leaf π a) l r s c u e (at r)
    word u e h = let i = snoc_inj u (⊕ a ∷ []) e (⊖ a) h in (inside o, o, Memᴰ.head refl, inr (i.0, refl), (refl, i.1, refl))

    now : (u : History) (e : Event) (n : Node) → Now (leaf π a) l r s c (u ++ (e ∷ [])) n → Before (leaf π a) l r s c u e n
    now u e n (inl h) = absurd (snoc_not_nil u e h.0)
    now u e n (inr h) =
        let i = snoc_inj u [] e (⊕ a) h.0 in
        subst (λ (z : Node). Before (leaf π a) l r s c u e z) (sym h.1) (at l, o, Memᴰ.head refl, inl (i.0, refl), (refl, i.1, refl))

seq_peel : (x y : Core) (l r : Door) (s c : ℕ) →
    Peels x l (plain (s + sems x)) s c → Peels y (plain (s + sems x)) r (s + sems x + 1) (c + ctrs x) → Peels (seq x y) l r s c
seq_peel x y l r s c X Y = (word, now)
  where
    in_x : (u : History) (e : Event) (n : Node) → Before x l (plain (s + sems x)) s c u e n → Before (seq x y) l r s c u e n
    in_x u e n b = (b.0, b.1, Memᴰ.append_left (D y (plain (s + sems x)) r (s + sems x + 1) (c + ctrs x)) b.2, inl b.3, b.4)

    in_y : (a m : History) (e : Event) (n : Node) (u : History) → u ≡ a ++ m → W x a →
        Before y (plain (s + sems x)) r (s + sems x + 1) (c + ctrs x) m e n → Before (seq x y) l r s c u e n
    in_y a m e n u p wa b = (b.0, b.1, Memᴰ.append_right (D x l (plain (s + sems x)) s c) b.2, inr (a, m, p, wa, b.3), b.4)

    word : (u : History) (e : Event) → W (seq x y) (u ++ (e ∷ [])) → Before (seq x y) l r s c u e (at r)
    word u e (a, b, p, wa, wb) = go (snoc_cut u e a b p)
      where
        go : (b ≡ []) ⊎ ((m : History) × (b ≡ m ++ (e ∷ [])) × (u ≡ a ++ m)) → Before (seq x y) l r s c u e (at r)
        go (inl q) = absurd (word_not_nil y b wb q)
        go (inr (m, q, v)) = in_y a m e (at r) u v wa (Y.0 m e (subst (W y) q wb))

    now : (u : History) (e : Event) (n : Node) → Now (seq x y) l r s c (u ++ (e ∷ [])) n → Before (seq x y) l r s c u e n
    now u e n (inl h) = in_x u e n (X.1 u e n h)
    now u e n (inr (a, b, p, wa, h)) = go (snoc_cut u e a b p)
      where
        go : (b ≡ []) ⊎ ((m : History) × (b ≡ m ++ (e ∷ [])) × (u ≡ a ++ m)) → Before (seq x y) l r s c u e n
        go (inl q) =
            let i = nil_node y (plain (s + sems x)) r (s + sems x + 1) (c + ctrs x) n (subst (λ (z : History). Now y (plain (s + sems x)) r (s + sems x + 1) (c + ctrs x) z n) q h) in
            let w : W x (u ++ (e ∷ [])) = subst (W x) (sym (p ∙ ap (λ (z : History). a ++ z) q ∙ append-nil a)) wa in
            in_x u e n (subst (λ (z : Node). Before x l (plain (s + sems x)) s c u e z) (sym i) (X.0 u e w))
        go (inr (m, q, v)) = in_y a m e n u v wa (Y.1 m e n (subst (λ (z : History). Now y (plain (s + sems x)) r (s + sems x + 1) (c + ctrs x) z n) q h))

alt_peel : (x y : Core) (l r : Door) (s c : ℕ) → Peels x l r s c → Peels y l r (s + sems x) (c + ctrs x) → Peels (alt x y) l r s c
alt_peel x y l r s c X Y = (word, now)
  where
    in_x : (u : History) (e : Event) (n : Node) → Before x l r s c u e n → Before (alt x y) l r s c u e n
    in_x u e n b = (b.0, b.1, Memᴰ.append_left (D y l r (s + sems x) (c + ctrs x)) b.2, inl b.3, b.4)

    in_y : (u : History) (e : Event) (n : Node) → Before y l r (s + sems x) (c + ctrs x) u e n → Before (alt x y) l r s c u e n
    in_y u e n b = (b.0, b.1, Memᴰ.append_right (D x l r s c) b.2, inr b.3, b.4)

    word : (u : History) (e : Event) → W (alt x y) (u ++ (e ∷ [])) → Before (alt x y) l r s c u e (at r)
    word u e (inl h) = in_x u e (at r) (X.0 u e h)
    word u e (inr h) = in_y u e (at r) (Y.0 u e h)

    now : (u : History) (e : Event) (n : Node) → Now (alt x y) l r s c (u ++ (e ∷ [])) n → Before (alt x y) l r s c u e n
    now u e n (inl h) = in_x u e n (X.1 u e n h)
    now u e n (inr h) = in_y u e n (Y.1 u e n h)

pub peel : (t : Core) → Good t → (l r : Door) (s c : ℕ) → Peels t l r s c
peel (leaf π a) g l r s c = leaf_peel π a l r s c
peel (seq x y) g l r s c = seq_peel x y l r s c (peel x g.0 l (plain (s + sems x)) s c) (peel y g.1 (plain (s + sems x)) r (s + sems x + 1) (c + ctrs x))
peel (alt x y) g l r s c = alt_peel x y l r s c (peel x g.0 l r s c) (peel y g.1 l r (s + sems x) (c + ctrs x))
peel (burst x) g l r s c =
    let X = peel x (simple_good x g) (with_counter c l) (with_counter c r) s (c + 1) in
    (burst_word x g l r s c X.0 X.1, burst_now x g l r s c X.0 X.1)
