-- Where a begun word stands.
use mathlib.Core.Path.{◌≡◌, refl, sym, ◌∙◌, ap, subst}
use mathlib.Core.Logic.{◌⊎◌, inl, inr, ◌≢◌}
use mathlib.Core.Bool.{true, false}
use mathlib.Core.List.{List, [], ◌∷◌, ◌++◌}
use Prim.Native.Nat.{ℕ, ◌+◌, ◌≤◌, ◌<◌}
use Rattle.paths.specs.Words.{Event, ⊕, ⊖, History, Language, Burst, Dealt, held, events}
use Rattle.paths.specs.Doors.{Door, plain, counted, with_counter, Occurrence}
use Rattle.paths.proofs.Tests.{eqb_cases}
use Rattle.paths.proofs.Lists.{cons_not_nil, append_nil_left}
use Rattle.paths.proofs.Core.{Core, leaf, seq, alt, burst, W, sems, ctrs}
use Rattle.paths.proofs.Deals.{events_nil, tag, events_tag, held_tag, held_tag_other, tag_nil, tag_cut}

-- what a hand is at: it holds nothing, or a whole word; or its word has begun, and waits at a semaphore or runs an occurrence
pub data Status : Type 0 where
  idle done : Status
  waiting : ℕ → Status
  running : Occurrence → Status

-- where a begun word stands: at a door, inside an occurrence, or amid the burst of counter c, whose hands from N on hold nothing
pub data Node : Type 0 where
  at : Door → Node
  inside : Occurrence → Node
  amid : ℕ → ℕ → (ℕ → Status) → Node

-- w has begun, and goes on to a word of L
abbrev pub Unfinished : Language → History → Type 0
Unfinished L w = (w ≢ []) × (v : History) × (v ≢ []) × L (w ++ v)

-- the status of a hand is true of what it holds; M tells where a begun word stands
abbrev pub Told : Language → (History → Node → Type 0) → Status → History → Type 0
Told L M idle w = w ≡ []
Told L M done w = L w
Told L M (waiting j) w = (w ≢ []) × M w (at (plain j))
Told L M (running o) w = (w ≢ []) × M w (inside o)

-- d is a burst that goes on: each status is true, and behind each of its events some hand is unfinished
pub record Going (L : Language) (M : History → Node → Type 0) (d : List Dealt) (N : ℕ) (f : ℕ → Status) : Type 0 where
  pub each : (k : ℕ) → Told L M (f k) (held k d)
  pub bound : (k : ℕ) → N ≤ k → f k ≡ idle
  pub busy : (u v : List Dealt) → d ≡ u ++ v → u ≢ [] → (k : ℕ) × Unfinished L (held k u)

-- u is the beginning of a word of the tree, not all of it, and stands at n
abbrev pub Now : Core → Door → Door → ℕ → ℕ → History → Node → Type 0
Now (leaf π a) l r s c u n =
    ((u ≡ []) × (n ≡ at l)) ⊎ ((u ≡ ⊕ a ∷ []) × (n ≡ inside (record { path = π; operation = a; left = l; right = r })))
Now (seq x y) l r s c u n =
    Now x l (plain (s + sems x)) s c u n
    ⊎ ((u₁ u₂ : History) × (u ≡ u₁ ++ u₂) × W x u₁ × Now y (plain (s + sems x)) r (s + sems x + 1) (c + ctrs x) u₂ n)
Now (alt x y) l r s c u n = Now x l r s c u n ⊎ Now y l r (s + sems x) (c + ctrs x) u n
Now (burst x) l r s c u n =
    ((u ≡ []) × (n ≡ at l))
    ⊎ ((d : List Dealt) × (N : ℕ) × (f : ℕ → Status) × (events d ≡ u) × (d ≢ []) × (n ≡ amid c N f) × Going (W x) (Now x (with_counter c l) (with_counter c r) s (c + 1)) d N f)

-- the hand has begun and not finished
abbrev pub Busy : Status → Type 0
Busy idle = ⊥
Busy done = ⊥
Busy (waiting j) = Unit {0}
Busy (running o) = Unit {0}

-- one hand's step
abbrev pub HandVia : Occurrence → ℕ → Status → Event → Status → Type 0
HandVia o c idle e idle = ⊥
HandVia o c idle e done = ⊥
HandVia o c idle e (waiting j) = ⊥
HandVia o c idle e (running q) = (o ≡ q) × (e ≡ ⊕ o.operation) × ((i : ℕ) × (o.left ≡ counted i c))
HandVia o c done e g = ⊥
HandVia o c (waiting j) e idle = ⊥
HandVia o c (waiting j) e done = ⊥
HandVia o c (waiting j) e (waiting i) = ⊥
HandVia o c (waiting j) e (running q) = (o ≡ q) × (e ≡ ⊕ o.operation) × (o.left ≡ plain j)
HandVia o c (running p) e idle = ⊥
HandVia o c (running p) e done = (o ≡ p) × (e ≡ ⊖ o.operation) × ((i : ℕ) × (o.right ≡ counted i c))
HandVia o c (running p) e (waiting j) = (o ≡ p) × (e ≡ ⊖ o.operation) × (o.right ≡ plain j)
HandVia o c (running p) e (running q) = ⊥

-- the event e, passing the doors of o, leads from n to the second node
abbrev pub Via : Occurrence → Node → Event → Node → Type 0
Via o (at j) e (at i) = ⊥
Via o (at j) e (inside p) = (o ≡ p) × (e ≡ ⊕ o.operation) × (o.left ≡ j)
Via o (at j) e (amid c N f) =
    (e ≡ ⊕ o.operation) × (o.left ≡ with_counter c j) × ((k : ℕ) × (k < N) × (f k ≡ running o) × ((i : ℕ) → i ≢ k → f i ≡ idle))
Via o (inside p) e (at j) = (o ≡ p) × (e ≡ ⊖ o.operation) × (o.right ≡ j)
Via o (inside p) e (inside q) = ⊥
Via o (inside p) e (amid c N f) = ⊥
Via o (amid c N f) e (at j) =
    (k : ℕ) × (k < N) × (f k ≡ running o) × (e ≡ ⊖ o.operation) × (o.right ≡ with_counter c j) × ((i : ℕ) → i ≢ k → Busy (f i) → ⊥)
Via o (amid c N f) e (inside q) = ⊥
Via o (amid c N f) e (amid c' N' f') =
    (c ≡ c') × (N ≡ N') × ((k : ℕ) × (k < N) × ((i : ℕ) → i ≢ k → f i ≡ f' i) × HandVia o c (f k) e (f' k)) × ((i : ℕ) × (i < N) × Busy (f i)) × ((i : ℕ) × (i < N) × Busy (f' i))

-- ---- words are not empty, and there are some
pub word_not_nil : (t : Core) (w : History) → W t w → w ≢ []
word_not_nil (leaf π a) w h p = cons_not_nil (sym h ∙ p)
word_not_nil (seq x y) w h p = word_not_nil x h.0 h.3 (append_nil_left h.0 h.1 (sym h.2 ∙ p))
word_not_nil (alt x y) w (inl h) p = word_not_nil x w h p
word_not_nil (alt x y) w (inr h) p = word_not_nil y w h p
word_not_nil (burst x) w h p = h.2.some_dealt (events_nil h.0 (h.1 ∙ p))

single : (L : Language) (w : History) → w ≢ [] → L w → Burst L w
single L w ne h = (
  tag 0 w,
  events_tag 0 w,
  record {
    some_dealt = λ p. ne (tag_nil 0 w p);
    words = λ k. hands k (eqb_cases k 0);
    inside = λ u v p nu nv. let i = tag_cut 0 w u v p in (0, (λ q. nu (i.2 ∙ ap (λ (z : History). tag 0 z) (sym (held_tag 0 i.0) ∙ sym (ap (held 0) i.2) ∙ q))), (λ q. nv (i.3 ∙ ap (λ (z : History). tag 0 z) (sym (held_tag 0 i.1) ∙ sym (ap (held 0) i.3) ∙ q))));
  },
)
  where
    hands : (k : ℕ) → ((k ≡ 0) × (lib.Dec.eqb k 0 ≡ true)) ⊎ ((k ≢ 0) × (lib.Dec.eqb k 0 ≡ false)) → (held k (tag 0 w) ≡ []) ⊎ L (held k (tag 0 w))
    hands k (inl p) = inr (subst L (sym (held_tag 0 w) ∙ ap (λ (j : ℕ). held j (tag 0 w)) (sym p.0)) h)
    hands k (inr p) = inl (held_tag_other k 0 w p.0)

pub some_word : (t : Core) → (w : History) × W t w
some_word (leaf π a) = (⊕ a ∷ ⊖ a ∷ [], refl)
some_word (seq x y) = let p = some_word x in let q = some_word y in (p.0 ++ q.0, (p.0, q.0, refl, p.1, q.1))
some_word (alt x y) = let p = some_word x in (p.0, inl p.1)
some_word (burst x) = let p = some_word x in (p.0, single (W x) p.0 (word_not_nil x p.0 p.1) p.1)

pub start : (t : Core) (l r : Door) (s c : ℕ) → Now t l r s c [] (at l)
start (leaf π a) l r s c = inl (refl, refl)
start (seq x y) l r s c = inl (start x l (plain (s + sems x)) s c)
start (alt x y) l r s c = inl (start x l r s c)
start (burst x) l r s c = inl (refl, refl)
