-- One event: what it does to the standing, who runs, and which doors were open.
use mathlib.Core.Path.{◌≡◌, refl, sym, ◌∙◌, ap, subst}
use mathlib.Core.Logic.{◌⊎◌, inl, inr, ◌≢◌}
use mathlib.Core.Bool.{Bool, cond}
use Prim.Native.Nat.{ℕ, ◌+◌, ◌≤◌, ◌<◌}
use native.Mathlib.Omega.{arith}
use lib.Dec.{eqb}
use Rattle.paths.specs.Words.{Event, ⊕, ⊖, operation}
use Rattle.paths.specs.Doors.{semaphore_of, Door, plain, counted, with_counter, Occurrence, Standing, Open, left_by, passed}
use Rattle.paths.proofs.Tests.{zero_one, eqb_same, by_eqb}
use Rattle.paths.proofs.Now.{Status, idle, done, waiting, running, Node, at, inside, amid, Busy, HandVia, Via}
use Rattle.paths.proofs.Enter.{Enters}
use Rattle.paths.proofs.Leave.{Leaves}
use Rattle.paths.proofs.Stands.{sum, sum_some, sum_low, sum_one, sum_change, waits, busies, runs, Stands, PlainNode, busy_adds, goes_in, goes_out}
use Rattle.paths.proofs.Stands.{enter_plain, leave_plain, enter_first, leave_last, hand_begins, hand_goes_in, hand_waits, hand_ends}

-- 1 if a is b
abbrev tick : ℕ → ℕ → ℕ
tick a b = cond (eqb a b) 1 0

tick_same : (a : ℕ) → tick a a ≡ 1
tick_same a = ap (λ (z : Bool). cond {A = ℕ} z 1 0) (eqb_same a)

-- ---- the standing
module _ (o : Occurrence) (e : Event) (σ : Standing) where
  hand_step : (c N : ℕ) (f f' : ℕ → Status) (k : ℕ) → k < N → ((i : ℕ) → i ≢ k → f i ≡ f' i) → ((i : ℕ) × (i < N) × Busy (f i)) → ((i : ℕ) × (i < N) × Busy (f' i)) →
      Stands (amid c N f) σ → (v v' : Status) → f k ≡ v → f' k ≡ v' → HandVia o c v e v' → Stands (amid c N f') (passed e o σ)
  hand_step c N f f' k low same B B' S idle idle p q h = absurd h
  hand_step c N f f' k low same B B' S idle done p q h = absurd h
  hand_step c N f f' k low same B B' S idle (waiting j) p q h = absurd h
  hand_step c N f f' k low same B B' S idle (running z) p q (a, b, d) =
      subst (Stands (amid c N f')) (sym (goes_in e o σ (counted d.0 c) b d.1)) (hand_begins o c N f f' k low same B B' σ S d.0 p (q ∙ ap running (sym a)))
  hand_step c N f f' k low same B B' S done v' p q h = absurd h
  hand_step c N f f' k low same B B' S (waiting j) idle p q h = absurd h
  hand_step c N f f' k low same B B' S (waiting j) done p q h = absurd h
  hand_step c N f f' k low same B B' S (waiting j) (waiting i) p q h = absurd h
  hand_step c N f f' k low same B B' S (waiting j) (running z) p q (a, b, d) =
      subst (Stands (amid c N f')) (sym (goes_in e o σ (plain j) b d)) (hand_goes_in o c N f f' k low same B B' σ S j p (q ∙ ap running (sym a)))
  hand_step c N f f' k low same B B' S (running y) idle p q h = absurd h
  hand_step c N f f' k low same B B' S (running y) done p q (a, b, d) =
      subst (Stands (amid c N f')) (sym (goes_out e o σ (counted d.0 c) b d.1)) (hand_ends o c N f f' k low same B B' σ S d.0 (p ∙ ap running (sym a)) q)
  hand_step c N f f' k low same B B' S (running y) (waiting j) p q (a, b, d) =
      subst (Stands (amid c N f')) (sym (goes_out e o σ (plain j) b d)) (hand_waits o c N f f' k low same B B' σ S j (p ∙ ap running (sym a)) q)
  hand_step c N f f' k low same B B' S (running y) (running z) p q h = absurd h

  pub step : (n n' : Node) → PlainNode n → PlainNode n' → Via o n e n' → Stands n σ → Stands n' (passed e o σ)
  step (at q) (at q') P P' v S = absurd v
  step (at q) (inside p) P P' v S =
      subst (Stands (inside p)) (sym (goes_in e o σ (plain P.0) v.1 (v.2 ∙ P.1))) (enter_plain p P.0 σ (subst (λ (z : Door). Stands (at z) σ) P.1 S))
  step (at q) (amid c N f) P P' (a, b, (k, low, fk, others)) S =
      subst (Stands (amid c N f)) (sym (goes_in e o σ (counted P.0 c) a (b ∙ ap (with_counter c) P.1)))
      (enter_first o P.0 c N f σ k low fk others (subst (λ (z : Door). Stands (at z) σ) P.1 S))
  step (inside p) (at q) P P' v S =
      subst (Stands (at q)) (sym (goes_out e o σ (plain P'.0) v.1 (v.2 ∙ P'.1)))
      (subst (λ (z : Door). Stands (at z) (left_by (plain P'.0) σ)) (sym P'.1) (leave_plain p P'.0 σ S))
  step (inside p) (inside q) P P' v S = absurd v
  step (inside p) (amid c N f) P P' v S = absurd v
  step (amid c N f) (at q) P P' (k, low, fk, a, b, others) S =
      subst (Stands (at q)) (sym (goes_out e o σ (counted P'.0 c) a (b ∙ ap (with_counter c) P'.1)))
      (subst (λ (z : Door). Stands (at z) (left_by (counted P'.0 c) σ)) (sym P'.1) (leave_last o P'.0 c N f σ k low fk others S))
  step (amid c N f) (inside p) P P' v S = absurd v
  step (amid c N f) (amid c' N' f') P P' (a, b, (k, low, same, hv), B, B') S =
      subst (λ (z : ℕ). Stands (amid z N' f') (passed e o σ)) a
      (subst (λ (z : ℕ). Stands (amid c z f') (passed e o σ)) b (hand_step c N f f' k low same B B' S (f k) (f' k) refl refl hv))

-- ---- the event's operation
hand_op : (o : Occurrence) (c : ℕ) (v : Status) (e : Event) (v' : Status) → HandVia o c v e v' → (e ≡ ⊕ o.operation) ⊎ (e ≡ ⊖ o.operation)
hand_op o c idle e idle h = absurd h
hand_op o c idle e done h = absurd h
hand_op o c idle e (waiting j) h = absurd h
hand_op o c idle e (running z) h = inl h.1
hand_op o c done e v' h = absurd h
hand_op o c (waiting j) e idle h = absurd h
hand_op o c (waiting j) e done h = absurd h
hand_op o c (waiting j) e (waiting i) h = absurd h
hand_op o c (waiting j) e (running z) h = inl h.1
hand_op o c (running y) e idle h = absurd h
hand_op o c (running y) e done h = inr h.1
hand_op o c (running y) e (waiting j) h = inr h.1
hand_op o c (running y) e (running z) h = absurd h

via_event : (o : Occurrence) (n : Node) (e : Event) (n' : Node) → Via o n e n' → (e ≡ ⊕ o.operation) ⊎ (e ≡ ⊖ o.operation)
via_event o (at q) e (at q') v = absurd v
via_event o (at q) e (inside p) v = inl v.1
via_event o (at q) e (amid c N f) v = inl v.0
via_event o (inside p) e (at q) v = inr v.1
via_event o (inside p) e (inside q) v = absurd v
via_event o (inside p) e (amid c N f) v = absurd v
via_event o (amid c N f) e (at q) v = inr v.3
via_event o (amid c N f) e (inside p) v = absurd v
via_event o (amid c N f) e (amid c' N' f') v = hand_op o c (f v.2.0) e (f' v.2.0) v.2.3

pub via_op : (o : Occurrence) (n : Node) (e : Event) (n' : Node) → Via o n e n' → operation e ≡ o.operation
via_op o n e n' v = go (via_event o n e n' v)
  where
    go : (e ≡ ⊕ o.operation) ⊎ (e ≡ ⊖ o.operation) → operation e ≡ o.operation
    go (inl p) = ap operation p
    go (inr p) = ap operation p

-- ---- who runs
abbrev pub Running : Node → ℕ → ℕ
Running (at q) a = 0
Running (inside p) a = cond (eqb a p.operation) 1 0
Running (amid c N f) a = sum N (λ k. runs a (f k))

-- 1 if the event lets a in
abbrev pub begins : Event → ℕ → ℕ
begins (⊕ b) a = cond (eqb a b) 1 0
begins (⊖ b) a = 0

-- 1 if the event ends a
abbrev pub ends : Event → ℕ → ℕ
ends (⊕ b) a = 0
ends (⊖ b) a = cond (eqb a b) 1 0

hand_run : (o : Occurrence) (c : ℕ) (a : ℕ) (v : Status) (e : Event) (v' : Status) → HandVia o c v e v' → runs a v' + ends e a ≡ runs a v + begins e a
hand_run o c a idle e idle h = absurd h
hand_run o c a idle e done h = absurd h
hand_run o c a idle e (waiting j) h = absurd h
hand_run o c a idle e (running z) h = let x = ap (λ (y : Event). ends y a) h.1 in let w = ap (λ (y : Event). begins y a) h.1 in let u = ap (λ (y : Occurrence). tick a y.operation) h.0 in omega arith
hand_run o c a done e v' h = absurd h
hand_run o c a (waiting j) e idle h = absurd h
hand_run o c a (waiting j) e done h = absurd h
hand_run o c a (waiting j) e (waiting i) h = absurd h
hand_run o c a (waiting j) e (running z) h = let x = ap (λ (y : Event). ends y a) h.1 in let w = ap (λ (y : Event). begins y a) h.1 in let u = ap (λ (y : Occurrence). tick a y.operation) h.0 in omega arith
hand_run o c a (running y) e idle h = absurd h
hand_run o c a (running y) e done h = let x = ap (λ (y : Event). ends y a) h.1 in let w = ap (λ (y : Event). begins y a) h.1 in let u = ap (λ (y : Occurrence). tick a y.operation) h.0 in omega arith
hand_run o c a (running y) e (waiting j) h = let x = ap (λ (y : Event). ends y a) h.1 in let w = ap (λ (y : Event). begins y a) h.1 in let u = ap (λ (y : Occurrence). tick a y.operation) h.0 in omega arith
hand_run o c a (running y) e (running z) h = absurd h

pub run_step : (o : Occurrence) (n : Node) (e : Event) (n' : Node) → Via o n e n' → (a : ℕ) → Running n' a + ends e a ≡ Running n a + begins e a
run_step o (at q) e (at q') v a = absurd v
run_step o (at q) e (inside p) v a = let x = ap (λ (y : Event). ends y a) v.1 in let w = ap (λ (y : Event). begins y a) v.1 in let u = ap (λ (y : Occurrence). tick a y.operation) v.0 in omega arith
run_step o (at q) e (amid c N f) (p, d, (k, low, fk, others)) a =
    let x = ap (λ (y : Event). ends y a) p in
    let w = ap (λ (y : Event). begins y a) p in
    let t : sum N (λ h. runs a (f h)) ≡ cond (eqb a o.operation) 1 0 = sum_one N (λ h. runs a (f h)) k low (λ i n. ap (runs a) (others i n)) ∙ ap (runs a) fk in
    omega arith
run_step o (inside p) e (at q) v a = let x = ap (λ (y : Event). ends y a) v.1 in let w = ap (λ (y : Event). begins y a) v.1 in let u = ap (λ (y : Occurrence). tick a y.operation) v.0 in omega arith
run_step o (inside p) e (inside q) v a = absurd v
run_step o (inside p) e (amid c N f) v a = absurd v
run_step o (amid c N f) e (at q) (k, low, fk, p, d, others) a =
    let x = ap (λ (y : Event). ends y a) p in
    let w = ap (λ (y : Event). begins y a) p in
    let t : sum N (λ h. runs a (f h)) ≡ cond (eqb a o.operation) 1 0 = sum_one N (λ h. runs a (f h)) k low (λ i n. rests (f i) (others i n)) ∙ ap (runs a) fk in
    omega arith
  where
    rests : (v : Status) → (Busy v → ⊥) → runs a v ≡ 0
    rests idle b = refl
    rests done b = refl
    rests (waiting j) b = refl
    rests (running z) b = absurd (b tt)
run_step o (amid c N f) e (inside p) v a = absurd v
run_step o (amid c N f) e (amid c' N' f') (p, q, (k, low, same, hv), B, B') a =
    let s = sum_change N (λ h. runs a (f h)) (λ h. runs a (f' h)) k low (λ h n. ap (runs a) (same h n)) in
    let t = hand_run o c a (f k) e (f' k) hv in
    let u = ap (λ (z : ℕ). sum z (λ h. runs a (f' h))) q in
    omega arith

test_one : (a b : ℕ) → 1 ≤ cond (eqb a b) 1 0 → b ≡ a
test_one a b = by_eqb a b (λ z. 1 ≤ cond z 1 0 → b ≡ a) (λ p h. sym p) (λ n h. let z : ⊥ = omega arith in absurd z)

pub who_runs : (n : Node) (a : ℕ) → 1 ≤ Running n a → (o : Occurrence) × (o.operation ≡ a) × Leaves n o
who_runs (at q) a h = let z : ⊥ = omega arith in absurd z
who_runs (inside p) a h = (p, test_one a p.operation h, refl)
who_runs (amid c N f) a h = let i = sum_some N (λ k. runs a (f k)) h in go i.0 (f i.0) refl i.2
  where
    go : (k : ℕ) (v : Status) → f k ≡ v → 1 ≤ runs a v → (o : Occurrence) × (o.operation ≡ a) × ((k : ℕ) × (f k ≡ running o))
    go k idle p l = let z : ⊥ = omega arith in absurd z
    go k done p l = let z : ⊥ = omega arith in absurd z
    go k (waiting j) p l = let z : ⊥ = omega arith in absurd z
    go k (running o) p l = (o, test_one a o.operation l, (k, p))

-- ---- open doors
pub open_enters : (o : Occurrence) (n : Node) (σ : Standing) → Stands n σ → Open o.left σ → Enters n o
open_enters o n σ S h = go o.left refl n S h
  where
    waits_some : (i : ℕ) (v : Status) → 1 ≤ waits i v → v ≡ waiting i
    waits_some i idle l = let z : ⊥ = omega arith in absurd z
    waits_some i done l = let z : ⊥ = omega arith in absurd z
    waits_some i (waiting j) l = ap waiting (test_one i j l)
    waits_some i (running p) l = let z : ⊥ = omega arith in absurd z

    by_sem : (n : Node) → Stands n σ → 1 ≤ σ.semaphore (semaphore_of o.left) → Enters n o
    by_sem (at q) S l = let e = S.0 (semaphore_of o.left) in sym (test_one (semaphore_of o.left) (semaphore_of q) (omega arith))
    by_sem (inside p) S l = let e = S.0 (semaphore_of o.left) in omega arith
    by_sem (amid c N f) S l =
        let e = S.0 (semaphore_of o.left) in
        let i = sum_some N (λ k. waits (semaphore_of o.left) (f k)) (omega arith) in
        inr (i.0, semaphore_of o.left, waits_some (semaphore_of o.left) (f i.0) i.2, refl)

    by_ctr : (n : Node) → Stands n σ → (j c : ℕ) → o.left ≡ counted j c → 1 ≤ σ.counter c → Enters n o
    by_ctr (at q) S j c p l = let e = S.1 c in let z : ⊥ = omega arith in absurd z
    by_ctr (inside w) S j c p l = let e = S.1 c in omega arith
    by_ctr (amid d N f) S j c p l =
        by_eqb c d (λ b. σ.counter c ≡ cond b (sum N (λ k. busies (f k))) 0 → Enters (amid d N f) o)
        (λ q e. inl (j, p ∙ ap (counted j) q)) (λ m e. let z : ⊥ = omega arith in absurd z) (S.1 c)

    go : (q : Door) → o.left ≡ q → (n : Node) → Stands n σ → Open q σ → Enters n o
    go (plain i) p n S l = by_sem n S (subst (λ (z : Door). 1 ≤ σ.semaphore (semaphore_of z)) (sym p) l)
    go (counted i c) p n S (inl l) = by_ctr n S i c p l
    go (counted i c) p n S (inr l) = by_sem n S (subst (λ (z : Door). 1 ≤ σ.semaphore (semaphore_of z)) (sym p) l)

pub via_open : (o : Occurrence) (n : Node) (a : ℕ) (n' : Node) (σ : Standing) → PlainNode n → Via o n (⊕ a) n' → Stands n σ → Open o.left σ
via_open o (at q) a (at q') σ P v S = absurd v
via_open o (at q) a (inside p) σ P v S =
    subst (λ (z : Door). Open z σ) (sym (v.2 ∙ P.1)) (let e = S.0 P.0 in let k = ap (λ (z : Door). tick P.0 (semaphore_of z)) P.1 in let b = tick_same P.0 in let r : 1 ≤ σ.semaphore P.0 = omega arith in r)
via_open o (at q) a (amid c N f) σ P v S =
    subst (λ (z : Door). Open z σ) (sym (v.1 ∙ ap (with_counter c) P.1)) (inr (let e = S.0 P.0 in let k = ap (λ (z : Door). tick P.0 (semaphore_of z)) P.1 in let b = tick_same P.0 in omega arith))
via_open o (inside p) a (at q) σ P v S = zero_one (let e = v.1 in cc)
via_open o (inside p) a (inside q) σ P v S = absurd v
via_open o (inside p) a (amid c N f) σ P v S = absurd v
via_open o (amid c N f) a (at q) σ P v S = zero_one (let e = v.3 in cc)
via_open o (amid c N f) a (inside p) σ P v S = absurd v
via_open o (amid c N f) a (amid c' N' f') σ P (x, y, (k, low, same, hv), B, B') S = go (f k) (f' k) refl hv
  where
    go : (v v' : Status) → f k ≡ v → HandVia o c v (⊕ a) v' → Open o.left σ
    go idle idle p h = absurd h
    go idle done p h = absurd h
    go idle (waiting j) p h = absurd h
    go idle (running z) p (s, t, d) =
        subst (λ (w : Door). Open w σ) (sym d.1)
        (inl (let e = S.1 c ∙ ap (λ (b : Bool). cond b (sum N (λ h. busies (f h))) 0) (eqb_same c) in
        let u = sum_low N (λ h. busies (f h)) B.0 B.1 in let w = busy_adds (f B.0) B.2 in omega arith))
    go done v' p h = absurd h
    go (waiting j) idle p h = absurd h
    go (waiting j) done p h = absurd h
    go (waiting j) (waiting i) p h = absurd h
    go (waiting j) (running z) p (s, t, d) =
        subst (λ (w : Door). Open w σ) (sym d)
        (let e = S.0 j in let u = sum_low N (λ h. waits j (f h)) k low in let w = ap (waits j) p in let b = tick_same j in let r : 1 ≤ σ.semaphore j = omega arith in r)
    go (running y) idle p h = absurd h
    go (running y) done p h = zero_one (let e = h.1 in cc)
    go (running y) (waiting j) p h = zero_one (let e = h.1 in cc)
    go (running y) (running z) p h = absurd h
