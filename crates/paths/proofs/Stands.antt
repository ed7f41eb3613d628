-- What the semaphores and counters stand at, told from where a word stands.
use mathlib.Core.Path.{◌≡◌, refl, sym, ◌∙◌, ap}
use mathlib.Core.Logic.{◌⊎◌, inl, inr, ◌≢◌}
use mathlib.Core.Bool.{Bool, true, false, cond}
use Prim.Native.Nat.{ℕ, zero, suc, ◌+◌, ◌-◌, ◌≤◌, ◌<◌}
use native.Mathlib.Omega.{arith}
use lib.Dec.{eqb}
use Rattle.paths.specs.Words.{Event, ⊕, ⊖}
use Rattle.paths.specs.Doors.{semaphore_of, Door, plain, counted, Occurrence, Standing, raised, lowered, gone_in, left_by, passed}
use Rattle.paths.proofs.Tests.{eqb_same, eqb_cases, eqb_apart, by_eqb}
use Rattle.paths.proofs.Now.{Status, idle, done, waiting, running, Node, at, inside, amid, Busy}
use Rattle.paths.proofs.Enter.{Plain}

-- ---- sums
abbrev pub sum : ℕ → (ℕ → ℕ) → ℕ
sum zero g = 0
sum (suc n) g = sum n g + g n

pub sum_same : (N : ℕ) (g h : ℕ → ℕ) → ((i : ℕ) → i < N → g i ≡ h i) → sum N g ≡ sum N h
sum_same zero g h e = refl
sum_same (suc N) g h e = let p = sum_same N g h (λ i l. e i (omega arith)) in let q = e N (omega arith) in omega arith

pub sum_change : (N : ℕ) (g h : ℕ → ℕ) (k : ℕ) → k < N → ((i : ℕ) → i ≢ k → g i ≡ h i) → sum N g + h k ≡ sum N h + g k
sum_change zero g h k l e = let z : ⊥ = omega arith in absurd z
sum_change (suc N) g h k l e = go (eqb_cases k N) (sum_change N g h k)
  where
    go : ((k ≡ N) × (eqb k N ≡ true)) ⊎ ((k ≢ N) × (eqb k N ≡ false)) → (k < N → ((i : ℕ) → i ≢ k → g i ≡ h i) → sum N g + h k ≡ sum N h + g k) →
        (sum N g + g N) + h k ≡ (sum N h + h N) + g k
    go (inl p) ih =
        let q = sum_same N g h (λ i m. e i (λ z. let w = p.0 in let y : ⊥ = omega arith in y)) in
        let a = ap g p.0 in
        let b = ap h p.0 in
        omega arith
    go (inr p) ih = let n = p.0 in let q = ih (omega arith) e in let a = e N (λ z. n (sym z)) in omega arith

pub sum_some : (N : ℕ) (g : ℕ → ℕ) → 1 ≤ sum N g → (k : ℕ) × (k < N) × (1 ≤ g k)
sum_some zero g h = let z : ⊥ = omega arith in absurd z
sum_some (suc N) g h = go (eqb_cases (g N) 0) (sum_some N g)
  where
    go : ((g N ≡ 0) × (eqb (g N) 0 ≡ true)) ⊎ ((g N ≢ 0) × (eqb (g N) 0 ≡ false)) → (1 ≤ sum N g → (k : ℕ) × (k < N) × (1 ≤ g k)) → (k : ℕ) × (k < suc N) × (1 ≤ g k)
    go (inl p) ih = let z = p.0 in let i = ih (omega arith) in let a = i.1 in (i.0, (omega arith), i.2)
    go (inr p) ih = let z = p.0 in (N, (omega arith), (omega arith))

pub sum_low : (N : ℕ) (g : ℕ → ℕ) (k : ℕ) → k < N → g k ≤ sum N g
sum_low zero g k l = let z : ⊥ = omega arith in absurd z
sum_low (suc N) g k l = go (eqb_cases k N) (sum_low N g k)
  where
    go : ((k ≡ N) × (eqb k N ≡ true)) ⊎ ((k ≢ N) × (eqb k N ≡ false)) → (k < N → g k ≤ sum N g) → g k ≤ sum N g + g N
    go (inl p) ih = let a = ap g p.0 in omega arith
    go (inr p) ih = let n = p.0 in let q = ih (omega arith) in omega arith

pub sum_none : (N : ℕ) (g : ℕ → ℕ) → ((i : ℕ) → g i ≡ 0) → sum N g ≡ 0
sum_none zero g e = refl
sum_none (suc N) g e = let p = sum_none N g e in let q = e N in omega arith

-- only k has any
pub sum_one : (N : ℕ) (g : ℕ → ℕ) (k : ℕ) → k < N → ((i : ℕ) → i ≢ k → g i ≡ 0) → sum N g ≡ g k
sum_one N g k l e = let p = sum_change N g (λ i. 0) k l e in let q = sum_none N (λ i. 0) (λ i. refl) in omega arith

-- ---- what one hand adds
-- 1 if it waits at semaphore i
abbrev pub waits : ℕ → Status → ℕ
waits i idle = 0
waits i done = 0
waits i (waiting j) = cond (eqb i j) 1 0
waits i (running o) = 0

-- 1 if it has begun and not finished
abbrev pub busies : Status → ℕ
busies idle = 0
busies done = 0
busies (waiting j) = 1
busies (running o) = 1

-- 1 if it runs operation a
abbrev pub runs : ℕ → Status → ℕ
runs a idle = 0
runs a done = 0
runs a (waiting j) = 0
runs a (running o) = cond (eqb a o.operation) 1 0

-- what σ is where n stands: one semaphore at 1, or none; in a burst a semaphore counts the hands that wait at it, the counter the busy hands
abbrev pub Stands : Node → Standing → Type 0
Stands (at q) σ = ((i : ℕ) → σ.semaphore i ≡ cond (eqb i (semaphore_of q)) 1 0) × ((i : ℕ) → σ.counter i ≡ 0)
Stands (inside p) σ = ((i : ℕ) → σ.semaphore i ≡ 0) × ((i : ℕ) → σ.counter i ≡ 0)
Stands (amid c N f) σ =
    ((i : ℕ) → σ.semaphore i ≡ sum N (λ k. waits i (f k))) × ((i : ℕ) → σ.counter i ≡ cond (eqb i c) (sum N (λ k. busies (f k))) 0)

-- a node at a door stands at one without counter
abbrev pub PlainNode : Node → Type 0
PlainNode (at q) = Plain q
PlainNode (inside p) = Unit {0}
PlainNode (amid c N f) = Unit {0}

pub busy_adds : (v : Status) → Busy v → busies v ≡ 1
busy_adds idle b = absurd b
busy_adds done b = absurd b
busy_adds (waiting j) b = refl
busy_adds (running o) b = refl

pub idle_adds : (v : Status) → (Busy v → ⊥) → busies v ≡ 0
idle_adds idle b = refl
idle_adds done b = refl
idle_adds (waiting j) b = absurd (b tt)
idle_adds (running o) b = absurd (b tt)

pub idle_waits : (i : ℕ) (v : Status) → (Busy v → ⊥) → waits i v ≡ 0
idle_waits i idle b = refl
idle_waits i done b = refl
idle_waits i (waiting j) b = absurd (b tt)
idle_waits i (running o) b = absurd (b tt)

-- ---- one step
pub goes_in : (e : Event) (o : Occurrence) (σ : Standing) (q : Door) → e ≡ ⊕ o.operation → o.left ≡ q → passed e o σ ≡ gone_in q σ
goes_in e o σ q p h = ap (λ (z : Event). passed z o σ) p ∙ ap (λ (z : Door). gone_in z σ) h

pub goes_out : (e : Event) (o : Occurrence) (σ : Standing) (q : Door) → e ≡ ⊖ o.operation → o.right ≡ q → passed e o σ ≡ left_by q σ
goes_out e o σ q p h = ap (λ (z : Event). passed z o σ) p ∙ ap (λ (z : Door). left_by z σ) h

pub enter_plain : (o : Occurrence) (j : ℕ) (σ : Standing) → Stands (at (plain j)) σ → Stands (inside o) (gone_in (plain j) σ)
enter_plain o j σ S = ((λ i. by_eqb i j (λ b. σ.semaphore i ≡ cond b 1 0 → cond b (σ.semaphore i - 1) (σ.semaphore i) ≡ 0) (λ p h. omega arith) (λ n h. h) (S.0 i)), S.1)

pub leave_plain : (o : Occurrence) (j : ℕ) (σ : Standing) → Stands (inside o) σ → Stands (at (plain j)) (left_by (plain j) σ)
leave_plain o j σ S =
    ((λ i. let h = S.0 i in by_eqb i j (λ b. cond b (σ.semaphore i + 1) (σ.semaphore i) ≡ cond b 1 0) (λ p. omega arith) (λ n. h)), S.1)

-- a test that fails, or passes
when_zero : {A : Type 0} (n : ℕ) (x y : A) → n ≡ 0 → cond (eqb n 0) x y ≡ x
when_zero n x y p = ap (λ (b : Bool). cond b x y) (ap (λ (m : ℕ). eqb m 0) p)

when_more : {A : Type 0} (n : ℕ) (x y : A) → 1 ≤ n → cond (eqb n 0) x y ≡ y
when_more n x y p = ap (λ (b : Bool). cond b x y) (eqb_apart n 0 (λ q. let z : ⊥ = omega arith in z))

pub enter_first : (o : Occurrence) (j c N : ℕ) (f : ℕ → Status) (σ : Standing) (k : ℕ) → k < N → f k ≡ running o → ((i : ℕ) → i ≢ k → f i ≡ idle) →
    Stands (at (plain j)) σ → Stands (amid c N f) (gone_in (counted j c) σ)
enter_first o j c N f σ k low p others S = (sems, ctrs)
  where
    none : (i h : ℕ) → waits i (f h) ≡ 0
    none i h = go (eqb_cases h k)
      where
        go : ((h ≡ k) × (eqb h k ≡ true)) ⊎ ((h ≢ k) × (eqb h k ≡ false)) → waits i (f h) ≡ 0
        go (inl q) = ap (λ (z : ℕ). waits i (f z)) q.0 ∙ ap (waits i) p
        go (inr q) = ap (waits i) (others h q.0)

    sems : (i : ℕ) → cond (eqb (σ.counter c) 0) (lowered j σ.semaphore) σ.semaphore i ≡ sum N (λ h. waits i (f h))
    sems i =
        ap (λ (g : ℕ → ℕ). g i) (when_zero (σ.counter c) (lowered j σ.semaphore) σ.semaphore (S.1 c))
        ∙ by_eqb i j (λ b. σ.semaphore i ≡ cond b 1 0 → cond b (σ.semaphore i - 1) (σ.semaphore i) ≡ 0) (λ q h. omega arith) (λ n h. h) (S.0 i)
        ∙ sym (sum_none N (λ h. waits i (f h)) (none i))

    total : sum N (λ h. busies (f h)) ≡ 1
    total = sum_one N (λ h. busies (f h)) k low (λ i n. ap busies (others i n)) ∙ ap busies p

    ctrs : (i : ℕ) → raised c σ.counter i ≡ cond (eqb i c) (sum N (λ h. busies (f h))) 0
    ctrs i = let h = S.1 i in by_eqb i c (λ b. cond b (σ.counter i + 1) (σ.counter i) ≡ cond b (sum N (λ h. busies (f h))) 0) (λ q. let t = total in omega arith) (λ n. h)

pub leave_last : (o : Occurrence) (j c N : ℕ) (f : ℕ → Status) (σ : Standing) (k : ℕ) → k < N → f k ≡ running o → ((i : ℕ) → i ≢ k → Busy (f i) → ⊥) →
    Stands (amid c N f) σ → Stands (at (plain j)) (left_by (counted j c) σ)
leave_last o j c N f σ k low p others S = (sems, ctrs)
  where
    none : (i h : ℕ) → waits i (f h) ≡ 0
    none i h = go (eqb_cases h k)
      where
        go : ((h ≡ k) × (eqb h k ≡ true)) ⊎ ((h ≢ k) × (eqb h k ≡ false)) → waits i (f h) ≡ 0
        go (inl q) = ap (λ (z : ℕ). waits i (f z)) q.0 ∙ ap (waits i) p
        go (inr q) = idle_waits i (f h) (others h q.0)

    total : sum N (λ h. busies (f h)) ≡ 1
    total = sum_one N (λ h. busies (f h)) k low (λ i n. idle_adds (f i) (others i n)) ∙ ap busies p

    at_c : σ.counter c ≡ 1
    at_c = S.1 c ∙ ap (λ (b : Bool). cond b (sum N (λ h. busies (f h))) 0) (eqb_same c) ∙ total

    sems : (i : ℕ) → cond (eqb (σ.counter c - 1) 0) (raised j σ.semaphore) σ.semaphore i ≡ cond (eqb i j) 1 0
    sems i =
        let zero_now : σ.semaphore i ≡ 0 = S.0 i ∙ sum_none N (λ h. waits i (f h)) (none i) in
        ap (λ (g : ℕ → ℕ). g i) (when_zero (σ.counter c - 1) (raised j σ.semaphore) σ.semaphore (let t = at_c in omega arith))
        ∙ by_eqb i j (λ b. cond b (σ.semaphore i + 1) (σ.semaphore i) ≡ cond b 1 0) (λ q. omega arith) (λ n. zero_now)

    ctrs : (i : ℕ) → lowered c σ.counter i ≡ 0
    ctrs i =
        by_eqb i c (λ b. σ.counter i ≡ cond b (sum N (λ h. busies (f h))) 0 → cond b (σ.counter i - 1) (σ.counter i) ≡ 0)
        (λ q h. let t = total in omega arith) (λ n h. h) (S.1 i)

-- a step of one hand
module _ (o : Occurrence) (c N : ℕ) (f f' : ℕ → Status) (k : ℕ) (low : k < N) (same : (i : ℕ) → i ≢ k → f i ≡ f' i)
    (B : (i : ℕ) × (i < N) × Busy (f i)) (B' : (i : ℕ) × (i < N) × Busy (f' i)) (σ : Standing) (S : Stands (amid c N f) σ) where
  wait_change : (i : ℕ) → sum N (λ h. waits i (f h)) + waits i (f' k) ≡ sum N (λ h. waits i (f' h)) + waits i (f k)
  wait_change i = sum_change N (λ h. waits i (f h)) (λ h. waits i (f' h)) k low (λ h n. ap (waits i) (same h n))

  busy_change : sum N (λ h. busies (f h)) + busies (f' k) ≡ sum N (λ h. busies (f' h)) + busies (f k)
  busy_change = sum_change N (λ h. busies (f h)) (λ h. busies (f' h)) k low (λ h n. ap busies (same h n))

  at_c : σ.counter c ≡ sum N (λ h. busies (f h))
  at_c = S.1 c ∙ ap (λ (b : Bool). cond b (sum N (λ h. busies (f h))) 0) (eqb_same c)

  some_before : 1 ≤ sum N (λ h. busies (f h))
  some_before = let a = sum_low N (λ h. busies (f h)) B.0 B.1 in let b = busy_adds (f B.0) B.2 in omega arith

  some_after : 1 ≤ sum N (λ h. busies (f' h))
  some_after = let a = sum_low N (λ h. busies (f' h)) B'.0 B'.1 in let b = busy_adds (f' B'.0) B'.2 in omega arith

  pub hand_begins : (j : ℕ) → f k ≡ idle → f' k ≡ running o → Stands (amid c N f') (gone_in (counted j c) σ)
  hand_begins j p q = (
    (λ i. let w = wait_change i in let x = ap (waits i) p in let y = ap (waits i) q in let h = S.0 i in
        ap (λ (g : ℕ → ℕ). g i) (when_more (σ.counter c) (lowered j σ.semaphore) σ.semaphore (let t = at_c in let u = some_before in omega arith)) ∙ (let z : σ.semaphore i ≡ sum N (λ h. waits i (f' h)) = omega arith in z)),
    (λ i. let w = busy_change in let x = ap busies p in let y = ap busies q in
        by_eqb i c (λ b. σ.counter i ≡ cond b (sum N (λ h. busies (f h))) 0 → cond b (σ.counter i + 1) (σ.counter i) ≡ cond b (sum N (λ h. busies (f' h))) 0)
        (λ r h. omega arith) (λ n h. h) (S.1 i)),
  )

  pub hand_goes_in : (j : ℕ) → f k ≡ waiting j → f' k ≡ running o → Stands (amid c N f') (gone_in (plain j) σ)
  hand_goes_in j p q = (
    (λ i. let w = wait_change i in let y = ap (waits i) q in let h = S.0 i in
        by_eqb i j (λ b. waits i (f k) ≡ cond b 1 0 → cond b (σ.semaphore i - 1) (σ.semaphore i) ≡ sum N (λ h. waits i (f' h)))
        (λ r x. omega arith) (λ n x. omega arith) (ap (waits i) p)),
    (λ i. let w = busy_change in let x = ap busies p in let y = ap busies q in
        by_eqb i c (λ b. σ.counter i ≡ cond b (sum N (λ h. busies (f h))) 0 → σ.counter i ≡ cond b (sum N (λ h. busies (f' h))) 0)
        (λ r h. omega arith) (λ n h. h) (S.1 i)),
  )

  pub hand_waits : (j : ℕ) → f k ≡ running o → f' k ≡ waiting j → Stands (amid c N f') (left_by (plain j) σ)
  hand_waits j p q = (
    (λ i. let w = wait_change i in let y = ap (waits i) p in let h = S.0 i in
        by_eqb i j (λ b. waits i (f' k) ≡ cond b 1 0 → cond b (σ.semaphore i + 1) (σ.semaphore i) ≡ sum N (λ h. waits i (f' h)))
        (λ r x. omega arith) (λ n x. omega arith) (ap (waits i) q)),
    (λ i. let w = busy_change in let x = ap busies p in let y = ap busies q in
        by_eqb i c (λ b. σ.counter i ≡ cond b (sum N (λ h. busies (f h))) 0 → σ.counter i ≡ cond b (sum N (λ h. busies (f' h))) 0)
        (λ r h. omega arith) (λ n h. h) (S.1 i)),
  )

  pub hand_ends : (j : ℕ) → f k ≡ running o → f' k ≡ done → Stands (amid c N f') (left_by (counted j c) σ)
  hand_ends j p q = (
    (λ i. let w = wait_change i in let x = ap (waits i) p in let y = ap (waits i) q in let h = S.0 i in
        ap (λ (g : ℕ → ℕ). g i) (when_more (σ.counter c - 1) (raised j σ.semaphore) σ.semaphore
        (let t = at_c in let u = some_after in let v = busy_change in let x' = ap busies p in let y' = ap busies q in omega arith)) ∙ (let z : σ.semaphore i ≡ sum N (λ h. waits i (f' h)) = omega arith in z)),
    (λ i. let w = busy_change in let x = ap busies p in let y = ap busies q in
        by_eqb i c (λ b. σ.counter i ≡ cond b (sum N (λ h. busies (f h))) 0 → cond b (σ.counter i - 1) (σ.counter i) ≡ cond b (sum N (λ h. busies (f' h))) 0)
        (λ r h. omega arith) (λ n h. h) (S.1 i)),
  )
