-- Which semaphores and counters a tree has.
use mathlib.Core.Path.{◌≡◌, refl, sym, ◌∙◌, ap, subst}
use mathlib.Core.Logic.{◌⊎◌, inl, inr, ◌≢◌}
use mathlib.Core.List.Memᴰ
use mathlib.Core.List.{[], Memᴰ}
use Prim.Native.Nat.{ℕ, ◌+◌, ◌≤◌, ◌<◌}
use native.Mathlib.Omega.{arith}
use Rattle.paths.specs.Words.{History, held}
use Rattle.paths.specs.Doors.{semaphore_of, Door, plain, counted, with_counter, Occurrence}
use Rattle.paths.proofs.Tests.{zero_one}
use Rattle.paths.proofs.Core.{Core, leaf, seq, alt, burst, W, sems, ctrs, D}
use Rattle.paths.proofs.Now.{Status, waiting, amid, Told, Now}
use Rattle.paths.proofs.Peel.{Simple, Good, Inner, at_node, with_counter_is}

-- i is one of the n numbers from s on
abbrev pub Between : ℕ → ℕ → ℕ → Type 0
Between i s n = (s ≤ i) × (i < s + n)

pub sem_with : (c : ℕ) (q : Door) → semaphore_of (with_counter c q) ≡ semaphore_of q
sem_with c (plain s) = refl
sem_with c (counted s d) = refl

-- ---- the left doors of a tree's occurrences
abbrev Left : Door → Door → ℕ → ℕ → Type 0
Left q l s n = (q ≡ l) ⊎ Inner q s n

left_first : (q l : Door) (s n n' : ℕ) → n ≤ n' → Left q l s n → Left q l s n'
left_first q l s n n' h (inl p) = inl p
left_first q l s n n' h (inr i) = let a = i.2 in let b = i.3 in inr (i.0, i.1, a, (omega arith))

left_second : (q : Door) (m n s n' : ℕ) → s ≤ m → m + 1 + n ≤ s + n' → Left q (plain m) (m + 1) n → Inner q s n'
left_second q m n s n' h k (inl p) = (m, p, h, (omega arith))
left_second q m n s n' h k (inr i) = let a = i.2 in let b = i.3 in (i.0, i.1, (omega arith), (omega arith))

left_other : (q l : Door) (s n s' n' : ℕ) → s' ≤ s → s + n ≤ s' + n' → Left q l s n → Left q l s' n'
left_other q l s n s' n' h k (inl p) = inl p
left_other q l s n s' n' h k (inr i) = let a = i.2 in let b = i.3 in inr (i.0, i.1, (omega arith), (omega arith))

pub left_simple : (x : Core) → Simple x → (l r : Door) (s c : ℕ) (o : Occurrence) → Memᴰ o (D x l r s c) → Left o.left l s (sems x)
left_simple (leaf π a) g l r s c o m = inl (ap (λ (z : Occurrence). z.left) (Memᴰ.eq_of_singleton m))
left_simple (seq x y) g l r s c o m = go (Memᴰ.append_cases (D x l (plain (s + sems x)) s c) m)
    (left_simple x g.0 l (plain (s + sems x)) s c o) (left_simple y g.1 (plain (s + sems x)) r (s + sems x + 1) (c + ctrs x) o)
  where
    go : Memᴰ o (D x l (plain (s + sems x)) s c) ⊎ Memᴰ o (D y (plain (s + sems x)) r (s + sems x + 1) (c + ctrs x)) →
        (Memᴰ o (D x l (plain (s + sems x)) s c) → Left o.left l s (sems x)) →
        (Memᴰ o (D y (plain (s + sems x)) r (s + sems x + 1) (c + ctrs x)) → Left o.left (plain (s + sems x)) (s + sems x + 1) (sems y)) →
        Left o.left l s (sems x + 1 + sems y)
    go (inl p) X Y = left_first o.left l s (sems x) (sems x + 1 + sems y) (omega arith) (X p)
    go (inr p) X Y = inr (left_second o.left (s + sems x) (sems y) s (sems x + 1 + sems y) (omega arith) (omega arith) (Y p))
left_simple (alt x y) g l r s c o m = go (Memᴰ.append_cases (D x l r s c) m)
    (left_simple x g.0 l r s c o) (left_simple y g.1 l r (s + sems x) (c + ctrs x) o)
  where
    go : Memᴰ o (D x l r s c) ⊎ Memᴰ o (D y l r (s + sems x) (c + ctrs x)) → (Memᴰ o (D x l r s c) → Left o.left l s (sems x)) →
        (Memᴰ o (D y l r (s + sems x) (c + ctrs x)) → Left o.left l (s + sems x) (sems y)) → Left o.left l s (sems x + sems y)
    go (inl p) X Y = left_first o.left l s (sems x) (sems x + sems y) (omega arith) (X p)
    go (inr p) X Y = left_other o.left l (s + sems x) (sems y) s (sems x + sems y) (omega arith) (omega arith) (Y p)
left_simple (burst x) g l r s c o m = absurd g

-- a tree's left doors, by semaphore and by counter
pub record Doored (q l : Door) (s n c k : ℕ) : Type 0 where
  pub sem : (semaphore_of q ≡ semaphore_of l) ⊎ Between (semaphore_of q) s n
  pub ctr : (i j : ℕ) → q ≡ counted i j → (l ≡ counted i j) ⊎ Between j c k

sem_wider : (q l : Door) (s n s' n' : ℕ) → s' ≤ s → s + n ≤ s' + n' → (semaphore_of q ≡ semaphore_of l) ⊎ Between (semaphore_of q) s n → (semaphore_of q ≡ semaphore_of l) ⊎ Between (semaphore_of q) s' n'
sem_wider q l s n s' n' a b (inl p) = inl p
sem_wider q l s n s' n' a b (inr p) = inr (let u = p.0 in let v = p.1 in (omega arith, omega arith))

ctr_wider : (q : Door) (i j c k c' k' : ℕ) → c' ≤ c → c + k ≤ c' + k' → (q ≡ counted i j) ⊎ Between j c k → (q ≡ counted i j) ⊎ Between j c' k'
ctr_wider q i j c k c' k' a b (inl p) = inl p
ctr_wider q i j c k c' k' a b (inr p) = inr (let u = p.0 in let v = p.1 in (omega arith, omega arith))

doored_wider : (q l : Door) (s n c k s' n' c' k' : ℕ) → s' ≤ s → s + n ≤ s' + n' → c' ≤ c → c + k ≤ c' + k' → Doored q l s n c k → Doored q l s' n' c' k'
doored_wider q l s n c k s' n' c' k' a b a' b' h = record
    { sem = sem_wider q l s n s' n' a b h.sem; ctr = λ i j p. ctr_wider l i j c k c' k' a' b' (h.ctr i j p) }

doored_second : (q : Door) (m n c k : ℕ) → Doored q (plain m) (m + 1) n c k → (l : Door) (s n' c' k' : ℕ) → s ≤ m → m + 1 + n ≤ s + n' → c' ≤ c → c + k ≤ c' + k' → Doored q l s n' c' k'
doored_second q m n c k h l s n' c' k' a b a' b' = record { sem = go h.sem; ctr = λ i j p. step i j (h.ctr i j p) }
  where
    go : (semaphore_of q ≡ m) ⊎ Between (semaphore_of q) (m + 1) n → (semaphore_of q ≡ semaphore_of l) ⊎ Between (semaphore_of q) s n'
    go (inl p) = inr (omega arith, omega arith)
    go (inr p) = inr (let u = p.0 in let v = p.1 in (omega arith, omega arith))

    step : (i j : ℕ) → (plain m ≡ counted i j) ⊎ Between j c k → (l ≡ counted i j) ⊎ Between j c' k'
    step i j (inl p) = zero_one (cc)
    step i j (inr p) = inr (let u = p.0 in let v = p.1 in (omega arith, omega arith))

pub doored : (t : Core) → Good t → (l r : Door) (s c : ℕ) (o : Occurrence) → Memᴰ o (D t l r s c) → Doored o.left l s (sems t) c (ctrs t)
doored (leaf π a) g l r s c o m =
    let p : o.left ≡ l = ap (λ (z : Occurrence). z.left) (Memᴰ.eq_of_singleton m) in record { sem = inl (ap semaphore_of p); ctr = λ i j q. inl (sym p ∙ q) }
doored (seq x y) g l r s c o m = go (Memᴰ.append_cases (D x l (plain (s + sems x)) s c) m)
    (doored x g.0 l (plain (s + sems x)) s c o) (doored y g.1 (plain (s + sems x)) r (s + sems x + 1) (c + ctrs x) o)
  where
    go : Memᴰ o (D x l (plain (s + sems x)) s c) ⊎ Memᴰ o (D y (plain (s + sems x)) r (s + sems x + 1) (c + ctrs x)) →
        (Memᴰ o (D x l (plain (s + sems x)) s c) → Doored o.left l s (sems x) c (ctrs x)) →
        (Memᴰ o (D y (plain (s + sems x)) r (s + sems x + 1) (c + ctrs x)) → Doored o.left (plain (s + sems x)) (s + sems x + 1) (sems y) (c + ctrs x) (ctrs y)) →
        Doored o.left l s (sems x + 1 + sems y) c (ctrs x + ctrs y)
    go (inl p) X Y = doored_wider o.left l s (sems x) c (ctrs x) s (sems x + 1 + sems y) c (ctrs x + ctrs y) (omega arith) (omega arith) (omega arith) (omega arith) (X p)
    go (inr p) X Y = doored_second o.left (s + sems x) (sems y) (c + ctrs x) (ctrs y) (Y p) l s (sems x + 1 + sems y) c (ctrs x + ctrs y) (omega arith) (omega arith) (omega arith) (omega arith)
doored (alt x y) g l r s c o m = go (Memᴰ.append_cases (D x l r s c) m) (doored x g.0 l r s c o) (doored y g.1 l r (s + sems x) (c + ctrs x) o)
  where
    go : Memᴰ o (D x l r s c) ⊎ Memᴰ o (D y l r (s + sems x) (c + ctrs x)) →
        (Memᴰ o (D x l r s c) → Doored o.left l s (sems x) c (ctrs x)) →
        (Memᴰ o (D y l r (s + sems x) (c + ctrs x)) → Doored o.left l (s + sems x) (sems y) (c + ctrs x) (ctrs y)) →
        Doored o.left l s (sems x + sems y) c (ctrs x + ctrs y)
    go (inl p) X Y = doored_wider o.left l s (sems x) c (ctrs x) s (sems x + sems y) c (ctrs x + ctrs y) (omega arith) (omega arith) (omega arith) (omega arith) (X p)
    go (inr p) X Y = doored_wider o.left l (s + sems x) (sems y) (c + ctrs x) (ctrs y) s (sems x + sems y) c (ctrs x + ctrs y) (omega arith) (omega arith) (omega arith) (omega arith) (Y p)
doored (burst x) g l r s c o m = go (left_simple x g (with_counter c l) (with_counter c r) s (c + 1) o m)
  where
    go : Left o.left (with_counter c l) s (sems x) → Doored o.left l s (sems x) c (1 + ctrs x)
    go (inl p) = record {
      sem = inl (ap semaphore_of p ∙ sem_with c l);
      ctr = λ i j q. inr (let k = with_counter_is c l in let e : j ≡ c = cc in (omega arith, omega arith));
    }
    go (inr p) = record {
      sem = inr (let e : semaphore_of o.left ≡ p.0 = ap semaphore_of p.1 in let a = p.2 in let b = p.3 in (omega arith, omega arith));
      ctr = λ i j q. zero_one (let e = p.1 in cc);
    }

-- ---- where the hands of a burst wait
pub record Amid (s n c k i : ℕ) (f : ℕ → Status) : Type 0 where
  pub ctr : Between i c k
  pub sem : (h j : ℕ) → f h ≡ waiting j → Between j s n

amid_wider : (s n c k s' n' c' k' i : ℕ) (f : ℕ → Status) → s' ≤ s → s + n ≤ s' + n' → c' ≤ c → c + k ≤ c' + k' → Amid s n c k i f → Amid s' n' c' k' i f
amid_wider s n c k s' n' c' k' i f a b a' b' A = record {
  ctr = let u = A.ctr.0 in let v = A.ctr.1 in (omega arith, omega arith);
  sem = λ h j p. let u = (A.sem h j p).0 in let v = (A.sem h j p).1 in (omega arith, omega arith);
}

inner_between : (l : Door) (c s n j : ℕ) (u : History) → u ≢ [] → ((u ≡ []) × (plain j ≡ with_counter c l)) ⊎ Inner (plain j) s n → Between j s n
inner_between l c s n j u nu (inl p) = absurd (nu p.0)
inner_between l c s n j u nu (inr p) = let q : j ≡ p.0 = (let e = p.1 in cc) in let a = p.2 in let b = p.3 in (omega arith, omega arith)

pub amid_node : (t : Core) → Good t → (l r : Door) (s c : ℕ) (u : History) (i N : ℕ) (f : ℕ → Status) → Now t l r s c u (amid i N f) → Amid s (sems t) c (ctrs t) i f
amid_node (leaf π a) g l r s c u i N f (inl h) = zero_one (let e = h.1 in cc)
amid_node (leaf π a) g l r s c u i N f (inr h) = zero_one (let e = h.1 in cc)
amid_node (seq x y) g l r s c u i N f (inl h) =
    amid_wider s (sems x) c (ctrs x) s (sems x + 1 + sems y) c (ctrs x + ctrs y) i f (omega arith) (omega arith) (omega arith) (omega arith) (amid_node x g.0 l (plain (s + sems x)) s c u i N f h)
amid_node (seq x y) g l r s c u i N f (inr h) =
    amid_wider (s + sems x + 1) (sems y) (c + ctrs x) (ctrs y) s (sems x + 1 + sems y) c (ctrs x + ctrs y) i f (omega arith) (omega arith) (omega arith) (omega arith)
    (amid_node y g.1 (plain (s + sems x)) r (s + sems x + 1) (c + ctrs x) h.1 i N f h.4)
amid_node (alt x y) g l r s c u i N f (inl h) =
    amid_wider s (sems x) c (ctrs x) s (sems x + sems y) c (ctrs x + ctrs y) i f (omega arith) (omega arith) (omega arith) (omega arith) (amid_node x g.0 l r s c u i N f h)
amid_node (alt x y) g l r s c u i N f (inr h) =
    amid_wider (s + sems x) (sems y) (c + ctrs x) (ctrs y) s (sems x + sems y) c (ctrs x + ctrs y) i f (omega arith) (omega arith) (omega arith) (omega arith)
    (amid_node y g.1 l r (s + sems x) (c + ctrs x) u i N f h)
amid_node (burst x) g l r s c u i N f (inl h) = zero_one (let e = h.1 in cc)
amid_node (burst x) g l r s c u i N f (inr (d, N', f', p, ne, e, G)) = record {
  ctr = let q : i ≡ c = cc in (omega arith, omega arith);
  sem = λ h j w.
      let told : Told (W x) (Now x (with_counter c l) (with_counter c r) s (c + 1)) (waiting j) (held h d) =
      subst (λ (k : Status). Told (W x) (Now x (with_counter c l) (with_counter c r) s (c + 1)) k (held h d)) (let q : f' h ≡ waiting j = cc in q) (G.each h) in
      inner_between l c s (sems x) j (held h d) told.0 (at_node x (with_counter c l) (with_counter c r) s (c + 1) (held h d) (plain j) told.1);
}
