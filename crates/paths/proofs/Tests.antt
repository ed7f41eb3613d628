-- Cases of a test and of a sum.
use mathlib.Core.Path.{◌≡◌, refl, sym, ◌∙◌, ap, subst}
use mathlib.Core.Logic.{◌⊎◌, inl, inr, ◌≢◌}
use mathlib.Core.Bool.{Bool, true, false}
use Prim.Native.Nat.{ℕ}
use native.Mathlib.Omega.{arith}
use lib.Dec.{eqb, eqb→eq, eqb_refl, T}

pub either : {A B C : Type 0} → A ⊎ B → (A → C) → (B → C) → C
either (inl p) f g = f p
either (inr p) f g = g p

-- from 0 ≡ 1 follows anything
pub zero_one : {A : Type 0} → ◌≡◌ {A = ℕ} 0 1 → A
zero_one z = let e : ⊥ = omega arith in absurd e

-- ---- equality of numbers, tested
T_true : (b : Bool) → T b → b ≡ true
T_true true t = refl
T_true false t = absurd t

true_t : (b : Bool) → b ≡ true → T b
true_t b p = subst T (sym p) tt

pub eqb_same : (k : ℕ) → eqb k k ≡ true
eqb_same k = T_true (eqb k k) (eqb_refl k)

pub eqb_cases : (k j : ℕ) → ((k ≡ j) × (eqb k j ≡ true)) ⊎ ((k ≢ j) × (eqb k j ≡ false))
eqb_cases k j = go (eqb k j) refl
  where
    go : (b : Bool) → eqb k j ≡ b → ((k ≡ j) × (eqb k j ≡ true)) ⊎ ((k ≢ j) × (eqb k j ≡ false))
    go true p = inl (eqb→eq k j (true_t (eqb k j) p), p)
    go false p = inr ((λ q. let z : true ≡ false = sym (eqb_same k) ∙ ap (λ (i : ℕ). eqb k i) q ∙ p in let y : ◌≡◌ {A = ℕ} 0 1 = cc in omega arith), p)

pub eqb_apart : (k j : ℕ) → k ≢ j → eqb k j ≡ false
eqb_apart k j n = go (eqb_cases k j)
  where
    go : ((k ≡ j) × (eqb k j ≡ true)) ⊎ ((k ≢ j) × (eqb k j ≡ false)) → eqb k j ≡ false
    go (inl p) = absurd (n p.0)
    go (inr p) = p.1

pub by_eqb : (i j : ℕ) (P : Bool → Type 0) → (i ≡ j → P true) → (i ≢ j → P false) → P (eqb i j)
by_eqb i j P a b = go (eqb_cases i j)
  where
    go : ((i ≡ j) × (eqb i j ≡ true)) ⊎ ((i ≢ j) × (eqb i j ≡ false)) → P (eqb i j)
    go (inl p) = subst P (sym p.1) (a p.0)
    go (inr p) = subst P (sym p.1) (b p.0)

-- ---- a test, true or false
pub by_bool : (b : Bool) (P : Bool → Type 0) → (b ≡ true → P true) → (b ≡ false → P false) → P b
by_bool b P x y = (elim b as (λ z. b ≡ z → P z) [ true ↦ x | false ↦ y ]) refl

pub not_both : (b : Bool) → b ≡ true → b ≡ false → ⊥
not_both b p q = zero_one (cc)
