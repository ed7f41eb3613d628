-- The table of the operations that could join, filled from the front.
use Rattle.std.proofs.Common.{◌≡◌, ℕ, ◌+◌, ◌-◌, ◌<◌, ◌≤◌, Bool, true, false, List, ◌++◌, length, get_or, set, drop, replicate, Decides, Some, None, sym, ◌∙◌, subst, inl, inr, arith, below_more}
use Rattle.std.proofs.lemmas.List.{get_or-set_same, get_or-set_other, get_or_append_left, get_or-append_right, get_or-drop, get_or-replicate, get_or_past}
use Rattle.std.proofs.lemmas.Bool.{cases_lt, both_ways}
use Rattle.paths.specs.Grammar.{Text}
use Rattle.rooms.specs.declared.entry.Entry.{Entry}
use Rattle.rooms.specs.Entries.{In, Left, TakeSays}
use Rattle.rooms.specs.Rule.{Rule}
use Rattle.run.specs.Memory.{View, Account, Matches, Tested, Fitting, with_room, GoneIn, Admitted, Admits}
use Rattle.run.specs.Says.{Known, Joins}

-- the first n places say which operations of the text could join
abbrev pub Filled : {R : Type 0} → View R → ℕ → List Bool → Type 0
Filled v n table = (t : Text) (s : Account) → Matches t v s → (a : ℕ) → a < n → Decides (get_or table a false) (Known t a × Joins t s.history a)

-- no operation of a table that was not filled
nothing : (k : ℕ) → get_or (replicate 64 false) k false ≡ false
nothing k = elim (cases_lt k 64) [ inl l ↦ get_or-replicate 64 k false false l | inr ge ↦ get_or_past (replicate 64 false) k false ge ]

module _ {R : Type 0} (v : View R) (n : ℕ) (table : List Bool) where
  pub filled_none : Filled v 0 table
  filled_none t s m a l = absurd (omega arith)

  -- an operation of the text
  pub filled_more : Filled v n table → (b : Bool) → n < v.operations → n < length table → Tested v n b → Filled v (n + 1) (set table n b)
  filled_more f b known l test t s m =
      below_more (λ a. Decides (get_or (set table n b) a false) (Known t a × Joins t s.history a)) n
      (λ a h. (let ne : a ≡ n → ⊥ = omega arith in subst (λ c. Decides c (Known t a × Joins t s.history a)) (sym (get_or-set_other table n a b false ne)) (f t s m a h)))
      (subst (λ c. Decides c (Known t n × Joins t s.history n)) (sym (get_or-set_same table n b false l))
      (let d = test t s.history m.proper m.fits m.doors in (λ e. ((m.names n).0 known, d.0 e), λ k. d.1 k.1)))

  -- behind the operations of the text the table is false
  behind : length table ≡ n → (a : ℕ) → n ≤ a → get_or (table ++ drop n (replicate 64 false)) a false ≡ false
  behind long a ge = get_or-append_right table (drop n (replicate 64 false)) n a false long ge ∙ get_or-drop n (replicate 64 false) (a - n) false ∙ nothing (n + (a - n))

  pub filled_all : Filled v n table → length table ≡ n → n ≡ v.operations → Fitting v (λ a. get_or (table ++ drop n (replicate 64 false)) a false)
  filled_all f long all t s m a =
      elim (cases_lt a n) [
        | inl l ↦ subst (λ c. Decides c (Known t a × Joins t s.history a)) (sym (get_or_append_left table (drop n (replicate 64 false)) false a (omega arith))) (f t s m a l)
        | inr ge ↦ (λ e. absurd (both_ways _ (behind long a ge) e), λ k. (let l = (m.names a).1 k.0 in absurd (omega arith)))
      ]

-- an operation that the table allows is below 64
pub inside : (table : List Bool) (a : ℕ) → length table ≡ 64 → get_or table a false ≡ true → a < 64
inside table a long b =
    elim (cases_lt a 64) [
      | inl l ↦ l
      | inr ge ↦ absurd (both_ways (get_or table a false) (get_or_past table a false (omega arith)) b)
    ]

-- the room's choice, by the table
module _ {R : Type 0} (rule : Rule) (v i w : View R) (is : i ≡ v) (table : List Bool) (fits : Fitting v (λ a. get_or table a false)) where
  -- it chooses nobody
  pub admits_nobody : TakeSays (λ a. get_or table a false) (rule.chooses i.memory) i.entries w.entries None → w ≡ i → Admits rule v w None
  admits_nobody says same = (inr (_, fits, subst (λ (z : View R). (x : Entry) → In x z.entries → get_or table x.operation false ≡ false) is says.0), same ∙ is)

  -- it chooses e, which goes in
  pub admits_one : (r : R) (es : List Entry) (q : ℕ) (e : Entry) → TakeSays (λ a. get_or table a false) (rule.chooses i.memory) i.entries es (Some e) → q ≡ rule.after i.memory e → e.operation < 64 →
      GoneIn (with_room r es q i) w e.operation → Admitted rule v w e
  admits_one r es q e =
      subst (λ (z : View R). TakeSays (λ a. get_or table a false) (rule.chooses z.memory) z.entries es (Some e) → q ≡ rule.after z.memory e → e.operation < 64 → GoneIn (with_room r es q z) w e.operation → Admitted rule v w e) (sym is)
      (λ says memory l gone. record {
        allowed = _;
        table = fits;
        chosen = says.0;
        left = subst (Left e v.entries) (sym gone.entries) says.1;
        memory = gone.memory ∙ memory;
        within = l;
        doors = gone.doors;
        running = gone.running;
        let_in = gone.let_in;
        operations = gone.operations;
        accepted = gone.accepted;
        ended = gone.ended;
        withdrawn = gone.withdrawn;
      })
