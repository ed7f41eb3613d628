-- The steps of the calls: the memory still matches the records.
use Rattle.std.proofs.Common.{◌≡◌, ℕ, ◌+◌, ◌-◌, ◌<◌, ◌≤◌, Bool, true, cond, eqb, List, [], ◌∷◌, ◌++◌, length, get_or, set, sym, refl, ap, ◌∙◌, subst, inl, inr, ⊎_elim, arith}
use Rattle.std.proofs.lemmas.List.{get_or-set_same, get_or-set_other, length-set}
use Rattle.std.proofs.lemmas.Bool.{both_ways}
use Rattle.paths.specs.Grammar.{Text}
use Rattle.paths.specs.Words.{⊕, ⊖, History}
use Rattle.paths.specs.Doors.{begun as begun_in, ended as ended_in}
use Rattle.paths.specs.Runs.{let_in_by}
use Rattle.paths.proofs.Occs.{begun_snoc, ended_snoc}
use Rattle.paths.proofs.Tests.{by_eqb}
use Rattle.rooms.specs.declared.entry.Entry.{Entry}
use Rattle.rooms.specs.Entries.{In, Joined, Left}
use Rattle.rooms.specs.Rule.{Rule}
use Rattle.run.specs.Memory.{View, Account, Matches, with_in, with_waiting, with_end, with_chosen, with_withdrawn, one_more, one_runs, one_rests, with_accepted, with_room, with_one_withdrawn, GoneIn, GoneOut, Admitted, Nobody}
use Rattle.run.specs.Records.{without}
use Rattle.run.specs.Says.{Known, Joins, Runs, Chosen}
use Rattle.run.proofs.Histories.{may_end, let_in_more, let_in_same, ends_more, ends_same, begun_few, ends_few}
use Rattle.run.proofs.Sets.{in_head, in_tail, in_cases, in_without, without_in, distinct_kept, length_without}

-- ---- how many of an operation run
-- the count of a goes up, or down, by one
module _ (rn : List ℕ) (h : History) (a : ℕ) (here : a < length rn) where
  count_set : (r b : ℕ) → get_or (set rn a r) b 0 ≡ cond (eqb b a) r (get_or rn b 0)
  count_set r b =
      by_eqb b a (λ z. get_or (set rn a r) b 0 ≡ cond z r (get_or rn b 0))
      (λ p. ap (λ k. get_or (set rn a r) k 0) p ∙ get_or-set_same rn a r 0 here)
      (λ p. get_or-set_other rn a b r 0 p)

  pub counts_in : get_or rn a 0 ≤ 1000000 → ((b : ℕ) → get_or rn b 0 + ended_in b h ≡ begun_in b h) →
      (b : ℕ) → get_or (one_runs a rn) b 0 + ended_in b (h ++ (⊕ a ∷ [])) ≡ begun_in b (h ++ (⊕ a ∷ []))
  counts_in few each b =
      let e = each b in
      let f = each a in
      let x = begun_snoc b h (⊕ a) in
      let y = ended_snoc b h (⊕ a) in
      let z = count_set (one_more (get_or rn a 0)) b in
      by_eqb b a (λ q. get_or (one_runs a rn) b 0 ≡ cond q (one_more (get_or rn a 0)) (get_or rn b 0) → begun_in b (h ++ (⊕ a ∷ [])) ≡ begun_in b h + cond q 1 0 →
      get_or (one_runs a rn) b 0 + ended_in b (h ++ (⊕ a ∷ [])) ≡ begun_in b (h ++ (⊕ a ∷ [])))
      (λ p u w. (let same : get_or rn b 0 ≡ get_or rn a 0 = ap (λ k. get_or rn k 0) p in omega arith)) (λ p u w. omega arith) z x

  pub counts_out : 0 < get_or rn a 0 → ((b : ℕ) → get_or rn b 0 + ended_in b h ≡ begun_in b h) →
      (b : ℕ) → get_or (one_rests a rn) b 0 + ended_in b (h ++ (⊖ a ∷ [])) ≡ begun_in b (h ++ (⊖ a ∷ []))
  counts_out some each b =
      let e = each b in
      let x = begun_snoc b h (⊖ a) in
      let y = ended_snoc b h (⊖ a) in
      let z = count_set (get_or rn a 0 - 1) b in
      by_eqb b a (λ q. get_or (one_rests a rn) b 0 ≡ cond q (get_or rn a 0 - 1) (get_or rn b 0) → ended_in b (h ++ (⊖ a ∷ [])) ≡ ended_in b h + cond q 1 0 →
      get_or (one_rests a rn) b 0 + ended_in b (h ++ (⊖ a ∷ [])) ≡ begun_in b (h ++ (⊖ a ∷ [])))
      (λ p u w. (let same : get_or rn b 0 ≡ get_or rn a 0 = ap (λ k. get_or rn k 0) p in omega arith)) (λ p u w. omega arith) z y

-- ---- the steps
module _ {R : Type 0} (t : Text) (v : View R) (s : Account) (m : Matches t v s) where
  pub few_let_in : let_in_by s.history ≤ 1000000
  few_let_in = let a = m.in_history in let b = m.all in let c = m.limit in omega arith

  few_running : (a : ℕ) → get_or v.running a 0 ≤ 1000000
  few_running a = let e = m.each a in let b = begun_few a s.history in let c = few_let_in in omega arith

  pub few_ended : s.ended ≤ s.let_in
  few_ended =
      let e = ends_few s.history (λ a. (let x = m.each a in omega arith)) in
      let a = m.in_history in let b = m.out_history in omega arith

  pub step_in : (w : View R) (a : ℕ) → GoneIn v w a → a < 64 → Joins t s.history a → s.accepted < 1000000 → Matches t (with_accepted (s.accepted + 1) w) (with_in a s)
  step_in w a g l f few =
      let all = m.all in
      let limit = m.limit in
      let went = m.let_in in
      record {
        proper = m.proper;
        fits = f;
        doors = g.doors t s.history m.proper m.fits few_let_in m.doors;
        waits = λ x. (λ i. (m.waits x).0 (subst (In x) g.entries i), λ i. subst (In x) (sym g.entries) ((m.waits x).1 i));
        many = ap length g.entries ∙ m.many;
        distinct = m.distinct;
        remembers = g.memory ∙ m.remembers;
        names = λ b. subst (λ n. (b < n → Known t b) × (Known t b → b < n)) (sym g.operations) (m.names b);
        known = m.known;
        early = λ x i. (let e = m.early x i in omega arith);
        long = ap length g.running ∙ length-set v.running a _ ∙ m.long;
        each = λ b. ap (λ l. get_or l b 0 + ended_in b (s.history ++ (⊕ a ∷ []))) g.running ∙ counts_in v.running s.history a (let e = m.long in omega arith) (few_running a) m.each b;
        accepted = refl;
        let_in = (let e = g.let_in in omega arith);
        ended = g.ended ∙ m.ended;
        withdrawn = g.withdrawn ∙ m.withdrawn;
        in_history = let_in_more a s.history ∙ ap (λ n. n + 1) m.in_history;
        out_history = ends_same a s.history ∙ m.out_history;
        all = omega arith;
        limit = omega arith;
      }

  pub step_wait : (e : Entry) (r : R) (es : List Entry) (q : ℕ) → Joined e v.entries es → q ≡ v.memory → e.ticket ≡ s.accepted + 1 → Known t e.operation → s.accepted < 1000000 →
      Matches t (with_accepted (s.accepted + 1) (with_room r es q v)) (with_waiting e s)
  step_wait e r es q j same u k few =
      let xs = s.waiting in
      let all = m.all in
      record {
        proper = m.proper;
        fits = m.fits;
        doors = m.doors;
        waits = λ x. (
          λ i. ⊎_elim (λ (p : x ≡ e). subst (λ z. In z (e ∷ xs)) (sym p) (in_head e xs)) (λ (i' : In x v.entries). in_tail x e xs ((m.waits x).0 i')) ((j.all x).0 i),
          λ i. (j.all x).1 (⊎_elim inl (λ (i' : In x xs). inr ((m.waits x).1 i')) (in_cases x e xs i)),
        );
        many = (let a = j.more in let b = m.many in omega arith);
        distinct = (λ (x, i, p). (let r = m.early x i in omega arith), m.distinct);
        remembers = same ∙ m.remembers;
        names = m.names;
        known = λ x i. ⊎_elim (λ (p : x ≡ e). subst (λ (z : Entry). Known t z.operation) (sym p) k) (λ (i' : In x xs). m.known x i') (in_cases x e xs i);
        early = λ x i. ⊎_elim (λ (p : x ≡ e). (let r : x.ticket ≡ e.ticket = ap (λ (z : Entry). z.ticket) p in omega arith)) (λ (i' : In x xs). (let r = m.early x i' in omega arith)) (in_cases x e xs i);
        long = m.long;
        each = m.each;
        accepted = refl;
        let_in = m.let_in;
        ended = m.ended;
        withdrawn = m.withdrawn;
        in_history = m.in_history;
        out_history = m.out_history;
        all = omega arith;
        limit = omega arith;
      }

  pub step_end : (w : View R) (a : ℕ) → GoneOut v w a → a < 64 → Known t a → 0 < get_or v.running a 0 → Matches t w (with_end a s)
  step_end w a g l k some =
      let runs : Runs s.history a = (let e = m.each a in omega arith) in
      record {
        proper = m.proper;
        fits = may_end t m.proper s.history m.fits a k runs;
        doors = g.doors t s.history m.proper m.fits few_let_in m.doors;
        waits = λ x. (λ i. (m.waits x).0 (subst (In x) g.entries i), λ i. subst (In x) (sym g.entries) ((m.waits x).1 i));
        many = ap length g.entries ∙ m.many;
        distinct = m.distinct;
        remembers = g.memory ∙ m.remembers;
        names = λ b. subst (λ n. (b < n → Known t b) × (Known t b → b < n)) (sym g.operations) (m.names b);
        known = m.known;
        early = m.early;
        long = ap length g.running ∙ length-set v.running a _ ∙ m.long;
        each = λ b. ap (λ l. get_or l b 0 + ended_in b (s.history ++ (⊖ a ∷ []))) g.running ∙ counts_out v.running s.history a (let e = m.long in omega arith) some m.each b;
        accepted = g.accepted ∙ m.accepted;
        let_in = g.let_in ∙ m.let_in;
        ended = (let e = g.ended in let f = m.ended in let few = few_ended in let all = m.all in let lim = m.limit in omega arith);
        withdrawn = g.withdrawn ∙ m.withdrawn;
        in_history = let_in_same a s.history ∙ m.in_history;
        out_history = ends_more a s.history ∙ ap (λ n. n + 1) m.out_history;
        all = m.all;
        limit = m.limit;
      }

  -- the entry e leaves the set
  gone_waits : (e : Entry) (es : List Entry) → Left e v.entries es → (x : Entry) → (In x es → In x (without e.ticket s.waiting)) × (In x (without e.ticket s.waiting) → In x es)
  gone_waits e es g x = (
    λ i. (let r = (g.rest x).0 i in without_in e.ticket x s.waiting ((m.waits x).0 r.0) r.1),
    λ i. (let r = in_without e.ticket x s.waiting i in (g.rest x).1 ((m.waits x).1 r.0, r.1)),
  )

  fewer : (e : Entry) (es : List Entry) → Left e v.entries es → length (without e.ticket s.waiting) + 1 ≡ length s.waiting
  fewer e es g = length_without e s.waiting m.distinct ((m.waits e).0 g.was)

  gone_many : (e : Entry) (es : List Entry) → Left e v.entries es → length es ≡ length (without e.ticket s.waiting)
  gone_many e es g = let a = g.fewer in let b = m.many in let c = fewer e es g in omega arith

  step_gone : (e : Entry) (r : R) (es : List Entry) (q : ℕ) → Left e v.entries es → q ≡ v.memory → Matches t (with_one_withdrawn (with_room r es q v)) (with_withdrawn e.ticket s)
  step_gone e r es q g same =
      let k = fewer e es g in
      let all = m.all in
      record {
        proper = m.proper;
        fits = m.fits;
        doors = m.doors;
        waits = gone_waits e es g;
        many = gone_many e es g;
        distinct = distinct_kept _ s.waiting m.distinct;
        remembers = same ∙ m.remembers;
        names = m.names;
        known = λ x i. m.known x (in_without e.ticket x s.waiting i).0;
        early = λ x i. m.early x (in_without e.ticket x s.waiting i).0;
        long = m.long;
        each = m.each;
        accepted = m.accepted;
        let_in = m.let_in;
        ended = m.ended;
        withdrawn = (let f = m.withdrawn in let lim = m.limit in omega arith);
        in_history = m.in_history;
        out_history = m.out_history;
        all = omega arith;
        limit = m.limit;
      }

  pub step_withdrawn : (e : Entry) (r : R) (es : List Entry) (q u : ℕ) → Left e v.entries es → q ≡ v.memory → e.ticket ≡ u → Matches t (with_one_withdrawn (with_room r es q v)) (with_withdrawn u s)
  step_withdrawn e r es q u g same p = subst (λ k. Matches t (with_one_withdrawn (with_room r es q v)) (with_withdrawn k s)) p (step_gone e r es q g same)

  pub step_chosen : (rule : Rule) (w : View R) (e : Entry) → Admitted rule v w e → Joins t s.history e.operation → Matches t w (with_chosen rule e s)
  step_chosen rule w e g f =
      let a = e.operation in
      let k = fewer e w.entries g.left in
      let all = m.all in
      let limit = m.limit in
      let went = m.let_in in
      record {
        proper = m.proper;
        fits = f;
        doors = g.doors t s.history m.proper m.fits few_let_in m.doors;
        waits = gone_waits e w.entries g.left;
        many = gone_many e w.entries g.left;
        distinct = distinct_kept _ s.waiting m.distinct;
        remembers = g.memory ∙ ap (λ q. rule.after q e) m.remembers;
        names = λ b. subst (λ n. (b < n → Known t b) × (Known t b → b < n)) (sym g.operations) (m.names b);
        known = λ x i. m.known x (in_without e.ticket x s.waiting i).0;
        early = λ x i. m.early x (in_without e.ticket x s.waiting i).0;
        long = ap length g.running ∙ length-set v.running a _ ∙ m.long;
        each = λ b. ap (λ l. get_or l b 0 + ended_in b (s.history ++ (⊕ a ∷ []))) g.running ∙ counts_in v.running s.history a (let e = m.long in let l = g.within in omega arith) (few_running a) m.each b;
        accepted = g.accepted ∙ m.accepted;
        let_in = (let e = g.let_in in omega arith);
        ended = g.ended ∙ m.ended;
        withdrawn = g.withdrawn ∙ m.withdrawn;
        in_history = let_in_more a s.history ∙ ap (λ n. n + 1) m.in_history;
        out_history = ends_same a s.history ∙ m.out_history;
        all = omega arith;
        limit = m.limit;
      }

-- the rule reads the set, and not its order
abbrev pub Blind : Rule → Type 0
Blind rule = (q : ℕ) (l k : List Entry) (a : ℕ → Bool) (x : Entry) → ((u : Entry) → (In u l → In u k) × (In u k → In u l)) → rule.chooses q l a x → rule.chooses q k a x

abbrev pub Sound : Rule → Type 0
Sound rule = (q : ℕ) (l : List Entry) (a : ℕ → Bool) (x : Entry) → rule.chooses q l a x → In x l × (a x.operation ≡ true)

module _ {R : Type 0} (t : Text) (v : View R) (s : Account) (m : Matches t v s) where
  -- whom the room chose, the rule chooses of those who wait
  pub chosen : (rule : Rule) → Blind rule → Sound rule → (w : View R) (e : Entry) → Admitted rule v w e → Chosen t rule s.remembered s.waiting s.history e
  chosen rule blind sound w e g = record {
    waits = (m.waits e).0 g.left.was;
    fits = ((g.table t s m e.operation).0 (sound v.memory v.entries g.allowed e g.chosen).1).1;
    allowed = g.allowed;
    joins = g.table t s m;
    chosen = subst (λ q. rule.chooses q s.waiting g.allowed e) m.remembers (blind v.memory v.entries s.waiting g.allowed e m.waits g.chosen);
  }

  -- where the room chose nobody, none of those who wait could join
  pub nobody_joins : Nobody v → (x : Entry) → In x s.waiting → Joins t s.history x.operation → ⊥
  nobody_joins (inl z) x (k, l, e) f = let n = m.many in omega arith
  nobody_joins (inr (allowed, table, none)) x i f = both_ways (allowed x.operation) (none x ((m.waits x).1 i)) ((table t s m x.operation).1 (m.known x i, f))
