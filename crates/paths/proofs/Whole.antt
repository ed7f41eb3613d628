-- The doors of a path tell which histories fit it.
use mathlib.Core.Path.{◌≡◌, refl, sym, ◌∙◌, ap, subst}
use mathlib.Core.Logic.{◌⊎◌, inl, inr, ◌≢◌, ◌↔◌}
use mathlib.Core.Bool.{Bool, false, cond}
use mathlib.Core.List.{List, [], ◌∷◌, ◌++◌, append_assoc, append-nil, Memᴰ}
use Prim.Native.Nat.{ℕ, ◌+◌, ◌<◌}
use native.Mathlib.Omega.{arith}
use lib.Dec.{eqb}
use Rattle.paths.specs.Grammar.{Sequence}
use Rattle.paths.specs.Words.{among, Fits, Event, ⊕, ⊖, operation, History, Language, Row, no_word, one_more, seen, Distinct, word_of_sequence, names_of_sequence}
use Rattle.paths.specs.Doors.{plain, Occurrence, Open, passed, after, opening, OpenTo, begun, ended, path_doors, DoorsAreRight, BeginningsFit}
use Rattle.paths.proofs.Tests.{eqb_same}
use Rattle.paths.proofs.Lists.{snoc_view, snoc_ind, snoc_not_nil, snoc_cut, two_cuts, append_nil_left, append_nil_right}
use Rattle.paths.proofs.Core.{Core, core_s, W, sems, D, word_s, names_s, braces_s, doors_s}
use Rattle.paths.proofs.Now.{Node, at, inside, amid, Now, Via, word_not_nil, start}
use Rattle.paths.proofs.Peel.{Good, Peels, peel, at_node, nil_node, Inner}
use Rattle.paths.proofs.Complete.{complete}
use Rattle.paths.proofs.Enter.{enter, Plain}
use Rattle.paths.proofs.Leave.{Leaves, leave, Gone}
use Rattle.paths.proofs.Stands.{Stands, PlainNode}
use Rattle.paths.proofs.Steps.{step, via_op, Running, run_step, who_runs, open_enters, via_open}
use Rattle.paths.proofs.Occs.{good_of, mem_among, ops, ops_d, ops_mem, unique, next_one, after_snoc, after_seen, seen_snoc, seen_append, begun_snoc, ended_snoc, begun_seen, ended_seen}

-- ---- rows of words
module _ (L : Language) where
  pub row_append : (v w : History) → Row L v → L w → Row L (v ++ w)
  row_append v w (no_word p) h = one_more w [] (ap (λ (z : History). z ++ w) p ∙ sym (append-nil w)) h (no_word refl)
  row_append v w (one_more a b p la rb) h = one_more a (b ++ w) (ap (λ (z : History). z ++ w) p ∙ append_assoc a b w) la (row_append b w rb h)

  pub row_last : (w : History) → Row L w → (w ≡ []) ⊎ ((v z : History) × (w ≡ v ++ z) × Row L v × L z)
  row_last w (no_word p) = inl p
  row_last w (one_more a b p la rb) = go (row_last b rb)
    where
      go : (b ≡ []) ⊎ ((v z : History) × (b ≡ v ++ z) × Row L v × L z) → (w ≡ []) ⊎ ((v z : History) × (w ≡ v ++ z) × Row L v × L z)
      go (inl q) = inr ([], a, p ∙ ap (λ (z : History). a ++ z) q ∙ append-nil a, no_word refl, la)
      go (inr (v, z, q, rv, lz)) = inr (a ++ v, z, p ∙ ap (λ (y : History). a ++ y) q ∙ sym (append_assoc a v z), one_more a v refl la rv, lz)

  -- h is a row of words and the beginning of one more, which may be empty
  abbrev Cut : History → Type 0
  Cut h = (v u : History) × (h ≡ v ++ u) × Row L v × ((u ≡ []) ⊎ ((z : History) × (z ≢ []) × L (u ++ z)))

  pub row_cut : (w : History) → Row L w → (h r : History) → w ≡ h ++ r → Cut h
  row_cut w (no_word p) h r q = ([], [], append_nil_left h r (sym q ∙ p), no_word refl, inl refl)
  row_cut w (one_more a b p la rb) h r q = go (two_cuts a b h r (sym p ∙ q)) (row_cut b rb)
    where
      inside_a : (m : History) → a ≡ h ++ m → (m ≡ []) ⊎ ((k : History) × (x : Event) × (m ≡ k ++ (x ∷ []))) → Cut h
      inside_a m e (inl z) = (a, [], sym (e ∙ ap (λ (y : History). h ++ y) z ∙ append-nil h) ∙ sym (append-nil a), one_more a [] (sym (append-nil a)) la (no_word refl), inl refl)
      inside_a m e (inr (k, x, z)) = ([], h, refl, no_word refl, inr (m, (λ y. snoc_not_nil k x (sym z ∙ y)), subst L e la))

      go : ((m : History) × (a ≡ h ++ m) × (r ≡ m ++ b)) ⊎ ((m : History) × (h ≡ a ++ m) × (b ≡ m ++ r)) → ((h r : History) → b ≡ h ++ r → Cut h) → Cut h
      go (inl (m, e, f)) ih = inside_a m e (snoc_view m)
      go (inr (m, e, f)) ih =
          let i = ih m r f in
          (a ++ i.0, i.1, e ∙ ap (λ (z : History). a ++ z) i.2 ∙ sym (append_assoc a i.0 i.1), one_more a i.0 refl la i.3, i.4)

-- ---- stages of a path's history
module _ (t : Core) (g : Good t) (s c : ℕ) where
  -- the path's occurrences
  abbrev pub os : List Occurrence
  os = D t (plain s) (plain s) (s + 1) c

  -- where a begun word of the path stands
  abbrev pub Here : History → Node → Type 0
  Here = Now t (plain s) (plain s) (s + 1) c

  -- where a history of the path stands: it is a row of words and a begun word, which stands at n
  abbrev pub Stage : History → Node → Type 0
  Stage h n = (v u : History) × (h ≡ v ++ u) × Row (W t) v × Here u n

  plain_here : (u : History) (n : Node) → Here u n → PlainNode n
  plain_here u (at q) h = go (at_node t (plain s) (plain s) (s + 1) c u q h)
    where
      go : ((u ≡ []) × (q ≡ plain s)) ⊎ Inner q (s + 1) (sems t) → Plain q
      go (inl p) = (s, p.1)
      go (inr p) = (p.0, p.1)
  plain_here u (inside p) h = tt
  plain_here u (amid k N f) h = tt

  peel_stage : (h : History) (e : Event) (n' : Node) → Stage (h ++ (e ∷ [])) n' → (n : Node) × (o : Occurrence) × Memᴰ o os × Stage h n × Via o n e n'
  peel_stage h e n' (v, u, p, rv, now) = go (snoc_cut h e v u p)
    where
      R : Type 0
      R = (n : Node) × (o : Occurrence) × Memᴰ o os × Stage h n × Via o n e n'

      P : Peels t (plain s) (plain s) (s + 1) c
      P = peel t g (plain s) (plain s) (s + 1) c

      last : u ≡ [] → (v ≡ []) ⊎ ((a z : History) × (v ≡ a ++ z) × Row (W t) a × W t z) → R
      last q (inl x) = absurd (snoc_not_nil h e (p ∙ (λ i. x i ++ q i)))
      last q (inr (a, z, x, ra, wz)) = split (snoc_cut h e a z (p ∙ ap (λ (y : History). v ++ y) q ∙ append-nil v ∙ x))
        where
          here : n' ≡ at (plain s)
          here = nil_node t (plain s) (plain s) (s + 1) c n' (subst (λ (y : History). Here y n') q now)

          split : (z ≡ []) ⊎ ((m : History) × (z ≡ m ++ (e ∷ [])) × (h ≡ a ++ m)) → R
          split (inl y) = absurd (word_not_nil t z wz y)
          split (inr (m, y, k)) =
              let b = P.0 m e (subst (W t) y wz) in
              (b.0, b.1, b.2, (a, m, k, ra, b.3), subst (Via b.1 b.0 e) (sym here) b.4)

      go : (u ≡ []) ⊎ ((m : History) × (u ≡ m ++ (e ∷ [])) × (h ≡ v ++ m)) → R
      go (inl q) = last q (row_last (W t) v rv)
      go (inr (m, q, k)) =
          let b = P.1 m e n' (subst (λ (y : History). Here y n') q now) in
          (b.0, b.1, b.2, (v, m, k, rv, b.3), b.4)

  -- the beginning of a word stands somewhere
  now_before : (z u : History) (n : Node) → Here (u ++ z) n → (m : Node) × Here u m
  now_before z u = snoc_ind (λ (y : History). (n : Node) → Here (u ++ y) n → (m : Node) × Here u m)
      (λ n h. (n, subst (λ (y : History). Here y n) (append-nil u) h))
      (λ y e ih n h. let b = (peel t g (plain s) (plain s) (s + 1) c).1 (u ++ y) e n (subst (λ (k : History). Here k n) (sym (append_assoc u y (e ∷ []))) h) in ih b.0 b.3) z

  word_before : (z u : History) → z ≢ [] → W t (u ++ z) → (m : Node) × Here u m
  word_before z u nz w = go (snoc_view z)
    where
      go : (z ≡ []) ⊎ ((y : History) × (e : Event) × (z ≡ y ++ (e ∷ []))) → (m : Node) × Here u m
      go (inl p) = absurd (nz p)
      go (inr (y, e, p)) =
          let b = (peel t g (plain s) (plain s) (s + 1) c).0 (u ++ y) e (subst (W t) (ap (λ (k : History). u ++ k) p ∙ sym (append_assoc u y (e ∷ []))) w) in
          now_before y u b.0 b.3

  pub to_stage : (h r : History) → Row (W t) (h ++ r) → (n : Node) × Stage h n
  to_stage h r w = let i = row_cut (W t) (h ++ r) w h r refl in go i i.4
    where
      go : (i : Cut (W t) h) → (i.1 ≡ []) ⊎ ((z : History) × (z ≢ []) × W t (i.1 ++ z)) → (n : Node) × Stage h n
      go i (inl p) = (at (plain s), (i.0, i.1, i.2, i.3, subst (λ (y : History). Here y (at (plain s))) (sym p) (start t (plain s) (plain s) (s + 1) c)))
      go i (inr (z, nz, x)) = let m = word_before z i.1 nz x in (m.0, (i.0, i.1, i.2, i.3, m.1))

  from_stage : (h : History) (n : Node) → Stage h n → (r : History) × Row (W t) (h ++ r)
  from_stage h n (v, u, p, rv, now) =
      let i = complete t g (plain s) (plain s) (s + 1) c u n now in
      (i.0, subst (Row (W t)) (sym (append_assoc v u i.0) ∙ ap (λ (z : History). z ++ i.0) (sym p)) (row_append (W t) v (u ++ i.0) rv i.2))

  module _ (dist : Distinct (ops os)) where
    -- the standing after a history is told from its stage, and so is who runs
    pub told : (h : History) (n : Node) → Stage h n → Stands n (after os (opening s) h) × ((a : ℕ) → begun a h ≡ ended a h + Running n a)
    told = snoc_ind (λ (h : History). (n : Node) → Stage h n → Stands n (after os (opening s) h) × ((a : ℕ) → begun a h ≡ ended a h + Running n a)) base more
      where
        base : (n : Node) → Stage [] n → Stands n (opening s) × ((a : ℕ) → 0 ≡ 0 + Running n a)
        base n (v, u, p, rv, now) =
            let e : n ≡ at (plain s) = nil_node t (plain s) (plain s) (s + 1) c n (subst (λ (y : History). Here y n) (append_nil_right v u (sym p)) now) in
            subst (λ (m : Node). Stands m (opening s) × ((a : ℕ) → 0 ≡ 0 + Running m a)) (sym e) (((λ i. refl), (λ i. refl)), (λ a. omega arith))

        more : (h : History) (e : Event) → ((n : Node) → Stage h n → Stands n (after os (opening s) h) × ((a : ℕ) → begun a h ≡ ended a h + Running n a)) →
            (n : Node) → Stage (h ++ (e ∷ [])) n → Stands n (after os (opening s) (h ++ (e ∷ []))) × ((a : ℕ) → begun a (h ++ (e ∷ [])) ≡ ended a (h ++ (e ∷ [])) + Running n a)
        more h e ih n st = go (peel_stage h e n st)
          where
            go : (m : Node) × (o : Occurrence) × Memᴰ o os × Stage h m × Via o m e n →
                Stands n (after os (opening s) (h ++ (e ∷ []))) × ((a : ℕ) → begun a (h ++ (e ∷ [])) ≡ ended a (h ++ (e ∷ [])) + Running n a)
            go (m, o, mem, stm, via) =
                let i = ih m stm in
                let σ = after os (opening s) h in (
                  subst (Stands n) (sym (after_snoc os (opening s) h e ∙ next_one os dist o mem e σ (via_op o m e n via)))
                      (step o e σ m n (plain_here stm.1 m stm.4) (plain_here st.1 n st.4) via i.0),
                  (λ a. let x = i.1 a in let y = run_step o m e n via a in let b = begun_snoc a h e in let d = ended_snoc a h e in omega arith),
                )

    -- h is a history of the path's own names
    opens : (h : History) (n : Node) → Stage h n → (a : ℕ) → Memᴰ a (ops os) → OpenTo a os (after os (opening s) h) → (m : Node) × Stage (h ++ (⊕ a ∷ [])) m
    opens h n st a mem op = go (ops_mem a os mem)
      where
        go : (o : Occurrence) × Memᴰ o os × (o.operation ≡ a) → (m : Node) × Stage (h ++ (⊕ a ∷ [])) m
        go (o, k, p) =
            let en = open_enters o n (after os (opening s) h) (told h n st).0 (op o k p) in
            let i = enter t g (plain s) (plain s) (s + 1) c (omega arith) (inl (s, refl)) st.1 n st.4 o k en in
            let e : History = ⊕ a ∷ [] in (
              i.0,
              (
                st.0,
                st.1 ++ e,
                ap (λ (z : History). z ++ e) st.2 ∙ append_assoc st.0 st.1 e,
                st.3,
                subst (λ (z : ℕ). Here (st.1 ++ (⊕ z ∷ [])) i.0) p i.1,
              ),
            )

    opened : (h : History) (a : ℕ) (m : Node) → Stage (h ++ (⊕ a ∷ [])) m → OpenTo a os (after os (opening s) h)
    opened h a m st o' k q = go (peel_stage h (⊕ a) m st)
      where
        go : (n : Node) × (o : Occurrence) × Memᴰ o os × Stage h n × Via o n (⊕ a) m → Open o'.left (after os (opening s) h)
        go (n, o, mem, stn, via) =
            let e : o ≡ o' = unique os dist o o' mem k (sym (via_op o n (⊕ a) m via) ∙ sym q) in
            subst (λ (z : Occurrence). Open z.left (after os (opening s) h)) e
            (via_open o n a m (after os (opening s) h) (plain_here stn.1 n stn.4) via (told h n stn).0)

    ended_was : (h : History) (a : ℕ) (m : Node) → Stage (h ++ (⊖ a ∷ [])) m → ended a h < begun a h
    ended_was h a m st = go (peel_stage h (⊖ a) m st)
      where
        go : (n : Node) × (o : Occurrence) × Memᴰ o os × Stage h n × Via o n (⊖ a) m → ended a h < begun a h
        go (n, o, mem, stn, via) =
            let x = (told h n stn).1 a in
            let y : Running m a + cond (eqb a a) 1 0 ≡ Running n a + 0 = run_step o n (⊖ a) m via a in
            let z = ap (λ (b : Bool). cond {A = ℕ} b 1 0) (eqb_same a) in
            omega arith

    ending : (h : History) (n : Node) → Stage h n → (a : ℕ) → ended a h < begun a h → (m : Node) × Stage (h ++ (⊖ a ∷ [])) m
    ending h n st a lt = go (who_runs n a (let x = (told h n st).1 a in omega arith))
      where
        go : (o : Occurrence) × (o.operation ≡ a) × Leaves n o → (m : Node) × Stage (h ++ (⊖ a ∷ [])) m
        go (o, p, lv) = subst (λ (z : ℕ). (m : Node) × Stage (h ++ (⊖ z ∷ [])) m) p (out (leave t g (plain s) (plain s) (s + 1) c st.1 n st.4 o lv))
          where
            e : History
            e = ⊖ o.operation ∷ []

            E : h ++ e ≡ st.0 ++ (st.1 ++ e)
            E = ap (λ (z : History). z ++ e) st.2 ∙ append_assoc st.0 st.1 e

            out : Gone t (plain s) (plain s) (s + 1) c st.1 o → (m : Node) × Stage (h ++ e) m
            out (inl i) = (i.0, (st.0, st.1 ++ e, E, st.3, i.1))
            out (inr w) = (
              at (plain s),
              (st.0 ++ (st.1 ++ e), [], E ∙ sym (append-nil (st.0 ++ (st.1 ++ e))), row_append (W t) st.0 (st.1 ++ e) st.3 w, start t (plain s) (plain s) (s + 1) c),
            )

-- ---- in the words of the specification
-- what Fits says, for any words L and names ns
abbrev pub Fit : Language → List ℕ → History → Type 0
Fit L ns h = (r : History) × Row L (seen ns h ++ r)

-- the doors ps tell what fits the path with words L and names ns
abbrev Claim : ℕ → Language → List ℕ → List Occurrence → Type 0
Claim s L ns ps =
    (h : History) → Fit L ns h → (a : ℕ) → Memᴰ a ns →
    (OpenTo a ps (after ps (opening s) h) ↔ Fit L ns (h ++ (⊕ a ∷ []))) × ((ended a h < begun a h) ↔ Fit L ns (h ++ (⊖ a ∷ [])))

core_claim : (t : Core) → Good t → (s c : ℕ) → Distinct (ops (D t (plain s) (plain s) (s + 1) c)) → Claim s (W t) (ops (D t (plain s) (plain s) (s + 1) c)) (D t (plain s) (plain s) (s + 1) c)
core_claim t g s c dist h fit a mem =
    let ps = D t (plain s) (plain s) (s + 1) c in
    let ns = ops ps in
    let k = seen ns h in
    let am = mem_among a ns mem in
    let st = to_stage t g s c k fit.0 fit.1 in
    let same = after_seen ps (opening s) h in (
      (
        (λ op. let i = opens t g s c dist k st.0 st.1 a mem (subst (OpenTo a ps) same op) in
            let f = from_stage t g s c (k ++ (⊕ a ∷ [])) i.0 i.1 in
            (f.0, subst (λ (z : History). Row (W t) (z ++ f.0)) (sym (seen_snoc ns h (⊕ a) am)) f.1)),
        (λ f. let i = to_stage t g s c (k ++ (⊕ a ∷ [])) f.0 (subst (λ (z : History). Row (W t) (z ++ f.0)) (seen_snoc ns h (⊕ a) am) f.1) in
            subst (OpenTo a ps) (sym same) (opened t g s c dist k a i.0 i.1)),
      ),
      (
        (λ lt. let i = ending t g s c dist k st.0 st.1 a (let x = begun_seen ns a am h in let y = ended_seen ns a am h in omega arith) in
            let f = from_stage t g s c (k ++ (⊖ a ∷ [])) i.0 i.1 in
            (f.0, subst (λ (z : History). Row (W t) (z ++ f.0)) (sym (seen_snoc ns h (⊖ a) am)) f.1)),
        (λ f. let i = to_stage t g s c (k ++ (⊖ a ∷ [])) f.0 (subst (λ (z : History). Row (W t) (z ++ f.0)) (seen_snoc ns h (⊖ a) am) f.1) in
            let w = ended_was t g s c dist k a i.0 i.1 in let x = begun_seen ns a am h in let y = ended_seen ns a am h in omega arith),
      ),
    )

pub doors_are_right : DoorsAreRight
doors_are_right p proper π s c h fit a mem =
    let r = claim h fit a mem in
    record { opens = r.0; ends = r.1; goes = λ o k q. passing (⊕ a) o k (sym q); leaves = λ o k q. passing (⊖ a) o k (sym q) }
  where
    t : Core
    t = core_s π p

    E : ops (D t (plain s) (plain s) (s + 1) c) ≡ names_of_sequence p
    E = ops_d t (plain s) (plain s) (s + 1) c ∙ sym (names_s π p)

    dist : Distinct (ops (D t (plain s) (plain s) (s + 1) c))
    dist = subst Distinct (sym E) proper.distinct

    passing : (e : Event) (o : Occurrence) → Memᴰ o (path_doors p π s c) → operation e ≡ o.operation →
        after (path_doors p π s c) (opening s) (h ++ (e ∷ [])) ≡ passed e o (after (path_doors p π s c) (opening s) h)
    passing e o k q =
        after_snoc (path_doors p π s c) (opening s) h e
        ∙ next_one (path_doors p π s c) (subst (λ (ps : List Occurrence). Distinct (ops ps)) (sym (doors_s π p (plain s) (plain s) (s + 1) c)) dist) o k e
        (after (path_doors p π s c) (opening s) h) q

    good : Good t
    good = good_of t (let b = braces_s π p in let u = proper.unnested in omega arith) (subst Distinct (names_s π p) proper.distinct)

    claim : Claim s (word_of_sequence p) (names_of_sequence p) (path_doors p π s c)
    claim =
        subst (Claim s (word_of_sequence p) (names_of_sequence p)) (sym (doors_s π p (plain s) (plain s) (s + 1) c))
        (subst (λ (ns : List ℕ). Claim s (word_of_sequence p) ns (D t (plain s) (plain s) (s + 1) c)) E
        (subst (λ (L : Language). Claim s L (ops (D t (plain s) (plain s) (s + 1) c)) (D t (plain s) (plain s) (s + 1) c)) (sym (word_s π p)) (core_claim t good s c dist)))

pub beginnings_fit : BeginningsFit
beginnings_fit p h k (r, w) =
    let ns = names_of_sequence p in
    (seen ns k ++ r, subst (Row (word_of_sequence p)) (ap (λ (z : History). z ++ r) (seen_append ns h k) ∙ append_assoc (seen ns h) (seen ns k) r) w)

pub empty_fits : (p : Sequence) → Fits p []
empty_fits p = ([], no_word refl)

-- an event of a name that the path lacks changes nothing
pub missing : (p : Sequence) (h : History) → Fits p h → (e : Event) → among (operation e) (names_of_sequence p) ≡ false → Fits p (h ++ (e ∷ []))
missing p h f e m =
    let ns = names_of_sequence p in
    let q : seen ns (h ++ (e ∷ [])) ≡ seen ns h = seen_append ns h (e ∷ []) ∙ ap (λ (z : Bool). seen ns h ++ cond z (e ∷ []) []) m ∙ append-nil (seen ns h) in
    (f.0, subst (λ (z : History). Row (word_of_sequence p) (z ++ f.0)) (sym q) f.1)
