-- What a begin answers, from its steps.
use Rattle.std.proofs.Common.{◌≡◌, ℕ, ◌+◌, ◌<◌, ◌≤◌, true, false, List, length, Ok, Err, sym, refl, ◌∙◌, subst, ⊎_elim, arith}
use Rattle.std.proofs.lemmas.Bool.{false≢true}
use Rattle.rooms.specs.declared.entry.Entry.{Entry}
use Rattle.rooms.specs.declared.entry.PutFault.{PutFault}
use Rattle.rooms.specs.declared.entry.PutFault.TheVariants.{Known, Full}
use Rattle.rooms.specs.Entries.{In, Ticketed, Joined, PutSays}
use Rattle.rooms.specs.Rule.{Rule}
use Rattle.run.specs.declared.answer.Begun.TheVariants.{In as Goes, Waits}
use Rattle.run.specs.declared.fault.RunFault.TheVariants.{RoomFull}
use Rattle.run.specs.Memory.{View, Matches, account, Carries, one_more, with_accepted, with_room, with_in, with_waiting, Tested, GoneIn}
use Rattle.run.specs.Records.{begin, accepted, history, waiting}
use Rattle.run.specs.Says.{Joins}
use Rattle.run.proofs.Histories.{joined_before}
use Rattle.run.proofs.Sets.{in_cases}
use Rattle.run.proofs.Steps.{step_in, step_wait}

-- a begin of a with rank k that nothing stops, and that gets the ticket u if it is accepted
pub record Due {R : Type 0} (v : View R) (a k u : ℕ) : Type 0 where
  pub known : a < v.operations
  pub within : a < 64
  pub rank : k ≤ 9
  pub early : v.accepted < 1000000
  pub ticket : u ≡ one_more v.accepted

pub due : {R : Type 0} (v : View R) {a k u : ℕ} → (a < v.operations) × (k ≤ 9) × (v.accepted < 1000000) → a < 64 → u ≡ one_more v.accepted → Due v a k u
due v (known, rank, early) within ticket = record { known = known; within = within; rank = rank; early = early; ticket = ticket }

module _ {R : Type 0} (places : ℕ) (rule : Rule) (v : View R) (a k u : ℕ) (due : Due v a k u) where
  numbered : (n : ℕ) → v.accepted ≡ n → u ≡ n + 1
  numbered n e = let l = due.early in let p = due.ticket in omega arith

  early : (n : ℕ) → v.accepted ≡ n → n < 1000000
  early n e = let l = due.early in omega arith

  pub begins_in : (w : View R) → Tested v a true → GoneIn v w a → Carries places rule v (with_accepted u w) (begin a k (Ok (Goes u)))
  begins_in w test g t rs (m, calm) =
      let few = early (accepted rs) m.accepted in
      let num = numbered (accepted rs) m.accepted in
      let f = (test t (history rs) m.proper m.fits m.doors).0 refl in (
        (((m.names a).0 due.known, due.rank, few), f, num),
        (
          subst (λ n. Matches t (with_accepted n w) (with_in a (account rule rs))) (sym num) (step_in t v _ m w a g due.within f few),
          λ x i j. calm x i (joined_before t m.proper (history rs) a x.operation j),
        ),
      )

  waits : (r : R) (es : List Entry) (q : ℕ) → Tested v a false → length v.entries < places → Joined (record { ticket = u; operation = a; rank = k }) v.entries es → q ≡ v.memory →
      Carries places rule v (with_accepted u (with_room r es q v)) (begin a k (Ok (Waits u)))
  waits r es q test room j same t rs (m, calm) =
      let e : Entry = record { ticket = u; operation = a; rank = k } in
      let few = early (accepted rs) m.accepted in
      let num = numbered (accepted rs) m.accepted in
      let known = (m.names a).0 due.known in
      let shut : Joins t (history rs) a → ⊥ = (λ f. false≢true ((test t (history rs) m.proper m.fits m.doors).1 f)) in (
        ((known, due.rank, few), shut, (let n = m.many in omega arith), num),
        (
          subst (λ n. Matches t (with_accepted n (with_room r es q v)) (with_waiting e (account rule rs))) (sym num) (step_wait t v _ m e r es q j same num known few),
          λ x i f. ⊎_elim (λ (p : x ≡ e). shut (subst (λ (z : Entry). Joins t (history rs) z.operation) p f)) (λ (i' : In x (waiting rs)). calm x i' f) (in_cases x e (waiting rs) i),
        ),
      )

  pub begins_waiting : (i : View R) (r : R) (es : List Entry) (q : ℕ) → i ≡ v → Tested v a false → length i.entries < places → Joined (record { ticket = u; operation = a; rank = k }) i.entries es → q ≡ i.memory →
      Carries places rule v (with_accepted u (with_room r es q i)) (begin a k (Ok (Waits u)))
  begins_waiting i r es q is = subst (λ (z : View R). Tested v a false → length z.entries < places → Joined (record { ticket = u; operation = a; rank = k }) z.entries es → q ≡ z.memory → Carries places rule v (with_accepted u (with_room r es q z)) (begin a k (Ok (Waits u)))) (sym is) (waits r es q)

  pub begins_full : (w : View R) → Tested v a false → length v.entries ≡ places → w ≡ v → Carries places rule v w (begin a k (Err RoomFull))
  begins_full w test full same t rs (m, calm) =
      let few = early (accepted rs) m.accepted in (
        (((m.names a).0 due.known, due.rank, few), (λ f. false≢true ((test t (history rs) m.proper m.fits m.doors).1 f)), (let n = m.many in omega arith)),
        (subst (λ z. Matches t z (account rule rs)) (sym same) m, calm),
      )

  -- a ticket that is not given yet waits nowhere
  pub begins_twice : (w : View R) → Ticketed u v.entries → Carries places rule v w (begin a k (Err RoomFull))
  begins_twice w (x, i, p) t rs (m, calm) =
      let old = m.early x ((m.waits x).0 i) in
      let num = numbered (accepted rs) m.accepted in
      absurd (omega arith)

  -- the room does not take it
  refused : (w : View R) (f : PutFault) → Tested v a false → PutSays places (record { ticket = u; operation = a; rank = k }) v.entries w.entries (Err f) → w ≡ v → Carries places rule v w (begin a k (Err RoomFull))
  refused w Known test says same = begins_twice w says.0
  refused w Full test says same = begins_full w test says.1 same

  pub begins_refused : (i w : View R) (f : PutFault) → i ≡ v → Tested v a false → PutSays places (record { ticket = u; operation = a; rank = k }) i.entries w.entries (Err f) → w ≡ i → Carries places rule v w (begin a k (Err RoomFull))
  begins_refused i w f is test says same = refused w f test (subst (λ (z : View R). PutSays places (record { ticket = u; operation = a; rank = k }) z.entries w.entries (Err f)) is says) (same ∙ is)
