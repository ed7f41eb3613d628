-- What a withdrawal answers.
use Rattle.std.proofs.Common.{◌≡◌, ℕ, List, Ok, Err, Some, None, Option, ok_or, IfNone, sym, subst}
use Rattle.rooms.specs.declared.entry.Entry.{Entry}
use Rattle.rooms.specs.Entries.{Left, DropSays}
use Rattle.rooms.specs.Rule.{Rule}
use Rattle.run.specs.declared.fault.RunFault.{RunFault}
use Rattle.run.specs.declared.fault.RunFault.TheVariants.{NotWaiting}
use Rattle.run.specs.Memory.{View, Matches, account, with_room, with_one_withdrawn, with_withdrawn, Carries}
use Rattle.run.specs.Records.{withdraw, waiting}
use Rattle.run.proofs.Sets.{in_without}
use Rattle.run.proofs.Steps.{step_withdrawn}

module _ {R : Type 0} (places : ℕ) (rule : Rule) (v w : View R) (u : ℕ) where
  withdraws : (r : R) (es : List Entry) (q a : ℕ) → (x : Entry) × (x.ticket ≡ u) × (x.operation ≡ a) × Left x v.entries es → q ≡ v.memory → w ≡ with_one_withdrawn (with_room r es q v) →
      Carries places rule v w (withdraw u (Ok a))
  withdraws r es q a (x, p, o, g) same is t rs (m, calm) = (
    (x, (m.waits x).0 g.was, p, o),
    (
      subst (λ z. Matches t z (with_withdrawn u (account rule rs))) (sym is) (step_withdrawn t v _ m x r es q u g same p),
      λ y i f. calm y (in_without u y (waiting rs) i).0 f,
    ),
  )

  -- the ticket waits nowhere
  pub withdraws_nothing : (now then : R) (d : Option ℕ) (f : RunFault) → Err f ≡ ok_or d NotWaiting → DropSays u v.entries w.entries d → IfNone d (then ≡ now) → (then ≡ now → w ≡ v) → Carries places rule v w (withdraw u (Err f))
  withdraws_nothing now then None f e (none, _) kept still = subst (λ z. Carries places rule v w (withdraw u (Err z))) (let q : NotWaiting ≡ f = cc in q) refused
    where
      refused : Carries places rule v w (withdraw u (Err NotWaiting))
      refused t rs (m, calm) = (λ (x, i, p). none (x, (m.waits x).1 i, p), (subst (λ z. Matches t z (account rule rs)) (sym (still kept)) m, calm))
  withdraws_nothing now then (Some a) f e says kept still = absurd (cc)

  -- its operation is the answer
  pub withdraws_one : (es : List Entry) (r : R) (q : ℕ) (d : Option ℕ) (a : ℕ) → Ok a ≡ ok_or d NotWaiting → DropSays u v.entries es d → q ≡ v.memory → w ≡ with_one_withdrawn (with_room r es q v) → Carries places rule v w (withdraw u (Ok a))
  withdraws_one es r q None a e says same is = absurd (cc)
  withdraws_one es r q (Some b) a e says same is = subst (λ z. Carries places rule v w (withdraw u (Ok z))) (let p : b ≡ a = cc in p) (withdraws r es q b says same is)
