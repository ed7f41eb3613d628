-- What carrying one call, and a list of calls, does to a run.
use Rattle.std.specs.Prelude.{◌≡◌, ℕ, List, []}
use Rattle.paths.specs.Grammar.{Text}
use Rattle.rooms.specs.Rule.{Rule}
use Rattle.run.specs.declared.answer.LetIn.{LetIn}
use Rattle.run.specs.declared.call.Answer.{Answer}
use Rattle.run.specs.declared.call.Call.{Call}
use Rattle.run.specs.Law.{call_of, answer_of, front_of, LentTo, Recorded}
use Rattle.run.specs.Memory.{View, Reached, Carries}
use Rattle.run.specs.Records.{Record}

-- a call, with a list of p places lent, takes the memory from v to w, answers, and puts ls into the list's front
pub record Carried {R : Type 0} (places : ℕ) (rule : Rule) (v w : View R) (c : Call) (p : ℕ) (r : Answer) (ls : List LetIn) : Type 0 where
  pub rec : Record
  pub call : call_of rec ≡ c
  pub answer : answer_of rec ≡ r
  pub front : front_of rec ≡ ls
  pub lent : LentTo p rec
  pub carries : Carries places rule v w rec

-- a list of calls takes a run without records from v to w
abbrev pub CarriedAll : {R : Type 0} → ℕ → Rule → View R → View R → List Call → List Answer → List Answer → List LetIn → List LetIn → Type 0
CarriedAll places rule v w cs old new before after =
    (t : Text) → Reached t rule v [] → (rs : List Record) × Recorded t places rule cs old new before after rs × Reached t rule w rs
