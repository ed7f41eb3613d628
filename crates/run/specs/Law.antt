-- The law of whole runs: the records of a list of calls, each with the defined answer.
use Rattle.std.specs.Prelude.{◌≡◌, ℕ, ◌-◌, ◌↔◌, List, [], ◌∷◌, ◌++◌, length, take, drop, Ok, Err, Result}
use Rattle.paths.specs.Grammar.{Text}
use Rattle.paths.specs.Texts.{FitsAll}
use Rattle.rooms.specs.declared.entry.Entry.{Entry}
use Rattle.rooms.specs.Entries.{In}
use Rattle.rooms.specs.Rule.{Rule}
use Rattle.run.specs.declared.answer.Begun.{Begun}
use Rattle.run.specs.declared.answer.Begun.TheVariants.{In as Goes, Waits}
use Rattle.run.specs.declared.answer.LetIn.{LetIn}
use Rattle.run.specs.declared.answer.Totals.{Totals}
use Rattle.run.specs.declared.call.Answer.{Answer}
use Rattle.run.specs.declared.call.Answer.TheVariants as answer
use Rattle.run.specs.declared.call.Call.{Call}
use Rattle.run.specs.declared.call.Call.TheVariants as call
use Rattle.run.specs.declared.fault.RunFault.{RunFault}
use Rattle.run.specs.Closing.{Totaled}
use Rattle.run.specs.Records.{Record, begin, end, withdraw, waiting, history}
use Rattle.run.specs.Says.{Unstopped, Joins, Settled, Says}

-- ---- the calls and answers of records, the oldest first

abbrev pub call_of : Record → Call
call_of (begin a k r) = call.Begin a k
call_of (end a p ls r) = call.End a
call_of (withdraw u r) = call.Withdraw u

abbrev pub answer_of : Record → Answer
answer_of (begin a k r) = answer.Begin r
answer_of (end a p ls r) = answer.End r
answer_of (withdraw u r) = answer.Withdraw r

-- those whom a call put into the list's front
abbrev pub front_of : Record → List LetIn
front_of (begin a k r) = []
front_of (end a p ls r) = ls
front_of (withdraw u r) = []

abbrev pub calls : List Record → List Call
calls [] = []
calls (r ∷ rs) = calls rs ++ (call_of r ∷ [])

abbrev pub answers : List Record → List Answer
answers [] = []
answers (r ∷ rs) = answers rs ++ (answer_of r ∷ [])

abbrev pub fronts : List Record → List LetIn
fronts [] = []
fronts (r ∷ rs) = fronts rs ++ front_of r

-- an end was lent a list of n places
abbrev pub LentTo : ℕ → Record → Type 0
LentTo n (begin a k r) = Unit {0}
LentTo n (end a p ls r) = p ≡ n
LentTo n (withdraw u r) = Unit {0}

-- of a list of n places each end was lent what the ends before it left
abbrev pub Lent : ℕ → List Record → Type 0
Lent n [] = Unit {0}
Lent n (r ∷ rs) = LentTo (n - length (fronts rs)) r × Lent n rs

-- ---- the law

-- the begin was let in
abbrev pub IsIn : Result Begun RunFault → Type 0
IsIn (Ok (Goes u)) = Unit {0}
IsIn (Ok (Waits u)) = ⊥
IsIn (Err f) = ⊥

-- a begin that neither its operation, nor its rank, nor the number of begins stops is let in exactly when the history with it fits every path
abbrev pub InExactly : Text → List Record → Record → Type 0
InExactly t rs (begin a k r) = Unstopped t rs a k → (IsIn r ↔ Joins t (history rs) a)
InExactly t rs (end a p ls r) = Unit {0}
InExactly t rs (withdraw u r) = Unit {0}

-- one call after the records rs: its answer is the defined one, the history then fits every path, and none of those who wait could join
pub record Lawful (t : Text) (places : ℕ) (rule : Rule) (rs : List Record) (r : Record) : Type 0 where
  pub says : Says t places rule rs r
  pub lets_in : InExactly t rs r
  pub fits : FitsAll t (history (r ∷ rs))
  pub settled : Settled t (r ∷ rs)

-- every call was lawful
abbrev pub Told : Text → ℕ → Rule → List Record → Type 0
Told t places rule [] = Unit {0}
Told t places rule (r ∷ rs) = Lawful t places rule rs r × Told t places rule rs

-- The records rs are those of the calls cs, as many as there are places for answers: their answers stand in the front of the places for answers, those let in
-- in the front of the list, the rest of both is as it was; and every call was lawful.
pub record Recorded (t : Text) (places : ℕ) (rule : Rule) (cs : List Call) (old new : List Answer) (before after : List LetIn) (rs : List Record) : Type 0 where
  pub of_calls : calls rs ≡ take (length old) cs
  pub of_answers : new ≡ answers rs ++ drop (length (answers rs)) old
  pub of_list : after ≡ fronts rs ++ drop (length (fronts rs)) before
  pub lent : Lent (length before) rs
  pub told : Told t places rule rs

-- The law of a run of t, over a room with these places and this rule of choice, from the calls to the totals and the room at the end.
pub record Law (t : Text) (places : ℕ) (rule : Rule) (cs : List Call) (old new : List Answer) (before after : List LetIn) (totals : Totals) (room : List Entry) : Type 0 where
  pub records : List Record
  pub recorded : Recorded t places rule cs old new before after records
  -- the room holds exactly the begins told to wait and since neither let in nor withdrawn, each with ticket, operation and rank
  pub waits : (x : Entry) → (In x room ↔ In x (waiting records))
  pub many : length room ≡ length (waiting records)
  pub totaled : Totaled records totals
  -- and these are the only records of these calls, so each call has one answer
  pub only : (rs : List Record) → calls rs ≡ calls records → Lent (length before) rs → Told t places rule rs → rs ≡ records
