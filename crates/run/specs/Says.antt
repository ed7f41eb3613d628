-- Which answer each call gets, from the calls and answers before it.
use Rattle.std.specs.Prelude.{◌≡◌, ℕ, ◌+◌, ◌<◌, ◌≤◌, Bool, true, List, [], ◌∷◌, ◌++◌, length, take, Ok, Err, Decides, Result, slice_index_or}
use Rattle.paths.specs.Grammar.{Text}
use Rattle.paths.specs.Words.{⊕, History, among}
use Rattle.paths.specs.Doors.{begun as begun_in, ended as ended_in}
use Rattle.paths.specs.Texts.{names_of_text, FitsAll}
use Rattle.rooms.specs.declared.entry.Entry.{Entry}
use Rattle.rooms.specs.Entries.{In, Ticketed}
use Rattle.rooms.specs.Rule.{Rule}
use Rattle.run.specs.declared.answer.Begun.{Begun}
use Rattle.run.specs.declared.answer.Begun.TheVariants.{In as Goes, Waits}
use Rattle.run.specs.declared.answer.LetIn.{LetIn}
use Rattle.run.specs.declared.fault.RunFault.{RunFault}
use Rattle.run.specs.declared.fault.RunFault.TheVariants.{UnknownOperation, RankTooHigh, TicketsSpent, RoomFull, NotRunning, NotWaiting, ListTooShort}
use Rattle.run.specs.Records.{Record, begin, end, withdraw, waiting, history, accepted, remembered}

-- operation a is a name of the text
abbrev pub Known : Text → ℕ → Type 0
Known t a = among a (names_of_text t) ≡ true

-- the history, with the letting-in of a behind it, fits every path
abbrev pub Joins : Text → History → ℕ → Type 0
Joins t h a = FitsAll t (h ++ (⊕ a ∷ []))

-- operation a was let in more often than it ended
abbrev pub Runs : History → ℕ → Type 0
Runs h a = ended_in a h < begun_in a h

-- none of those who wait could join
abbrev pub Settled : Text → List Record → Type 0
Settled t rs = (x : Entry) → In x (waiting rs) → ¬ Joins t (history rs) x.operation

-- ---- begin

-- a begin that neither an unknown operation, nor its rank, nor the number of begins stops
abbrev pub Unstopped : Text → List Record → ℕ → ℕ → Type 0
Unstopped t rs a k = Known t a × (k ≤ 9) × (accepted rs < 1000000)

abbrev pub BeginRefused : Text → ℕ → List Record → ℕ → ℕ → RunFault → Type 0
BeginRefused t places rs a k UnknownOperation = ¬ Known t a
BeginRefused t places rs a k RankTooHigh = Known t a × (9 < k)
BeginRefused t places rs a k TicketsSpent = Known t a × (k ≤ 9) × (1000000 ≤ accepted rs)
BeginRefused t places rs a k RoomFull = Unstopped t rs a k × (¬ Joins t (history rs) a) × (length (waiting rs) ≡ places)
BeginRefused t places rs a k NotRunning = ⊥
BeginRefused t places rs a k NotWaiting = ⊥
BeginRefused t places rs a k ListTooShort = ⊥

-- let in if the history with it fits every path, else told to wait if the room has a place; with the next ticket
abbrev pub BeginSays : Text → ℕ → List Record → ℕ → ℕ → Result Begun RunFault → Type 0
BeginSays t places rs a k (Ok (Goes u)) = Unstopped t rs a k × Joins t (history rs) a × (u ≡ accepted rs + 1)
BeginSays t places rs a k (Ok (Waits u)) = Unstopped t rs a k × (¬ Joins t (history rs) a) × (length (waiting rs) < places) × (u ≡ accepted rs + 1)
BeginSays t places rs a k (Err f) = BeginRefused t places rs a k f

-- ---- end

-- The entry e is the rule's choice, by what is remembered, m, of those who wait, xs, among the operations of the text that could join the history h.
pub record Chosen (t : Text) (rule : Rule) (m : ℕ) (xs : List Entry) (h : History) (e : Entry) : Type 0 where
  pub waits : In e xs
  pub fits : Joins t h e.operation
  pub allowed : ℕ → Bool
  pub joins : (a : ℕ) → Decides (allowed a) (Known t a × Joins t h a)
  pub chosen : rule.chooses m xs allowed e

-- l is the ticket and the operation of the rule's choice after the records rs
pub record Choice (t : Text) (rule : Rule) (rs : List Record) (l : LetIn) : Type 0 where
  pub entry : Entry
  pub ticket : l.ticket ≡ entry.ticket
  pub operation : l.operation ≡ entry.operation
  pub chosen : Chosen t rule (remembered rule rs) (waiting rs) (history rs) entry

-- what a read past the end of a list counts as
abbrev pub nobody : LetIn
nobody = record { ticket = 0; operation = 0 }

-- Each of ls is the rule's choice, after the records with this end and those whom it let in before; and then none of those who wait could join.
pub record LetsIn (t : Text) (rule : Rule) (rs : List Record) (a p : ℕ) (ls : List LetIn) : Type 0 where
  pub each : (k : ℕ) → k < length ls → Choice t rule (end a p (take k ls) (Ok k) ∷ rs) (slice_index_or ls k nobody)
  pub all : Settled t (end a p ls (Ok (length ls)) ∷ rs)

abbrev pub EndRefused : Text → List Record → ℕ → ℕ → RunFault → Type 0
EndRefused t rs a p UnknownOperation = ¬ Known t a
EndRefused t rs a p RankTooHigh = ⊥
EndRefused t rs a p TicketsSpent = ⊥
EndRefused t rs a p RoomFull = ⊥
EndRefused t rs a p NotRunning = Known t a × (¬ Runs (history rs) a)
EndRefused t rs a p NotWaiting = ⊥
EndRefused t rs a p ListTooShort = Known t a × Runs (history rs) a × (p < length (waiting rs))

-- the answer is how many were let in, and the list's front holds them
abbrev pub EndSays : Text → Rule → List Record → ℕ → ℕ → List LetIn → Result ℕ RunFault → Type 0
EndSays t rule rs a p ls (Ok n) = Known t a × Runs (history rs) a × (length (waiting rs) ≤ p) × (n ≡ length ls) × LetsIn t rule rs a p ls
EndSays t rule rs a p ls (Err f) = EndRefused t rs a p f × (ls ≡ [])

-- ---- withdraw

abbrev pub WithdrawRefused : List Record → ℕ → RunFault → Type 0
WithdrawRefused rs u UnknownOperation = ⊥
WithdrawRefused rs u RankTooHigh = ⊥
WithdrawRefused rs u TicketsSpent = ⊥
WithdrawRefused rs u RoomFull = ⊥
WithdrawRefused rs u NotRunning = ⊥
WithdrawRefused rs u NotWaiting = ¬ Ticketed u (waiting rs)
WithdrawRefused rs u ListTooShort = ⊥

-- the answer is the operation of the entry that waits with the ticket
abbrev pub WithdrawSays : List Record → ℕ → Result ℕ RunFault → Type 0
WithdrawSays rs u (Ok a) = (x : Entry) × In x (waiting rs) × (x.ticket ≡ u) × (x.operation ≡ a)
WithdrawSays rs u (Err f) = WithdrawRefused rs u f

-- ---- every call

-- the answer is the defined one: t the text's tree, places the room's number of places, rule its rule of choice
abbrev pub Says : Text → ℕ → Rule → List Record → Record → Type 0
Says t places rule rs (begin a k r) = BeginSays t places rs a k r
Says t places rule rs (end a p ls r) = EndSays t rule rs a p ls r
Says t places rule rs (withdraw u r) = WithdrawSays rs u r
