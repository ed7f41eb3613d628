-- The run's memory against the records.
use Rattle.std.specs.Prelude.{◌≡◌, ℕ, ◌+◌, ◌-◌, ◌^◌, ◌<◌, ◌≤◌, min, Bool, false, ◌⊎◌, ◌↔◌, List, [], ◌∷◌, ◌++◌, length, Some, None, Ok, Err, Decides, Option, Result, slice_index, slice_set}
use Rattle.paths.specs.Grammar.{Text}
use Rattle.paths.specs.Words.{⊕, ⊖, History}
use Rattle.paths.specs.Doors.{begun as begun_in, ended as ended_in}
use Rattle.paths.specs.Texts.{EachProper, FitsAll}
use Rattle.paths.specs.Runs.{let_in_by}
use Rattle.doors.specs.declared.Doors.{Doors}
use Rattle.doors.specs.Memory.{Tells}
use Rattle.rooms.specs.declared.entry.Entry.{Entry}
use Rattle.rooms.specs.Entries.{In, Ticketed, Left}
use Rattle.rooms.specs.Rule.{Rule}
use Rattle.run.specs.declared.fault.RunFault.{RunFault}
use Rattle.run.specs.declared.fault.RunFault.TheVariants.{UnknownOperation, RankTooHigh, TicketsSpent, RoomFull, NotRunning, NotWaiting, ListTooShort}
use Rattle.run.specs.Records.{Record, waiting, history, accepted, let_in, ended, withdrawn, remembered, without}
use Rattle.run.specs.Says.{Known, Joins, Settled, Says}

-- A run as its calls see it: its room, which entries wait there and what it remembers of earlier choices; the doors, how many of each operation run,
-- how many operations the text has, and what was counted.
pub record View (R : Type 0) : Type 0 where
  pub room : R
  pub entries : List Entry
  pub memory : ℕ
  pub doors : Doors
  pub running : List ℕ
  pub operations : ℕ
  pub accepted : ℕ
  pub let_in : ℕ
  pub ended : ℕ
  pub withdrawn : ℕ

-- what the records tell
pub record Account : Type 0 where
  pub waiting : List Entry
  pub history : History
  pub remembered : ℕ
  pub accepted : ℕ
  pub let_in : ℕ
  pub ended : ℕ
  pub withdrawn : ℕ

abbrev pub account : Rule → List Record → Account
account rule rs = record {
  waiting = waiting rs;
  history = history rs;
  remembered = remembered rule rs;
  accepted = accepted rs;
  let_in = let_in rs;
  ended = ended rs;
  withdrawn = withdrawn rs;
}

-- no two have one ticket
abbrev pub Distinct : List Entry → Type 0
Distinct [] = Unit {0}
Distinct (x ∷ xs) = (¬ Ticketed x.ticket xs) × Distinct xs

-- how many ends a history has
abbrev pub ends_in : History → ℕ
ends_in [] = 0
ends_in (⊕ a ∷ h) = ends_in h
ends_in (⊖ a ∷ h) = 1 + ends_in h

pub record Matches {R : Type 0} (t : Text) (v : View R) (s : Account) : Type 0 where
  pub proper : EachProper t
  pub fits : FitsAll t s.history
  pub doors : Tells v.doors t s.history
  pub waits : (x : Entry) → (In x v.entries) ↔ (In x s.waiting)
  pub many : length v.entries ≡ length s.waiting
  pub distinct : Distinct s.waiting
  pub remembers : v.memory ≡ s.remembered
  pub names : (a : ℕ) → (a < v.operations) ↔ Known t a
  pub known : (x : Entry) → In x s.waiting → Known t x.operation
  pub early : (x : Entry) → In x s.waiting → x.ticket ≤ s.accepted
  pub long : length v.running ≡ 64
  pub each : (a : ℕ) → slice_index v.running a + ended_in a s.history ≡ begun_in a s.history
  pub accepted : v.accepted ≡ s.accepted
  pub let_in : v.let_in ≡ s.let_in
  pub ended : v.ended ≡ s.ended
  pub withdrawn : v.withdrawn ≡ s.withdrawn
  pub in_history : let_in_by s.history ≡ s.let_in
  pub out_history : ends_in s.history ≡ s.ended
  pub all : s.let_in + length s.waiting + s.withdrawn ≡ s.accepted
  pub limit : s.accepted ≤ 1000000

-- the run's memory is that of the records, and none of those who wait could join
abbrev pub Reached : {R : Type 0} → Text → Rule → View R → List Record → Type 0
Reached t rule v rs = Matches t v (account rule rs) × Settled t rs

-- A call with its answer takes the memory from v to w: for every tree and all records that the memory v is that of, the answer is the defined one,
-- and w is the memory of the records with this one.
abbrev pub Carries : {R : Type 0} → ℕ → Rule → View R → View R → Record → Type 0
Carries places rule v w r = (t : Text) (rs : List Record) → Reached t rule v rs → Says t places rule rs r × Reached t rule w (r ∷ rs)

-- a refusal leaves the run as it was
abbrev pub Keeps : {A R : Type 0} → Result A RunFault → View R → View R → Type 0
Keeps (Ok x) old new = Unit {0}
Keeps (Err f) old new = new ≡ old

-- ---- what the records tell after one more event

-- operation a is let in at once
abbrev pub with_in : ℕ → Account → Account
with_in a s = record s { history = s.history ++ (⊕ a ∷ []); accepted = s.accepted + 1; let_in = s.let_in + 1 }

-- the entry e is told to wait
abbrev pub with_waiting : Entry → Account → Account
with_waiting e s = record s { waiting = e ∷ s.waiting; accepted = s.accepted + 1 }

-- operation a ends
abbrev pub with_end : ℕ → Account → Account
with_end a s = record s { history = s.history ++ (⊖ a ∷ []); ended = s.ended + 1 }

-- the rule's choice e is let in
abbrev pub with_chosen : Rule → Entry → Account → Account
with_chosen rule e s = record s { waiting = without e.ticket s.waiting; history = s.history ++ (⊕ e.operation ∷ []); remembered = rule.after s.remembered e; let_in = s.let_in + 1 }

-- the ticket u is withdrawn
abbrev pub with_withdrawn : ℕ → Account → Account
with_withdrawn u s = record s { waiting = without u s.waiting; withdrawn = s.withdrawn + 1 }

-- ---- what the steps of a call do to the memory

-- what stops a begin before fitting is asked
abbrev pub BeginStopped : {R : Type 0} → View R → ℕ → ℕ → RunFault → Type 0
BeginStopped v a k UnknownOperation = v.operations ≤ a
BeginStopped v a k RankTooHigh = (a < v.operations) × (9 < k)
BeginStopped v a k TicketsSpent = (a < v.operations) × (k ≤ 9) × (1000000 ≤ v.accepted)
BeginStopped v a k RoomFull = ⊥
BeginStopped v a k NotRunning = ⊥
BeginStopped v a k NotWaiting = ⊥
BeginStopped v a k ListTooShort = ⊥

abbrev pub MayBegin : {A R : Type 0} → View R → ℕ → ℕ → Result A RunFault → Type 0
MayBegin v a k (Ok x) = (a < v.operations) × (k ≤ 9) × (v.accepted < 1000000)
MayBegin v a k (Err f) = BeginStopped v a k f

-- what stops an end
abbrev pub EndStopped : {R : Type 0} → View R → ℕ → ℕ → RunFault → Type 0
EndStopped v a p UnknownOperation = v.operations ≤ a
EndStopped v a p RankTooHigh = ⊥
EndStopped v a p TicketsSpent = ⊥
EndStopped v a p RoomFull = ⊥
EndStopped v a p NotRunning = (a < v.operations) × (slice_index v.running a ≡ 0)
EndStopped v a p NotWaiting = ⊥
EndStopped v a p ListTooShort = (a < v.operations) × (0 < slice_index v.running a) × (p < length v.entries)

abbrev pub MayEnd : {A R : Type 0} → View R → ℕ → ℕ → Result A RunFault → Type 0
MayEnd v a p (Ok x) = (a < v.operations) × (0 < slice_index v.running a) × (length v.entries ≤ p)
MayEnd v a p (Err f) = EndStopped v a p f

-- one more, as far as the numbers of the machine reach
abbrev pub one_more : ℕ → ℕ
one_more n = min (n + 1) (2 ^ 32 - 1)

-- the same with u begins accepted
abbrev pub with_accepted : {R : Type 0} → ℕ → View R → View R
with_accepted u v = record v { accepted = u }

-- the same with another room, its entries and what it remembers
abbrev pub with_room : {R : Type 0} → R → List Entry → ℕ → View R → View R
with_room r es m v = record v { room = r; entries = es; memory = m }

-- the same with one more withdrawn, as far as the numbers reach
abbrev pub with_one_withdrawn : {R : Type 0} → View R → View R
with_one_withdrawn v = record v { withdrawn = one_more v.withdrawn }

-- one more of operation a runs
abbrev pub one_runs : ℕ → List ℕ → List ℕ
one_runs a running = slice_set running a (one_more (slice_index running a))

-- one less of operation a runs
abbrev pub one_rests : ℕ → List ℕ → List ℕ
one_rests a running = slice_set running a (slice_index running a - 1)

-- operation a goes in by its left doors, and one more of it runs
pub record GoneIn {R : Type 0} (v w : View R) (a : ℕ) : Type 0 where
  pub doors : (t : Text) (h : History) → EachProper t → FitsAll t h → let_in_by h ≤ 1000000 → Tells v.doors t h → Tells w.doors t (h ++ (⊕ a ∷ []))
  pub running : w.running ≡ one_runs a v.running
  pub let_in : w.let_in ≡ one_more v.let_in
  pub entries : w.entries ≡ v.entries
  pub memory : w.memory ≡ v.memory
  pub operations : w.operations ≡ v.operations
  pub accepted : w.accepted ≡ v.accepted
  pub ended : w.ended ≡ v.ended
  pub withdrawn : w.withdrawn ≡ v.withdrawn

-- operation a leaves by its right doors, and one less of it runs
pub record GoneOut {R : Type 0} (v w : View R) (a : ℕ) : Type 0 where
  pub doors : (t : Text) (h : History) → EachProper t → FitsAll t h → let_in_by h ≤ 1000000 → Tells v.doors t h → Tells w.doors t (h ++ (⊖ a ∷ []))
  pub running : w.running ≡ one_rests a v.running
  pub let_in : w.let_in ≡ v.let_in
  pub entries : w.entries ≡ v.entries
  pub memory : w.memory ≡ v.memory
  pub operations : w.operations ≡ v.operations
  pub accepted : w.accepted ≡ v.accepted
  pub ended : w.ended ≡ one_more v.ended
  pub withdrawn : w.withdrawn ≡ v.withdrawn

-- the test says whether operation a could join
abbrev pub Tested : {R : Type 0} → View R → ℕ → Bool → Type 0
Tested v a b = (t : Text) (h : History) → EachProper t → FitsAll t h → Tells v.doors t h → Decides b (Joins t h a)

-- the table says which operations of the text could join
abbrev pub Fitting : {R : Type 0} → View R → (ℕ → Bool) → Type 0
Fitting v allowed = (t : Text) (s : Account) → Matches t v s → (a : ℕ) → Decides (allowed a) (Known t a × Joins t s.history a)

-- the room's choice e among those that could join has left the room and goes in
pub record Admitted {R : Type 0} (rule : Rule) (v w : View R) (e : Entry) : Type 0 where
  pub allowed : ℕ → Bool
  pub table : Fitting v allowed
  pub chosen : rule.chooses v.memory v.entries allowed e
  pub left : Left e v.entries w.entries
  pub memory : w.memory ≡ rule.after v.memory e
  pub within : e.operation < 64
  pub doors : (t : Text) (h : History) → EachProper t → FitsAll t h → let_in_by h ≤ 1000000 → Tells v.doors t h → Tells w.doors t (h ++ (⊕ e.operation ∷ []))
  pub running : w.running ≡ one_runs e.operation v.running
  pub let_in : w.let_in ≡ one_more v.let_in
  pub operations : w.operations ≡ v.operations
  pub accepted : w.accepted ≡ v.accepted
  pub ended : w.ended ≡ v.ended
  pub withdrawn : w.withdrawn ≡ v.withdrawn

-- nobody waits, or none of those who wait could join
abbrev pub Nobody : {R : Type 0} → View R → Type 0
Nobody v = (length v.entries ≡ 0) ⊎ ((allowed : ℕ → Bool) × Fitting v allowed × ((x : Entry) → In x v.entries → allowed x.operation ≡ false))

abbrev pub Admits : {R : Type 0} → Rule → View R → View R → Option Entry → Type 0
Admits rule v w None = Nobody v × (w ≡ v)
Admits rule v w (Some e) = Admitted rule v w e
