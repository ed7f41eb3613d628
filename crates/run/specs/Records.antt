-- A run as it is told by its calls and their answers, the newest first.
use Rattle.std.specs.Prelude.{ℕ, ◌+◌, cond, not, List, [], ◌∷◌, ◌++◌, map, Ok, Err, filter, Result, ◌==◌}
use Rattle.paths.specs.Words.{Event, ⊕, ⊖, History}
use Rattle.rooms.specs.declared.entry.Entry.{Entry}
use Rattle.rooms.specs.Entries.{none}
use Rattle.rooms.specs.Rule.{Rule}
use Rattle.run.specs.declared.answer.Begun.{Begun}
use Rattle.run.specs.declared.answer.Begun.TheVariants.{In as Goes, Waits}
use Rattle.run.specs.declared.answer.LetIn.{LetIn}
use Rattle.run.specs.declared.fault.RunFault.{RunFault}

-- One call with its answer: a begin with operation and rank; an end with operation, the number of places of the list that it was lent, and those
-- whom it put into the list's front; a withdrawal with ticket.
pub data Record : Type 0 where
  begin : ℕ → ℕ → Result Begun RunFault → Record
  end : ℕ → ℕ → List LetIn → Result ℕ RunFault → Record
  withdraw : ℕ → Result ℕ RunFault → Record

-- ---- who waits

-- the entries but the one with ticket u
abbrev pub without : ℕ → List Entry → List Entry
without u xs = filter (λ x. not (x.ticket == u)) xs

-- the entries but those let in
abbrev pub without_all : List LetIn → List Entry → List Entry
without_all [] xs = xs
without_all (l ∷ ls) xs = without_all ls (without l.ticket xs)

-- the entry with ticket u
abbrev pub entry_of : List Entry → ℕ → Entry
entry_of [] u = none
entry_of (x ∷ xs) u = cond (x.ticket == u) x (entry_of xs u)

-- a begin told to wait, waits with its ticket, operation and rank
abbrev pub waiting_begun : Result Begun RunFault → ℕ → ℕ → List Entry → List Entry
waiting_begun (Ok (Goes u)) a k xs = xs
waiting_begun (Ok (Waits u)) a k xs = record { ticket = u; operation = a; rank = k } ∷ xs
waiting_begun (Err f) a k xs = xs

-- until an end puts its ticket into the list
abbrev pub waiting_ended : Result ℕ RunFault → List LetIn → List Entry → List Entry
waiting_ended (Ok n) ls xs = without_all ls xs
waiting_ended (Err f) ls xs = xs

-- or a withdrawal of its ticket is not refused
abbrev pub waiting_withdrawn : Result ℕ RunFault → ℕ → List Entry → List Entry
waiting_withdrawn (Ok a) u xs = without u xs
waiting_withdrawn (Err f) u xs = xs

abbrev pub waiting : List Record → List Entry
waiting [] = []
waiting (begin a k r ∷ rs) = waiting_begun r a k (waiting rs)
waiting (end a p ls r ∷ rs) = waiting_ended r ls (waiting rs)
waiting (withdraw u r ∷ rs) = waiting_withdrawn r u (waiting rs)

-- ---- the history

-- a begin of a that is let in adds ⊕ a
abbrev pub history_begun : Result Begun RunFault → ℕ → History → History
history_begun (Ok (Goes u)) a h = h ++ (⊕ a ∷ [])
history_begun (Ok (Waits u)) a h = h
history_begun (Err f) a h = h

-- those let in, each with the operation of the begin that waited with its ticket
abbrev pub letting_in : List Entry → LetIn → Event
letting_in xs l = ⊕ (entry_of xs l.ticket).operation

-- an end of a that is not refused adds ⊖ a, then the letting-in of each in the list's front, in that order
abbrev pub history_ended : Result ℕ RunFault → ℕ → List LetIn → List Entry → History → History
history_ended (Ok n) a ls xs h = (h ++ (⊖ a ∷ [])) ++ map (letting_in xs) ls
history_ended (Err f) a ls xs h = h

abbrev pub history : List Record → History
history [] = []
history (begin a k r ∷ rs) = history_begun r a (history rs)
history (end a p ls r ∷ rs) = history_ended r a ls (waiting rs) (history rs)
history (withdraw u r ∷ rs) = history rs

-- ---- what was counted

-- one more where the answer is no refusal
abbrev pub counted : {A : Type 0} → Result A RunFault → ℕ → ℕ
counted (Ok x) n = n + 1
counted (Err f) n = n

-- begins that were let in or told to wait
abbrev pub accepted : List Record → ℕ
accepted [] = 0
accepted (begin a k r ∷ rs) = counted r (accepted rs)
accepted (end a p ls r ∷ rs) = accepted rs
accepted (withdraw u r ∷ rs) = accepted rs

abbrev pub ended : List Record → ℕ
ended [] = 0
ended (begin a k r ∷ rs) = ended rs
ended (end a p ls r ∷ rs) = counted r (ended rs)
ended (withdraw u r ∷ rs) = ended rs

abbrev pub withdrawn : List Record → ℕ
withdrawn [] = 0
withdrawn (begin a k r ∷ rs) = withdrawn rs
withdrawn (end a p ls r ∷ rs) = withdrawn rs
withdrawn (withdraw u r ∷ rs) = counted r (withdrawn rs)

abbrev pub let_in_begun : Result Begun RunFault → ℕ → ℕ
let_in_begun (Ok (Goes u)) n = n + 1
let_in_begun (Ok (Waits u)) n = n
let_in_begun (Err f) n = n

abbrev pub let_in_ended : Result ℕ RunFault → ℕ → ℕ
let_in_ended (Ok m) n = n + m
let_in_ended (Err f) n = n

-- begins that were let in at once, and those that ends let in
abbrev pub let_in : List Record → ℕ
let_in [] = 0
let_in (begin a k r ∷ rs) = let_in_begun r (let_in rs)
let_in (end a p ls r ∷ rs) = let_in_ended r (let_in rs)
let_in (withdraw u r ∷ rs) = let_in rs

-- ---- what the room remembers

-- what is remembered after these were chosen
abbrev pub remembered_chosen : Rule → List LetIn → List Entry → ℕ → ℕ
remembered_chosen rule [] xs m = m
remembered_chosen rule (l ∷ ls) xs m = remembered_chosen rule ls xs (rule.after m (entry_of xs l.ticket))

abbrev pub remembered_ended : Rule → Result ℕ RunFault → List LetIn → List Entry → ℕ → ℕ
remembered_ended rule (Ok n) ls xs m = remembered_chosen rule ls xs m
remembered_ended rule (Err f) ls xs m = m

-- only a choice alters what is remembered
abbrev pub remembered : Rule → List Record → ℕ
remembered rule [] = rule.start
remembered rule (begin a k r ∷ rs) = remembered rule rs
remembered rule (end a p ls r ∷ rs) = remembered_ended rule r ls (waiting rs) (remembered rule rs)
remembered rule (withdraw u r ∷ rs) = remembered rule rs
