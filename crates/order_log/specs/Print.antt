-- The bytes of the lines that are printed for a log.
use Rattle.std.specs.Prelude.{ℕ, List, [], ◌∷◌, ◌++◌, Ok, Err, codes, decimal}
use Rattle.std.specs.List.{flat_map}
use Rattle.print.specs.Words.{line_of}
use Rattle.print.specs.Lines.{place_words}
use Rattle.run.specs.declared.answer.Begun.{Begun}
use Rattle.run.specs.declared.answer.Begun.TheVariants.{In as Goes, Waits}
use Rattle.run.specs.declared.answer.LetIn.{LetIn}
use Rattle.run.specs.declared.answer.Totals.{Totals}
use Rattle.run.specs.Records.{Record, begin, end, withdraw}
use Rattle.order_log.specs.declared.fault.LogFault.{LogFault}
use Rattle.order_log.specs.declared.fault.LogFault.TheVariants.{Run as InRun}
use Rattle.order_log.specs.Faults.{fault_number, fault_place}

-- `n NAME WORD TICKET`
abbrev pub ticket_line : ℕ → List ℕ → List ℕ → ℕ → List ℕ
ticket_line n name word ticket = line_of (decimal n) (name ∷ word ∷ decimal ticket ∷ [])

-- `n NAME out`
abbrev pub out_line : ℕ → List ℕ → List ℕ
out_line n name = line_of (decimal n) (name ∷ codes "out" ∷ [])

-- `n refused NUMBER`, and ` at PLACE` if there is a place
abbrev pub refusal : ℕ → LogFault → List ℕ
refusal n fault = line_of (decimal n) (codes "refused" ∷ decimal (fault_number fault) ∷ place_words (fault_place fault))

-- `n NAME in TICKET` for one that the n-th line let in; name spells each operation
abbrev pub let_in_line : (ℕ → List ℕ) → ℕ → LetIn → List ℕ
let_in_line name n l = ticket_line n (name l.operation) (codes "in") l.ticket

-- `n NAME in TICKET` or `n NAME waits TICKET`
abbrev pub begun_line : ℕ → List ℕ → Begun → List ℕ
begun_line n name (Goes u) = ticket_line n name (codes "in") u
begun_line n name (Waits u) = ticket_line n name (codes "waits") u

-- `n NAME out`, then a line for each that the end let in
abbrev pub ended_lines : (ℕ → List ℕ) → ℕ → ℕ → List LetIn → List ℕ
ended_lines name n a ls = out_line n (name a) ++ flat_map (let_in_line name n) ls

-- what is printed for the n-th line, a call of the run with its answer
abbrev pub call_lines : (ℕ → List ℕ) → ℕ → Record → List ℕ
call_lines name n (begin a k (Ok b)) = begun_line n (name a) b
call_lines name n (begin a k (Err f)) = refusal n (InRun f)
call_lines name n (end a p ls (Ok m)) = ended_lines name n a ls
call_lines name n (end a p ls (Err f)) = refusal n (InRun f)
call_lines name n (withdraw u (Ok a)) = ticket_line n (name a) (codes "gone") u
call_lines name n (withdraw u (Err f)) = refusal n (InRun f)

-- `total ACCEPTED RUNNING WAITING ENDED WITHDRAWN`
abbrev pub total_line : Totals → List ℕ
total_line t = line_of (codes "total") (decimal t.accepted ∷ decimal t.running ∷ decimal t.waiting ∷ decimal t.ended ∷ decimal t.withdrawn ∷ [])
