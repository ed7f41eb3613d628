-- The log of the arm text, ruled from the definitions.
use Rattle.std.proofs.Common.{◌≡◌, ℕ, zero, suc, ◌+◌, ◌<◌, ◌≤◌, Bool, true, false, not, ◌&&◌, T, eqb, ◌≢◌, List, [], ◌∷◌, ◌++◌, length, get_or, take, Ok, Err, codes, Decides, Result, sym, refl, ap, subst, inl, append_assoc, arith, lit<, lit≤}
use Rattle.std.specs.List.{AllByRecursion}
use Rattle.std.specs.Str.Parse.{digits_value}
use Rattle.std.specs.Fmt.{digits}
use Rattle.std.proofs.lemmas.Bool.{eqb-false, and_parts, not-true}
use Rattle.std.proofs.lemmas.Bool.Decides.{Decides-and}
use Rattle.paths.specs.Grammar.{one}
use Rattle.paths.specs.Words.{⊕, History, Proper, among, names_of_sequence}
use Rattle.paths.specs.Texts.{FitsAll}
use Rattle.paths.specs.Judged.{arms}
use Rattle.paths.specs.Doors.{path_doors, opening}
use Rattle.paths.proofs.Decide.{decided, judge}
use Rattle.paths.proofs.Whole.{empty_fits}
use Rattle.rules.specs.Faults.{Derives}
use Rattle.rules.specs.Rules.{Within}
use Rattle.rules.specs.Names.{firsts}
use Rattle.tokens.specs.declared.Name.{Name}
use Rattle.tokens.specs.Tokens.{byte, digit, tokens}
use Rattle.rooms.specs.declared.entry.Entry.{Entry}
use Rattle.rooms.specs.Entries.{In}
use Rattle.rooms.specs.First.{by_rank as first_by_rank}
use Rattle.run.specs.declared.answer.Begun.{Begun}
use Rattle.run.specs.declared.answer.Begun.TheVariants.{In as Goes, Waits}
use Rattle.run.specs.declared.answer.LetIn.{LetIn}
use Rattle.run.specs.declared.answer.Totals.{Totals}
use Rattle.run.specs.declared.fault.RunFault.{RunFault}
use Rattle.run.specs.declared.fault.RunFault.TheVariants.{NotRunning}
use Rattle.run.specs.Law.{Lawful as CallLawful, Told}
use Rattle.run.specs.Records.{Record, begin, end, waiting, history, accepted as how_many_accepted}
use Rattle.run.specs.Says.{Known, Joins, Runs, Settled, Choice, LetsIn, nobody}
use Rattle.lines.specs.Lines.{IsName, begin as a_begin, end as an_end}
use Rattle.input.specs.Input.{FirstLine, Lines, none, more, Cut, at_mark, past_line}
use Rattle.order_log.specs.Rulings.{Ruling, called, Names, Ruled, begins, ends, lawful}
use Rattle.unit.specs.Output.{records, RulesOn, none as no_rulings, one_more, accepted, OutputOf, short, by_rank}
use Rattle.worked.specs.Worked.{written, arm_input, arm_output}

-- ---- lines
-- no byte is 10
abbrev no_ten : List ℕ → Bool
no_ten [] = true
no_ten (b ∷ bs) = not (eqb b 10) && no_ten bs

no_tens : (bs : List ℕ) → no_ten bs ≡ true → AllByRecursion (λ b. b ≢ 10) bs
no_tens [] e = tt
no_tens (b ∷ bs) e = let p = and_parts (not (eqb b 10)) (no_ten bs) e in (eqb-false b 10 (not-true (eqb b 10) p.0), no_tens bs p.1)

line_first : (line rest : List ℕ) → no_ten line ≡ true → FirstLine ((line ++ (10 ∷ [])) ++ rest) line rest
line_first line rest e = record { within = no_tens line e; ends = inl (append_assoc line (10 ∷ []) rest) }

abbrev all_no_ten : List (List ℕ) → Bool
all_no_ten [] = true
all_no_ten (l ∷ ls) = no_ten l && all_no_ten ls

-- the lines of written lines
all_lines : (ls : List (List ℕ)) → all_no_ten ls ≡ true → Lines (written ls) ls
all_lines [] e = none
all_lines (l ∷ ls) e = let p = and_parts (no_ten l) (all_no_ten ls) e in more (line_first l (written ls) p.0) (all_lines ls p.1)

-- ---- what fits the path
proper : Proper arms
proper = record { distinct = (refl, (refl, (refl, (refl, tt)))); unnested = lit≤ tt }

-- a history fits exactly when it runs through the doors
abbrev fits? : History → Bool
fits? h = judge (path_doors arms 0 0 0) (names_of_sequence arms) (opening 0) [] h

fits : (h : History) → T (fits? h) → FitsAll (one arms) h
fits h t = (decided arms proper h [] (empty_fits arms)).0 t

fits_not : (h : History) → (T (fits? h) → ⊥) → ¬ FitsAll (one arms) h
fits_not h f g = f ((decided arms proper h [] (empty_fits arms)).1 g)

T_true : (b : Bool) → T b → b ≡ true
T_true true t = refl
T_true false t = absurd t

-- which operations of the text could join a history
abbrev could_join : History → ℕ → Bool
could_join h a = among a (names_of_sequence arms) && fits? (h ++ (⊕ a ∷ []))

joins : (h : History) (a : ℕ) → Decides (could_join h a) (Known (one arms) a × Joins (one arms) h a)
joins h a = Decides-and (among a (names_of_sequence arms)) (fits? (h ++ (⊕ a ∷ []))) ((λ e. e), (λ e. e))
    ((λ e. fits (h ++ (⊕ a ∷ [])) (subst T (sym e) tt)), (λ f. T_true (fits? (h ++ (⊕ a ∷ []))) ((decided arms proper (h ++ (⊕ a ∷ [])) [] (empty_fits arms)).1 f)))

-- ---- who waits
nobody_waits : (x : Entry) {P : Type 0} → In x [] → P
nobody_waits x i = let h = i.1 in let no_place : ⊥ = omega arith in absurd no_place

only_one : (x e : Entry) → In x (e ∷ []) → x ≡ e
only_one x e (zero, h, i) = sym i
only_one x e (suc k, h, i) = let no_place : ⊥ = omega arith in absurd no_place

one_waits : (e : Entry) (P : Entry → Type 0) → P e → (x : Entry) → In x (e ∷ []) → P x
one_waits e P p x i = subst P (sym (only_one x e i)) p

is_in : (e : Entry) → In e (e ∷ [])
is_in e = (0, lit< tt, refl)

calm : (rs : List Record) → waiting rs ≡ [] → Settled (one arms) rs
calm rs e x i = nobody_waits x (subst (In x) e i)

one_calm : (rs : List Record) (e : Entry) → waiting rs ≡ e ∷ [] → (T (fits? (history rs ++ (⊕ e.operation ∷ []))) → ⊥) → Settled (one arms) rs
one_calm rs e is f x i = one_waits e (λ y. ¬ Joins (one arms) (history rs) y.operation) (fits_not (history rs ++ (⊕ e.operation ∷ [])) f) x (subst (In x) is i)

-- ---- the calls, with their answers
abbrev arm : ℕ
arm = 0

abbrev touch : ℕ
touch = 1

abbrev hand : ℕ
hand = 2

abbrev split : ℕ
split = 3

-- one who waits, and one who is let in
abbrev entry : ℕ → ℕ → ℕ → Entry
entry u a k = record { ticket = u; operation = a; rank = k }

abbrev let_in : ℕ → ℕ → LetIn
let_in u a = record { ticket = u; operation = a }

-- the rulings on the first lines, the newest first
abbrev after_1 : List Ruling
after_1 = called (begin arm 5 (Ok (Goes 1))) ∷ []

abbrev after_2 : List Ruling
after_2 = called (begin touch 5 (Ok (Waits 2))) ∷ after_1

abbrev after_3 : List Ruling
after_3 = called (end arm 256 (let_in 2 touch ∷ []) (Ok 1)) ∷ after_2

abbrev after_4 : List Ruling
after_4 = called (begin hand 1 (Ok (Goes 3))) ∷ after_3

abbrev after_5 : List Ruling
after_5 = called (end split 256 [] (Err NotRunning)) ∷ after_4

abbrev after_6 : List Ruling
after_6 = called (end touch 256 [] (Ok 0)) ∷ after_5

abbrev after_7 : List Ruling
after_7 = called (begin split 2 (Ok (Waits 4))) ∷ after_6

abbrev after_8 : List Ruling
after_8 = called (end hand 256 (let_in 4 split ∷ []) (Ok 1)) ∷ after_7

-- ---- every call is lawful
-- a begin that is let in
goes : (rs : List Record) (a k : ℕ) → Known (one arms) a → k ≤ 9 → how_many_accepted rs < 1000000 → T (fits? (history rs ++ (⊕ a ∷ []))) →
    Settled (one arms) (begin a k (Ok (Goes (how_many_accepted rs + 1))) ∷ rs) → CallLawful (one arms) 256 by_rank rs (begin a k (Ok (Goes (how_many_accepted rs + 1))))
goes rs a k known rank few t settled =
    let f = fits (history rs ++ (⊕ a ∷ [])) t in
    record { says = ((known, rank, few), f, refl); lets_in = λ x. ((λ i. f), (λ j. tt)); fits = f; settled = settled }

-- a begin that is told to wait
waits : (rs : List Record) (a k : ℕ) → Known (one arms) a → k ≤ 9 → how_many_accepted rs < 1000000 → (T (fits? (history rs ++ (⊕ a ∷ []))) → ⊥) → length (waiting rs) < 256 → T (fits? (history rs)) →
    Settled (one arms) (begin a k (Ok (Waits (how_many_accepted rs + 1))) ∷ rs) → CallLawful (one arms) 256 by_rank rs (begin a k (Ok (Waits (how_many_accepted rs + 1))))
waits rs a k known rank few t room h settled =
    let f = fits_not (history rs ++ (⊕ a ∷ [])) t in
    record { says = ((known, rank, few), f, room, refl); lets_in = λ x. ((λ i. absurd i), f); fits = fits (history rs) h; settled = settled }

-- the only one who waits is chosen, if it could join
chosen : (rs : List Record) (e : Entry) → waiting rs ≡ e ∷ [] → could_join (history rs) e.operation ≡ true → first_by_rank e e ≡ true → Choice (one arms) by_rank rs (let_in e.ticket e.operation)
chosen rs e is may self =
    let here : In e (waiting rs) = subst (In e) (sym is) (is_in e) in
    record {
      entry = e;
      ticket = refl;
      operation = refl;
      chosen = record {
        waits = here;
        fits = ((joins (history rs) e.operation).0 may).1;
        allowed = could_join (history rs);
        joins = joins (history rs);
        chosen = record { among = here; may = may; before = λ y i ok. subst (λ z. first_by_rank e z ≡ true) (sym (only_one y e (subst (In y) is i))) self };
      };
    }

-- an end that lets one in
lets_one : (rs : List Record) (a : ℕ) (l : LetIn) → Choice (one arms) by_rank (end a 256 [] (Ok 0) ∷ rs) l → Settled (one arms) (end a 256 (l ∷ []) (Ok 1) ∷ rs) → LetsIn (one arms) by_rank rs a 256 (l ∷ [])
lets_one rs a l c settled = record { each = each; all = settled }
  where
    each : (k : ℕ) → k < 1 → Choice (one arms) by_rank (end a 256 (take k (l ∷ [])) (Ok k) ∷ rs) (get_or (l ∷ []) k nobody)
    each zero h = c
    each (suc k) h = let no_place : ⊥ = omega arith in absurd no_place

-- an end that is not refused
ended : (rs : List Record) (a n : ℕ) (ls : List LetIn) → Known (one arms) a → Runs (history rs) a → length (waiting rs) ≤ 256 → n ≡ length ls → LetsIn (one arms) by_rank rs a 256 ls →
    T (fits? (history (end a 256 ls (Ok n) ∷ rs))) → Settled (one arms) (end a 256 ls (Ok n) ∷ rs) → CallLawful (one arms) 256 by_rank rs (end a 256 ls (Ok n))
ended rs a n ls known runs few many lets t settled = record { says = (known, runs, few, many, lets); lets_in = tt; fits = fits (history (end a 256 ls (Ok n) ∷ rs)) t; settled = settled }

-- an end of an operation that does not run
not_running : (rs : List Record) (a : ℕ) → Known (one arms) a → (Runs (history rs) a → ⊥) → T (fits? (history rs)) → Settled (one arms) rs → CallLawful (one arms) 256 by_rank rs (end a 256 [] (Err NotRunning))
not_running rs a known rests t settled = record { says = ((known, rests), refl); lets_in = tt; fits = fits (history rs) t; settled = settled }

told : Told (one arms) 256 by_rank (records after_8)
told = (
  ended (records after_7) hand 1 (let_in 4 split ∷ []) refl (lit< tt) (lit≤ tt) refl
      (lets_one (records after_7) hand (let_in 4 split) (chosen (end hand 256 [] (Ok 0) ∷ records after_7) (entry 4 split 2) refl refl refl) (calm (records after_8) refl)) tt (calm (records after_8) refl),
  (
    waits (records after_6) split 2 refl (lit≤ tt) (lit< tt) (λ t. t) (lit< tt) tt (one_calm (records after_7) (entry 4 split 2) refl (λ t. t)),
    (
      ended (records after_5) touch 0 [] refl (lit< tt) (lit≤ tt) refl (record { each = λ k h. let no_place : ⊥ = omega arith in absurd no_place; all = calm (records after_6) refl }) tt (calm (records after_6) refl),
      (
        not_running (records after_4) split refl (λ runs. let none_runs : ⊥ = omega arith in none_runs) tt (calm (records after_4) refl),
        (
          goes (records after_3) hand 1 refl (lit≤ tt) (lit< tt) tt (calm (records after_4) refl),
          (
            ended (records after_2) arm 1 (let_in 2 touch ∷ []) refl (lit< tt) (lit≤ tt) refl
                (lets_one (records after_2) arm (let_in 2 touch) (chosen (end arm 256 [] (Ok 0) ∷ records after_2) (entry 2 touch 5) refl refl refl) (calm (records after_3) refl)) tt (calm (records after_3) refl),
            (
              waits (records after_1) touch 5 refl (lit≤ tt) (lit< tt) (λ t. t) (lit< tt) tt (one_calm (records after_2) (entry 2 touch 5) refl (λ t. t)),
              (
                goes [] arm 5 refl (lit≤ tt) (lit< tt) tt (calm (records after_1) refl),
                tt,
              ),
            ),
          ),
        ),
      ),
    ),
  ),
)

-- ---- the input
abbrev text : List ℕ
text = written (codes "path arm; {touch, hand}; split end" ∷ [])

abbrev lines : List (List ℕ)
lines = codes "b arm 5" ∷ codes "b touch 5" ∷ codes "e arm" ∷ codes "b hand 1" ∷ codes "e split" ∷ codes "e touch" ∷ codes "b split 2" ∷ codes "e hand" ∷ []

cut : Cut arm_input text (written lines)
cut = past_line text (line_first (codes "path arm; {touch, hand}; split end") (written (codes "%" ∷ lines)) refl) (λ e. let z = ap length e in let no_such : ⊥ = omega arith in no_such) refl (at_mark (line_first (codes "%") (written lines) refl))

derives : Derives text (one arms)
derives = record { whole = refl; yields = refl }

within : Within (one arms)
within = record { proper = proper; depth = lit≤ tt; paths = lit≤ tt; names = lit≤ tt; occurrences = lit≤ tt; brackets = lit≤ tt }

-- ---- the rulings
abbrev names : List Name
names = firsts text (tokens text)

begun : (word : List ℕ) (d a : ℕ) (r : Result Begun RunFault) → IsName word → byte d ≡ digit → Names text names word a → Ruled text names (codes "b " ++ (word ++ (32 ∷ d ∷ []))) (called (begin a (digits_value 10 (d ∷ [])) r))
begun word d a r name rank is = lawful {meaning = a_begin word (digits_value 10 (d ∷ []))} (d, refl, name, rank, refl) (begins is)

over : (word : List ℕ) (a : ℕ) (ls : List LetIn) (r : Result ℕ RunFault) → IsName word → Names text names word a → Ruled text names (codes "e " ++ word) (called (end a 256 ls r))
over word a ls r name is = lawful {meaning = an_end word} (refl, name) (ends is)

arm_name : IsName (codes "arm")
arm_name = (refl, (refl, (refl, tt)), lit≤ tt)

touch_name : IsName (codes "touch")
touch_name = (refl, (refl, (refl, (refl, (refl, tt)))), lit≤ tt)

hand_name : IsName (codes "hand")
hand_name = (refl, (refl, (refl, (refl, tt))), lit≤ tt)

split_name : IsName (codes "split")
split_name = (refl, (refl, (refl, (refl, (refl, tt)))), lit≤ tt)

rules_4 : RulesOn text names (take 4 lines) after_4
rules_4 =
    let rules_1 : RulesOn text names (take 1 lines) after_1 = one_more {before = []} refl no_rulings (begun (codes "arm") 53 arm (Ok (Goes 1)) arm_name refl (refl, lit< tt)) in
    let rules_2 : RulesOn text names (take 2 lines) after_2 = one_more {before = take 1 lines} refl rules_1 (begun (codes "touch") 53 touch (Ok (Waits 2)) touch_name refl (refl, lit< tt)) in
    let rules_3 : RulesOn text names (take 3 lines) after_3 = one_more {before = take 2 lines} refl rules_2 (over (codes "arm") arm (let_in 2 touch ∷ []) (Ok 1) arm_name (refl, lit< tt)) in
    one_more {before = take 3 lines} refl rules_3 (begun (codes "hand") 49 hand (Ok (Goes 3)) hand_name refl (refl, lit< tt))

rules_8 : RulesOn text names lines after_8
rules_8 =
    let rules_5 : RulesOn text names (take 5 lines) after_5 = one_more {before = take 4 lines} refl rules_4 (over (codes "split") split [] (Err NotRunning) split_name (refl, lit< tt)) in
    let rules_6 : RulesOn text names (take 6 lines) after_6 = one_more {before = take 5 lines} refl rules_5 (over (codes "touch") touch [] (Ok 0) touch_name (refl, lit< tt)) in
    let rules_7 : RulesOn text names (take 7 lines) after_7 = one_more {before = take 6 lines} refl rules_6 (begun (codes "split") 50 split (Ok (Waits 4)) split_name refl (refl, lit< tt)) in
    one_more {before = take 7 lines} refl rules_7 (over (codes "hand") hand (let_in 4 split ∷ []) (Ok 1) hand_name (refl, lit< tt))

abbrev totals : Totals
totals = record { accepted = 4; running = 1; waiting = 0; ended = 3; withdrawn = 0 }

pub arms_printed : OutputOf arm_input arm_output
unfolding digits
arms_printed = short text (written lines) (lit≤ tt) cut (accepted lines (all_lines lines refl) (record {
  short = lit≤ tt;
  tree = one arms;
  derives = derives;
  within = within;
  rulings = after_8;
  ruled = rules_8;
  told = told;
  totals = totals;
  totaled = record { accepted = refl; running = refl; waiting = refl; ended = refl; withdrawn = refl };
  printed = refl;
}))
