-- What a replay answers: the judgement of the text, and the law of its run.
use Rattle.std.specs.Prelude.{◌≡◌, ℕ, ◌<◌, ◌≤◌, ◌⊎◌, List, length, Ok, Err, Result}
use Rattle.table.specs.declared.Table.{Table}
use Rattle.table.specs.Contents.{contents, all_places, RestSame}
use Rattle.paths.specs.Grammar.{Text}
use Rattle.paths.specs.Texts.{text_doors}
use Rattle.tokens.specs.declared.Token.{Token}
use Rattle.tokens.specs.declared.Name.{Name}
use Rattle.rules.specs.Faults.{Derives}
use Rattle.reading.specs.declared.ReadFault.{ReadFault}
use Rattle.reading.specs.declared.ReadFault.TheVariants.{Grammar, Rule, TooFewPlaces}
use Rattle.reading.specs.Outcome.{Enough, Lacking, TextRefused}
use Rattle.doors.specs.declared.Occurrence.{Occurrence}
use Rattle.doors.specs.Told.{all_told}
use Rattle.translation.specs.Translation.{Filled}
use Rattle.rooms.specs.declared.entry.Entry.{Entry}
use Rattle.rooms.specs.Rule.{Rule as RuleOfChoice}
use Rattle.run.specs.declared.answer.Closed.{Closed}
use Rattle.run.specs.declared.answer.LetIn.{LetIn}
use Rattle.run.specs.declared.call.Answer.{Answer}
use Rattle.run.specs.declared.call.Call.{Call}
use Rattle.run.specs.Law.{Law}

-- the tables of a text: its tokens, its names, its occurrences
pub record Tables : Type 0 where
  pub tokens : Table Token
  pub names : Table Name
  pub occurrences : Table Occurrence

abbrev pub tables : Table Token → Table Name → Table Occurrence → Tables
tables ts ns os = record { tokens = ts; names = ns; occurrences = os }

-- An accepted text: the tree is its only derivation and keeps the limits, the tables hold its tokens, names and doors, and its run is lawful.
pub record Replayed {R : Type 0} (places : ℕ) (rule : RuleOfChoice) (entries : R → List Entry) (text : List ℕ) (then : Tables) (cs : List Call) (old new : List Answer) (before after : List LetIn) (r : Closed R) : Type 0 where
  pub tree : Text
  pub filled : Filled text then.tokens then.names tree
  pub short : length text ≤ 16384
  pub only : (t : Text) → Derives text t → t ≡ tree
  pub doors : all_told (contents then.occurrences) ≡ text_doors tree 0 0 0
  pub law : Law tree places rule cs old new before after r.totals (entries r.room)

-- the table of occurrences is too small for the text, which was read
pub record Untranslated (text : List ℕ) (now then : Tables) : Type 0 where
  pub tree : Text
  pub filled : Filled text then.tokens then.names tree
  pub short : length text ≤ 16384
  pub lacking : length (all_places now.occurrences) < 256

-- why a replay refuses: the text's first fault, or too few places in a table
abbrev pub ReplayRefused : List ℕ → Tables → Tables → ReadFault → Type 0
ReplayRefused text now then (Grammar g) = Enough now.tokens now.names × TextRefused text then.tokens then.names (Grammar g)
ReplayRefused text now then (Rule l p) = Enough now.tokens now.names × TextRefused text then.tokens then.names (Rule l p)
ReplayRefused text now then TooFewPlaces =
    (Lacking now.tokens now.names × (then.tokens ≡ now.tokens) × (then.names ≡ now.names)) ⊎ (Enough now.tokens now.names × Untranslated text now then)

-- a replay answers the run's totals and its room, or refuses and leaves the answers, the list and the occurrences
abbrev pub ReplaySays : {R : Type 0} → ℕ → RuleOfChoice → (R → List Entry) → List ℕ → Tables → Tables → List Call → List Answer → List Answer → List LetIn → List LetIn → Result (Closed R) ReadFault → Type 0
ReplaySays places rule entries text now then cs old new before after (Ok r) =
    Enough now.tokens now.names × (256 ≤ length (all_places now.occurrences)) × Replayed places rule entries text then cs old new before after r
ReplaySays places rule entries text now then cs old new before after (Err f) =
    ReplayRefused text now then f × (then.occurrences ≡ now.occurrences) × (new ≡ old) × (after ≡ before)

-- whatever the answer, the tables have as many places as before, and those behind the last record hold what they held
pub record Rests (now then : Tables) : Type 0 where
  pub tokens : RestSame now.tokens then.tokens
  pub names : RestSame now.names then.names
  pub occurrences : RestSame now.occurrences then.occurrences
