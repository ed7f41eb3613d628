-- What a translation answers, and what it leaves in the table of occurrences.
use Rattle.std.specs.Prelude.{◌≡◌, ℕ, Bool, ◌&&◌, List, length, Ok, Err, Result, nat_le, nat_lt}
use Rattle.table.specs.declared.Table.{Table}
use Rattle.table.specs.Contents.{contents, all_places, RestSame}
use Rattle.paths.specs.Grammar.{Text, yield_text}
use Rattle.paths.specs.Words.{among}
use Rattle.paths.specs.Texts.{text_doors, names_of_text}
use Rattle.paths.specs.Sizes.{how_many, paths, semaphores, counters}
use Rattle.tokens.specs.declared.Token.{Token}
use Rattle.tokens.specs.declared.Name.{Name}
use Rattle.tokens.specs.Tokens.{tokens}
use Rattle.rules.specs.Names.{firsts}
use Rattle.rules.specs.Rules.{different, Within}
use Rattle.rules.specs.Faults.{Derives}
use Rattle.reading.specs.declared.Read.{Read}
use Rattle.doors.specs.declared.Occurrence.{Occurrence}
use Rattle.doors.specs.Told.{all_told}
use Rattle.translation.specs.declared.Translated.{Translated}
use Rattle.translation.specs.declared.TooFewPlaces.{TooFewPlaces}

-- the number of the refusal
abbrev pub refusal_number : TooFewPlaces → ℕ
refusal_number e = 23

-- whether the tables have the places that are stated for them
abbrev pub enough : Table Token → Table Name → Table Occurrence → Bool
enough token_table name_table occurrence_table = nat_le 1088 (length (all_places token_table)) && (nat_le 64 (length (all_places name_table)) && nat_le 256 (length (all_places occurrence_table)))

-- t derives the text within the limits, and the tables hold what the reading of the text fills in
pub record Filled (text : List ℕ) (token_table : Table Token) (name_table : Table Name) (t : Text) : Type 0 where
  pub derives : Derives text t
  pub within : Within t
  pub tokens_are : contents token_table ≡ tokens text
  pub names_are : contents name_table ≡ firsts text (tokens text)

-- the table of occurrences holds exactly the doors of t, and the counts are those of t
pub record Translates (t : Text) (r : Translated) (after : Table Occurrence) : Type 0 where
  pub doors : all_told (contents after) ≡ text_doors t 0 0 0
  pub names : r.names ≡ different (names_of_text t)
  -- the operations are the numbers below the count of names
  pub operations : (a : ℕ) → among a (names_of_text t) ≡ nat_lt a r.names
  pub paths : r.paths ≡ how_many paths (yield_text t)
  pub semaphores : r.semaphores ≡ how_many semaphores (yield_text t)
  pub counters : r.counters ≡ how_many counters (yield_text t)

-- translated, and whatever the tables hold only places in front of the count were written; or refused with nothing touched and the reading handed back
abbrev pub Outcome : Read → List ℕ → Table Token → Table Name → Table Occurrence → Table Occurrence → Result Translated TooFewPlaces → Type 0
Outcome read text token_table name_table before after (Ok r) =
    RestSame before after × ((t : Text) → Filled text token_table name_table t → Translates t r after)
Outcome read text token_table name_table before after (Err e) = (after ≡ before) × (e.read ≡ read)
