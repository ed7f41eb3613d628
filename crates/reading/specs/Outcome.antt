-- What reading a text answers, and what the tables then hold.
use Rattle.std.specs.Prelude.{◌≡◌, ℕ, ◌<◌, ◌≤◌, Bool, true, false, ◌⊎◌, List, length, Some, Ok, Err, Result}
use Rattle.table.specs.declared.Table.{Table}
use Rattle.table.specs.Contents.{contents, all_places}
use Rattle.paths.specs.Grammar.{Text}
use Rattle.paths.specs.Texts.{names_of_text}
use Rattle.tokens.specs.declared.Token.{Token}
use Rattle.tokens.specs.declared.Name.{Name}
use Rattle.tokens.specs.Tokens.{tokens}
use Rattle.rules.specs.Names.{firsts}
use Rattle.rules.specs.Rules.{different, paths_of_text}
use Rattle.rules.specs.Faults.{Refused, Derives, Derivable}
use Rattle.reading.specs.declared.Read.{Read}
use Rattle.tokens.specs.declared.BytesFault.TheVariants.{TooLong}
use Rattle.reading.specs.declared.GrammarFault.{GrammarFault}
use Rattle.reading.specs.declared.GrammarFault.TheVariants.{Bytes}
use Rattle.reading.specs.declared.ReadFault.{ReadFault}
use Rattle.reading.specs.declared.ReadFault.TheVariants.{Grammar, Rule, TooFewPlaces}
use Rattle.reading.specs.Faults.{fault_number, fault_place}

-- both tables have places enough for every text: 1,088 for tokens, 64 for names
abbrev pub Enough : Table Token → Table Name → Type 0
Enough ts ns = (1088 ≤ length (all_places ts)) × (64 ≤ length (all_places ns))

-- a table has fewer
abbrev pub Lacking : Table Token → Table Name → Type 0
Lacking ts ns = (length (all_places ts) < 1088) ⊎ (length (all_places ns) < 64)

-- the fault is the text's first, behind the tokens before
abbrev pub Tells : List ℕ → List Token → ReadFault → Type 0
Tells text before f = (p : ℕ) × (fault_place f ≡ Some p) × Refused text before (fault_number f) p

-- what is counted of a text, in the words of its derivation
pub record CountsOf (r : Read) (t : Text) : Type 0 where
  pub paths : r.paths ≡ paths_of_text t
  pub names : r.names ≡ different (names_of_text t)
  pub occurrences : r.occurrences ≡ length (names_of_text t)

-- the text is derived within the limits; the tables hold all its tokens and the first occurrences of its names
pub record TextRead (text : List ℕ) (ts : Table Token) (ns : Table Name) (r : Read) : Type 0 where
  pub derivable : Derivable text
  pub tokens_are : contents ts ≡ tokens text
  pub names_are : contents ns ≡ firsts text (tokens text)
  pub counts : (t : Text) → Derives text t → CountsOf r t

-- the text has no derivation within the limits; the fault is its first, and the tables hold the records of the tokens before it
pub record TextRefused (text : List ℕ) (ts : Table Token) (ns : Table Name) (f : ReadFault) : Type 0 where
  pub underivable : ¬ Derivable text
  pub tells : Tells text (contents ts) f
  pub names_are : contents ns ≡ firsts text (contents ts)

-- the answer of reading a text, the tables before it and the tables after it
abbrev pub Answered : List ℕ → Table Token → Table Name → Table Token → Table Name → Result Read ReadFault → Type 0
Answered text ts ns ts' ns' (Ok r) = Enough ts ns × TextRead text ts' ns' r
Answered text ts ns ts' ns' (Err (Grammar g)) = Enough ts ns × TextRefused text ts' ns' (Grammar g)
Answered text ts ns ts' ns' (Err (Rule l p)) = Enough ts ns × TextRefused text ts' ns' (Rule l p)
Answered text ts ns ts' ns' (Err TooFewPlaces) = Lacking ts ns × (ts' ≡ ts) × (ns' ≡ ns)

-- whether the tables have places enough
abbrev pub Measured : Table Token → Table Name → Bool → Type 0
Measured ts ns true = Enough ts ns
Measured ts ns false = Lacking ts ns

-- a text of n bytes is short enough to be read, or it is at fault
abbrev pub Judged : ℕ → Result (Unit {0}) GrammarFault → Type 0
Judged n (Ok u) = n ≤ 16384
Judged n (Err g) = (16384 < n) × (g ≡ Bytes TooLong)
