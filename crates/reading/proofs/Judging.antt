-- Where a reading begins, and what it answers in the end.
use Rattle.std.proofs.Common.{◌≡◌, ℕ, ◌<◌, List, [], ◌∷◌, length, drop, Some, None, Ok, Err, sym, refl, ap, ◌∙◌, subst, arith}
use Rattle.table.specs.declared.Table.{Table}
use Rattle.table.specs.Contents.{contents}
use Rattle.paths.specs.Grammar.{Terminal, Text, yield_text}
use Rattle.paths.specs.Sizes.{how_many, paths}
use Rattle.tokens.specs.declared.Token.{Token}
use Rattle.tokens.specs.declared.Name.{Name as First}
use Rattle.tokens.specs.declared.BytesFault.TheVariants.{TooLong, NoToken, LongName}
use Rattle.tokens.specs.Tokens.{at_end, no_token, long_name, tokens}
use Rattle.tokens.specs.Reader as reader
use Rattle.rules.specs.Names.{firsts, terminals}
use Rattle.rules.specs.Rules.{names_of}
use Rattle.rules.specs.Faults.{too_long, Derives, Derivable}
use Rattle.rules.specs.Reader.{Reached}
use Rattle.rules.specs.Automaton.{between}
use Rattle.rules.proofs.Rows.{names_text, paths_text}
use Rattle.rules.proofs.Within.{acceptance}
use Rattle.rules.proofs.Numbers.{names_counted}
use Rattle.rules.proofs.Reader.{read_start, reads_on, stops}
use Rattle.rules.proofs.Steps.{derived}
use Rattle.reading.specs.declared.Reading.{Reading}
use Rattle.reading.specs.declared.Read.{Read}
use Rattle.reading.specs.declared.counting.Counts.{Counts}
use Rattle.reading.specs.declared.GrammarFault.{GrammarFault}
use Rattle.reading.specs.declared.GrammarFault.TheVariants.{Bytes}
use Rattle.reading.specs.declared.ReadFault.{ReadFault}
use Rattle.reading.specs.declared.ReadFault.TheVariants.{Grammar, Rule, TooFewPlaces}
use Rattle.reading.specs.Outcome.{Enough, Tells, CountsOf, TextRead, Answered}
use Rattle.reading.specs.Counting.{Own, NoneCounted}
use Rattle.reading.specs.Standing.{Follows, Counted}
use Rattle.reading.specs.State.{Ahead, bytes, taken, row, Failed, Went}
use Rattle.reading.proofs.Marks.{no_names}

-- ---- the start
-- what follows first
pub first : (text : List ℕ) (q p : ℕ) (o : Ahead) → q ≡ 0 → reader.Found (reader.next q (drop q text)) o → reader.Moved (length text) q p o → Follows text [] p o
first text q p o e l m = go o (subst (λ (q : ℕ). reader.Found (reader.next q (drop q text)) o) e l) m
  where
    go : (o : Ahead) → reader.Found (reader.next 0 (drop 0 text)) o → reader.Moved (length text) q p o → Follows text [] p o
    go (Ok None) l m = stops text [] 0 at_end (read_start text) l
    go (Ok (Some t)) l m = subst (Reached text (t ∷ [])) (sym m.0) (reads_on text [] 0 t (read_start text) l)
    go (Err TooLong) l m = l
    go (Err (NoToken q)) l m = stops text [] 0 (no_token q) (read_start text) l
    go (Err (LongName q)) l m = stops text [] 0 (long_name q) (read_start text) l

-- nothing is taken
pub none_counted : (c : Counts) → NoneCounted c → Counted c []
none_counted c n = record {
  paths = n.paths;
  occurrences = n.occurrences;
  brackets = n.brackets;
  depth = (let z = n.depth in omega arith);
  braces = (let z = n.braces in omega arith);
  own = subst (λ (o : _). Own o []) (sym n.own) no_names;
}

-- ---- the end
fault_answered : (text : List ℕ) (ts ts' : Table Token) (ns ns' : Table First) (f : ReadFault) → Enough ts ns → Tells text (contents ts') f →
    contents ns' ≡ firsts text (contents ts') → Answered text ts ns ts' ns' (Err f)
fault_answered text ts ts' ns ns' (Grammar g) n k e = (n, record { underivable = λ d. (acceptance text).1 d _ _ (contents ts', k.2); tells = k; names_are = e })
fault_answered text ts ts' ns ns' (Rule l p) n k e = (n, record { underivable = λ d. (acceptance text).1 d _ _ (contents ts', k.2); tells = k; names_are = e })
fault_answered text ts ts' ns ns' TooFewPlaces n k e = absurd (let z = k.1 in let c : ◌≡◌ {A = ℕ} 0 1 = cc in omega arith)

-- a text that is too long
pub long : (text : List ℕ) (ts ts' : Table Token) (ns ns' : Table First) (g : GrammarFault) → Enough ts ns → contents ts' ≡ [] → contents ns' ≡ [] → 16384 < length text →
    g ≡ Bytes TooLong → Answered text ts ns ts' ns' (Err (Grammar g))
long text ts ts' ns ns' g n p q h e =
    fault_answered text ts ts' ns ns' (Grammar g) n
    (subst (λ (before : List Token). Tells text before (Grammar g)) (sym p) (subst (λ (x : GrammarFault). Tells text [] (Grammar x)) (sym e) (16384, refl, too_long h)))
    (q ∙ ap (firsts text) (sym p))

-- a reader failed
pub failed : (r r' : Reading) (ts ts' : Table Token) (ns ns' : Table First) (f : ReadFault) → Enough ts ns → Failed r r' f → ts' ≡ r'.tokens.now → ns' ≡ r'.names.now →
    Answered (bytes r) ts ns ts' ns' (Err f)
failed r r' ts ts' ns ns' f n k p q =
    fault_answered (bytes r) ts ts' ns ns' f n (subst (λ (t : Table Token). Tells (bytes r) (contents t) f) (sym p) k.tells)
    (ap contents q ∙ r'.listed ∙ ap (λ (t : List ℕ). firsts t (taken r')) k.onward.same_text ∙ ap (λ (t : Table Token). firsts (bytes r) (contents t)) (sym p))

-- all is read
pub whole : (s r : Reading) (ts : Table Token) (ns : Table First) (x : Read) → Went s r between → r.ahead ≡ Ok None → x.paths ≡ r.counts.paths →
    x.names ≡ length (contents r.names.now) → x.occurrences ≡ r.counts.occurrences → ts ≡ r.tokens.now → ns ≡ r.names.now → TextRead (bytes s) ts ns x
whole s r ts ns x h o p q w e f =
    subst (λ (t : List ℕ). TextRead t ts ns x) h.onward.same_text
    (subst (λ (ts : Table Token). TextRead (bytes r) ts ns x) (sym e) (subst (λ (ns : Table First). TextRead (bytes r) r.tokens.now ns x) (sym f) there))
  where
    over : Derivable (bytes r) × (tokens (bytes r) ≡ taken r)
    over = derived (bytes r) (taken r) r.short r.kept (subst (λ (a : Ahead). Follows (bytes r) (taken r) r.source.place a) o r.follows) h.stands

    names_now : contents r.names.now ≡ firsts (bytes r) (tokens (bytes r))
    names_now = r.listed ∙ ap (firsts (bytes r)) (sym over.1)

    yields_row : (t : Text) → Derives (bytes r) t → yield_text t ≡ row r
    yields_row t k = k.yields ∙ ap (terminals (bytes r)) over.1

    counts_of : (t : Text) → Derives (bytes r) t → CountsOf x t
    counts_of t k = record {
      paths = p ∙ r.counted.paths ∙ ap (how_many paths) (sym (yields_row t k)) ∙ paths_text t;
      names = q ∙ ap length names_now ∙ sym (names_counted (bytes r) t k);
      occurrences = w ∙ r.counted.occurrences ∙ ap (λ (l : List Terminal). length (names_of l)) (sym (yields_row t k)) ∙ ap length (names_text t);
    }

    there : TextRead (bytes r) r.tokens.now r.names.now x
    there = record { derivable = over.0; tokens_are = sym over.1; names_are = names_now; counts = counts_of }
