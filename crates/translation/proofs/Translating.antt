-- From what the readers tell of all paths to what the translation of a text leaves.
use Rattle.std.proofs.Common.{◌≡◌, ℕ, ◌≤◌, true, ltb, List, [], ◌++◌, map, length, take, sym, refl, ap, ◌∙◌, append-nil, arith}
use Rattle.std.proofs.lemmas.List.{take_all}
use Rattle.std.proofs.lemmas.Bool.Decides.{nat_tests}
use Rattle.table.specs.declared.Table.{Table}
use Rattle.table.specs.Contents.{contents, all_places}
use Rattle.paths.specs.Grammar.{Text, yield_text}
use Rattle.paths.specs.Texts.{text_doors, names_of_text}
use Rattle.paths.specs.Sizes.{how_many, paths, semaphores, counters}
use Rattle.paths.proofs.Sizes.{doors_are_few}
use Rattle.tokens.specs.declared.Token.{Token}
use Rattle.tokens.specs.declared.Name.{Name}
use Rattle.tokens.specs.Tokens.{tokens, spelling, number_of}
use Rattle.rules.specs.Names.{firsts, terminal_of, terminals}
use Rattle.rules.specs.Rules.{different, names_of}
use Rattle.rules.specs.Faults.{Derives}
use Rattle.rules.proofs.Rows.{names_text}
use Rattle.rules.proofs.Numbers.{numbered, names_numbered}
use Rattle.rules.proofs.Within.{limits_count}
use Rattle.doors.specs.declared.Occurrence.{Occurrence}
use Rattle.doors.specs.Told.{all_told}
use Rattle.translation.specs.declared.Translated.{Translated}
use Rattle.translation.specs.declared.text.Source.{Source}
use Rattle.translation.specs.Rows.{row}
use Rattle.translation.specs.Trees.{spell_text, first, PathsTold}
use Rattle.translation.specs.Translation.{enough, Filled, Translates}
use Rattle.translation.proofs.Spelled.{spelled_text}

pub enough_room : (T : Table Token) (names : Table Name) (out : Table Occurrence) → true ≡ enough T names out → 256 ≤ length (all_places out)
enough_room T names out e = grind (arith, nat_tests)

-- the different names of a derivation are as many as the first occurrences
many_names : (text : List ℕ) (t : Text) → Derives text t → different (names_of_text t) ≡ length (firsts text (tokens text))
many_names text t d = ap different (sym (names_text t) ∙ ap names_of d.yields) ∙ (numbered text (tokens text) [] (sym (append-nil (tokens text)))).count

module _ (text : List ℕ) (T : Table Token) (names : Table Name) (t : Text) (f : Filled text T names t) (S : Source)
    (text_is : S.names.text.now ≡ text) (tokens_are : S.tokens.now ≡ contents T) (names_are : S.names.records.now ≡ contents names) where
  -- the tables are the row that the tree spells
  row_spelled : row S ≡ spell_text t
  row_spelled =
      let same : row S ≡ terminals text (tokens text) =
      λ i. map (λ (x : Token). terminal_of x.kind (number_of (text_is i) ((names_are ∙ f.names_are) i) (spelling (text_is i) x))) ((tokens_are ∙ f.tokens_are) i) in
      same ∙ sym f.derives.yields ∙ spelled_text t

  pub translates : (r : Translated) (empty after : Table Occurrence) → contents empty ≡ [] → 256 ≤ length (all_places empty) → PathsTold S first 0 r empty after → Translates t r after
  translates r empty after none room told =
      let many = limits_count t f.within in
      let few = doors_are_few t in
      let spelled = spelled_text t in
      let p : how_many paths (yield_text t) ≡ how_many paths (spell_text t) = ap (how_many paths) spelled in
      let s : how_many semaphores (yield_text t) ≡ how_many semaphores (spell_text t) = ap (how_many semaphores) spelled in
      let c : how_many counters (yield_text t) ≡ how_many counters (spell_text t) = ap (how_many counters) spelled in
      let count = ap length (names_are ∙ f.names_are) ∙ sym (many_names text t f.derives) in
      let limit = f.within.names in
      let o = told.text t 0 0 0 (omega arith) refl refl refl row_spelled (omega arith) (omega arith) (omega arith) f.within.depth in
      let n = length (all_places empty) in
      let fits : length (text_doors t 0 0 0) ≤ n = omega (arith, few.occurrences) in
      record {
        doors = o.added ∙ ap (λ l. take n (all_told l ++ text_doors t 0 0 0)) none ∙ take_all n (text_doors t 0 0 0) fits;
        names = o.names ∙ count;
        operations = λ a. names_numbered text t f.derives a ∙ ap (ltb a) (sym (o.names ∙ ap length (names_are ∙ f.names_are)));
        paths = o.paths ∙ omega arith;
        semaphores = o.semaphores ∙ omega arith;
        counters = o.counters ∙ omega arith;
      }
