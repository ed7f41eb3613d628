-- The law of a replay, from what its steps say.
use Rattle.std.proofs.Common.{◌≡◌, ℕ, ◌≤◌, true, leb, List, [], length, sym, ap, ◌∙◌, subst}
use Rattle.std.proofs.lemmas.Bool.{and_parts, leb-true}
use Rattle.paths.specs.Grammar.{Text}
use Rattle.table.specs.declared.Table.{Table}
use Rattle.table.specs.Contents.{all_places}
use Rattle.tokens.specs.declared.Token.{Token}
use Rattle.tokens.specs.declared.Name.{Name}
use Rattle.rules.specs.Rules.{Within}
use Rattle.rules.proofs.Within.{one_derivation}
use Rattle.reading.specs.declared.Read.{Read}
use Rattle.reading.specs.Outcome.{TextRead}
use Rattle.doors.specs.declared.Occurrence.{Occurrence}
use Rattle.translation.specs.declared.Translated.{Translated}
use Rattle.translation.specs.Translation.{Filled, Translates, enough}
use Rattle.rooms.specs.declared.entry.Entry.{Entry}
use Rattle.rooms.specs.Entries.{In}
use Rattle.rooms.specs.Rule.{Rule}
use Rattle.run.specs.declared.answer.Closed.{Closed}
use Rattle.run.specs.declared.answer.LetIn.{LetIn}
use Rattle.run.specs.declared.call.Answer.{Answer}
use Rattle.run.specs.declared.call.Call.{Call}
use Rattle.run.specs.Carried.{CarriedAll}
use Rattle.run.specs.Closing.{Totaled}
use Rattle.run.specs.Memory.{View, Reached}
use Rattle.run.specs.Records.{Record}
use Rattle.run.specs.Whole.{tables, Replayed}
use Rattle.run.proofs.Unique.{One, one_run}

-- a translation that was not refused had a table with places enough
pub places_enough : (ts : Table Token) (ns : Table Name) (os : Table Occurrence) → true ≡ enough ts ns os → 256 ≤ length (all_places os)
places_enough ts ns os e = leb-true 256 _ (and_parts (leb 64 (length (all_places ns))) (leb 256 (length (all_places os))) (and_parts (leb 1088 (length (all_places ts))) _ (sym e)).1).1

module _ {R : Type 0} (places : ℕ) (rule : Rule) (one : One rule) (entries : R → List Entry) (text : List ℕ) (ts : Table Token) (ns : Table Name) (os : Table Occurrence) where
  pub replayed : (rd : Read) (tr : Translated) (v w : View R) (cs : List Call) (old new : List Answer) (before after : List LetIn) (r : Closed R) →
      TextRead text ts ns rd →
      ((t : Text) → Filled text ts ns t → Translates t tr os) →
      ((t : Text) → Within t → Translates t tr os → Reached t rule v []) →
      CarriedAll places rule v w cs old new before after →
      ((t : Text) (rs : List Record) → Reached t rule w rs → Totaled rs r.totals) →
      entries r.room ≡ w.entries →
      Replayed places rule entries text (tables ts ns os) cs old new before after r
  replayed rd tr v w cs old new before after r done translates opens carried totals same =
      let (t, derives, within, short) = done.derivable in
      let filled : Filled text ts ns t = record { derives = derives; within = within; tokens_are = done.tokens_are; names_are = done.names_are } in
      let translated = translates t filled in
      let (rs, recorded, reached) = carried t (opens t within translated) in
      let m = reached.0 in
      record {
        tree = t;
        filled = filled;
        short = short;
        only = λ t' d. one_derivation text t' t d derives;
        doors = translated.doors;
        law = record {
          records = rs;
          recorded = recorded;
          waits = λ x. (λ i. (m.waits x).0 (subst (In x) same i), λ i. subst (In x) (sym same) ((m.waits x).1 i));
          many = ap length same ∙ m.many;
          totaled = totals t rs reached;
          only = λ qs e lent told. one_run t places rule one (length before) qs rs e lent recorded.lent told recorded.told;
        };
      }
