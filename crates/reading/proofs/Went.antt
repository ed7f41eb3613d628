-- Where a reading stands behind one token more, and where it is refused.
use Rattle.std.proofs.Common.{◌≡◌, ℕ, Bool, cond, ltb, set, ◌<◌, ◌≤◌, List, [], ◌∷◌, ◌++◌, length, drop, Some, None, Ok, Err, sym, refl, ap, ◌∙◌, subst, arith, length-append}
use lib.ListN.{length-map}
use Rattle.table.specs.declared.Table.{Table}
use Rattle.table.specs.Contents.{contents, all_places, RestKept}
use Rattle.table.proofs.Rest.{kept_same, Added, added}
use Rattle.paths.specs.Grammar.{Terminal}
use Rattle.paths.specs.Sizes
use Rattle.tokens.specs.declared.Token.{Token}
use Rattle.tokens.specs.declared.Name.{Name as First}
use Rattle.tokens.specs.declared.BytesFault.TheVariants.{TooLong, NoToken, LongName}
use Rattle.tokens.specs.Tokens.{at_end, no_token, long_name}
use Rattle.tokens.specs.Reader as reader
use Rattle.rules.specs.Names.{with_first, firsts, terminal, terminals}
use Rattle.rules.specs.Rules.{opening, closing, names_of, own_from, begins_sentence, Kept, Told}
use Rattle.rules.specs.Faults.{Refused}
use Rattle.rules.specs.Reader.{Reached}
use Rattle.rules.specs.Automaton.{start, step, run}
use Rattle.rules.proofs.Automaton.{run_append}
use Rattle.rules.proofs.Rows.{many_append, names_append}
use Rattle.rules.proofs.Within.{count_names}
use Rattle.rules.proofs.Counts.{kept_length, own_snoc}
use Rattle.rules.proofs.Numbers.{firsts_snoc}
use Rattle.rules.proofs.Admit.{tell_sentence}
use Rattle.rules.proofs.Reader.{reads_on, stops}
use Rattle.rules.proofs.Steps.{terminals_snoc, refused_at, refused_byte, refused_name, refused_short}
use Rattle.reading.specs.declared.Reading.{Reading}
use Rattle.reading.specs.declared.counting.Counts.{Counts}
use Rattle.reading.specs.declared.GrammarFault.{GrammarFault}
use Rattle.reading.specs.declared.ReadFault.{ReadFault}
use Rattle.reading.specs.declared.ReadFault.TheVariants.{Grammar, Rule, TooFewPlaces}
use Rattle.reading.specs.Outcome.{Tells}
use Rattle.reading.specs.Counting.{Own, CountedOrRefused}
use Rattle.reading.specs.Standing.{Follows, Counted}
use Rattle.reading.specs.State.{Ahead, bytes, taken, row, standing, Fits, Onward, Failed, StuckWith, refused_by}
use Rattle.reading.proofs.Taking.{rule_of, same_number, reached, terminal_now, known, limit_told, allowed_kept}

-- ---- no step
pub stay : (r : Reading) → Onward r r
stay r = record { same_text = refl; same_tokens = refl; same_names = refl; tokens_kept = kept_same r.tokens.now; names_kept = kept_same r.names.now }

-- at most 1,056 tokens are taken
pub few : (r : Reading) → length (taken r) ≤ 1056
few r = let k = kept_length (row r) r.kept in let l = length-map (taken r) (terminal (bytes r)) in omega arith

-- the table has a place for one more
pub room : (r : Reading) → length (taken r) < length (all_places r.tokens.now)
room r = omega (arith, few r, r.token_places)

-- the grammar lets nothing stand that follows
pub refuse : (r : Reading) (g : GrammarFault) → g ≡ refused_by r.ahead (length (bytes r)) → StuckWith r r.ahead → Failed r r (Grammar g)
refuse r g p s = record { onward = stay r; tells = subst (λ (x : GrammarFault). Tells (bytes r) (taken r) (Grammar x)) (sym p) (go r.ahead r.follows s) }
  where
    go : (a : Ahead) → Follows (bytes r) (taken r) r.source.place a → StuckWith r a → Tells (bytes r) (taken r) (Grammar (refused_by a (length (bytes r))))
    go (Ok None) e s = (length (bytes r), refl, refused_short (bytes r) (taken r) r.short r.kept e s)
    go (Ok (Some t)) e s = (
      t.place,
      refl,
      refused_at (bytes r) (taken r) r.short r.kept t r.source.place begins_sentence e (tell_sentence _ (run_append start (row r) (terminal (bytes r) t ∷ []) ∙ s)),
    )
    go (Err TooLong) e s = absurd e
    go (Err (NoToken p)) e s = (p, refl, refused_byte (bytes r) (taken r) r.short r.kept p e)
    go (Err (LongName p)) e s = (p, refl, refused_name (bytes r) (taken r) r.short r.kept p e)

-- ---- a limit is passed
pub passes : (r r' : Reading) (t : Token) → Fits t r → (e : ReadFault) → CountedOrRefused (bytes r) t r.counts r.names.now r'.counts r'.names.now (Err e) → r'.text ≡ r.text →
    r'.tokens ≡ r.tokens → r'.names.ghost_name ≡ r.names.ghost_name → Failed r r' e
passes r r' t f (Grammar g) k x y z = absurd k
passes r r' t f (Rule l p) k x y z = record {
  onward = record {
    same_text = ap (λ v. v.now) x;
    same_tokens = ap (λ v. v.ghost_name) y;
    same_names = z;
    tokens_kept = subst (λ v. RestKept r.tokens.now v.now) (sym y) (kept_same r.tokens.now);
    names_kept = subst (RestKept r.names.now) (sym k.0.2) (kept_same r.names.now);
  };
  tells = subst (λ v. Tells (bytes r) (contents v.now) (Rule l p)) (sym y) (subst (λ (q : ℕ). Tells (bytes r) (taken r) (Rule l q)) (sym k.1) (
    t.place,
    refl,
    subst (λ (m : ℕ). Refused (bytes r) (taken r) m t.place) (same_number l)
        (refused_at (bytes r) (taken r) r.short r.kept t r.source.place (rule_of l) (reached r t f)
        (subst (λ (y : Terminal). Told (rule_of l) (row r ++ (y ∷ []))) (sym (known r t f)) (limit_told r t f l k.0.1))),
  ));
}
passes r r' t f TooFewPlaces k x y z = absurd k

-- ---- the token is taken
-- where a reading stands behind one token more
pub record Took (r : Reading) (t : Token) (c : Counts) (ts : Table Token) (ns : Table First) (p : ℕ) (o : Ahead) : Type 0 where
  pub follows : Follows (bytes r) (contents ts) p o
  pub kept : Kept (terminals (bytes r) (contents ts))
  pub listed : contents ns ≡ firsts (bytes r) (contents ts)
  pub counted : Counted c (terminals (bytes r) (contents ts))
  pub stands : run start (terminals (bytes r) (contents ts)) ≡ step (standing r) (terminal (bytes r) t)
  pub further : length (taken r) < length (contents ts)
  pub tokens_kept : RestKept r.tokens.now ts

module _ (r : Reading) (t : Token) (f : Fits t r) (c : Counts) (ns : Table First) (k : CountedOrRefused (bytes r) t r.counts r.names.now c ns (Ok tt)) (ts : Table Token)
    (b : Bool) (full : b ≡ ltb (length (taken r)) (length (all_places r.tokens.now))) (records : contents ts ≡ cond b (taken r ++ (t ∷ [])) (taken r))
    (places : all_places ts ≡ cond b (set (all_places r.tokens.now) (length (taken r)) t) (all_places r.tokens.now)) where
  a : Added r.tokens.now ts t
  a = added r.tokens.now ts t b (room r) full records places

  abbrev y : Terminal
  y = terminal_now r t f

  rows : terminals (bytes r) (contents ts) ≡ row r ++ (y ∷ [])
  rows = ap (terminals (bytes r)) a.records ∙ terminals_snoc (bytes r) (taken r) t ∙ ap (λ (x : Terminal). row r ++ (x ∷ [])) (known r t f)

  counted : Counted c (terminals (bytes r) (contents ts))
  counted =
      let h = r.counted in
      let o = k.1 in
      subst (Counted c) (sym rows) (record {
        paths = (let i = many_append Sizes.paths (row r) (y ∷ []) in let p = h.paths in let q = o.paths in omega arith);
        occurrences = (let i = ap length (names_append (row r) (y ∷ [])) in let l = length-append (names_of (row r)) (names_of (y ∷ [])) in let e = count_names (y ∷ []) in
            let p = h.occurrences in let q = o.occurrences in omega arith);
        brackets = (let i = many_append (opening 1 1) (row r) (y ∷ []) in let p = h.brackets in let q = o.brackets in omega arith);
        depth = (let i = many_append (opening 1 1) (row r) (y ∷ []) in let j = many_append (closing 1 1) (row r) (y ∷ []) in let p = h.depth in let q = o.depth in omega arith);
        braces = (let i = many_append (opening 0 1) (row r) (y ∷ []) in let j = many_append (closing 0 1) (row r) (y ∷ []) in let p = h.braces in let q = o.braces in omega arith);
        own = subst (λ ns. Own c.own ns) (sym (own_snoc [] (row r) y)) (o.own (own_from [] (row r)) h.own);
      })

  there : Reached (bytes r) (contents ts) r.source.place
  there = subst (λ (ts : List Token). Reached (bytes r) ts r.source.place) (sym a.records) (reached r t f)

  follows : (p : ℕ) (o : Ahead) → reader.Found (reader.next r.source.place (drop r.source.place (bytes r))) o → reader.Moved (length (reader.bytes r.source)) r.source.place p o →
      Follows (bytes r) (contents ts) p o
  follows p (Ok None) l m = stops (bytes r) (contents ts) r.source.place at_end there l
  follows p (Ok (Some u)) l m = subst (λ (q : ℕ). Reached (bytes r) (contents ts ++ (u ∷ [])) q) (sym m.0) (reads_on (bytes r) (contents ts) r.source.place u there l)
  follows p (Err TooLong) l m = l
  follows p (Err (NoToken q)) l m = stops (bytes r) (contents ts) r.source.place (no_token q) there l
  follows p (Err (LongName q)) l m = stops (bytes r) (contents ts) r.source.place (long_name q) there l

  pub took : (p : ℕ) (o : Ahead) → reader.Found (reader.next r.source.place (drop r.source.place (reader.bytes r.source))) o →
      reader.Moved (length (reader.bytes r.source)) r.source.place p o → Took r t c ts ns p o
  took p o l m = record {
    follows = follows p o (subst (λ (x : List ℕ). reader.Found (reader.next r.source.place (drop r.source.place x)) o) r.one_text l) m;
    kept = subst Kept (sym rows) (allowed_kept r t f k.0);
    listed = k.2 ∙ ap (λ (fs : List First). with_first (bytes r) fs t) r.listed ∙ sym (firsts_snoc (bytes r) (taken r) t) ∙ ap (firsts (bytes r)) (sym a.records);
    counted = counted;
    stands = ap (run start) rows ∙ run_append start (row r) (y ∷ []) ∙ ap (step (standing r)) (sym (known r t f));
    further = (let l = ap length a.records in let m = length-append (taken r) (t ∷ []) in omega arith);
    tokens_kept = a.kept;
  }
