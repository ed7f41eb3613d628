-- What each reader leaves, from what the readers that it calls leave.
use Rattle.std.proofs.Common.{◌≡◌, ℕ, ◌+◌, ◌<◌, ◌≤◌, List, [], ◌∷◌, ◌++◌, map, length, Some, None, sym, ap, ◌∙◌, subst, append_assoc, append-nil, arith, length-take}
use lib.ListN.{length-map}
use Rattle.std.proofs.lemmas.List.{take_all}
use Rattle.table.specs.declared.Table.{Table}
use Rattle.table.specs.Contents.{contents, all_places, RestKept}
use Rattle.paths.specs.Grammar.{Terminal, semicolon, comma, round_open, round_close, brace_open, brace_close, path, end, word}
use Rattle.paths.specs.Grammar.{Text, one, more, Sequence, last, ◌⨟◌, only, ◌or◌, name, round, brace}
use Rattle.paths.specs.Doors.{plain, with_counter, Occurrence as TheOccurrence, semaphores_in_sequence, semaphores_in_selection, semaphores_in_element, counters_in_sequence, counters_in_selection, counters_in_element, path_doors}
use Rattle.paths.specs.Texts.{text_doors}
use Rattle.paths.specs.Sizes.{how_many, paths, semaphores, counters}
use Rattle.tokens.specs.declared.Kind.TheVariants.{Comma, RoundOpen, BraceOpen, Path, Name}
use Rattle.rules.specs.Rules.{depth_of_sequence, depth_of_text}
use Rattle.doors.specs.declared.Occurrence.{Occurrence}
use Rattle.doors.specs.Told.{door_of, told, all_told}
use Rattle.translation.specs.declared.Translated.{Translated}
use Rattle.translation.specs.declared.steps.Place.{Place}
use Rattle.translation.specs.declared.steps.Between.{Between}
use Rattle.translation.specs.declared.text.Source.{Source}
use Rattle.translation.specs.Rows.{row, ahead, kind_of, kinds_from, front, Added, later, Past}
use Rattle.translation.specs.Trees.{spell_sequence, spell_selection, spell_text, by_round, by_brace, by_end, scan, Done, SequenceTold, SelectionTold, ElementTold, BracketTold, Over, PathsTold}
use Rattle.doors.proofs.Opened.{take_again}
use Rattle.translation.proofs.Lists.{row_inside, row_next, kinds_are}
use Rattle.translation.proofs.Scan.{clash, later_is, closed_comma, scan_last, scan_more}
use Rattle.translation.proofs.Spelled.{taken_sequence}

-- ---- records added behind records
added_then : (t u v : Table Occurrence) (os ps : List TheOccurrence) → RestKept t u → Added t os u → Added u ps v → Added t (os ++ ps) v
added_then t u v os ps k a b =
    grind (arith, k.same.places, take_again (length (all_places t)) (all_told (contents t) ++ os) ps, append_assoc (all_told (contents t)) os ps)

added_none : (t : Table Occurrence) → Added t [] t
added_none t =
    let n = length (all_places t) in
    let fits : length (all_told (contents t) ++ []) ≤ n = simp (append-nil, length-map, length-take) (omega arith) in
    sym (take_all n (all_told (contents t) ++ []) fits ∙ append-nil (all_told (contents t)))

-- behind the next token
past_row : (S : Source) (p r : Place) (k : Terminal) (rest : List Terminal) → (p.token < length S.tokens.now → r.token ≡ p.token + 1) → ahead S p.token ≡ k ∷ rest → ahead S r.token ≡ rest
past_row S p r k rest moved h = grind (arith, row_inside S p.token k rest h, row_next (row S) p.token k rest h)

module _ (S : Source) where
  ka : (i : ℕ) (r : List Terminal) → ahead S i ≡ r → kinds_from S.tokens.now i ≡ map kind_of r
  ka i r h = kinds_are S i r h

  module _ (depth : ℕ) where
    -- ---- a selection
    pub selection_only : (start : Place) (b : Between) (here : Place) (t u : Table Occurrence) → (front (kinds_from S.tokens.now here.token) ≡ Some Comma → ⊥) →
        ElementTold S depth start b here t u → SelectionTold S depth start b here t u
    selection_only start b here t u no-comma el (only e) rest p s c left right st nc h hs hc hd = el e rest p s c left right st h hs hc hd
    selection_only start b here t u no-comma el (e or l) rest p s c left right st nc h hs hc hd =
        let d = el e (comma ∷ spell_selection l rest) p s c left right st h (omega arith) (omega arith) (omega arith) in
        absurd (no-comma (ap front (ka here.token _ d.row)))

    pub selection_more : (start : Place) (b : Between) (here next to : Place) (t u v : Table Occurrence) → Some Comma ≡ front (kinds_from S.tokens.now here.token) → Past S.tokens.now here next → RestKept t u →
        ElementTold S depth start b here t u → SelectionTold S depth next b to u v → SelectionTold S depth start b to t v
    selection_more start b here next to t u v is-comma past kept el sel (only e) rest p s c left right st nc h hs hc hd =
        let d = el e rest p s c left right st h hs hc hd in
        absurd (nc (ap front (sym (ka here.token _ d.row)) ∙ sym is-comma))
    selection_more start b here next to t u v is-comma past kept el sel (e or l) rest p s c left right st nc h hs hc hd =
        let d = el e (comma ∷ spell_selection l rest) p s c left right st h (omega arith) (omega arith) (omega arith) in
        let s' = s + semaphores_in_element e in
        let c' = c + counters_in_element e in
        let f = sel l rest p s' c' left right
        (record { few = st.few; semaphore = past.semaphore ∙ d.semaphore; counter = past.counter ∙ d.counter; number = st.number; left_door = st.left_door; right_door = st.right_door }) nc
        (past_row S here next comma (spell_selection l rest) past.moved d.row) (omega arith) (omega arith) (omega arith) in
        record { row = f.row; semaphore = f.semaphore ∙ omega arith; counter = f.counter ∙ omega arith; added = added_then t u v _ _ kept d.added f.added }

    -- ---- a sequence
    pub sequence_last : (start : Place) (b : Between) (to : Place) (t u : Table Occurrence) → None ≡ scan 0 start.semaphore (kinds_from S.tokens.now start.token) →
        SelectionTold S depth start b to t u → SequenceTold S depth start b to t u
    sequence_last start b to t u none sel (last l) rest p s c left right st cl h hs hc hd = sel l rest p s c left right st (closed_comma cl) h hs hc hd
    sequence_last start b to t u none sel (l ⨟ q) rest p s c left right st cl h hs hc hd =
        let e = scan_more l s (spell_sequence q rest) (omega arith) in
        let f = ap (λ n. scan 0 n (kinds_from S.tokens.now start.token)) st.semaphore ∙ ap (scan 0 s) (ka start.token _ h) in
        clash (cc)

    pub sequence_more : (start : Place) (b first others : Between) (n : ℕ) (here next go to : Place) (t u v : Table Occurrence) → Some n ≡ scan 0 start.semaphore (kinds_from S.tokens.now start.token) →
        first.path ≡ b.path → first.left ≡ b.left → (n < 256 → door_of first.right ≡ plain n) →
        others.path ≡ b.path → (n < 256 → door_of others.left ≡ plain n) → others.right ≡ b.right →
        Past S.tokens.now here next → go.token ≡ next.token → go.semaphore ≡ later next.semaphore → go.counter ≡ next.counter → RestKept t u →
        SelectionTold S depth start first here t u → SequenceTold S depth go others to u v → SequenceTold S depth start b to t v
    sequence_more start b first others n here next go to t u v found fp fl fr op ol or' past gt gs gc kept sel seq (last l) rest p s c left right st cl h hs hc hd =
        let e = scan_last l s rest cl hs in
        let f = ap (λ n. scan 0 n (kinds_from S.tokens.now start.token)) st.semaphore ∙ ap (scan 0 s) (ka start.token _ h) in
        clash (cc)
    sequence_more start b first others n here next go to t u v found fp fl fr op ol or' past gt gs gc kept sel seq (l ⨟ q) rest p s c left right st cl h hs hc hd =
        let m = s + semaphores_in_selection l in
        let c' = c + counters_in_selection l in
        let e = scan_more l s (spell_sequence q rest) (omega arith) in
        let f = ap (λ n. scan 0 n (kinds_from S.tokens.now start.token)) st.semaphore ∙ ap (scan 0 s) (ka start.token _ h) in
        let same : n ≡ m = cc in
        let small : m < 256 = omega arith in
        let below : n < 256 = omega arith in
        let d = sel l (semicolon ∷ spell_sequence q rest) p s c left (plain m)
        (record { few = st.few; semaphore = st.semaphore; counter = st.counter; number = fp ∙ st.number; left_door = ap door_of fl ∙ st.left_door; right_door = fr below ∙ ap plain same })
        (λ x. clash (cc)) h (omega arith) (omega arith) (omega arith) in
        let g = seq q rest p (m + 1) c' (plain m) right
        (record {
          few = st.few;
          semaphore = gs ∙ ap later (past.semaphore ∙ d.semaphore) ∙ later_is m small;
          counter = gc ∙ past.counter ∙ d.counter;
          number = op ∙ st.number;
          left_door = ol below ∙ ap plain same;
          right_door = ap door_of or' ∙ st.right_door;
        })
        cl (ap (λ i. ahead S i) gt ∙ past_row S here next semicolon (spell_sequence q rest) past.moved d.row) (omega arith) (omega arith) (omega arith) in
        record { row = g.row; semaphore = g.semaphore ∙ omega arith; counter = g.counter ∙ omega arith; added = added_then t u v _ _ kept d.added g.added }

    -- ---- an element
    pub element_name : (start : Place) (b : Between) (n : ℕ) (o : Occurrence) (next : Place) (t u : Table Occurrence) → Some Name ≡ front (kinds_from S.tokens.now start.token) → Past S.tokens.now start next →
        ((m : ℕ) (rest : List Terminal) → ahead S start.token ≡ word m ∷ rest → length S.names.records.now ≤ 255 → n ≡ m) →
        o.path ≡ b.path → o.operation ≡ n → o.left ≡ b.left → o.right ≡ b.right → Added t (told o ∷ []) u → ElementTold S depth start b next t u
    element_name start b n o next t u kind past num op oo ol or' a (name m) rest p s c left right st h hs hc hd =
        let same : n ≡ m = num m rest h st.few in
        let one : told o ≡ record { path = p; operation = m; left = left; right = right } =
        λ i. record { path = (op ∙ st.number) i; operation = (oo ∙ same) i; left = (ap door_of ol ∙ st.left_door) i; right = (ap door_of or' ∙ st.right_door) i } in
        record {
          row = past_row S start next (word m) rest past.moved h;
          semaphore = past.semaphore ∙ st.semaphore ∙ omega arith;
          counter = past.counter ∙ st.counter ∙ omega arith;
          added = subst (λ x. Added t (x ∷ []) u) one a;
        }
    element_name start b n o next t u kind past num op oo ol or' a (round q) rest p s c left right st h hs hc hd = let k = kind ∙ ap front (ka start.token _ h) in clash (cc)
    element_name start b n o next t u kind past num op oo ol or' a (brace q) rest p s c left right st h hs hc hd = let k = kind ∙ ap front (ka start.token _ h) in clash (cc)

    pub element_round : (start : Place) (b : Between) (next to : Place) (t u : Table Occurrence) → Some RoundOpen ≡ front (kinds_from S.tokens.now start.token) → Past S.tokens.now start next →
        BracketTold S depth next b to t u → ElementTold S depth start b to t u
    element_round start b next to t u kind past br (name m) rest p s c left right st h hs hc hd = let k = kind ∙ ap front (ka start.token _ h) in clash (cc)
    element_round start b next to t u kind past br (round q) rest p s c left right st h hs hc hd =
        br q round_close rest p s c left right
        (record { few = st.few; semaphore = past.semaphore ∙ st.semaphore; counter = past.counter ∙ st.counter; number = st.number; left_door = st.left_door; right_door = st.right_door })
        by_round (past_row S start next round_open (spell_sequence q (round_close ∷ rest)) past.moved h) hs hc (omega arith)
    element_round start b next to t u kind past br (brace q) rest p s c left right st h hs hc hd = let k = kind ∙ ap front (ka start.token _ h) in clash (cc)

    pub element_brace : (start : Place) (b inner : Between) (next go to : Place) (t u : Table Occurrence) → Some BraceOpen ≡ front (kinds_from S.tokens.now start.token) → Past S.tokens.now start next →
        inner.path ≡ b.path → (start.counter < 256 → door_of inner.left ≡ with_counter start.counter (door_of b.left)) →
        (start.counter < 256 → door_of inner.right ≡ with_counter start.counter (door_of b.right)) →
        go.token ≡ next.token → go.semaphore ≡ next.semaphore → go.counter ≡ later next.counter → BracketTold S depth go inner to t u → ElementTold S depth start b to t u
    element_brace start b inner next go to t u kind past ip il ir gt gs gc br (name m) rest p s c left right st h hs hc hd = let k = kind ∙ ap front (ka start.token _ h) in clash (cc)
    element_brace start b inner next go to t u kind past ip il ir gt gs gc br (round q) rest p s c left right st h hs hc hd = let k = kind ∙ ap front (ka start.token _ h) in clash (cc)
    element_brace start b inner next go to t u kind past ip il ir gt gs gc br (brace q) rest p s c left right st h hs hc hd =
        let small : c < 256 = omega arith in
        let below : start.counter < 256 = omega (arith, st.counter) in
        let d = br q brace_close rest p s (c + 1) (with_counter c left) (with_counter c right)
        (record {
          few = st.few;
          semaphore = gs ∙ past.semaphore ∙ st.semaphore;
          counter = gc ∙ ap later (past.counter ∙ st.counter) ∙ later_is c small;
          number = ip ∙ st.number;
          left_door = il below ∙ (λ i. with_counter (st.counter i) (st.left_door i));
          right_door = ir below ∙ (λ i. with_counter (st.counter i) (st.right_door i));
        })
        by_brace (ap (λ i. ahead S i) gt ∙ past_row S start next brace_open (spell_sequence q (brace_close ∷ rest)) past.moved h) hs (omega arith) (omega arith) in
        record { row = d.row; semaphore = d.semaphore; counter = d.counter ∙ omega arith; added = d.added }

    -- nothing is ahead, or what begins no element
    pub element_none : (start : Place) (b : Between) (to : Place) (t u : Table Occurrence) →
        (front (kinds_from S.tokens.now start.token) ≡ Some Name → ⊥) → (front (kinds_from S.tokens.now start.token) ≡ Some RoundOpen → ⊥) →
        (front (kinds_from S.tokens.now start.token) ≡ Some BraceOpen → ⊥) → ElementTold S depth start b to t u
    element_none start b to t u nn nr nb (name m) rest p s c left right st h hs hc hd = absurd (nn (ap front (ka start.token _ h)))
    element_none start b to t u nn nr nb (round q) rest p s c left right st h hs hc hd = absurd (nr (ap front (ka start.token _ h)))
    element_none start b to t u nn nr nb (brace q) rest p s c left right st h hs hc hd = absurd (nb (ap front (ka start.token _ h)))

    -- ---- a bracket
    pub bracket_closed : (inner : ℕ) (start : Place) (b : Between) (here to : Place) (t u : Table Occurrence) → depth ≡ inner + 1 → SequenceTold S inner start b here t u →
        Past S.tokens.now here to → BracketTold S depth start b to t u
    bracket_closed inner start b here to t u deep seq past q k rest p s c left right st cl h hs hc hd =
        let d = seq q (k ∷ rest) p s c left right st cl h hs hc (omega arith) in
        record { row = past_row S here to k rest past.moved d.row; semaphore = past.semaphore ∙ d.semaphore; counter = past.counter ∙ d.counter; added = d.added }

  -- ---- the paths
  abbrev TextTold : Place → ℕ → Translated → Table Occurrence → Table Occurrence → Text → ℕ → ℕ → ℕ → Type 0
  TextTold start n r before after t k s c =
      length S.names.records.now ≤ 255 → n ≡ k → start.semaphore ≡ s → start.counter ≡ c → ahead S start.token ≡ spell_text t →
      k + how_many paths (spell_text t) ≤ 256 → s + how_many semaphores (spell_text t) ≤ 256 → c + how_many counters (spell_text t) ≤ 256 → depth_of_text t ≤ 16 →
      Over S r (k + how_many paths (spell_text t)) (s + how_many semaphores (spell_text t)) (c + how_many counters (spell_text t)) before (text_doors t k s c) after

  pub paths_none : (start : Place) (n : ℕ) (r : Translated) (t : Table Occurrence) → (front (kinds_from S.tokens.now start.token) ≡ Some Path → ⊥) →
      r.names ≡ length S.names.records.now → r.paths ≡ n → r.semaphores ≡ start.semaphore → r.counters ≡ start.counter → PathsTold S start n r t t
  paths_none start n r t no-path rn rp rs rc = record { none = λ _. record { names = rn; paths = rp; semaphores = rs; counters = rc; added = added_none t }; text = go }
    where
      go : (x : Text) (k s c : ℕ) → TextTold start n r t t x k s c
      go (one p) k s c few ek es ec h hk hs hc hd = absurd (no-path (ap front (ka start.token _ h)))
      go (more p x) k s c few ek es ec h hk hs hc hd = absurd (no-path (ap front (ka start.token _ h)))

  module _ (start : Place) (n : ℕ) (b : Between) (next go here on : Place) (n' : ℕ) (r : Translated) (t u v : Table Occurrence)
      (kind : Some Path ≡ front (kinds_from S.tokens.now start.token)) (past : Past S.tokens.now start next) (gt : go.token ≡ next.token) (gs : go.semaphore ≡ later next.semaphore) (gc : go.counter ≡ next.counter)
      (bp : n < 256 → b.path ≡ n) (bl : start.semaphore < 256 → door_of b.left ≡ plain start.semaphore) (br : start.semaphore < 256 → door_of b.right ≡ plain start.semaphore) (nn : n' ≡ later n)
      (kept : RestKept t u) (seq : SequenceTold S 16 go b here t u) (behind : Past S.tokens.now here on) (others : PathsTold S on n' r u v) where
    one_path : (q : Sequence) (rest : List Terminal) (k s c : ℕ) → length S.names.records.now ≤ 255 → n ≡ k → start.semaphore ≡ s → start.counter ≡ c → ahead S start.token ≡ path ∷ spell_sequence q (end ∷ rest) → k < 256 →
        s + 1 + semaphores_in_sequence q ≤ 256 → c + counters_in_sequence q ≤ 256 → depth_of_sequence q ≤ 16 →
        Done S (end ∷ rest) here (s + 1 + semaphores_in_sequence q) (c + counters_in_sequence q) t (path_doors q k s c) u
    one_path q rest k s c few ek es ec h hk hs hc hd =
        let small : s < 256 = omega arith in
        let below : start.semaphore < 256 = omega arith in
        seq q (end ∷ rest) k (s + 1) c (plain s) (plain s)
        (record {
          few = few;
          semaphore = gs ∙ ap later (past.semaphore ∙ es) ∙ later_is s small;
          counter = gc ∙ past.counter ∙ ec;
          number = bp (omega arith) ∙ ek;
          left_door = bl below ∙ ap plain es;
          right_door = br below ∙ ap plain es;
        })
        by_end (ap (λ i. ahead S i) gt ∙ past_row S start next path (spell_sequence q (end ∷ rest)) past.moved h) hs hc hd

    text_more : (x : Text) (k s c : ℕ) → TextTold start n r t v x k s c
    text_more (one q) k s c few ek es ec h hk hs hc hd =
        let a = taken_sequence q (end ∷ []) in
        let d = one_path q [] k s c few ek es ec h (omega arith) (omega arith) (omega arith) hd in
        let o = others.none (past_row S here on end [] behind.moved d.row) in
        let n_is = nn ∙ ap later ek ∙ later_is k (omega arith) in
        let s_is = behind.semaphore ∙ d.semaphore in
        let c_is = behind.counter ∙ d.counter in
        record {
          names = o.names;
          paths = o.paths ∙ n_is ∙ omega arith;
          semaphores = o.semaphores ∙ s_is ∙ omega arith;
          counters = o.counters ∙ c_is ∙ omega arith;
          added = subst (λ os. Added t os v) (append-nil (path_doors q k s c)) (added_then t u v _ _ kept d.added o.added);
        }
    text_more (more q x) k s c few ek es ec h hk hs hc hd =
        let a = taken_sequence q (end ∷ spell_text x) in
        let d = one_path q (spell_text x) k s c few ek es ec h (omega arith) (omega arith) (omega arith) (omega arith) in
        let o = others.text x (k + 1) (s + 1 + semaphores_in_sequence q) (c + counters_in_sequence q) few (nn ∙ ap later ek ∙ later_is k (omega arith))
        (behind.semaphore ∙ d.semaphore) (behind.counter ∙ d.counter) (past_row S here on end (spell_text x) behind.moved d.row) (omega arith) (omega arith) (omega arith) (omega arith) in
        record {
          names = o.names;
          paths = o.paths ∙ omega arith;
          semaphores = o.semaphores ∙ omega arith;
          counters = o.counters ∙ omega arith;
          added = added_then t u v _ _ kept d.added o.added;
        }

    pub paths_more : PathsTold S start n r t v
    paths_more = record { none = λ h. let k = kind ∙ ap front (ka start.token _ h) in clash (cc); text = text_more }
