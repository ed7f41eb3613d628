-- The words of a path, and the histories that fit it.
use Rattle.std.specs.Prelude.{◌≡◌, ◌⊎◌, ◌≢◌, Bool, true, false, cond, List, [], ◌∷◌, ◌++◌, map, ℕ, suc, max, ◌≤◌, eqb}
use Rattle.paths.specs.Grammar.{Sequence, Selection, Element, last, ◌⨟◌, only, ◌or◌, name, round, brace}

-- ⊕ a, the letting-in of operation a, and ⊖ a, its end
pub data Event : Type 0 where
  ⊕ : ℕ → Event
  ⊖ : ℕ → Event

abbrev pub operation : Event → ℕ
operation (⊕ a) = a
operation (⊖ a) = a

abbrev pub History : Type 0
History = List Event

-- a set of histories
abbrev pub Language : Type 1
Language = History → Type 0

-- An event dealt out to a hand. A row of these deals a history out to as many hands as one likes.
pub record Dealt : Type 0 where
  pub hand : ℕ
  pub event : Event

-- what hand k holds, in the order of the row
abbrev pub held : ℕ → List Dealt → History
held k [] = []
held k (x ∷ d) = cond (eqb k x.hand) (x.event ∷ held k d) (held k d)

-- the history that was dealt out
abbrev pub events : List Dealt → History
events d = map (λ (x : Dealt). x.event) d

-- Every hand that holds anything holds a word of L; and wherever the row is cut inside, some hand has begun its word before the cut and
-- finishes it behind.
pub record Overlapping (L : Language) (d : List Dealt) : Type 0 where
  pub some_dealt : d ≢ []
  pub words : (k : ℕ) → (held k d ≡ []) ⊎ L (held k d)
  pub inside : (u v : List Dealt) → d ≡ u ++ v → u ≢ [] → v ≢ [] → (k : ℕ) × (held k u ≢ []) × (held k v ≢ [])

-- the histories that can be dealt out so
abbrev pub Burst : Language → Language
Burst L w = (d : List Dealt) × (events d ≡ w) × Overlapping L d

abbrev mutual
  -- a word of each of its selections, in order
  pub word_of_sequence : Sequence → Language
  word_of_sequence (last l) w = word_of_selection l w
  word_of_sequence (l ⨟ s) w = (u v : History) × (w ≡ u ++ v) × word_of_selection l u × word_of_sequence s v

  -- a word of one of its elements
  pub word_of_selection : Selection → Language
  word_of_selection (only e) w = word_of_element e w
  word_of_selection (e or l) w = word_of_element e w ⊎ word_of_selection l w

  -- a name begins and ends; round brackets change nothing; between braces words overlap
  pub word_of_element : Element → Language
  word_of_element (name a) w = w ≡ ⊕ a ∷ ⊖ a ∷ []
  word_of_element (round s) w = word_of_sequence s w
  word_of_element (brace s) w = Burst (word_of_sequence s) w

-- words of L set one behind the other, or none
pub data Row (L : Language) : History → Type 0 where
  no_word : {w : History} → w ≡ [] → Row L w
  one_more : {w : History} (u v : History) → w ≡ u ++ v → L u → Row L v → Row L w

-- the words of a path
abbrev pub Word : Sequence → Language
Word p w = Row (word_of_sequence p) w

-- the names of a tree, from left to right
abbrev mutual
  pub names_of_sequence : Sequence → List ℕ
  names_of_sequence (last l) = names_of_selection l
  names_of_sequence (l ⨟ s) = names_of_selection l ++ names_of_sequence s

  pub names_of_selection : Selection → List ℕ
  names_of_selection (only e) = names_of_element e
  names_of_selection (e or l) = names_of_element e ++ names_of_selection l

  pub names_of_element : Element → List ℕ
  names_of_element (name a) = a ∷ []
  names_of_element (round s) = names_of_sequence s
  names_of_element (brace s) = names_of_sequence s

-- is a one of these names?
abbrev pub among : ℕ → List ℕ → Bool
among a [] = false
among a (b ∷ bs) = cond (eqb a b) true (among a bs)

-- the events of the names ns alone
abbrev pub seen : List ℕ → History → History
seen ns [] = []
seen ns (e ∷ h) = cond (among (operation e) ns) (e ∷ seen ns h) (seen ns h)

-- without the events of names that the path lacks, h is a word of the path or the beginning of one
abbrev pub Fits : Sequence → History → Type 0
Fits p h = (rest : History) × Word p (seen (names_of_sequence p) h ++ rest)

-- no name stands twice
abbrev pub Distinct : List ℕ → Type 0
Distinct [] = Unit {0}
Distinct (a ∷ ns) = (among a ns ≡ false) × Distinct ns

-- how many braces of a tree are open at once, at most
abbrev mutual
  pub braces_of_sequence : Sequence → ℕ
  braces_of_sequence (last l) = braces_of_selection l
  braces_of_sequence (l ⨟ s) = max (braces_of_selection l) (braces_of_sequence s)

  pub braces_of_selection : Selection → ℕ
  braces_of_selection (only e) = braces_of_element e
  braces_of_selection (e or l) = max (braces_of_element e) (braces_of_selection l)

  pub braces_of_element : Element → ℕ
  braces_of_element (name a) = 0
  braces_of_element (round s) = braces_of_sequence s
  braces_of_element (brace s) = suc (braces_of_sequence s)

-- what is asked of a path: no name twice, and no brace inside a brace
pub record Proper (p : Sequence) : Type 0 where
  pub distinct : Distinct (names_of_sequence p)
  pub unnested : braces_of_sequence p ≤ 1
