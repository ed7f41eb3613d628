-- What a table holds.
use Rattle.std.specs.Prelude.{◌≡◌, ◌≤◌, List, length, take, drop}
use Rattle.table.specs.declared.Table.{Table}

-- all the places, taken or not
abbrev pub all_places : {T : Type 0} → Table T → List T
all_places t = t.rows.places.now

-- the records, in the order in which they were added
abbrev pub contents : {T : Type 0} → Table T → List T
contents t = take t.count (all_places t)

-- the table has as many places as before, and those behind the last record hold what they held
pub record RestSame {T : Type 0} (t t' : Table T) : Type 0 where
  pub places : length (all_places t') ≡ length (all_places t)
  pub rest : drop (length (contents t')) (all_places t') ≡ drop (length (contents t')) (all_places t)

-- records were only added, and the places behind the last record hold what they held
pub record RestKept {T : Type 0} (t t' : Table T) : Type 0 where
  pub same : RestSame t t'
  pub grows : length (contents t) ≤ length (contents t')
