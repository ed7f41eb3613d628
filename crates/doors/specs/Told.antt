-- What the doors and occurrences of the program mean.
use Rattle.std.specs.Prelude.{ℕ, List, map, Some, None, Option}
use Rattle.paths.specs.Doors.{Door as TheDoor, plain, counted, Occurrence as TheOccurrence}
use Rattle.doors.specs.declared.Door.{Door}
use Rattle.doors.specs.declared.Occurrence.{Occurrence}

-- a semaphore, with a counter if there is one
abbrev pub door_with : ℕ → Option ℕ → TheDoor
door_with s None = plain s
door_with s (Some c) = counted s c

-- the door that a record of the program means
abbrev pub door_of : Door → TheDoor
door_of d = door_with d.semaphore d.counter

-- the occurrence that a record of the program means
abbrev pub told : Occurrence → TheOccurrence
told o = record { path = o.path; operation = o.operation; left = door_of o.left; right = door_of o.right }

-- the occurrences that records mean, in order
abbrev pub all_told : List Occurrence → List TheOccurrence
all_told os = map told os
