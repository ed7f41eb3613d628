-- The program's input: its lines, its text and its log.
use Rattle.std.specs.Prelude.{◌≡◌, ℕ, ◌≢◌, ◌⊎◌, List, [], ◌∷◌, ◌++◌, codes}
use Rattle.std.specs.List.{AllByRecursion}

-- the first line of some bytes, and what follows it: byte 10 ends a line and is no part of it; a last line without byte 10 counts if it has any byte
pub record FirstLine (bytes line rest : List ℕ) : Type 0 where
  pub within : AllByRecursion (λ b. b ≢ 10) line
  pub ends : (bytes ≡ line ++ (10 ∷ rest)) ⊎ ((bytes ≡ line) × (line ≢ []) × (rest ≡ []))

-- all lines of some bytes, in order
pub data Lines : List ℕ → List (List ℕ) → Type 0 where
  none : Lines [] []
  more : {bytes line rest : List ℕ} {lines : List (List ℕ)} → FirstLine bytes line rest → Lines rest lines → Lines bytes (line ∷ lines)

-- an input is cut into text and log: the text ends before the first line that is just `%`, and the log is what follows that line; without such a line all is text, and the log is empty
pub data Cut : List ℕ → List ℕ → List ℕ → Type 0 where
  nothing : Cut [] [] []
  at_mark : {input log : List ℕ} → FirstLine input (codes "%") log → Cut input [] log
  past_line : {input line rest text log : List ℕ} (front : List ℕ) → FirstLine input line rest → line ≢ codes "%" → input ≡ front ++ rest → Cut rest text log → Cut input (front ++ text) log

-- every row of bytes has its lines, and no others
pub record OneList : Type 0 where
  pub some : (bytes : List ℕ) → (lines : List (List ℕ)) × Lines bytes lines
  pub same : (bytes : List ℕ) (l m : List (List ℕ)) → Lines bytes l → Lines bytes m → l ≡ m

-- every input has its text and its log, and no others
pub record OneCut : Type 0 where
  pub some : (input : List ℕ) → (text : List ℕ) × (log : List ℕ) × Cut input text log
  pub same : (input t u l m : List ℕ) → Cut input t l → Cut input u m → (t ≡ u) × (l ≡ m)
