-- A deterministic automaton that goes through the beginnings of sentences, and through nothing else.
use Rattle.std.specs.Prelude.{List, [], ◌∷◌}
use Rattle.paths.specs.Grammar.{Terminal, semicolon, comma, round_open, round_close, brace_open, brace_close, path, end, word}

-- an open bracket
pub data Bracket : Type 0 where
  round_bracket brace_bracket : Bracket

-- what is due: the first path; another path, or the end of the text; an element, or what may stand behind one, inside the open brackets, the innermost first; nothing, since the row begins no sentence
pub data State : Type 0 where
  start : State
  between : State
  before_element : List Bracket → State
  behind_element : List Bracket → State
  stuck : State

-- the state behind one terminal more
abbrev pub step : State → Terminal → State
step start semicolon = stuck
step start comma = stuck
step start round_open = stuck
step start round_close = stuck
step start brace_open = stuck
step start brace_close = stuck
step start path = before_element []
step start end = stuck
step start (word n) = stuck
step between semicolon = stuck
step between comma = stuck
step between round_open = stuck
step between round_close = stuck
step between brace_open = stuck
step between brace_close = stuck
step between path = before_element []
step between end = stuck
step between (word n) = stuck
step (before_element bs) semicolon = stuck
step (before_element bs) comma = stuck
step (before_element bs) round_open = before_element (round_bracket ∷ bs)
step (before_element bs) round_close = stuck
step (before_element bs) brace_open = before_element (brace_bracket ∷ bs)
step (before_element bs) brace_close = stuck
step (before_element bs) path = stuck
step (before_element bs) end = stuck
step (before_element bs) (word n) = behind_element bs
step (behind_element bs) semicolon = before_element bs
step (behind_element bs) comma = before_element bs
step (behind_element bs) round_open = stuck
step (behind_element []) round_close = stuck
step (behind_element (round_bracket ∷ bs)) round_close = behind_element bs
step (behind_element (brace_bracket ∷ bs)) round_close = stuck
step (behind_element bs) brace_open = stuck
step (behind_element []) brace_close = stuck
step (behind_element (round_bracket ∷ bs)) brace_close = stuck
step (behind_element (brace_bracket ∷ bs)) brace_close = behind_element bs
step (behind_element bs) path = stuck
step (behind_element []) end = between
step (behind_element (b ∷ bs)) end = stuck
step (behind_element bs) (word n) = stuck
step stuck t = stuck

-- the state behind a row
abbrev pub run : State → List Terminal → State
run s [] = s
run s (t ∷ row) = run (step s t) row
