-- The words of a line, one by one.
use Rattle.std.proofs.Common.{◌≡◌, ℕ, ◌+◌, ◌<◌, ◌≤◌, List, [], ◌∷◌, ◌++◌, length, get_or, map, take, ap, ◌∙◌, append_assoc, append-nil, arith, length-append}
use Rattle.std.specs.List.{flat_map}
use Rattle.std.proofs.lemmas.List.{take_more}
use Rattle.std.proofs.lemmas.List.Sums.{sum_by_push}
use Rattle.print.specs.declared.words.Word.{Word}
use Rattle.print.specs.Words.{line_of, word_bytes, most, line_most}
use Rattle.print.proofs.Joined.{piece_length}

-- a word behind a space
abbrev pub behind : Word → List ℕ
behind w = 32 ∷ word_bytes w

-- words with a space between them
abbrev pub spaced : Word → List Word → List ℕ
spaced w ws = word_bytes w ++ flat_map behind ws

-- one word more makes no more bytes than it may
pub most_more : (w : Word) (ws : List Word) (i : ℕ) (d : Word) → i < length ws → length (spaced w (take i ws)) + 1 ≤ line_most w (take i ws) → length (word_bytes (get_or ws i d)) ≤ most (get_or ws i d) →
    length (spaced w (take (i + 1) ws)) + 1 ≤ line_most w (take (i + 1) ws)
most_more w ws i d here before one =
    let bytes = piece_length behind (word_bytes w) ws i d here in
    let sum = ap (line_most w) (take_more ws i d here) ∙ sum_by_push (λ x. most x + 1) (w ∷ take i ws) (get_or ws i d) in
    omega (arith, bytes, sum)

-- with byte 10 behind them they are a line
pub ended : (w : List ℕ) (ws : List Word) → (w ++ flat_map behind ws) ++ 10 ∷ [] ≡ line_of w (map word_bytes ws)
ended w [] = ap (λ l. l ++ 10 ∷ []) (append-nil w)
ended w (v ∷ vs) = append_assoc w _ (10 ∷ []) ∙ ap (λ l. w ++ (32 ∷ l)) (ended (word_bytes v) vs)

pub ended_short : (w : Word) (ws : List Word) → length (spaced w ws) + 1 ≤ line_most w ws → length (line_of (word_bytes w) (map word_bytes ws)) ≤ line_most w ws
ended_short w ws h = rw (← ended (word_bytes w) ws) (omega (arith, length-append (spaced w ws) (10 ∷ [])))
