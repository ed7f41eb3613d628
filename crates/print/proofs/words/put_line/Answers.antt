use Rattle.std.proofs.Common.{◌≡◌, [], ◌∷◌, ◌++◌, take, ap, ◌∙◌}
use Rattle.std.proofs.lemmas.List.{take_all}
use Rattle.page.proofs.Fill.{written_more, same_bytes}
use Rattle.print.proofs.Joined.{written_next}
use Rattle.print.proofs.Spaced.{behind, spaced, most_more, ended, ended_short}
use Rattle.print.specs.Words.{word_bytes}
use Rattle.print.proofs.words.put_line.Goals as goal

pub loop-word-preserved : goal.loop-word-preserved
loop-word-preserved c =
    let w = c.args.first in
    let ws = c.args.others.now in
    let i = c.loop-word.word-index in
    let here = c.loop-word-test.true in (
      written_next behind (word_bytes w) ws i _ here c.loop-word.invariant.0 c.put_behind-at.ensures.written,
      most_more w ws i _ here c.loop-word.invariant.1 c.put_behind-at.ensures.short,
    )

pub returns : goal.returns
returns c =
    let w = c.args.first in
    let ws = c.args.others.now in
    let all : take c.loop-word.word-index ws ≡ ws = take_all c.loop-word.word-index ws c.loop-word-test.false in
    record {
      written = same_bytes (ap (λ vs. spaced w vs ++ 10 ∷ []) all ∙ ended (word_bytes w) ws) (written_more c.loop-word.invariant.0 c.put.ensures.written);
      short = ended_short w ws (rw all at c.loop-word.invariant.1);
    }
