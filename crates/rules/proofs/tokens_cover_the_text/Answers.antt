use Rattle.rules.proofs.Laid.{tokens_cover}
use Rattle.rules.proofs.tokens_cover_the_text.Goals as goal

pub returns : goal.returns
returns c = record { theorem = tokens_cover }
