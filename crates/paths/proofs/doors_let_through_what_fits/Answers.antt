use Rattle.paths.proofs.doors_let_through_what_fits.Goals as goal
use Rattle.paths.proofs.Texts.{doors_let_through_what_fits}

pub returns : goal.returns
returns c = doors_let_through_what_fits
