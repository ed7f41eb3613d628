use Rattle.std.proofs.Common.{Decides, length, ap, ◌∙◌, rules, arith}
use borrow.Author.Tests.{tests}
use Rattle.std.specs.List.{All}
use Rattle.std.proofs.lemmas.Iterator.{YieldsList-from_slice, cases_from_all}
use Rattle.doors.specs.Memory.{row}
use Rattle.doors.proofs.Fitting.{Lets, all_decides, fits_doors, fits_text}
use Rattle.doors.proofs.Doors.fits.Goals as goal

pub returns : goal.returns
returns c =
    let d = c.args.self.now in
    let a = c.args.operation in
    let decides : Decides c.all.result (All (Lets d.levels) (row d.rows a)) = all_decides (Lets d.levels) c.all.result (row d.rows a)
    (cases_from_all _ _ _ (Lets d.levels) (λ o. Lets d.levels o → ⊥) c.all.ensures.ran (YieldsList-from_slice (row d.rows a) (c.iter.ensures.rest ∙ c.of.ensures.row))
    (λ x q k. search (rules, tests)) (λ x q k. search (rules, tests))) in
    record {
      doors = fits_doors d a c.all.result decides;
      text = fits_text d a c.all.result decides;
      unknown = λ h. decides.1 (λ k o lt. absurd (omega (arith, ap length (c.of.ensures.unknown h), ap length c.of.ensures.row)));
    }
