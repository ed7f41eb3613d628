use Rattle.std.proofs.Common.{◌≤◌, length, sym, arith, leb-true}
use Rattle.page.proofs.Fill.{same_bytes}
use Rattle.print.specs.Lines.{lines}
use Rattle.print.proofs.Fits.{doors_fit}
use Rattle.print.proofs.Joined.{whole}
use Rattle.print.proofs.doors_print.print_doors.Goals as goal

pub returns : goal.returns
returns c =
    let large = c.in_ok-check_page.ensures.checked in
    let room : 16384 ≤ length c.args.page.now = leb-true 16384 _ (sym large) in
    record {
      checked = large;
      put = c.put_lines.ensures.written;
      whole = λ t d. whole (omega (arith, doors_fit c.args.names.text.now t d.within)) (same_bytes (λ i. lines c.args.names.text.now (d.names_are i) (d.doors_are i)) c.put_lines.ensures.written);
    }
