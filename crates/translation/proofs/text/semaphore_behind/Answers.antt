use Rattle.std.proofs.Common.{arith}
use Rattle.tokens.specs.declared.Kind.TheVariants.{Semicolon}
use Rattle.translation.proofs.Scan.{scan_at}
use Rattle.translation.proofs.text.semaphore_behind.Goals as goal

pub returns-in_err-depth-in-RoundClose : goal.returns-in_err-depth-in-RoundClose
returns-in_err-depth-in-RoundClose c =
    let at = scan_at c.args.tokens.now c.loop-token.token-index c.loop-token.depth c.loop-token.semaphore (record { kind = Semicolon; place = 0; len = 0 }) (omega arith) in
    grind (arith, at, c.in_err-depth-in-RoundClose.ensures)

pub returns-in-Semicolon : goal.returns-in-Semicolon
returns-in-Semicolon c = let at = scan_at c.args.tokens.now c.loop-token.token-index c.loop-token.depth c.loop-token.semaphore (record { kind = Semicolon; place = 0; len = 0 }) (omega arith) in grind (arith, at)

pub returns-in-End : goal.returns-in-End
returns-in-End c = let at = scan_at c.args.tokens.now c.loop-token.token-index c.loop-token.depth c.loop-token.semaphore (record { kind = Semicolon; place = 0; len = 0 }) (omega arith) in grind (arith, at)

pub loop-token-preserved : goal.loop-token-preserved
loop-token-preserved c = let at = scan_at c.args.tokens.now c.loop-token.token-index c.loop-token.depth c.loop-token.semaphore (record { kind = Semicolon; place = 0; len = 0 }) (omega arith) in grind (arith, at)
