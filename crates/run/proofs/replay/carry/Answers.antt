use Rattle.std.proofs.Common.{sym, refl}
use Rattle.run.specs.Records.{begin, end, withdraw}
use Rattle.run.proofs.replay.carry.Goals as goal

pub returns-in-Begin-clause-carried : goal.returns-in-Begin-clause-carried
returns-in-Begin-clause-carried g c =
    record { rec = begin c.in-Begin.operation c.in-Begin.rank c.begin.result; call = sym c.in-Begin.is; answer = refl; front = refl; lent = tt; carries = c.begin.ensures.says }

pub returns-in-End-clause-carried : goal.returns-in-End-clause-carried
returns-in-End-clause-carried g c =
    rw c.unwrap_or.ensures (record { rec = end c.in-End.operation _ _ c.end-answer.result; call = sym c.in-End.is; answer = refl; front = refl; lent = refl; carries = c.end-answer.ensures.says })

pub returns-in-Withdraw-clause-carried : goal.returns-in-Withdraw-clause-carried
returns-in-Withdraw-clause-carried g c =
    record { rec = withdraw c.in-Withdraw.ticket c.withdraw.result; call = sym c.in-Withdraw.is; answer = refl; front = refl; lent = tt; carries = c.withdraw.ensures.says }
