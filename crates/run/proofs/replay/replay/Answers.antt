use Rattle.run.proofs.Wholes.{places_enough, replayed}
use Rattle.run.proofs.replay.replay.Goals as goal

pub returns : goal.returns
returns g c =
    let m = g.R.Room in
    let read = c.in_ok-read.ensures in
    let translated = c.in_ok-translated.ensures in
    let kept = translated.outcome.0 in
    record {
      says = (
        read.answered.0,
        places_enough c.read.new.tokens c.read.new.names c.args.occurrences.now translated.checked,
        replayed m.places m.rule g.met.R.Room.one m.entries _ _ _ _ _ _ _ _ _ _ _ _ _ c.apart.result read.answered.1 translated.outcome.1
            c.open-run.ensures.opened c.carry_all.ensures.carried c.apart.ensures.totals c.apart.ensures.waits,
      );
      rests = record { tokens = read.tokens_rest; names = read.names_rest; occurrences = kept };
    }
