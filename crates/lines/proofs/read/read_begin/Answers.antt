use Rattle.std.proofs.Common.{◌≡◌, ℕ, List, Ok, Err, Result, MatchResult, subst}
use Rattle.lines.specs.declared.LineFault.{LineFault}
use Rattle.lines.specs.Reads.{Ranked}
use Rattle.lines.proofs.Lawfuls.{begin_lawful}
use Rattle.lines.proofs.read.read_begin.Goals as goal

-- the rank that `map_err` hands on
ranked : (tail : List ℕ) (r : Result ℕ LineFault) (rank : ℕ) → Ranked tail r → MatchResult r (λ x. ◌≡◌ {A = Result ℕ LineFault} (Ok rank) (Ok x)) (λ f. ⊥) → Ranked tail (Ok rank)
ranked tail (Ok x) rank h e = let s : x ≡ rank = cc in subst (λ k. Ranked tail (Ok k)) s h
ranked tail (Err f) rank h e = absurd e

pub returns-clause-judged : goal.returns-clause-judged
returns-clause-judged c =
    begin_lawful c.args.rest.now c.name_len-len.result c.name_len-len.ensures.longest c.if-len-eq0.false c.split_at.result.0.now c.in_ok-rank.rank c.split_at.ensures.front
    (subst (λ t. Ranked t (Ok c.in_ok-rank.rank)) c.split_at.ensures.back (ranked c.split_at.result.1.now c.read_rank.result c.in_ok-rank.rank c.read_rank.ensures.rank c.in_ok-rank.ensures.cases))
