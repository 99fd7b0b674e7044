use Rattle.std.proofs.Common.{List, ℕ, Bor}
use Rattle.reply_text.proofs.PieceLaws.{next-stopped, pieces_at}
use Rattle.pg_base.proofs.OptionLemmas.{on-err as on_err}
use Rattle.reply_text.proofs.pieces.write_pieces.Goals as goal

pub returns-in_err-write_all-clause-err : goal.returns-in_err-write_all-clause-err
returns-in_err-write_all-clause-err g c =
    on_err c.from_residual.result _
    (next-stopped _ _ _ _ _ _ _ c.pieces.invariant.bytes c.in_err-write_all.ensures.err (pieces_at {X = Bor (List ℕ)} (λ p. p.now) c.args.pieces.now c.pieces.piece-index _ c.pieces-test.true))
