use Rattle.std.specs.Char.{to_ascii_lowercase}
use Rattle.reply_text.proofs.PieceLaws.{next-stopped, bytes_at}
use Rattle.pg_base.proofs.OptionLemmas.{on-err as on_err}
use Rattle.reply_text.proofs.pieces.write_small.Goals as goal

pub returns-in_err-write_all-clause-err : goal.returns-in_err-write_all-clause-err
returns-in_err-write_all-clause-err g c =
    on_err c.from_residual.result _
    (next-stopped _ _ _ _ _ _ _ c.bytes.invariant.bytes c.in_err-write_all.ensures.err (bytes_at to_ascii_lowercase c.args.word.now c.bytes.byte-index _ _ c.bytes-test.true c.to_ascii_lowercase.ensures.value))
