use Rattle.reply_text.proofs.PieceLaws.{err_weaker}
use Rattle.pg_base.proofs.OptionLemmas.{on-err as on_err}
use Rattle.reply_text.proofs.LineLaws.{head_stopped, word_stopped, end_stopped}
use Rattle.reply_text.proofs.line.write_fault.Goals as goal

pub returns-in_err-write_head-clause-err : goal.returns-in_err-write_head-clause-err
returns-in_err-write_head-clause-err g c = on_err c.from_residual.result _ (head_stopped _ _ c.args.cat.now c.args.text.now c.args.fault.now c.in_err-write_head.ensures.err)

pub returns-in_err-write_word-clause-err : goal.returns-in_err-write_word-clause-err
returns-in_err-write_word-clause-err g c =
    on_err c.from_residual-in_err-write_word.result _
    (word_stopped _ _ _ c.args.cat.now c.args.text.now c.args.fault.now c.in_ok-write_head.ensures.ok c.in_err-write_word.ensures.err)

pub returns-clause-err : goal.returns-clause-err
returns-clause-err g c =
    err_weaker c.write_end.result _ _
    (end_stopped _ _ _ _ c.args.cat.now c.args.text.now c.args.fault.now c.in_ok-write_head.ensures.ok c.in_ok-write_word.ensures.ok) c.write_end.ensures.err
