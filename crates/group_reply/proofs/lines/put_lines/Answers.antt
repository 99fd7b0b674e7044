use Rattle.std.proofs.Common.{◌∙◌, List, ap, rules, subst, sym}
use Rattle.pg_value.specs.declared.value.Value.{Value}
use Rattle.reply_text.specs.Texts.{row_line}
use Rattle.reply_text.specs.work.Printed.{ArePrintable}
use Rattle.group_explain.specs.reply_PuttingLemmas.{puts-stopped}
use Rattle.group_reply.proofs.PrintLemmas.{put-cut, put-more}
use Rattle.group_reply.proofs.lines.put_lines.Goals as goal

pub put_line-requires : goal.put_line-requires
put_line-requires g c =
    let P : List Value → Type 0 = λ vs. ArePrintable c.args.types.now vs in
    subst P (sym (c.items.ensures ∙ c.line-item.is)) (c.requires c.loop-line.line-index _ c.loop-line-test.true)

pub loop-line-preserved : goal.loop-line-preserved
loop-line-preserved g c = record {
  put = put-more c.args.types.now c.args.lines.now c.loop-line.line-index _ c.loop-line-test.true _ _ _ _ _ _ _ (ap (row_line c.args.types.now) (c.items.ensures ∙ c.line-item.is)) c.loop-line.invariant.put c.in_ok-put_line.ensures.puts;
  quiet = search (rules, c.in_ok-put_line.ensures.cause);
}

pub returns-in_err-put_line-clause-puts : goal.returns-in_err-put_line-clause-puts
returns-in_err-put_line-clause-puts g c =
    puts-stopped _ _ _ _ c.from_residual.result _ c.from_residual.ensures.0
    (put-cut c.args.types.now c.args.lines.now c.loop-line.line-index _ c.loop-line-test.true _ _ _ _ _ _ (ap (row_line c.args.types.now) (c.items.ensures ∙ c.line-item.is)) c.loop-line.invariant.put c.in_err-put_line.ensures.puts)
