use Rattle.std.proofs.Common.{◌≡◌, take}
use Rattle.std.specs.List.{flat_map}
use Rattle.reply_text.specs.Texts.{row_line}
use Rattle.group_explain.specs.reply_work_Putting.{HasPut}
use Rattle.group_reply.proofs.lines.put_lines.Given as goal

abbrev pub invariant-loop-line : goal.invariant-loop-line
invariant-loop-line g l = record {
  put : HasPut (g.K.Sink.held l.fn.out) (g.K.Sink.held l.out) l.fn.pending.items l.pending.items (flat_map (row_line l.types) (take l.line-index l.lines));
  quiet : g.K.Sink.faults l.out ≡ g.K.Sink.faults l.fn.out;
}
