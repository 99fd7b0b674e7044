use Rattle.std.proofs.Common.{[], arith}
use Rattle.index_reader.specs.declared.names.NamedColumn.{NamedColumn}
use Rattle.expr_reader.proofs.SliceLemmas.{put-more, put-all}
use Rattle.index_reader.proofs.index.columns.Goals as goal

pub loop-name-preserved : goal.loop-name-preserved
loop-name-preserved c = put-more (λ (n : NamedColumn). n.col) c.loop-name.all.items _ [] c.args.names.now c.loop-name.name-index _ c.loop-name-test.true c.in_ok-push.ensures.items c.loop-name.invariant

pub returns : goal.returns
returns c = put-all (λ (n : NamedColumn). n.col) c.loop-name.all.items [] c.args.names.now c.loop-name.name-index (omega arith) c.loop-name.invariant
