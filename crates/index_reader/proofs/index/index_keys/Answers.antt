use Rattle.std.proofs.Common.{[], arith}
use Rattle.index_reader.specs.declared.keys.KeyRead.{KeyRead}
use Rattle.expr_reader.proofs.SliceLemmas.{put-more, put-all}
use Rattle.index_reader.proofs.index.index_keys.Goals as goal

pub loop-key-preserved : goal.loop-key-preserved
loop-key-preserved c = put-more (λ (k : KeyRead). k.key) c.loop-key.all.items _ [] c.args.keys.now c.loop-key.key-index _ c.loop-key-test.true c.in_ok-push.ensures.items c.loop-key.invariant

pub returns : goal.returns
returns c = put-all (λ (k : KeyRead). k.key) c.loop-key.all.items [] c.args.keys.now c.loop-key.key-index (omega arith) c.loop-key.invariant
