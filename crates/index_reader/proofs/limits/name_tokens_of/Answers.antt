use Rattle.std.proofs.Common.{[], ◌++◌, map, ap, arith}
use Rattle.index_reader.specs.declared.keys.KeyRead.{KeyRead}
use Rattle.index_reader.specs.declared.names.NamedColumn.{NamedColumn}
use Rattle.expr_reader.proofs.SliceLemmas.{put-more, put-all}
use Rattle.index_reader.proofs.limits.name_tokens_of.Goals as goal

pub loop-key-preserved : goal.loop-key-preserved
loop-key-preserved c = put-more (λ (k : KeyRead). k.token) c.loop-key.all.items _ [] c.args.keys.now c.loop-key.key-index _ c.loop-key-test.true c.in_ok-push.ensures.items c.loop-key.invariant

pub loop-name-init : goal.loop-name-init
loop-name-init c =
    ap (λ l. l ++ map (λ (n : NamedColumn). n.token) c.args.names.now) (put-all (λ (k : KeyRead). k.token) c.loop-key.all.items [] c.args.keys.now c.loop-key.key-index (omega arith) c.loop-key.invariant)

pub loop-name-preserved : goal.loop-name-preserved
loop-name-preserved c =
    put-more (λ (n : NamedColumn). n.token) c.loop-name.all.items _ (map (λ (k : KeyRead). k.token) c.args.keys.now) c.args.names.now c.loop-name.name-index _ c.loop-name-test.true c.in_ok-push-2.ensures.items c.loop-name.invariant

pub returns : goal.returns
returns c = put-all (λ (n : NamedColumn). n.token) c.loop-name.all.items (map (λ (k : KeyRead). k.token) c.args.keys.now) c.args.names.now c.loop-name.name-index (omega arith) c.loop-name.invariant
