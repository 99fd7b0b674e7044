use Rattle.std.proofs.Common.{[], ◌∷◌, arith}
use Rattle.sql_lex.specs.declared.tokens.Token.{Token}
use Rattle.expr_reader.proofs.SliceLemmas.{put-more, put-all}
use Rattle.index_reader.proofs.index.places.Goals as goal

pub loop-name-preserved : goal.loop-name-preserved
loop-name-preserved c = put-more (λ (u : Token). u.start) c.loop-name.all.items _ (c.args.title.start ∷ []) c.args.names.now c.loop-name.name-index _ c.loop-name-test.true c.in_ok-push-2.ensures.items c.loop-name.invariant

pub returns : goal.returns
returns c = put-all (λ (u : Token). u.start) c.loop-name.all.items (c.args.title.start ∷ []) c.args.names.now c.loop-name.name-index (omega arith) c.loop-name.invariant
