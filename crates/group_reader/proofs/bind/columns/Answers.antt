use Rattle.std.proofs.Common.{◌≡◌, List, Vec, arith, refl, sym}
use Rattle.std.specs.declared.alloc.Global.{Global}
use Rattle.pg_expr.specs.declared.operand.ColRef.{ColRef}
use Rattle.query_reader.specs.work.Scope.{visible_in}
use Rattle.group_reader.specs.work.Meaning.{column_meant}
use Rattle.group_reader.proofs.AddLemmas.{bound-all, bound-fault, bound-first, bound-more, conveys-fault, conveys-memory, conveys-ok}
use Rattle.group_reader.proofs.bind.columns.Goals as goal

pub loop-one-init : goal.loop-one-init
loop-one-init c = bound-first (column_meant (visible_in c.args.relations.now)) c.args.written.now c.new-all.result.items c.new-all.ensures.items

pub loop-one-preserved : goal.loop-one-preserved
loop-one-preserved c =
    bound-more (column_meant (visible_in c.args.relations.now)) c.args.written.now c.loop-one.one-index c.one-item.result c.loop-one.all.items c.push.new.self.items _ c.loop-one-test.true c.one-item.is (sym c.in_ok-column.ensures) c.in_ok-push.ensures.items c.loop-one.invariant

pub returns-in_err-column : goal.returns-in_err-column
returns-in_err-column c =
    conveys-fault (List ColRef) (Vec ColRef Global) (λ xs v. v.items ≡ xs) _ _ _
    (bound-fault (column_meant (visible_in c.args.relations.now)) c.args.written.now c.loop-one.one-index c.one-item.result c.loop-one.all.items _ c.loop-one-test.true c.one-item.is (sym c.in_err-column.ensures) c.loop-one.invariant) c.from_residual.ensures.1

pub returns-in_err-push : goal.returns-in_err-push
returns-in_err-push c = conveys-memory (List ColRef) (Vec ColRef Global) (λ xs v. v.items ≡ xs) _ _ c.from_residual-in_err-push.ensures.1

pub returns : goal.returns
returns c =
    conveys-ok (List ColRef) (Vec ColRef Global) (λ xs v. v.items ≡ xs) _ _ _ (bound-all (column_meant (visible_in c.args.relations.now)) c.args.written.now c.loop-one.one-index c.loop-one.all.items (omega arith) c.loop-one.invariant) refl
