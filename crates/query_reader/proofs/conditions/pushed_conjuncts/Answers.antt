use Rattle.std.proofs.Common.{false, ap, ◌∙◌}
use Rattle.pg_expr.specs.Pushed.{pushed}
use Rattle.pg_expr.specs.work.View.{cond}
use Rattle.query_reader.proofs.ConjunctLemmas.{pushed-more}
use Rattle.query_reader.proofs.conditions.pushed_conjuncts.Goals as goal

pub loop-part-preserved : goal.loop-part-preserved
loop-part-preserved c =
    pushed-more c.loop-part.all.items c.append.new.self.items c.in_ok-parts.parts.items.items c.args.written.now _ c.loop-part.part-index c.part-item.result (cond c.in_ok-pushed.pushed) c.loop-part-test.true c.part-item.is
    (c.in_ok-pushed.ensures.tree ∙ ap (pushed false) c.in_ok-copy.ensures) c.in_ok-parts.ensures.list c.in_ok-append.ensures.items c.loop-part.invariant
