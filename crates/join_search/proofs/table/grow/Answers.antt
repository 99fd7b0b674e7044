use Rattle.std.proofs.Common.{◌∙◌, ap}
use Rattle.join_search.specs.work.Tables.{list_at}
use Rattle.join_search.proofs.TableLemmas.{list-grown, one-longer}
use Rattle.join_search.proofs.table.grow.Goals as goal

pub loop-n-preserved : goal.loop-n-preserved
loop-n-preserved c = record {
  many = one-longer c.loop-n.sets.items c.push.new.self.items c.new.result c.loop-n._n c.in_ok-push.ensures.items c.loop-n.invariant.many;
  same = λ k. ap (λ vs. list_at vs k) c.in_ok-push.ensures.items ∙ list-grown c.loop-n.sets.items c.new.result k c.new.ensures.items ∙ c.loop-n.invariant.same k;
}
