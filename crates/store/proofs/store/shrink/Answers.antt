use Rattle.std.proofs.Common.{◌∙◌, map, refl, arith}
use Rattle.std.proofs.Math.ListN.{length-set}
use Rattle.catalog.specs.work.Entries.{index_of}
use Rattle.catalog.proofs.LawfulLemmas.{few_indexes}
use Rattle.store.specs.work.Kept.{cut_back}
use Rattle.store.specs.work.View.{built}
use Rattle.store.proofs.GrowthLemmas.{cut-one, cut-none, of-other, of-table}
use Rattle.store.proofs.store.shrink.Goals as goal

pub loop-n-init : goal.loop-n-init
unfolding cut_back
loop-n-init g c = record { long = c.requires; cut = refl }

pub overflow_cast-n : goal.overflow_cast-n
overflow_cast-n g c = let few = few_indexes c.args.cat.now c.lawful.ensures in omega (arith, few, c.loop-n-test.true, c.requires, c.len-n-end.ensures)

pub loop-n-preserved-then-index-t : goal.loop-n-preserved-then-index-t
loop-n-preserved-then-index-t g c = record {
  long = c.loop-n.invariant.long;
  cut =
      cut-none c.args.t c.args.before c.args.cat.now.indexes (map built c.args.indexes.now.items) c.loop-n.indexes.items c.loop-n.n (omega (arith, c.loop-n-test.true, c.requires, c.len-n-end.ensures)) c.loop-n.invariant.cut
      (of-other c.args.cat.now.indexes c.loop-n.n c.args.t (index_of c.index.result.now) c.index.ensures.value c.if-index-t.true);
}

pub loop-n-preserved : goal.loop-n-preserved
loop-n-preserved g c = record {
  long = length-set c.loop-n.indexes.items c.loop-n.n c.cut.new.self ∙ c.loop-n.invariant.long;
  cut =
      cut-one c.args.t c.args.before c.args.cat.now.indexes (map built c.args.indexes.now.items) c.loop-n.indexes.items c.loop-n.n (omega (arith, c.loop-n-test.true, c.requires, c.len-n-end.ensures)) c.loop-n.invariant.cut
      (of-table c.args.cat.now.indexes c.loop-n.n c.args.t (index_of c.index.result.now) c.index.ensures.value c.if-index-t.false)
      c.index_mut-index.result.now c.cut.new.self c.index_mut-index.ensures.value c.cut.ensures;
}
