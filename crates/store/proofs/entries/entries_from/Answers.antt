use Rattle.std.proofs.Common.{◌≡◌, ◌-◌, ◌∙◌, All, ap, arith, length, subst, sym}
use Rattle.btree_index.specs.work.Tree.{IsEntryOf}
use Rattle.catalog.specs.work.Entries.{index_of}
use Rattle.store.proofs.FitLemmas.{found-fits}
use Rattle.store.proofs.FoundLemmas.{among, entries-left, entries-taken, entry-made}
use Rattle.store.proofs.entries.entries_from.Goals as goal

pub loop-n-preserved-then-not-passes : goal.loop-n-preserved-then-not-passes
loop-n-preserved-then-not-passes g c = record {
  entries =
      entries-left (index_of c.args.def.now) c.args.heap.now.rows c.args.from c.loop-n.n (omega arith) c.look-row.result.now c.look-row.ensures.row
      c.loop-n.entries.items c.loop-n.invariant.entries c.passes.result c.passes.ensures c.if-not-passes.true;
  looks = omega arith;
}

pub loop-n-preserved : goal.loop-n-preserved
loop-n-preserved g c = record {
  entries =
      c.in_ok-push.ensures.items
      ∙ entries-taken (index_of c.args.def.now) c.args.heap.now.rows c.args.from c.loop-n.n (omega arith) c.look-row.result.now c.look-row.ensures.row
      c.loop-n.entries.items c.new.result c.loop-n.invariant.entries c.passes.result c.passes.ensures c.if-not-passes.false
      (entry-made (index_of c.args.def.now) c.look-row.result.now c.loop-n.n c.deref.result.now c.deref-in-loop-n.result.now c.in_ok-key.key.items c.in_ok-include.include.items
      c.deref.ensures.value c.in_ok-key.ensures c.deref-in-loop-n.ensures.value c.in_ok-include.ensures c.new.result c.new.ensures);
  looks = omega arith;
}

pub returns-clause-fits : goal.returns-clause-fits
returns-clause-fits g c =
    let d = index_of c.args.def.now in
    let rows = c.args.heap.now.rows in
    let all : c.loop-n.n - c.args.from ≡ length rows - c.args.from = omega (arith, c.len-n-end.ensures.len, c.loop-n-test.false) in
    subst (All (IsEntryOf (index_of c.args.def.now).keys (index_of c.args.def.now).include)) (sym (c.loop-n.invariant.entries ∙ ap (among d rows c.args.from) all))
    (found-fits c.args.heap.now.columns d c.requires.lawful rows c.columns-columns.ensures.lawful.each c.args.from c.requires.from)
