use Rattle.std.proofs.Common.{◌≡◌, ◌-◌, ◌∙◌, All, ap, arith, length, map, subst, sym}
use Rattle.pg_value.specs.work.Order.{IsOfFamily}
use Rattle.opfamily.specs.KeyOrder.{key_family}
use Rattle.hash_index.specs.work.Held.{Held}
use Rattle.store.specs.work.Kept.{first_key, held_of}
use Rattle.catalog.specs.work.Entries.{index_of}
use Rattle.store.proofs.FitLemmas.{held-fits}
use Rattle.store.proofs.FoundLemmas.{among, cell-at, held-left, held-taken, held-made}
use Rattle.store.proofs.entries.hashed_from.Goals as goal

pub loop-n-preserved-then-not-passes : goal.loop-n-preserved-then-not-passes
loop-n-preserved-then-not-passes g c = record {
  entries =
      held-left (index_of c.args.def.now) c.args.heap.now.rows c.args.from c.loop-n.n (omega arith) c.look-row.result.now c.look-row.ensures.row
      c.loop-n.rows.items c.loop-n.invariant.entries c.passes.result c.passes.ensures c.if-not-passes.true;
  looks = omega arith;
}

pub loop-n-preserved : goal.loop-n-preserved
loop-n-preserved g c = record {
  entries =
      c.in_ok-push.ensures.items
      ∙ held-taken (index_of c.args.def.now) c.args.heap.now.rows c.args.from c.loop-n.n (omega arith) c.look-row.result.now c.look-row.ensures.row
      c.loop-n.rows.items c.new.result c.loop-n.invariant.entries c.passes.result c.passes.ensures c.if-not-passes.false
      (held-made (index_of c.args.def.now) c.look-row.result.now c.loop-n.n c.index.result.now c.index.ensures (omega arith) c.in_ok-value.value
      (c.in_ok-value.ensures ∙ cell-at c.look-row.result.now c.index.result.now.col c.value_in.result.now c.value_in.ensures) c.new.result c.new.ensures);
  looks = omega arith;
}

pub returns-clause-fits : goal.returns-clause-fits
returns-clause-fits g c =
    let d = index_of c.args.def.now in
    let rows = c.args.heap.now.rows in
    let all : c.loop-n.n - c.args.from ≡ length rows - c.args.from = omega (arith, c.len-n-end.ensures.len, c.loop-n-test.false) in
    subst (All (λ (h : Held). IsOfFamily (key_family (first_key (index_of c.args.def.now).keys)) h.value)) (sym (c.loop-n.invariant.entries ∙ ap (λ n. map held_of (among d rows c.args.from n)) all))
    (held-fits c.args.heap.now.columns d c.requires.lawful rows c.columns-columns.ensures.lawful.each c.args.from c.requires.from)
