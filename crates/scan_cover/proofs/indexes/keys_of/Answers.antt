use Rattle.std.proofs.Common.{◌+◌, ◌∙◌, ap}
use Rattle.std.specs.Prelude.{slice_get}
use Rattle.pathkeys.specs.work.Finding.{class_numbers}
use Rattle.pathkeys.specs.Keys.{Keys}
use Rattle.plan_tree.specs.Keys.{keys_of}
use Rattle.join_cover.specs.plan_space_OrderLemmas.{keys-end, keys-more}
use Rattle.join_cover.specs.entry_check_Owning.{tree_of}
use Rattle.join_cover.specs.entry_check_ScanLemmas.{tree-keys}
use Rattle.scan_cover.proofs.indexes.keys_of.Goals as goal

pub loop-n-preserved : goal.loop-n-preserved
loop-n-preserved c =
    let keys = keys_of c.args.cat.now c.args.q.now (tree_of c.args.s) in
    record {
      long = c.push.ensures.len ∙ ap (λ n. n + 1) c.loop-n.invariant.long;
      first = ap class_numbers c.push.ensures.items ∙ keys-more keys c.loop-n.n c.loop-n.list.items c.in-Some.c c.loop-n.invariant.first
          (c.in-Some.ensures.class ∙ ap (λ (ks : Keys). slice_get ks c.loop-n.n) (tree-keys c.args.cat.now c.args.q.now c.args.s));
    }

pub returns-in-None : goal.returns-in-None
returns-in-None c =
    let keys = keys_of c.args.cat.now c.args.q.now (tree_of c.args.s) in
    keys-end keys c.loop-n.n c.loop-n.list.items c.loop-n.invariant.first
    (c.in-None.ensures.class ∙ ap (λ (ks : Keys). slice_get ks c.loop-n.n) (tree-keys c.args.cat.now c.args.q.now c.args.s))
