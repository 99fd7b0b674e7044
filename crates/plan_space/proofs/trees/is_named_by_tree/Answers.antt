use Rattle.std.proofs.Common.{◌∙◌, ◌&&◌, ◌||◌, ap, sym, length, nat_lt}
use Rattle.pg_base.specs.Sets.{has}
use Rattle.pg_expr.specs.work.AtomSets.{contains}
use Rattle.plan_tree.specs.Bitmaps.{uses}
use Rattle.plan_tree.specs.work.Views.{bits}
use Rattle.plan_tree.proofs.CostableLemmas.{tree-made}
use Rattle.plan_space.proofs.TreeLemmas.{used-named}
use Rattle.plan_space.proofs.trees.is_named_by_tree.Goals as goal

pub use_tree-requires-clause-tree : goal.use_tree-requires-clause-tree
use_tree-requires-clause-tree c = tree-made c.args.cat.now c.args.q.now c.args.r.0 (has c.args.p.0) (bits c.args.tree.now) c.requires.tree

pub returns : goal.returns
returns c =
    let q = c.args.q.now in
    let r = c.args.r.0 in
    let tree = bits c.args.tree.now in
    let used = uses c.args.cat.now q r (has c.args.p.0) tree in
    let same = used-named q.classes.clauses (contains c.use_tree.new.used) used r (λ k. c.use_tree.ensures k ∙ ap (λ b. b || (nat_lt k (length q.classes.clauses) && used k)) (c.empty-used.ensures k)) in
    (λ h k. c.names_exactly.ensures.0 h k ∙ same k, λ h. c.names_exactly.ensures.1 (λ k. h k ∙ sym (same k)))
