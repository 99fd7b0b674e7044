use Rattle.std.proofs.Common.{List, ◌≤◌, ◌+◌, ap, subst, sym, ◌∙◌}
use Rattle.std.proofs.lemmas.Result.{on_ok_weaker}
use Rattle.pg_base.specs.Sets.{has}
use Rattle.pg_expr.specs.Cond.{Cond}
use Rattle.pg_expr.specs.work.View.{cond}
use Rattle.catalog.specs.Contents.{index_at}
use Rattle.plan_tree.specs.Counts.{entries_met}
use Rattle.plan_tree.specs.Entries.{entry_rows}
use Rattle.plan_tree.specs.Run.{at_which}
use Rattle.scan_probes.specs.work.Filters.{lent_conditions}
use Rattle.scan_exec.specs.work.Held.{with_rows}
use Rattle.scan_exec.specs.work.Scene.{AreUsed, limits, tuple_of, world_of}
use Rattle.scan_exec.proofs.MarkLemmas.{arm_taken}
use Rattle.scan_exec.proofs.TreeLemmas.{arm_used}
use Rattle.scan_exec.proofs.bitmap.mark_arm.Goals as goal

pub mark-requires-clause-takes : goal.mark-requires-clause-takes
mark-requires-clause-takes g c =
    let s = c.args.at.now in
    arm_taken s.cat.now s.rel.0 c.args.i (cond c.args.arm.now) c.requires.matched.matched c.deref.result.now (ap lent_conditions c.deref.ensures.value ∙ c.in_ok-parts.ensures)

pub mark-requires-clause-used : goal.mark-requires-clause-used
mark-requires-clause-used g c =
    let s = c.args.at.now in
    subst (AreUsed s.cat.now s.q.now s.rel s.param c.args.i) (sym (ap lent_conditions c.deref.ensures.value ∙ c.in_ok-parts.ensures))
    (arm_used s.cat.now s.q.now s.rel.0 (has s.param.0) c.args.i (cond c.args.arm.now) c.requires.near c.requires.matched.matched)

pub returns-clause-held : goal.returns-clause-held
returns-clause-held g c =
    let s = c.args.at.now in
    on_ok_weaker c.mark.result
    (λ h. h ∙ ap (λ (l : List Cond). with_rows c.args.held.now (at_which (world_of s) s.q.now s.rel (tuple_of s) l (entry_rows (world_of s) c.args.i))) (ap lent_conditions c.deref.ensures.value ∙ c.in_ok-parts.ensures))
    c.mark.ensures.held

pub returns-clause-most : goal.returns-clause-most
returns-clause-most g c =
    let s = c.args.at.now in
    subst (λ (l : List Cond). c.mark.new.reads ≤ c.args.reads.now + entries_met (world_of s) s.q.now (index_at s.cat.now c.args.i).method s.rel c.args.i (tuple_of s) (limits (index_at s.cat.now c.args.i) s.rel.0 l))
    (ap lent_conditions c.deref.ensures.value ∙ c.in_ok-parts.ensures) c.mark.ensures.most
