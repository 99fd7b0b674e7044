use Rattle.std.proofs.Common.{List, [], ◌∷◌, ◌∙◌, ap, sym}
use Rattle.pg_base.specs.Sets.{has}
use Rattle.pg_expr.specs.Cond.{Cond}
use Rattle.pg_expr.specs.work.View.{cond}
use Rattle.plan_tree.specs.Entries.{entry_rows}
use Rattle.plan_tree.specs.Run.{at_which}
use Rattle.scan_exec.specs.work.Held.{with_rows}
use Rattle.scan_exec.specs.work.Scene.{IsUsed, tuple_of, world_of}
use Rattle.scan_exec.proofs.MarkLemmas.{first_used, only_one, tids_within}
use Rattle.scan_exec.proofs.bitmap.mark_hashed.Goals as goal

pub rows_equal-requires-clause-used : goal.rows_equal-requires-clause-used
rows_equal-requires-clause-used g c =
    let s = c.args.at.now in
    first_used (IsUsed s.cat.now s.q.now s.rel.0 (has s.param.0) c.args.i) c.args.conditions.now c.index-conditions-0.result c.index-conditions-0.is c.requires.one c.requires.used

pub mark_rows-requires-clause-within : goal.mark_rows-requires-clause-within
mark_rows-requires-clause-within g c =
    let s = c.args.at.now in
    tids_within s.cat.now s.store.now s.q.now s.rel s.param s.outer.now c.args.given.now c.requires.scene c.args.i c.requires.index c.in_ok-tids.tids.now (cond c.index-conditions-0.result.now ∷ []) c.args.held.now.bound c.in_ok-tids.ensures c.requires.bound

pub returns : goal.returns
returns g c =
    let s = c.args.at.now in
    record {
      held = c.mark_rows.ensures
          ∙ ap (λ l. with_rows c.args.held.now l) (c.in_ok-tids.ensures ∙ sym (ap (λ (l : List Cond). at_which (world_of s) s.q.now s.rel (tuple_of s) l (entry_rows (world_of s) c.args.i)) (only_one c.args.conditions.now c.index-conditions-0.result c.index-conditions-0.is c.requires.one)));
    }
