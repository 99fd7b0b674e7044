use Rattle.std.proofs.Common.{refl}
use Rattle.sql_query.specs.Worlds.{world}
use Rattle.plan_tree.specs.Plans.{seq}
use Rattle.plan_laws.proofs.WellBoundLemmas.{bound-over}
use Rattle.worked_rows.proofs.SideLemmas.{side_held}
use Rattle.worked_rows.proofs.scans.see_restarts.Goals as goal

pub is_index_scan-requires : goal.is_index_scan-requires
is_index_scan-requires g c = record { query = bound-over c.args.at.now.cat.now c.args.at.now.q.now c.requires.bound }

pub scanned-requires-clause-built : goal.scanned-requires-clause-built
scanned-requires-clause-built g c = c.requires.bound.range.some

pub see_each-requires-clause-held : goal.see_each-requires-clause-held
see_each-requires-clause-held g c =
    side_held (world c.args.at.now.cat.now c.args.at.now.store.now.stored) c.args.at.now.q.now (seq (record { 0 = 0 })) c.in_ok-outer.outer c.requires.store.world c.requires.bound c.requires.bound.range.some c.in_ok-outer.ensures.set c.in_ok-outer.ensures.rows (λ k. refl)
