use Rattle.std.proofs.Common.{◌≡◌, ℕ, arith, subst}
use Rattle.join_search.specs.work.Tables.{paths_at}
use Rattle.planned_table.specs.work.Gathering.{AreGathered, IsBelow, shown}
use Rattle.planned_table.proofs.GatherLemmas.{whole-first}
use Rattle.planned_table.proofs.gathering.gathered.Goals as goal

pub loop-r-init : goal.loop-r-init
loop-r-init c = whole-first (paths_at c.args.table.now) c.args.all.0 (shown c.in_ok-listed.listed.items) c.in_ok-listed.ensures

pub returns : goal.returns
returns c =
    let past : c.loop-r.r ≡ c.args.relations = omega (arith, c.loop-r.auto.r-end, c.loop-r-test.false) in
    subst (λ (n : ℕ). AreGathered (IsBelow c.args.all.0 n) (paths_at c.args.table.now) (shown c.loop-r.listed.items)) past c.loop-r.invariant
