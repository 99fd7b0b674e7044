use Rattle.std.proofs.Common.{ℕ, arith, ap, length, subst, ◌∙◌}
use Rattle.join_search.specs.work.Tables.{paths_at}
use Rattle.planned_table.specs.work.Gathering.{AreGathered, IsBelow, shown}
use Rattle.planned_table.proofs.WholeLemmas.{all-gathered, moved-paths, stand-theirs}
use Rattle.planned_table.proofs.whole.listed_paths.Goals as goal

pub gathered-requires-clause-places : goal.gathered-requires-clause-places
gathered-requires-clause-places c = stand-theirs c.args.cat.now c.args.q.now c.requires.query c.args.all c.requires.all (paths_at c.args.table.now) c.requires.searched

pub gathered-requires-clause-few : goal.gathered-requires-clause-few
gathered-requires-clause-few c =
    let same = ap length (c.items.ensures ∙ c.range_of.ensures) in
    let few = c.requires.query.few in
    omega (arith, same, few)

pub returns-clause-paths : goal.returns-clause-paths
returns-clause-paths c =
    let fronts = paths_at c.args.table.now in
    let same = ap length (c.items.ensures ∙ c.range_of.ensures) in
    let first = shown c.in_ok-listed.listed.items in
    moved-paths fronts first (shown c.sort_paths.new.listed.items) c.sort_paths.ensures.same
    (all-gathered c.args.cat.now c.args.q.now c.requires.query c.args.all c.requires.all fronts c.requires.searched first
    (subst (λ (n : ℕ). AreGathered (IsBelow c.args.all.0 n) fronts first) same c.in_ok-listed.ensures))
