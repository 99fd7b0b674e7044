use Rattle.std.proofs.Common.{ℕ, not, ◌&&◌, nat_lt, ap, ◌∙◌}
use Rattle.pg_base.specs.Sets.{has}
use Rattle.pg_expr.specs.work.AtomSets.{contains}
use Rattle.catalog.specs.work.Entries.{index_of}
use Rattle.index_match.proofs.FoundLemmas.{bounds_found, tests_found}
use Rattle.index_match.proofs.matching.conditions_among.Goals as goal

pub returns-clause-bounds : goal.returns-clause-bounds
returns-clause-bounds c =
    bounds_found c.args.cat.now c.args.classes.now c.args.i c.args.r.0 (has c.args.p.0) (index_of c.index-def.result.now) c.index-def.ensures.value (contains c.found-found.result) c.found-found.ensures.conditions
    (contains c.bounding-bounds.result) c.bounding-bounds.ensures

pub returns-clause-tests : goal.returns-clause-tests
returns-clause-tests c =
    tests_found c.args.cat.now c.args.classes.now c.args.i c.args.r.0 (has c.args.p.0) (index_of c.index-def.result.now) c.index-def.ensures.value (contains c.found-found.result) c.found-found.ensures.conditions
    (contains c.bounding-bounds.result) c.bounding-bounds.ensures
    (contains c.without-tests.result)
    (λ n. c.without-tests.ensures n ∙ ap (λ (end : ℕ). nat_lt n end && (contains c.found-found.result n && not (contains c.bounding-bounds.result n))) c.count.ensures.count)
