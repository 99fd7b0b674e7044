use Rattle.std.proofs.Common.{◌≡◌, ◌∙◌, sym, ap, take, Some}
use Rattle.path_cost.specs.Ranges.{bound_of, listed_condition}
use Rattle.path_cost.specs.work.Ranges.{conditions_of}
use Rattle.path_cost.specs.work.Relations.{range_of}
use Rattle.path_cost.specs.Selectivity.{end_weight}
use Rattle.path_cost.proofs.ranges.weight_of.Goals as goal

pub returns-in-Some : goal.returns-in-Some
returns-in-Some c =
    let es = conditions_of c.args.list in
    let form : Some c.in-Some.bound ≡ bound_of (listed_condition es c.args.n) = sym c.in-Some.is ∙ c.bound_of.ensures ∙ ap bound_of c.at.ensures in
    record { weight = c.end_weight.ensures.weight c.in-Some.bound.1 ∙ ap (end_weight c.args.cat.now (range_of c.args.relations) es (take c.args.n es)) form }
