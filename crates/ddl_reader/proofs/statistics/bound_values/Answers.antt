use Rattle.std.proofs.Common.{◌≡◌, ◌++◌, ◌∙◌, rules, arith, ap, map}
use Rattle.std.proofs.lemmas.Grind.{common_steps}
use Rattle.ddl_reader.specs.work.AsMeant.{value_seen, start_seen}
use Rattle.ddl_reader.proofs.statistics.bound_values.Goals as goal

pub returns-clause-values : goal.returns-clause-values
returns-clause-values c =
    let all : c.loop-one.yielded ≡ c.args.read.items = first_of (search rules, grind (arith, common_steps)) in
    c.loop-one.invariant.0 ∙ ap (map value_seen) all

pub returns-clause-places : goal.returns-clause-places
returns-clause-places c =
    let all : c.loop-one.yielded ≡ c.args.read.items = first_of (search rules, grind (arith, common_steps)) in
    c.loop-one.invariant.1 ∙ ap (λ read. c.args.at.now.items ++ map start_seen read) all
