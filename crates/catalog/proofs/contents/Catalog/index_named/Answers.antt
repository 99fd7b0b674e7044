use Rattle.std.proofs.Common.{sym, arith}
use Rattle.catalog.specs.Contents.{index_names, no_index}
use Rattle.catalog.proofs.EntryLemmas.{named-at, not_found}
use Rattle.catalog.proofs.LawfulLemmas.{few_indexes}
use Rattle.catalog.proofs.contents.Catalog.index_named.Goals as goal

pub overflow_cast-result : goal.overflow_cast-result
overflow_cast-result c =
    let at = named-at (λ x. x.name) c.args.self.now.indexes c.args.name.now c.in-Some.place no_index (sym c.in-Some.ensures.place) in
    let few = few_indexes c.args.self.now c.in-Some.ensures.lawful in
    omega (arith, at.0, few)

pub returns-in-Some-clause-meaning : goal.returns-in-Some-clause-meaning
returns-in-Some-clause-meaning c = named-at (λ x. x.name) c.args.self.now.indexes c.args.name.now c.in-Some.place no_index (sym c.in-Some.ensures.place)

pub returns-in-None-clause-meaning : goal.returns-in-None-clause-meaning
returns-in-None-clause-meaning c = not_found c.args.name.now (index_names c.args.self.now) (sym c.in-None.ensures.place)
