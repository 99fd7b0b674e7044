use Rattle.std.proofs.Common.{◌≡◌, ◌∙◌, ap, arith, length}
use Rattle.sql_query.specs.Queries.{width}
use Rattle.entry_check.proofs.ScanLemmas.{relation-found, relation-none, relation-past}
use Rattle.entry_check.proofs.scans.relation_of.Goals as goal

pub returns-then-r-items-clause-relation : goal.returns-then-r-items-clause-relation
returns-then-r-items-clause-relation c =
    let long : length c.items.result.now ≡ width c.args.q.now = ap (λ xs. length xs) (c.items.ensures ∙ c.range_of.ensures) in
    relation-found (width c.args.q.now) c.args.set c.in-Some.r c.in-Some.ensures.found c.in-Some.ensures.least (omega (arith, long, c.if-r-items.true))

pub returns-else-r-items-clause-relation : goal.returns-else-r-items-clause-relation
returns-else-r-items-clause-relation c =
    let long : length c.items.result.now ≡ width c.args.q.now = ap (λ xs. length xs) (c.items.ensures ∙ c.range_of.ensures) in
    relation-past (width c.args.q.now) c.args.set c.in-Some.r c.in-Some.ensures.least (omega (arith, long, c.if-r-items.false))

pub returns-in-None-clause-relation : goal.returns-in-None-clause-relation
returns-in-None-clause-relation c = relation-none (width c.args.q.now) c.args.set c.in-None.ensures.none
