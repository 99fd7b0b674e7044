use Rattle.std.proofs.Common.{sym, ◌∙◌}
use Rattle.query_reader.proofs.RelationsLemmas.{inside, unnamed, named-so}
use Rattle.query_reader.proofs.relations.Relations.in_relation.Goals as goal

pub returns-in_err-col : goal.returns-in_err-col
returns-in_err-col c =
    let lt = inside c.args.self.now c.self.inside.cat.now c.self.inside.range.now c.self.inside.first c.self.view_is c.self.invariant.0 c.args.number c.requires in
    rw c.from_residual.ensures
    (unnamed c.args.self.now c.self.inside.cat.now c.self.inside.range.now c.self.inside.first c.self.view_is c.self.invariant.0 c.args.number c.index-range-number.result lt c.args.name.now (sym c.column.ensures.named ∙ c.in_err-col.was))

pub returns : goal.returns
returns c =
    let lt = inside c.args.self.now c.self.inside.cat.now c.self.inside.range.now c.self.inside.first c.self.view_is c.self.invariant.0 c.args.number c.requires in
    named-so c.args.self.now c.self.inside.cat.now c.self.inside.range.now c.self.inside.first c.self.view_is c.self.invariant.0 c.args.number c.index-range-number.result lt c.args.name.now c.in_ok-col.col (sym c.column.ensures.named ∙ c.in_ok-col.was)
