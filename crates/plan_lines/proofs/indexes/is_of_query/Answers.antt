use Rattle.std.proofs.Common.{ap, subst, sym}
use Rattle.catalog.specs.Indexes.{Index}
use Rattle.plan_lines.specs.HasText.{IsTableOfQuery}
use Rattle.plan_lines.proofs.indexes.is_of_query.Goals as goal

pub returns : goal.returns
returns c = (
  λ yes. record { index = c.requires.index; table = subst (IsTableOfQuery c.args.q.now) (ap (λ (x : Index). x.table) c.index.ensures.value) (c.has_table.ensures.0 yes) },
  λ is. c.has_table.ensures.1 (subst (IsTableOfQuery c.args.q.now) (sym (ap (λ (x : Index). x.table) c.index.ensures.value)) is.table),
)
