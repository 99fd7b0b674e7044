use Rattle.std.proofs.Common.{◌∙◌}
use Rattle.catalog.proofs.CopyLemmas.{contents-copied, lawful-copied}
use Rattle.catalog.proofs.contents.Catalog.copy.Goals as goal

pub invariant_of-result : goal.invariant_of-result
invariant_of-result c =
    lawful-copied c.self.inside.tables.entries c.in_ok-tables.tables.entries c.self.inside.indexes.entries c.in_ok-indexes.indexes.entries c.in_ok-tables.ensures c.in_ok-indexes.ensures c.self.invariant

pub returns : goal.returns
returns c =
    contents-copied c.self.inside.tables.entries c.in_ok-tables.tables.entries c.self.inside.indexes.entries c.in_ok-indexes.indexes.entries c.in_ok-tables.ensures c.in_ok-indexes.ensures ∙ c.self.view_is
