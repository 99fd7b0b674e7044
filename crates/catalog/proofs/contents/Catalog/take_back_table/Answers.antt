use Rattle.std.proofs.Common.{◌≡◌, [], subst, sym}
use Rattle.catalog.specs.Contents.{Contents, indexes_of}
use Rattle.catalog.specs.work.Contents.{IsLastTable}
use Rattle.catalog.proofs.WriteLemmas.{untabled}
use Rattle.catalog.proofs.contents.Catalog.take_back_table.Goals as goal

pub invariant_of-self : goal.invariant_of-self
invariant_of-self c =
    untabled c.self.inside.tables.entries c.pop.new.self.entries c.self.inside.indexes.entries c.args.t c.pop.result c.pop.ensures.entries c.pop.ensures.found
    (subst (λ (l : Contents). IsLastTable l c.args.t) (sym c.self.view_is) c.requires.last)
    (subst (λ (l : Contents). indexes_of l c.args.t ≡ []) (sym c.self.view_is) c.requires.bare) c.self.invariant
