use Rattle.std.proofs.Common.{◌∙◌, inl, inr, sym}
use Rattle.std.proofs.lemmas.List.Elements.{Contains-append_cases, Contains-append_left, Contains-append_right}
use Rattle.catalog.specs.Contents.{index_names, table_names}
use Rattle.catalog.proofs.NamedLemmas.{free, some-index, taken, taken-index}
use Rattle.catalog.proofs.contents.Catalog.is_taken.Goals as goal

pub returns-then-is_some : goal.returns-then-is_some
returns-then-is_some c =
    let cat = c.args.self.now in
    let name = c.args.name.now in (
      λ _. Contains-append_left (table_names cat) (index_names cat) name (taken cat name c.table.result c.table.ensures.meaning (sym c.is_some.ensures ∙ c.if-is_some.true)),
      λ _. c.if-is_some.true,
    )

pub returns-else-is_some : goal.returns-else-is_some
returns-else-is_some c =
    let cat = c.args.self.now in
    let name = c.args.name.now in (
      λ h. Contains-append_right (table_names cat) (index_names cat) name (taken-index cat name c.index_named.result c.index_named.ensures.meaning (sym c.is_some-else-is_some.ensures ∙ h)),
      λ h.
          elim (Contains-append_cases (table_names cat) (index_names cat) name h) [
            | inl k ↦ absurd (free cat name c.table.result c.table.ensures.meaning (sym c.is_some.ensures ∙ c.if-is_some.false) k)
            | inr k ↦ c.is_some-else-is_some.ensures ∙ some-index cat name c.index_named.result c.index_named.ensures.meaning k
          ],
    )
