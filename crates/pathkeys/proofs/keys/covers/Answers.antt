use Rattle.std.proofs.Common.{ap₂, refl, ◌∙◌}
use Rattle.eq_classes.specs.contracts.classes.ClassNoPartialEq.TheImpl as equal
use Rattle.pathkeys.specs.Keys.{Keys, covers}
use Rattle.pathkeys.proofs.CoveringLemmas.{begins-covers}
use Rattle.pathkeys.proofs.keys.covers.Goals as goal

pub returns : goal.returns
returns c = record {
  prefix = c.starts_with.ensures.value
      ∙ begins-covers (equal.eq-value).it (λ m n. refl) c.items.result.now c.items-2.result.now
      ∙ ap₂ (λ (a b : Keys). covers a b) c.items.ensures.list c.items-2.ensures.list;
}
