use Rattle.std.proofs.Common.{◌≡◌, refl, subst}
use Rattle.expr_reader.specs.declared.found.Found.TheVariants.{NoColumn}
use Rattle.expr_reader.specs.Scope.{of_name, the_one}
use Rattle.query_reader.specs.Scope.{scope_after}
use Rattle.query_reader.specs.work.Scope.{Sight, visible_in}
use Rattle.query_reader.proofs.RelationsLemmas.{after, after-none, left, name-parts}
use Rattle.query_reader.proofs.relations.Relations.named.Goals as goal

pub loop-number-init : goal.loop-number-init
loop-number-init c =
    subst (λ (s : Sight). after NoColumn (left (of_name c.args.name.now) (name-parts c.args.name.now) refl s c.self.inside.first) ≡ the_one (of_name c.args.name.now (visible_in s))) c.self.view_is
    (after-none (of_name c.args.name.now (scope_after c.self.inside.cat.now c.self.inside.first c.self.inside.range.now)))
