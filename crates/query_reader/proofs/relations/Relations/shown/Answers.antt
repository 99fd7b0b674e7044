use Rattle.std.proofs.Common.{◌≡◌, refl, subst}
use Rattle.expr_reader.specs.declared.found.Found.TheVariants.{NoColumn}
use Rattle.expr_reader.specs.Scope.{the_one}
use Rattle.query_reader.specs.Order.{shown_of_name}
use Rattle.query_reader.specs.Scope.{scope_after}
use Rattle.query_reader.specs.work.Scope.{Sight, visible_in}
use Rattle.query_reader.proofs.RelationsLemmas.{after, after-none, left, shown-parts}
use Rattle.query_reader.proofs.relations.Relations.shown.Goals as goal

pub loop-number-init : goal.loop-number-init
loop-number-init c =
    subst (λ (s : Sight). after NoColumn (left (λ x. shown_of_name x c.args.select.now c.args.name.now) (shown-parts c.args.select.now c.args.name.now) refl s c.self.inside.first) ≡ the_one (shown_of_name (visible_in s) c.args.select.now c.args.name.now)) c.self.view_is
    (after-none (shown_of_name (scope_after c.self.inside.cat.now c.self.inside.first c.self.inside.range.now) c.args.select.now c.args.name.now))
