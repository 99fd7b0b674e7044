use Rattle.std.proofs.Common.{◌≡◌, ◌∙◌, length, ap, sym, arith}
use Rattle.std.proofs.lemmas.Grind.{common_steps}
use Rattle.std.proofs.lemmas.List.{length-map}
use Rattle.plan_tree.specs.work.Views.{element}
use Rattle.plan_tree.proofs.ElementLemmas.{full-kept}
use Rattle.plan_tree.proofs.elements.Elements.add.Goals as goal

pub returns-else-not-is_full : goal.returns-else-not-is_full
returns-else-not-is_full c =
    let long : length c.self.inside.kept.items ≡ 8 = grind (arith, common_steps) in
    sym (full-kept c.args.self.now (element c.args.e) (ap length (sym c.self.view_is) ∙ length-map c.self.inside.kept.items element ∙ long))
