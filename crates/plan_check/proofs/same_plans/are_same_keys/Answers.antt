use Rattle.std.proofs.Common.{◌∙◌, ap, sym}
use Rattle.std.proofs.lemmas.Slice.Eq.{slice_eq-Decides}
use Rattle.plan_tree.specs.pathkeys_Finding.{class_numbers}
use Rattle.plan_check.proofs.SameLemmas.{class-decides, same-classes}
use Rattle.plan_check.proofs.same_plans.are_same_keys.Goals as goal

pub returns : goal.returns
returns c =
    let a = c.items.result.now in
    let b = c.items-2.result.now in
    let d = slice_eq-Decides class-decides a b c.eq.result c.eq.ensures in (
      λ e. sym c.items.ensures.list ∙ (ap class_numbers (d.0 e) ∙ c.items-2.ensures.list),
      λ e. d.1 (same-classes a b (c.items.ensures.list ∙ (e ∙ sym c.items-2.ensures.list))),
    )
