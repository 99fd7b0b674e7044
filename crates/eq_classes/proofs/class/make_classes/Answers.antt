use Rattle.std.proofs.Common.{subst, sym, ◌∙◌}
use Rattle.eq_classes.specs.Classes.{AreClasses}
use Rattle.eq_classes.specs.work.Building.{given}
use Rattle.eq_classes.proofs.BuiltLemmas.{built_is, all_are_classes}
use Rattle.eq_classes.proofs.class.make_classes.Goals as goal

pub returns-clause-built : goal.returns-clause-built
returns-clause-built g c =
    let own = given (g.B.Binding.type_of c.args.typed.now) c.args.conjuncts.now c.args.order.now in
    let groups = c.in_ok-groups.ensures {u = tt} in
    let is = built_is own c.deref.result.now c.deref.result.now c.new-classes.result.items c.note_conjuncts.new.classes.items c.note_items.new.classes.items
    (c.deref.ensures.value ∙ groups) (c.deref.ensures.value ∙ groups) c.new-classes.ensures.items (c.in_ok-note_conjuncts.ensures {u = tt}) c.in_ok-note_items.ensures.noted in
    subst (AreClasses own) (sym is) (all_are_classes own)
