use Rattle.std.proofs.Common.{List, length, get_or, ◌<◌, subst}
use Rattle.std.specs.Prelude.{IsTrue}
use Rattle.plan_tree.specs.work.Views.{is_path_at_most}
use Rattle.plan_tree.specs.declared.path.Path.{Path as Costed}
use Rattle.kept_paths.proofs.PlaceLemmas.{set-covers, set-has}
use Rattle.kept_paths.proofs.kept.put.Goals as goal

pub returns-then-gives_way-clause-covered : goal.returns-then-gives_way-clause-covered
returns-then-gives_way-clause-covered c =
    set-covers c.args.paths.now.items c.args.made c.args.at (subst (λ (xs : List Costed). c.args.at < length xs) c.deref.ensures.value (c.gives_way.ensures.within c.if-gives_way.true))
    (subst (λ (xs : List Costed). IsTrue (is_path_at_most c.args.made (get_or xs c.args.at c.args.made))) c.deref.ensures.value (c.gives_way.ensures.most c.if-gives_way.true))

pub returns-then-gives_way-clause-offered : goal.returns-then-gives_way-clause-offered
returns-then-gives_way-clause-offered c =
    set-has c.args.paths.now.items c.args.made c.args.at (subst (λ (xs : List Costed). c.args.at < length xs) c.deref.ensures.value (c.gives_way.ensures.within c.if-gives_way.true))
