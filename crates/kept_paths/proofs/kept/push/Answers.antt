use Rattle.std.proofs.Common.{subst, sym}
use Rattle.std.specs.Prelude.{All, List}
use Rattle.pareto.specs.work.Front.{IsCovered}
use Rattle.plan_tree.specs.work.Views.{is_path_at_most}
use Rattle.plan_tree.specs.declared.path.Path.{Path as Costed}
use Rattle.plan_tree.proofs.FrontLemmas.{covers-itself}
use Rattle.kept_paths.proofs.PlaceLemmas.{push-covers}
use Rattle.kept_paths.proofs.kept.push.Goals as goal

pub returns-in_err-push-clause-covered : goal.returns-in_err-push-clause-covered
returns-in_err-push-clause-covered c =
    subst (λ (xs : List Costed). All (IsCovered is_path_at_most xs) c.args.paths.now.items) (sym c.in_err-push.ensures.items) (covers-itself c.args.paths.now.items)

pub returns-clause-covered : goal.returns-clause-covered
returns-clause-covered c =
    subst (λ (xs : List Costed). All (IsCovered is_path_at_most xs) c.args.paths.now.items) (sym c.in_ok-push.ensures.items) (push-covers c.args.paths.now.items c.args.made)
