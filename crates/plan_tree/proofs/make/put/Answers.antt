use Rattle.std.proofs.Common.{sym, subst, OnOk}
use Rattle.pareto.specs.work.Front.{IsCovered}
use Rattle.plan_tree.specs.work.Views.{is_path_at_most}
use Rattle.plan_tree.proofs.FrontLemmas.{kept-after, covered-after}
use Rattle.plan_tree.proofs.make.put.Goals.{in-Ok, in-Err}
use Rattle.plan_tree.proofs.make.put.Goals as goal

pub returns-clause-kept : goal.returns-clause-kept
returns-clause-kept c = kept-after c.offer.result c.args.front.now c.offer.new.self c.args.made c.offer.ensures.kept c.offer.ensures.err

pub returns-clause-covered : goal.returns-clause-covered
returns-clause-covered c = covered-after c.offer.result c.args.front.now c.offer.new.self c.args.made c.offer.ensures.covered c.offer.ensures.err

pub returns-clause-offered : goal.returns-clause-offered
returns-clause-offered c =
    elim c.match-offer.branch [
      | in-Ok w ↦ subst (λ r. OnOk r (IsCovered is_path_at_most c.offer.new.self c.args.made)) (sym w.result-is) w.in-Ok.ensures.offered
      | in-Err w ↦ subst (λ r. OnOk r (IsCovered is_path_at_most c.offer.new.self c.args.made)) (sym w.result-is) tt
    ]
