use Rattle.std.proofs.Common.{◌∙◌, sym, subst, true≢false}
use Rattle.join_search.specs.work.Joins.{IsSingle}
use Rattle.join_search.proofs.LikelyLemmas.{placed-put}
use Rattle.join_search.proofs.TableLemmas.{same-number}
use Rattle.join_search.proofs.likely.add_joins.Goals as goal

pub returns-in-Ok-clause-placed : goal.returns-in-Ok-clause-placed
returns-in-Ok-clause-placed c = placed-put c.args.task.now.cat.now c.args.task.now.q.now c.args.before c.put.new.self c.args.set c.in_ok-front.front c.in-Ok.ensures.here c.put.ensures.others c.requires.placed c.in_ok-front.ensures

pub returns-in-Ok-clause-scans : goal.returns-in-Ok-clause-scans
returns-in-Ok-clause-scans c =
    λ s p single. c.put.ensures.others s p (λ e. true≢false (sym (c.is_single.ensures.1 (subst IsSingle (same-number s c.args.set e.0) single)) ∙ c.if-is_single.false))
