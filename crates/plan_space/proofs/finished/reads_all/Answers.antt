use Rattle.sql_query.specs.Queries.{width}
use Rattle.plan_tree.specs.work.Views.{plan}
use Rattle.plan_tree.proofs.EstimateLemmas.{below-more}
use Rattle.plan_space.proofs.JoinLemmas.{all-read}
use Rattle.plan_space.proofs.finished.reads_all.Goals as goal

pub set_of-requires : goal.set_of-requires
set_of-requires c = record { below = below-more (width c.args.q.now) 16 (plan c.args.p.now) c.requires.few c.requires.reads }

pub returns : goal.returns
returns c =
    let is = all-read (width c.args.q.now) c.set_of.result.0 (plan c.args.p.now) c.requires.reads c.set_of.ensures.members in
    (λ h. is.0 (c.has_all.ensures.0 h), λ h. c.has_all.ensures.1 (is.1 h))
