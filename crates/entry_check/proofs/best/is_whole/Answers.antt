use Rattle.std.proofs.Common.{◌∙◌, sym}
use Rattle.std.proofs.lemmas.Bool.{false≢true}
use Rattle.plan_check.specs.work.Views.{entry}
use Rattle.entry_check.proofs.BestLemmas.{whole-param, whole-set, whole-yes}
use Rattle.entry_check.proofs.best.is_whole.Goals as goal

pub returns-then-not-has_all : goal.returns-then-not-has_all
returns-then-not-has_all c = λ contents p r. (
  λ is. absurd (false≢true is),
  λ h. absurd (false≢true (sym c.if-not-has_all.true ∙ c.has_all.ensures.1 (whole-set contents c.args.q.now (entry c.args.e.now) p r h))),
)

pub returns : goal.returns
returns c = λ contents p r. (
  λ is. whole-yes contents c.args.q.now (entry c.args.e.now) p r (c.has_all.ensures.0 c.if-not-has_all.false) (c.is_empty.ensures.0 is),
  λ h. c.is_empty.ensures.1 (whole-param contents c.args.q.now (entry c.args.e.now) p r h),
)
