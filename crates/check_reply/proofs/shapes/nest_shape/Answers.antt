use Rattle.plan_check.specs.work.Views.{certificate, entry}
use Rattle.check_reply.proofs.ShapeLemmas.{nest-tells}
use Rattle.check_reply.proofs.shapes.nest_shape.Goals as goal

pub returns : goal.returns
returns c = λ c' q right p stands built.
    nest-tells c' q (certificate c.args.t.now) right (entry c.entry_at-a.result.now) (entry c.entry_at-b.result.now) c.union.result c.in_ok-keys.keys c.union.ensures c.args.outer c.args.inner p c.requires.some.0 c.requires.some.1
    c.entry_at-a.ensures c.entry_at-b.ensures c.in_ok-keys.ensures.equal stands
