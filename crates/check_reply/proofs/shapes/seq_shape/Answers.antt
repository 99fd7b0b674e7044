use Rattle.check_reply.proofs.ShapeLemmas.{seq-tells}
use Rattle.check_reply.proofs.shapes.seq_shape.Goals as goal

pub returns : goal.returns
returns c = λ c' q t p is built. seq-tells c' q t c.args.rel c.one.result c.one.ensures c.in_ok-from_slice.field-0 p c.in_ok-from_slice.ensures.list is built
