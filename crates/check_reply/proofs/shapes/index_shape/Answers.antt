use Rattle.std.proofs.Common.{subst, sym}
use Rattle.plan_check.specs.Certificates.{Node}
use Rattle.check_reply.specs.work.Telling.{Tells}
use Rattle.check_reply.proofs.ShapeLemmas.{index-tells}
use Rattle.check_reply.proofs.shapes.index_shape.Goals as goal

pub returns : goal.returns
returns c = λ t p is built.
    let cat = c.args.cat.now in
    let q = c.args.q.now in
    let s = c.args.s in
    subst (λ (n : Node). Tells cat q t c.one.result s.param n c.in_ok-keys.keys p) (sym c.index_node.ensures)
    (index-tells cat q t s.rel c.one.result c.one.ensures s.index s.backward s.param c.in_ok-keys.keys p c.in_ok-keys.ensures s.only is built)
