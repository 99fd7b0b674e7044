use Rattle.std.proofs.Common.{List, ap, subst, arith}
use Rattle.pg_expr.specs.declared.operand.ColRef.{ColRef}
use Rattle.eq_classes.specs.work.Building.{IsMasked}
use Rattle.eq_classes.specs.Classes.{Class}
use Rattle.eq_classes.proofs.NamedLemmas.{class_meets}
use Rattle.eq_classes.proofs.class.EqClass.has_in.Goals as goal

pub returns : goal.returns
returns c =
    let masked : IsMasked c.self.inside.rels.0 c.args.self.now.members = subst (λ (l : List ColRef). IsMasked c.self.inside.rels.0 l) (ap (λ (k : Class). k.members) c.self.view_is) c.self.invariant.0 in
    class_meets c.self.inside.rels.0 c.args.self.now masked c.args.set.0 c.meets.result (omega arith) c.meets.ensures
