use Rattle.std.proofs.Common.{◌≡◌, true, List, AllPairs, ap, subst, arith}
use Rattle.pg_expr.specs.declared.operand.ColRef.{ColRef}
use Rattle.pg_expr.specs.Pushed.{is_lower}
use Rattle.eq_classes.specs.work.Building.{IsMasked}
use Rattle.eq_classes.specs.Classes.{Class}
use Rattle.eq_classes.proofs.NamedLemmas.{lowest_is}
use Rattle.eq_classes.proofs.class.EqClass.lowest.Goals as goal

pub returns : goal.returns
returns c =
    let same = ap (λ (k : Class). k.members) c.self.view_is in
    let masked : IsMasked c.self.inside.rels.0 c.args.self.now.members = subst (λ (l : List ColRef). IsMasked c.self.inside.rels.0 l) same c.self.invariant.0 in
    let rising : AllPairs (λ x y. is_lower x y ≡ true) c.args.self.now.members = subst (λ (l : List ColRef). AllPairs (λ x y. is_lower x y ≡ true) l) same c.self.invariant.1 in
    λ r. lowest_is c.self.inside.rels.0 c.args.self.now masked rising c.args.set.0 (omega arith) c.shared.result.0 c.shared.ensures c.first.result c.first.ensures.found c.first.ensures.least c.first.ensures.none r
