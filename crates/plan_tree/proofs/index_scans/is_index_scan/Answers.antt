use Rattle.std.proofs.Common.{◌∙◌, List, ap, sym, subst}
use Rattle.pg_base.specs.Sets.{has}
use Rattle.pg_expr.specs.work.AtomSets.{contains}
use Rattle.pg_expr.specs.Cond.{Cond}
use Rattle.eq_classes.specs.Clauses.{ClassTable}
use Rattle.index_match.specs.Usable.{IsUsable}
use Rattle.plan_tree.specs.Space.{IsSameSet, may_go, others_named}
use Rattle.plan_tree.proofs.ConditionLemmas.{names-listed}
use Rattle.plan_tree.proofs.index_scans.is_index_scan.Goals as goal

pub returns-then-serves : goal.returns-then-serves
returns-then-serves c =
    let r = c.args.r.0 in
    let p = has c.args.p.0 in
    let listed = names-listed c.args.cat.now c.args.q.now.classes c.args.i r p (contains c.conditions_found-found.result) c.conditions_found-found.ensures in (
      λ is. record {
        relation = c.requires.relation;
        index = c.requires.index;
        usable = subst (λ (t : ClassTable). IsUsable c.args.cat.now t c.args.i r) c.classes_of.ensures (c.usable.ensures.usable.0 c.if-not-usable.false);
        direction = ap (λ h. may_go c.args.backward h c.args.p) (sym c.is_hash-hash.ensures) ∙ sym c.may_go.ensures ∙ c.if-not-may_go.false;
        condition = sym c.serves.ensures ∙ c.if-serves.true;
        named = subst (λ (es : List Cond). IsSameSet p (others_named r es)) listed (c.names_exactly.ensures.0 is);
      },
      λ scan. c.names_exactly.ensures.1 (subst (λ (es : List Cond). IsSameSet p (others_named r es)) (sym listed) scan.named),
    )
