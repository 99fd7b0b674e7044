use Rattle.std.proofs.Common.{◌≡◌, ◌<◌, ◌≤◌, ◌+◌, ◌^◌, ◌∙◌, List, map, All, length, nat_lt, true, sym, subst, arith}
use Rattle.pg_expr.specs.declared.expr.Expr.{Expr}
use Rattle.pg_expr.specs.work.Columns.{rels_below}
use Rattle.pg_expr.specs.work.View as view
use Rattle.eq_classes.specs.declared.clauses.Listed.{Listed}
use Rattle.eq_classes.specs.Classes.{Class, AreClasses}
use Rattle.eq_classes.specs.Clauses.{conjunct_clauses, clause_list}
use Rattle.eq_classes.specs.work.Building.{given}
use Rattle.eq_classes.specs.work.Listing.{clauses_of, AreNamed}
use Rattle.eq_classes.proofs.ListedLemmas.{listed_is, listed_near, listed_few, classes_low}
use Rattle.eq_classes.proofs.classes.Classes.make.Goals as goal

pub add_classes-requires : goal.add_classes-requires
add_classes-requires g c =
    let t = g.B.Binding.type_of c.args.typed.now in
    let es = c.args.conjuncts.items.items in
    let order = c.args.order.now in
    let cs = c.in_ok-classes.classes.items in
    let are : AreClasses (given t es order) cs = subst (λ (l : List Expr). AreClasses (given t l order) cs) c.items.ensures c.in_ok-classes.ensures.built in
    subst (λ (l : List Class). length l < 2 ^ 16) (sym c.deref-2.ensures.value) (classes_low t es order c.requires.order_rels c.in_ok-classes.ensures.narrow cs are c.requires.few)

pub relations-requires : goal.relations-requires
relations-requires g c =
    let t = g.B.Binding.type_of c.args.typed.now in
    let es = c.args.conjuncts.items.items in
    let order = c.args.order.now in
    let cs = c.in_ok-classes.classes.items in
    let are : AreClasses (given t es order) cs = subst (λ (l : List Expr). AreClasses (given t l order) cs) c.items.ensures (c.in_ok-classes.ensures.built) in
    let is : clauses_of cs c.add_classes.new.out.items ≡ clause_list t (map view.cond es) cs = listed_is cs c.deref.result.now c.deref-2.result.now c.new-clauses.result.items c.add_conjuncts.new.out.items c.add_classes.new.out.items (conjunct_clauses t 1 (map view.cond es))
    c.deref.ensures.value c.deref-2.ensures.value c.new-clauses.ensures.items (c.in_ok-add_conjuncts.ensures {u = tt}) (c.in_ok-add_classes.ensures {u = tt}) in
    subst (λ (l : List Listed). All (λ k. rels_below 16 (view.cond k.expr) ≡ true) l) (sym c.deref-3.ensures.value) (listed_near t es order c.requires.rels c.requires.order_rels cs are c.add_classes.new.out.items is)

pub invariant_of-result : goal.invariant_of-result
invariant_of-result g c =
    let t = g.B.Binding.type_of c.args.typed.now in
    let es = c.args.conjuncts.items.items in
    let order = c.args.order.now in
    let cs = c.in_ok-classes.classes.items in
    let are : AreClasses (given t es order) cs = subst (λ (l : List Expr). AreClasses (given t l order) cs) c.items.ensures (c.in_ok-classes.ensures.built) in
    let is : clauses_of cs c.add_classes.new.out.items ≡ clause_list t (map view.cond es) cs = listed_is cs c.deref.result.now c.deref-2.result.now c.new-clauses.result.items c.add_conjuncts.new.out.items c.add_classes.new.out.items (conjunct_clauses t 1 (map view.cond es))
    c.deref.ensures.value c.deref-2.ensures.value c.new-clauses.ensures.items (c.in_ok-add_conjuncts.ensures {u = tt}) (c.in_ok-add_classes.ensures {u = tt}) in
    let low = classes_low t es order c.requires.order_rels c.in_ok-classes.ensures.narrow cs are c.requires.few in (
      low,
      listed_few t es order c.requires.rels c.requires.order_rels cs are c.add_classes.new.out.items is c.requires.few,
      subst (λ (l : List Listed). AreNamed c.in_ok-named.named.items l) c.deref-3.ensures.value (c.in_ok-named.ensures {u = tt}),
    )
