use Rattle.std.proofs.Common.{◌≡◌, List, Vec, subst}
use Rattle.std.specs.declared.alloc.Global.{Global}
use Rattle.eq_classes.specs.declared.order.OrderItem.{OrderItem}
use Rattle.pg_expr.specs.declared.operand.ColRef.{ColRef}
use Rattle.expr_reader.specs.Lists.{bound_each}
use Rattle.query_reader.specs.work.Conveys.{Conveys}
use Rattle.query_reader.specs.work.Scope.{visible_in}
use Rattle.group_reader.specs.work.Meaning.{sorting_said}
use Rattle.group_reader.proofs.bind.sort_items.Goals as goal

pub returns : goal.returns
returns c = subst (λ (xs : List ColRef). Conveys (λ is (v : Vec OrderItem Global). v.items ≡ is) (bound_each (sorting_said (visible_in c.args.relations.now) xs) c.args.sorts.now) c.sorted.result) c.of.ensures c.sorted.ensures
