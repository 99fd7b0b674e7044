-- The order of a well bound query stands to its classes.
use Rattle.std.proofs.Common.{List, [], All, Contains, sym, ap, ◌∙◌}
use Rattle.std.proofs.lemmas.List.Elements.{All-nil}
use Rattle.catalog.specs.Contents.{Contents}
use Rattle.catalog.specs.Range.{type_in}
use Rattle.eq_classes.specs.declared.order.OrderItem.{OrderItem}
use Rattle.eq_classes.specs.Classes.{IsClass, direction_by, orders_by}
use Rattle.eq_classes.specs.Holding.{IsClassTable}
use Rattle.eq_classes.proofs.HoldLemmas.{map_in}
use Rattle.eq_classes.proofs.ListLemmas.{all_at, all_from, contains_from_in, found_in, found_passes}
use Rattle.sql_query.specs.Queries.{Query, in_order_of}
use Rattle.sql_query.specs.WellBound.{IsDirected, IsWellBound, given_of, ordered_columns}
use Rattle.sql_query.specs.work.WellBound.{IsDirectedBy}

-- where classes are made of the order itself, its columns stand among those of its items
pub own_stands : (order : List OrderItem) → All (λ i. Contains (ordered_columns order) i.col) order
own_stands order = all_from (λ (i : OrderItem). Contains (ordered_columns order) i.col) order (λ i at. contains_from_in (ordered_columns order) i.col (map_in (λ (k : OrderItem). k.col) order i at))

-- where classes are made of the order itself, each has the direction of its first item
pub own_directions : (c : Contents) (q : Query) → IsClassTable (given_of c q) q.classes → All (IsDirected c q) q.classes.classes
own_directions c q is = all_from (IsDirected c q) q.classes.classes
    (λ k at free item found.
    let own : IsClass (given_of c q) k = all_at (IsClass (given_of c q)) q.classes.classes is.classes.each k at in
    sym (own.direction ∙ ap direction_by found))

-- a query in another order
module _ (c : Contents) (q : Query) (is : IsWellBound c q) where
  pub in_other_order : (order : List OrderItem) → All (λ i. Contains q.used i.col) order → All (λ i. Contains (ordered_columns is.items) i.col) order →
      All (IsDirectedBy c q) order → IsWellBound c (in_order_of q order)
  in_other_order order used stands directed = record {
    range = is.range;
    used = is.used;
    select = is.select;
    order = used;
    conditions = is.conditions;
    typed = is.typed;
    limits = is.limits;
    items = is.items;
    named = is.named;
    classes = is.classes;
    stands = stands;
    directions = all_from (IsDirected c (in_order_of q order)) q.classes.classes
        (λ k at free item found. all_at (IsDirectedBy c q) order directed item (found_in (orders_by (type_in c q.range) k) order item found) k
        (contains_from_in q.classes.classes k at) (found_passes (orders_by (type_in c q.range) k) order item found) free);
  }

  -- no order asks for nothing of the classes
  pub in_no_order : IsWellBound c (in_order_of q [])
  in_no_order = in_other_order [] (All-nil _) (All-nil _) (All-nil _)
