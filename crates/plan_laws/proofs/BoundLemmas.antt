-- Well bound queries over other indexes, and the least price of a query.
use Rattle.std.proofs.Common.{◌≡◌, ℕ, List, sym, ◌∙◌}
use Rattle.std.proofs.lemmas.List.Elements.{All-weaker}
use Rattle.std.proofs.Math.Nat.{le_antisymm}
use Rattle.catalog.specs.Contents.{Contents, TableDef, NamedIndex}
use Rattle.sql_query.specs.Queries.{Query}
use Rattle.sql_query.specs.WellBound.{IsColumnOf, IsWellBound}
use Rattle.plan_laws.specs.Moved.{HasPrice, over}
use Rattle.plan_tree.specs.Least.{HasNoPlan}

pub bound-over : (tables : List TableDef) (a b : List NamedIndex) (q : Query) → IsWellBound (over tables a) q → IsWellBound (over tables b) q
bound-over tables a b q h = record {
  range = record { some = h.range.some; few = h.range.few; tables = h.range.tables; names = h.range.names; distinct = h.range.distinct };
  used = All-weaker (IsColumnOf (over tables a) q.range) (IsColumnOf (over tables b) q.range) (λ x k. record { relation = k.relation; column = k.column }) q.used h.used;
  select = h.select;
  order = h.order;
  conditions = h.conditions;
  typed = h.typed;
  limits = h.limits;
  items = h.items;
  named = h.named;
  classes = h.classes;
  stands = h.stands;
  directions = h.directions;
}

pub one-price : (c : Contents) (q : Query) (m n : ℕ) → HasPrice c q m → HasPrice c q n → m ≡ n
one-price c q m n h k =
    sym h.is
    ∙ le_antisymm (h.best.least k.plan k.best.finished k.best.admissible) (k.best.least h.plan h.best.finished h.best.admissible)
    ∙ k.is

pub priced-plan : (c : Contents) (q : Query) (n : ℕ) → HasPrice c q n → ¬ HasNoPlan c q
priced-plan c q n h none = none h.plan h.best.finished h.best.admissible
