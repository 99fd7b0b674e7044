-- The keys of ORDER BY held against a list of classes, item by item. Own.
use Rattle.std.specs.Prelude.{◌≡◌, ℕ, ◌+◌, Bool, not, nat_eq, List, drop, filter, filter_map, length, take, [], ◌∷◌, false, Option, option_map}
use Rattle.std.specs.List.{list_any, cons_option}
use Rattle.eq_classes.specs.declared.order.OrderItem.{OrderItem}
use Rattle.eq_classes.specs.Clauses.{ClassTable}
use Rattle.pathkeys.specs.Keys.{Keys, covers, is_constant, once, order_class, order_keys}
use Rattle.eq_classes.specs.declared.classes.ClassNo.{ClassNo}
use Rattle.sql_query.specs.Queries.{Query}
use Rattle.pathkeys.specs.work.Finding.{class_numbers}

-- the classes of ORDER BY items that have no constant, also those that stood before; once each they are the keys
abbrev pub classes_asked : ClassTable → List OrderItem → List ℕ
classes_asked t items = filter (λ n. not (is_constant t n)) (filter_map (λ (item : OrderItem). order_class t item.col) items)

-- classes once each, without those of a list
abbrev pub once_besides : Keys → List ℕ → Keys
once_besides taken ns = filter (λ n. not (list_any (nat_eq n) taken)) (once ns)

-- the classes once each, besides those before a place of a list, are what the list begins with there
abbrev pub goes_on : Keys → ℕ → List ℕ → Bool
goes_on keys at ns = covers (drop at keys) (once_besides (take at keys) ns)

-- a list goes on at one place with some classes where it does at another with others, and has as many of them in all
pub record GoesOnAs (keys : Keys) (at : ℕ) (ns : List ℕ) (next : ℕ) (rest : List ℕ) : Type 0 where
  pub begins : goes_on keys at ns ≡ goes_on keys next rest
  pub count : at + length (once_besides (take at keys) ns) ≡ next + length (once_besides (take next keys) rest)

-- the number of a class, where there is one, as a list
abbrev pub class_listed : Option ClassNo → List ℕ
class_listed found = cons_option (option_map (λ (c : ClassNo). c.0) found) []

-- a list goes on at a place with a class, and with any others behind it as it does with these at the next place
abbrev pub GoesOnPastClass : List ClassNo → ℕ → ClassNo → ℕ → Type 0
GoesOnPastClass list at c next = (ns : List ℕ) → GoesOnAs (class_numbers list) at (c.0 ∷ ns) next ns

-- a list does not go on at a place with the class, whatever stands behind
abbrev pub StopsAtClass : List ClassNo → ℕ → ClassNo → Type 0
StopsAtClass list at c = (ns : List ℕ) → goes_on (class_numbers list) at (c.0 ∷ ns) ≡ false

-- a list goes on at a place with an item of ORDER BY, and with any others behind it as it does with these at the next place
abbrev pub GoesOnPastItem : ClassTable → List ClassNo → ℕ → OrderItem → ℕ → Type 0
GoesOnPastItem t list at item next =
    (items : List OrderItem) → GoesOnAs (class_numbers list) at (classes_asked t (item ∷ items)) next (classes_asked t items)

-- a list does not go on at a place with the item of ORDER BY, whatever stands behind
abbrev pub StopsAtItem : ClassTable → List ClassNo → ℕ → OrderItem → Type 0
StopsAtItem t list at item = (items : List OrderItem) → goes_on (class_numbers list) at (classes_asked t (item ∷ items)) ≡ false

-- a list begins with the keys of ORDER BY
abbrev pub is_order_begun : ClassTable → List OrderItem → List ClassNo → Bool
is_order_begun t items list = covers (class_numbers list) (order_keys t items)

-- the keys of the query's ORDER BY
abbrev pub keys_asked : Query → Keys
keys_asked q = order_keys q.classes q.order
