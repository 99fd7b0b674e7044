-- How keys are found column by column, without a list of the classes that are taken: what stands before is asked again. Own.
use Rattle.std.specs.Prelude.{ℕ, Bool, false, cond, ◌||◌, nat_eq, List, [], ◌∷◌, ◌++◌, map, Option, Some, None, ◌≡◌, slice_get}
use Rattle.std.specs.List.{list_any, cons_option}
use Rattle.catalog.specs.opfamily_classes_IndexKey.{IndexKey}
use Rattle.eq_classes.specs.declared.classes.ClassNo.{ClassNo}
use Rattle.eq_classes.specs.declared.order.OrderItem.{OrderItem}
use Rattle.eq_classes.specs.Clauses.{ClassTable}
use Rattle.eq_classes.specs.Listing.{class_at}
use Rattle.pathkeys.specs.declared.index_order.Found.{Found}
use Rattle.pathkeys.specs.declared.index_order.Found.TheVariants.{Ends, Passes, Gives}
use Rattle.pathkeys.specs.Keys.{Keys, Step, ends, passes, gives, is_constant, order_class, class_of_key, has_direction, keys_from, index_keys}
use Rattle.pg_base.specs.declared.numbers.IndexNo.{IndexNo}
use Rattle.catalog.specs.Contents.{Contents}
use Rattle.pg_base.specs.declared.numbers.RelNo.{RelNo}

-- the numbers of classes
abbrev pub class_numbers : List ClassNo → List ℕ
class_numbers cs = map (λ (c : ClassNo). c.0) cs

-- the class that was found, if one was, has the number
abbrev pub is_class : ℕ → Option ℕ → Bool
is_class n None = false
is_class n (Some m) = nat_eq n m

-- the step that a `Found` stands for
abbrev pub step_found : Found → Step
step_found Ends = ends
step_found Passes = passes
step_found (Gives c) = gives c.0

-- one of these key columns has the class
abbrev pub is_of_some : ClassTable → ℕ → List IndexKey → ℕ → Bool
is_of_some t r before n = list_any (λ k. is_class n (class_of_key t r k)) before

-- what a key column adds after others
abbrev pub step_after : ClassTable → ℕ → Bool → List IndexKey → IndexKey → Option ℕ → Step
step_after t r backward before k None = ends
step_after t r backward before k (Some n) =
    cond (is_constant t n || is_of_some t r before n) passes (cond (has_direction backward k (class_at t.classes n)) (gives n) ends)

-- what a key column with its own class adds after others
abbrev pub key_step : ClassTable → ℕ → Bool → List IndexKey → IndexKey → Step
key_step t r backward before k = step_after t r backward before k (class_of_key t r k)

-- the class at a place of the keys that the key columns of a B-tree give
abbrev pub btree_key : ClassTable → ℕ → Bool → List IndexKey → ℕ → Option ℕ
btree_key t r backward ks n = slice_get (keys_from t r backward [] ks) n

-- the class at a place of the keys of an index scan
abbrev pub index_key_at : Contents → ClassTable → IndexNo → ℕ → Bool → ℕ → Option ℕ
index_key_at c t i r backward n = slice_get (index_keys c t i r backward) n

-- the classes gain those that the key columns of a B-tree give at their end
abbrev pub GainsKeys : ClassTable → RelNo → Bool → List IndexKey → List ClassNo → List ClassNo → Type 0
GainsKeys t r backward ks old new = class_numbers new ≡ class_numbers old ++ keys_from t r.0 backward [] ks

-- the keys of columns after others
abbrev pub keys_after : ClassTable → ℕ → Bool → List IndexKey → List IndexKey → Keys
keys_after t r backward before [] = []
keys_after t r backward before (k ∷ ks) =
    elim (step_after t r backward before k (class_of_key t r k)) [
      | ends ↦ []
      | passes ↦ keys_after t r backward (before ++ k ∷ []) ks
      | gives n ↦ n ∷ keys_after t r backward (before ++ k ∷ []) ks
    ]

-- one of these ORDER BY items is by the class
abbrev pub is_ordered_by : ClassTable → List OrderItem → ℕ → Bool
is_ordered_by t before n = list_any (λ (i : OrderItem). is_class n (order_class t i.col)) before

-- the class of an item after others: none where it has a constant or stood before
abbrev pub new_class : ClassTable → List OrderItem → Option ℕ → Option ℕ
new_class t before None = None
new_class t before (Some n) = cond (is_constant t n || is_ordered_by t before n) None (Some n)

-- the class of an ORDER BY item after others
abbrev pub item_class : ClassTable → List OrderItem → OrderItem → Option ℕ
item_class t before i = new_class t before (order_class t i.col)

-- the keys of items after others
abbrev pub order_after : ClassTable → List OrderItem → List OrderItem → Keys
order_after t before [] = []
order_after t before (i ∷ is) = cons_option (new_class t before (order_class t i.col)) (order_after t (before ++ i ∷ []) is)
