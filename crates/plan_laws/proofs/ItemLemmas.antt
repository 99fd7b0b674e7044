-- The class of an ORDER BY item, and how the item orders tuples beside it.
use Rattle.std.proofs.Common.{◌≡◌, Equal, ℕ, ◌+◌, ◌<◌, Bool, true, false, cond, ◌||◌, List, [], ◌∷◌, ◌++◌, length, inl, refl, sym, ap, ◌∙◌, subst, ⊎_elim}
use Rattle.std.specs.Prelude.{Option, None, Some, IsTrue, find, filter_map, option_map, Contains}
use Rattle.std.specs.List.{AllByRecursion, list_any, position_from}
use Rattle.std.proofs.lemmas.Bool.{cases_Bool, and_from, true≢false, lt-ltb}
use Rattle.pg_value.specs.declared.operators.Family.{Family}
use Rattle.pg_value.specs.declared.value.SqlType.{SqlType}
use Rattle.pg_value.specs.ColumnOrder.{column_order}
use Rattle.opfamily.specs.Answers.{default_family_of, is_family}
use Rattle.pg_expr.specs.declared.operand.ColRef.{ColRef}
use Rattle.catalog.specs.Range.{type_in}
use Rattle.eq_classes.specs.declared.order.OrderItem.{OrderItem}
use Rattle.eq_classes.specs.Equality.{equality_in}
use Rattle.eq_classes.specs.Classes.{Class, Mention, has_member, is_in, in_family, left_of, mentions, ordered_by, orders_by, is_some_and, direction_by, IsClass}
use Rattle.eq_classes.specs.Listing.{class_at}
use Rattle.eq_classes.specs.Parts.{is_all}
use Rattle.eq_classes.proofs.EqualLemmas.{family_self}
use Rattle.eq_classes.proofs.HoldLemmas.{in_map}
use Rattle.eq_classes.proofs.ListLemmas.{IsIn, all_at, any_from, filter_map_in, found_in, found_passes, in_at, in_from_contains, in_right}
use Rattle.eq_classes.proofs.PlainLemmas.{plain_class_default, plain_class_is}
use Rattle.eq_classes.proofs.SoundLemmas.{in_member, member_in}
use Rattle.plan_laws.proofs.PartLemmas.{apart_at}
use Rattle.sql_query.specs.Meaning.{item_order, item_order_in}
use Rattle.sql_query.specs.Queries.{Query, all_of_query, width}
use Rattle.sql_query.specs.Tuples.{Tuple, value_at}
use Rattle.sql_query.specs.WellBound.{given_with, IsColumnOf, IsDirected, IsWellBound, ordered_columns}
use Rattle.sql_query.specs.Worlds.{World, IsWorld}
use Rattle.pathkeys.specs.Keys.{class_of, order_class, is_constant}
use Rattle.pathkeys.specs.Sorted.{class_order, order_at}
use Rattle.plan_laws.specs.work.Meant.{holds_at}
use Rattle.plan_laws.proofs.ClauseLemmas.{typed}
use Rattle.plan_laws.proofs.IndexOrderLemmas.{ClassOf, class_found}
use Rattle.plan_laws.proofs.KeyLemmas.{find_more}
use Rattle.plan_laws.proofs.OrderedLemmas.{ItemsFollow}
use Rattle.plan_laws.proofs.TieLemmas.{tie_in_all, members_alike, constants_tie}
use Rattle.pg_base.proofs.OptionLemmas.{found-none as found_none}

-- what is found first where nothing before it passes
first_passing : {A : Type 0} (p : A → Bool) (before : List A) (x : A) (after : List A) → AllByRecursion (λ y. p y ≡ false) before → p x ≡ true → find p (before ++ x ∷ after) ≡ Some x
first_passing p [] x after h e = ap (λ (v : Bool). cond v (Some x) (find p after)) e
first_passing p (y ∷ ys) x after h e = ap (λ (v : Bool). cond v (Some y) (find p (ys ++ x ∷ after))) h.0 ∙ first_passing p ys x after h.1 e

module _ (w : World) (q : Query) (world : IsWorld w) (bound : IsWellBound w.contents q) where
  abbrev type_of : ColRef → SqlType
  type_of = type_in w.contents q.range

  -- the class by which a column orders is that of its default family
  order_class_is : (x : ColRef) (f : Family) → default_family_of (type_of x) ≡ Some f → order_class q.classes x ≡ class_of q.classes x f
  order_class_is = plain_class_is (given_with w.contents q bound.items) (typed w q world bound) q.classes.classes bound.classes.classes

  -- the class of an item, by its column's default family
  pub record ItemClass (x : ColRef) (n : ℕ) : Type 0 where
    pub in_default : Family
    pub default : default_family_of (type_of x) ≡ Some in_default
    pub class : ClassOf q.classes x in_default n

  class_by_default : (x : ColRef) (n : ℕ) → order_class q.classes x ≡ Some n → ItemClass x n
  class_by_default x n h =
      let by = plain_class_default (given_with w.contents q bound.items) (typed w q world bound) q.classes.classes bound.classes.classes x n h in
      record { in_default = by.0; default = by.1; class = class_found q.classes x by.0 n by.2 }

  -- a class that has an item's column in its default family is the item's
  class_is : (item : OrderItem) (n : ℕ) → n < length q.classes.classes → orders_by type_of (class_at q.classes.classes n) item ≡ true → order_class q.classes item.col ≡ Some n
  class_is item n low h = by_family (default_family_of (type_of item.col)) refl h
    where
      by_number : (f : Family) → is_in (class_at q.classes.classes n) (in_family item.col f) ≡ true → (o : Option ℕ) → class_of q.classes item.col f ≡ o → o ≡ Some n
      by_number f here None e = absurd (found_none (λ c. is_in c (in_family item.col f)) 0 q.classes.classes e (any_from (λ c. is_in c (in_family item.col f)) q.classes.classes (class_at q.classes.classes n) (in_at q.classes.classes n _ low) here))
      by_number f here (Some m) e =
          let of = class_found q.classes item.col f m e in
          let there : is_in (class_at q.classes.classes m) (in_family item.col f) ≡ true =
          and_from (is_family (class_at q.classes.classes m).family f) (has_member (class_at q.classes.classes m) item.col) (ap (λ (g : Family). is_family g f) (sym of.family) ∙ family_self f) of.member in
          ap Some (apart_at (given_with w.contents q bound.items) q.classes bound.classes (in_family item.col f) m n of.low low there here)

      by_family : (o : Option Family) → default_family_of (type_of item.col) ≡ o → is_some_and (is_in (class_at q.classes.classes n)) (option_map (in_family item.col) o) ≡ true → order_class q.classes item.col ≡ Some n
      by_family None e g = absurd (true≢false (sym g))
      by_family (Some f) e g = order_class_is item.col f e ∙ by_number f g (class_of q.classes item.col f) refl

  item_in : (before : List OrderItem) (item : OrderItem) (after : List OrderItem) → q.order ≡ before ++ item ∷ after → IsIn item q.order
  item_in before item after e = subst (IsIn item) (sym e) (in_right item before (item ∷ after) (inl refl))

  -- an item's column is of a relation of the query
  column_inside : (item : OrderItem) → IsIn item q.order → all_of_query q item.col.rel.0 ≡ true
  column_inside item i =
      lt-ltb item.col.rel.0 (width q)
      (all_at (IsColumnOf w.contents q.range) q.used bound.used item.col (in_from_contains q.used item.col (all_at (λ (o : OrderItem). Contains q.used o.col) q.order bound.order item i))).relation

  -- its column is that of an item of which the classes are made
  stood_item : (item : OrderItem) → IsIn item q.order → (j : OrderItem) × IsIn j bound.items × (item.col ≡ j.col)
  stood_item item i =
      in_map (λ (o : OrderItem). o.col) bound.items item.col
      (in_from_contains (ordered_columns bound.items) item.col (all_at (λ (o : OrderItem). Contains (ordered_columns bound.items) o.col) q.order bound.stands item i))

  module _ (x y : Tuple) (holds_x : holds_at w q x (is_all (all_of_query q)) ≡ true) (holds_y : holds_at w q y (is_all (all_of_query q)) ≡ true) where
    -- an item with a default family orders as that family does
    in_family_order : (item : OrderItem) (f : Family) → default_family_of (type_of item.col) ≡ Some f
        → item_order w q item x y ≡ column_order f item.descending item.nulls_first (value_at w q x item.col) (value_at w q y item.col)
    in_family_order item f e = ap (λ (o : Option Family). item_order_in w q item o x y) e

    item_by_class : (item : OrderItem) (n : ℕ) → ItemClass item.col n
        → item_order w q item x y ≡ column_order (class_at q.classes.classes n).family item.descending item.nulls_first (value_at w q x item.col) (value_at w q y item.col)
    item_by_class item n of =
        in_family_order item of.in_default of.default
        ∙ ap (λ (f : Family). column_order f item.descending item.nulls_first (value_at w q x item.col) (value_at w q y item.col)) of.class.family

    -- a column of a class orders as the class does
    class_alike : (item : OrderItem) → IsIn item q.order → (n : ℕ) → ItemClass item.col n
        → column_order (class_at q.classes.classes n).family (class_at q.classes.classes n).descending (class_at q.classes.classes n).nulls_first (value_at w q x item.col) (value_at w q y item.col)
        ≡ class_order (class_at q.classes.classes n) (all_of_query q) (value_at w q x) (value_at w q y)
    class_alike item i n of =
        let c = class_at q.classes.classes n in
        let all = all_of_query q in
        let inside = column_inside item i in
        let first = find_more (λ m. all m.rel.0) (λ m. all m.rel.0) (λ m is. is) c.members (any_from (λ m. all m.rel.0) c.members item.col (member_in c item.col of.class.member) inside) in
        members_alike w q world bound all c of.class.class x y holds_x holds_y item.col first.0 of.class.member (in_member c first.0 (found_in (λ m. all m.rel.0) c.members first.0 first.1))
        inside (found_passes (λ m. all m.rel.0) c.members first.0 first.1) c.descending c.nulls_first
        ∙ ap (λ (o : Option ColRef). order_at c o (value_at w q x) (value_at w q y)) (sym first.1)

    no_class_ties : (item : OrderItem) → IsIn item q.order → order_class q.classes item.col ≡ None → item_order w q item x y ≡ Equal
    no_class_ties item i h = by (default_family_of (type_of item.col)) refl
      where
        by : (o : Option Family) → default_family_of (type_of item.col) ≡ o → item_order_in w q item o x y ≡ Equal
        by None e = refl
        by (Some f) e =
            let m : Mention = in_family item.col f in
            let named = stood_item item i in
            let orders : ordered_by type_of named.0 ≡ Some m =
            subst (λ (x : ColRef). option_map (in_family x) (default_family_of (type_of x)) ≡ Some m) named.2 (ap (option_map (in_family item.col)) e) in
            let mentioned : IsIn m (mentions (given_with w.contents q bound.items)) =
            in_right m (filter_map (λ k. option_map left_of (equality_in type_of k)) (given_with w.contents q bound.items).conjuncts) (filter_map (ordered_by type_of) bound.items)
            (filter_map_in (ordered_by type_of) bound.items named.0 m named.1 orders) in
            absurd (found_none (λ c. is_in c m) 0 q.classes.classes (sym (order_class_is item.col f e) ∙ h)
            (all_at (λ n. IsTrue (list_any (λ c. is_in c n) q.classes.classes)) (mentions (given_with w.contents q bound.items)) bound.classes.classes.every m mentioned))

    constant_ties : (item : OrderItem) → IsIn item q.order → (n : ℕ) → ItemClass item.col n → is_constant q.classes n ≡ true → item_order w q item x y ≡ Equal
    constant_ties item i n of h =
        item_by_class item n of
        ∙ constants_tie w q world bound (all_of_query q) (class_at q.classes.classes n) of.class.class x y holds_x holds_y item.col h of.class.member (column_inside item i) item.descending item.nulls_first

    class_ties : (item : OrderItem) → IsIn item q.order → (n : ℕ) → ItemClass item.col n → class_order (class_at q.classes.classes n) (all_of_query q) (value_at w q x) (value_at w q y) ≡ Equal → item_order w q item x y ≡ Equal
    class_ties item i n of h =
        let c = class_at q.classes.classes n in
        item_by_class item n of
        ∙ tie_in_all c.family c.descending c.nulls_first item.descending item.nulls_first (value_at w q x item.col) (value_at w q y item.col) (class_alike item i n of ∙ h)

    -- the first item by a class without a constant has its direction
    direction_is : (before : List OrderItem) (item : OrderItem) (after : List OrderItem) → q.order ≡ before ++ item ∷ after → (n : ℕ) → ItemClass item.col n → is_constant q.classes n ≡ false → AllByRecursion (λ j. order_class q.classes j.col ≡ Some n → ⊥) before
        → ◌≡◌ {A = Bool × Bool} ((class_at q.classes.classes n).descending, (class_at q.classes.classes n).nulls_first) (item.descending, item.nulls_first)
    direction_is before item after e n of free none =
        let c : Class = class_at q.classes.classes n in
        let directed = all_at (IsDirected w.contents q) q.classes.classes bound.directions c (in_from_contains q.classes.classes c of.class.class) in
        let here : orders_by type_of c item ≡ true =
        ap (λ (o : Option Family). is_some_and (is_in c) (option_map (in_family item.col) o)) of.default
        ∙ and_from (is_family c.family of.in_default) (has_member c item.col) (ap (λ (g : Family). is_family g of.in_default) (sym of.class.family) ∙ family_self of.in_default) of.class.member in
        sym (directed free item (ap (find (orders_by type_of c)) e ∙ first_passing (orders_by type_of c) before item after (passed before none) here))
      where
        passed : (js : List OrderItem) → AllByRecursion (λ j. order_class q.classes j.col ≡ Some n → ⊥) js → AllByRecursion (λ j. orders_by type_of (class_at q.classes.classes n) j ≡ false) js
        passed [] h = tt
        passed (j ∷ js) h = (
          ⊎_elim
              (λ (yes : orders_by type_of (class_at q.classes.classes n) j ≡ true). absurd (h.0 (class_is j n of.class.low yes)))
              (λ (no : orders_by type_of (class_at q.classes.classes n) j ≡ false). no)
              (cases_Bool (orders_by type_of (class_at q.classes.classes n) j)),
          passed js h.1,
        )

    first_orders : (before : List OrderItem) (item : OrderItem) (after : List OrderItem) → q.order ≡ before ++ item ∷ after → (n : ℕ) → ItemClass item.col n → is_constant q.classes n ≡ false → AllByRecursion (λ j. order_class q.classes j.col ≡ Some n → ⊥) before
        → item_order w q item x y ≡ class_order (class_at q.classes.classes n) (all_of_query q) (value_at w q x) (value_at w q y)
    first_orders before item after e n of free none =
        let same = direction_is before item after e n of free none in
        item_by_class item n of
        ∙ ap (λ (d : Bool × Bool). column_order (class_at q.classes.classes n).family d.0 d.1 (value_at w q x item.col) (value_at w q y item.col)) (sym same)
        ∙ class_alike item (item_in before item after e) n of

  -- each item stands to its class so
  pub items_follow : ItemsFollow w q
  items_follow x y holds_x holds_y before item after e =
      let i = item_in before item after e in
      record {
        no_class = λ none. no_class_ties x y holds_x holds_y item i none;
        constant = λ n is h. constant_ties x y holds_x holds_y item i n (class_by_default item.col n is) h;
        tied = λ n is h. class_ties x y holds_x holds_y item i n (class_by_default item.col n is) h;
        first = λ n is free none. first_orders x y holds_x holds_y before item after e n (class_by_default item.col n is) free none;
      }
