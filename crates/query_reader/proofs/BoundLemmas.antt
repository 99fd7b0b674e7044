-- Every visible column is one of its relation's table, and so is every one of a query that is bound.
use Rattle.std.proofs.Common.{ℕ, nat_lt, ◌+◌, ◌≤◌, Bool, true, false, drop, take, length-append, length-drop, append_assoc, ◌∙◌, get_or, List, [], ◌∷◌, ◌++◌, length, filter, map, cond, All, Option, Some, None, Result, Ok, Err, sym, subst, arith}
use Rattle.std.specs.Str.{bytes_eq}
use Rattle.std.proofs.lemmas.List.Elements.{All-nil, All-cons}
use Rattle.pg_base.specs.declared.numbers.TableNo.{TableNo}
use Rattle.pg_base.specs.declared.faults.Fault.{Fault}
use Rattle.pg_expr.specs.declared.operand.ColRef.{ColRef}
use Rattle.pg_expr.specs.Typed.{IsTyped}
use Rattle.pg_base.specs.Names.{IsName}
use Rattle.catalog.specs.Contents.{Contents, table_at, IsLawfulTable}
use Rattle.catalog.specs.Range.{Range}
use Rattle.sql_lex.specs.declared.tokens.Token.{Token}
use Rattle.sql_query.specs.WellBound.{IsColumnOf, IsWellBound}
use Rattle.sql_query.specs.declared.window.Window.{Window}
use Rattle.sql_query.proofs.OrderLemmas.{own_directions, own_stands}
use Rattle.query_reader.specs.work.Select.{IsBoundByItself}
use Rattle.query_reader.specs.declared.written.Item.{Item}
use Rattle.query_reader.specs.declared.written.Item.TheVariants.{Every, EveryOf, Bare, Qualified}
use Rattle.expr_reader.specs.Scope.{Scope, Visible, columns_in_scope, under, of_name, the_one, among, look_up}
use Rattle.expr_reader.specs.declared.found.Found.{Found}
use Rattle.expr_reader.specs.declared.found.Found.TheVariants.{One, NoTable, NoColumn, Many}
use Rattle.query_reader.specs.work.From.{AreRelations}
use Rattle.query_reader.specs.Scope.{columns_from, relations_from, scope_after, scope_of}
use Rattle.query_reader.specs.work.Scope.{Sight, visible_in}
use Rattle.query_reader.specs.Binding.{query_with, alone, found_relation, past_limit, then_columns, item_columns, list_columns}
use Rattle.expr_reader.specs.Conditions.{next, the_column}
use Rattle.query_reader.specs.Named.{columns_in_all}
use Rattle.std.proofs.Common.{ap, ◌≡◌, ◌<◌, ⊎_elim, Contains}
use Rattle.std.specs.Prelude.{slice_index_or}
use Rattle.catalog.specs.Indexes.{no_column}
use Rattle.pg_expr.specs.Cond.{Cond, conds_of}
use Rattle.catalog.specs.Range.{type_in}
use Rattle.eq_classes.specs.declared.order.OrderItem.{OrderItem}
use Rattle.eq_classes.specs.Classes.{conjuncts_in}
use Rattle.eq_classes.specs.Clauses.{ClassTable}
use Rattle.eq_classes.specs.Holding.{IsClassTable as IsTableOf}
use Rattle.eq_classes.proofs.HoldLemmas.{map_in}
use Rattle.eq_classes.proofs.ListLemmas.{IsIn, all_at, all_from, contains_from_in, in_left, in_parts, in_right}
use Rattle.path_cost.specs.work.Columns.{IsOver, is_column_in}
use Rattle.std.proofs.Math.Seq.{get_or-append_seam}
use Rattle.std.proofs.lemmas.Bool.{cases_Bool, ltb-true}
use Rattle.std.proofs.lemmas.List.{get_or_default, length-take-le, nil_from_length, take-append-drop}
use Rattle.std.proofs.lemmas.List.Elements.{All-drop, All-tail}
use Rattle.catalog.specs.Range.{relation_at}
use Rattle.query_reader.proofs.ConjunctLemmas.{all-passing, kept-by, limits-kept, named-columns, names-only, order-columns}

module _ (P : ColRef → Type 0) where
  -- P holds of each
  abbrev Holds : List ColRef → Type 0
  Holds [] = Unit {0}
  Holds (c ∷ cs) = P c × Holds cs

  abbrev HoldsIn : Scope → Type 0
  HoldsIn [] = Unit {0}
  HoldsIn (v ∷ vs) = P v.column × HoldsIn vs

  holds-all : (cs : List ColRef) → Holds cs → All P cs
  holds-all [] h = All-nil P
  holds-all (c ∷ cs) h = All-cons P c cs h.0 (holds-all cs h.1)

  holds-append : (cs ds : List ColRef) → Holds cs → Holds ds → Holds (cs ++ ds)
  holds-append [] ds h g = g
  holds-append (c ∷ cs) ds h g = (h.0, holds-append cs ds h.1 g)

  columns-hold : (s : Scope) → HoldsIn s → Holds (columns_in_scope s)
  columns-hold [] h = tt
  columns-hold (v ∷ s) h = (h.0, columns-hold s h.1)

  filter-by : (b : Bool) (v : Visible) (s : Scope) → P v.column → HoldsIn s → HoldsIn (cond b (v ∷ s) s)
  filter-by true v s p h = (p, h)
  filter-by false v s p h = h

  filter-hold : (test : Visible → Bool) (s : Scope) → HoldsIn s → HoldsIn (filter test s)
  filter-hold test [] h = tt
  filter-hold test (v ∷ s) h = filter-by (test v) v (filter test s) h.0 (filter-hold test s h.1)

  -- what is found has P
  abbrev HoldsOf : Found → Type 0
  HoldsOf (One c) = P c
  HoldsOf _ = Unit {0}

  one-holds : (s : Scope) → HoldsIn s → HoldsOf (the_one s)
  one-holds [] h = tt
  one-holds (v ∷ []) h = h.0
  one-holds (v ∷ w ∷ s) h = tt

  among-holds : (name : List ℕ) (s : Scope) → HoldsIn s → HoldsOf (among name s)
  among-holds name [] h = tt
  among-holds name (v ∷ s) h = one-holds (of_name name (v ∷ s)) (filter-hold (λ x. bytes_eq name x.name) (v ∷ s) h)

  -- what is answered has P
  abbrev HoldsOk : Result (List ColRef) Fault → Type 0
  HoldsOk (Ok cs) = Holds cs
  HoldsOk (Err f) = Unit {0}

  found-holds : (f : Found) (q n : Token) → HoldsOf f → HoldsOk (next (the_column f q n) alone)
  found-holds (One c) q n h = (h, tt)
  found-holds NoTable q n h = tt
  found-holds NoColumn q n h = tt
  found-holds Many q n h = tt

  relation-holds : (s : Scope) (q : Token) → HoldsIn s → HoldsOk (found_relation s q)
  relation-holds [] q h = tt
  relation-holds (v ∷ s) q h = columns-hold (v ∷ s) h

  item-holds : (s : Scope) (item : Item) → HoldsIn s → HoldsOk (item_columns s item)
  item-holds s Every h = columns-hold s h
  item-holds s (EveryOf q) h = relation-holds (under q.bytes s) q.token (filter-hold (λ x. bytes_eq q.bytes x.alias) s h)
  item-holds s (Bare n) h = found-holds (look_up s None n.bytes) n.token n.token (one-holds (of_name n.bytes s) (filter-hold (λ x. bytes_eq n.bytes x.name) s h))
  item-holds s (Qualified q n) h = found-holds (look_up s (Some q.bytes) n.bytes) q.token n.token (among-holds n.bytes (under q.bytes s) (filter-hold (λ x. bytes_eq q.bytes x.alias) s h))

  then-holds : (x y : Result (List ColRef) Fault) → HoldsOk x → HoldsOk y → HoldsOk (then_columns x y)
  then-holds (Ok cs) (Ok ds) h g = holds-append cs ds h g
  then-holds (Ok cs) (Err f) h g = tt
  then-holds (Err f) y h g = tt

  list-holds : (s : Scope) (items : List Item) → HoldsIn s → HoldsOk (list_columns s items)
  list-holds s [] h = tt
  list-holds s (i ∷ items) h = then-holds (item_columns s i) (list_columns s items) (item-holds s i h) (list-holds s items h)

-- the relation at a place of some relations
there-at : (before rs : Range) (r : TableNo × List ℕ) (k : ℕ) → length before ≡ k → relation_at (before ++ r ∷ rs) (record { 0 = k }) ≡ r
there-at before rs r k is = ap (λ n. slice_index_or (before ++ r ∷ rs) n (record { 0 = 0 }, [])) (sym is) ∙ get_or-append_seam before r rs (record { 0 = 0 }, [])

module _ (c : Contents) (range : Range) where
  columns-in : (r : TableNo × List ℕ) (k j : ℕ) (names : List (List ℕ)) → k < length range → relation_at range (record { 0 = k }) ≡ r → j + length names ≤ length (table_at c r.0).columns →
      HoldsIn (IsColumnOf c range) (columns_from r.1 (record { 0 = k }) j names)
  columns-in r k j [] lt is fits = tt
  columns-in r k j (n ∷ names) lt is fits =
      (record { relation = lt; column = subst (λ (x : TableNo × List ℕ). j < length (table_at c x.0).columns) (sym is) (omega (arith, fits)) }, columns-in r k (j + 1) names lt is (omega (arith, fits)))

module _ (c : Contents) where
  both-hold : (P : ColRef → Type 0) (xs ys : Scope) → HoldsIn P xs → HoldsIn P ys → HoldsIn P (xs ++ ys)
  both-hold P [] ys h g = g
  both-hold P (x ∷ xs) ys h g = (h.0, both-hold P xs ys h.1 g)

  relations-in : (range before rs : Range) (k : ℕ) → range ≡ before ++ rs → length before ≡ k → All (λ r. IsLawfulTable (table_at c r.0)) rs → HoldsIn (IsColumnOf c range) (relations_from c k rs)
  relations-in range before [] k is at lawful = tt
  relations-in range before ((t, alias) ∷ rs) k is at lawful =
      let own : IsLawfulTable (table_at c t) = lawful 0 (t, alias) (omega arith) in
      let within : k < length range = omega (arith, at, ap length is, length-append before ((t, alias) ∷ rs)) in
      both-hold (IsColumnOf c range) (columns_from alias (record { 0 = k }) 0 (table_at c t).names) (relations_from c (k + 1) rs)
      (columns-in c range (t, alias) k 0 (table_at c t).names within (ap (λ (x : Range). relation_at x (record { 0 = k })) is ∙ there-at before rs (t, alias) k at) (omega (arith, own.width)))
      (relations-in range (before ++ (t, alias) ∷ []) rs (k + 1) (is ∙ sym (append_assoc before ((t, alias) ∷ []) rs)) (omega (arith, at, length-append before ((t, alias) ∷ []))) (All-tail (λ r. IsLawfulTable (table_at c r.0)) (t, alias) rs lawful))

  pub visible-hold : (range : Range) (first : ℕ) → All (λ r. IsLawfulTable (table_at c r.0)) range → HoldsIn (IsColumnOf c range) (scope_after c first range)
  visible-hold range first lawful = ⊎_elim
      (λ (h : nat_lt (length range) first ≡ true). let lt : length range < first = ltb-true (length range) first h in
      subst (HoldsIn (IsColumnOf c range)) (sym (ap (relations_from c first) (nil_from_length (drop first range) (omega (arith, lt, length-drop first range))))) tt)
      (λ (h : nat_lt (length range) first ≡ false). let le = kept-by (length range) first h in relations-in range (take first range) (drop first range) first (sym (take-append-drop first range)) (length-take-le first range le) (All-drop (λ r. IsLawfulTable (table_at c r.0)) first range lawful))
      (cases_Bool (nat_lt (length range) first))

  -- each visible column is one of its relation's table
  pub visible-columns : (range : Range) (first : ℕ) → All (λ r. IsLawfulTable (table_at c r.0)) range → All (IsColumnOf c range) (columns_in_scope (scope_after c first range))
  visible-columns range first lawful = holds-all (IsColumnOf c range) (columns_in_scope (scope_after c first range)) (columns-hold (IsColumnOf c range) (scope_after c first range) (visible-hold range first lawful))

  pub all-seen : (range : Range) (first : ℕ) → All (λ r. IsLawfulTable (table_at c r.0)) range → All (λ (v : Visible). is_column_in c range v.column ≡ true) (scope_after c first range)
  all-seen range first lawful =
      let scope = scope_after c first range in
      all_from (λ (v : Visible). is_column_in c range v.column ≡ true) scope
      (λ v i. all_at (λ (x : ColRef). is_column_in c range x ≡ true) (columns_in_scope scope) (all-passing c range (columns_in_scope scope) (visible-columns range first lawful)) v.column (map_in (λ (w : Visible). w.column) scope v i))

-- columns that are seen of relations as they are lent
module _ (s : Sight) (c : Contents) (range : Range) (first : ℕ) (is : record { contents = c; range = range; first = first } ≡ s) (are : AreRelations c range) where
  pub seen-column : (x : ColRef) → IsIn x (columns_in_scope (visible_in s)) → IsColumnOf c range x
  seen-column x i = all_at (IsColumnOf c range) (columns_in_scope (scope_after c first range)) (visible-columns c range first are.lawful) x (subst (λ (y : Sight). IsIn x (columns_in_scope (visible_in y))) (sym is) i)

  pub seen-relation : (x : ColRef) (d : TableNo × List ℕ) → x.rel.0 < length range → relation_at range x.rel ≡ get_or range x.rel.0 d
  seen-relation x d lt = get_or_default range x.rel.0 (record { 0 = 0 }, []) d lt

  pub seen-type : (x : ColRef) (d : TableNo × List ℕ) → x.rel.0 < length range → (slice_index_or (table_at c (get_or range x.rel.0 d).0).columns x.col.0 no_column).typed ≡ type_in s.contents s.range x
  seen-type x d lt =
      ap (λ (y : TableNo × List ℕ). (slice_index_or (table_at c y.0).columns x.col.0 no_column).typed) (sym (seen-relation x d lt)) ∙ ap (λ (y : Sight). type_in y.contents y.range x) is

ok-holds : (P : ColRef → Type 0) (x : Result (List ColRef) Fault) (cs : List ColRef) → HoldsOk P x → x ≡ Ok cs → Holds P cs
ok-holds P x cs h is = subst (HoldsOk P) is h

module _ (c : Contents) (range : Range) (are : AreRelations c range) where
  -- each column that the list shows is one of a relation's table
  pub shown-columns : (items : List Item) (cs : List ColRef) → list_columns (scope_of c range) items ≡ Ok cs → All (IsColumnOf c range) cs
  shown-columns items cs is =
      holds-all (IsColumnOf c range) cs (ok-holds (IsColumnOf c range) (list_columns (scope_of c range) items) cs (list-holds (IsColumnOf c range) (scope_of c range) items (visible-hold c range 0 are.lawful)) is)

  -- the query of columns that the list shows, of conjuncts and of an order over the relations, with their classes
  pub well-bound : 0 < length range → (items : List Item) (cs : List ColRef) (ws : List Cond) (order : List OrderItem) (window : Option Window) (classes : ClassTable) → list_columns (scope_of c range) items ≡ Ok cs →
      All (IsOver c range) ws → All (λ (i : OrderItem). is_column_in c range i.col ≡ true) order → past_limit ws ≡ None → IsTableOf (record { conjuncts = conjuncts_in ws; order = order; type_of = type_in c range }) classes →
      All (λ r. IsName r.1) range → IsBoundByItself c (query_with classes (record { range = range; select = cs; where_all = ws; order = order; window = window }))
  well-bound some items cs ws order window classes shown over ordered kept is names =
      let named = columns_in_all (conds_of ws) in
      let sorted = map (λ (i : OrderItem). i.col) order in
      let used = cs ++ (named ++ sorted) in
      let q = query_with classes (record { range = range; select = cs; where_all = ws; order = order; window = window }) in
      let order_used = all_from (λ (i : OrderItem). Contains used i.col) order
      (λ i j. contains_from_in used i.col (in_right i.col cs (named ++ sorted) (in_right i.col named sorted (map_in (λ (k : OrderItem). k.col) order i j)))) in
      let well : IsWellBound c q = record {
        range = record { some = some; few = are.few; tables = are.tables; names = names; distinct = are.distinct };
        used = all_from (IsColumnOf c range) used (λ x i. ⊎_elim
            (λ (h : IsIn x cs). all_at (IsColumnOf c range) cs (shown-columns items cs shown) x h)
            (λ (h : IsIn x (named ++ sorted)). ⊎_elim
            (λ (k : IsIn x named). named-columns c range ws over x k)
            (λ (k : IsIn x sorted). order-columns c range order ordered x k)
            (in_parts x named sorted h))
            (in_parts x cs (named ++ sorted) i));
        select = all_from (Contains used) cs (λ x i. contains_from_in used x (in_left x cs (named ++ sorted) i));
        order = order_used;
        conditions = names-only used ws (λ x i. in_right x cs (named ++ sorted) (in_left x named sorted i));
        typed = all_from (IsTyped (type_in c range)) ws (λ w i. (all_at (IsOver c range) ws over w i).typed);
        limits = limits-kept ws kept;
        items = order;
        named = order_used;
        classes = is;
        stands = own_stands order;
        directions = own_directions c q is;
      } in
      record { well_bound = well; classes = is }
