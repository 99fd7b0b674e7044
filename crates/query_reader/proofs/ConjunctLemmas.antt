-- Conjuncts as written and in pushed form: the lists that they are, the columns that they name, and their limits.
use Rattle.std.proofs.Common.{◌≡◌, ℕ, ◌+◌, ◌<◌, ◌≤◌, Bool, true, false, nat_lt, List, [], ◌∷◌, ◌++◌, length, map, drop, get_or, All, Option, Some, None, inl, inr, ⊎_elim, refl, sym, ap, subst, ◌∙◌, arith, append_assoc}
use Rattle.std.proofs.lemmas.Bool.{and_parts, and_from, cases_Bool, ltb-true}
use Rattle.std.proofs.lemmas.Grind.{common_steps}
use Rattle.std.proofs.lemmas.List.{drop_more, length-append, map-append}
use Rattle.pg_base.specs.declared.limits.TheConstants.{MOST_ATOMS, MOST_CONJUNCTS}
use Rattle.pg_base.specs.declared.faults.Limit.{Limit}
use Rattle.pg_value.specs.declared.value.SqlType.{SqlType}
use Rattle.pg_expr.specs.declared.operand.ColRef.{ColRef}
use Rattle.pg_expr.specs.declared.operand.Operand.{Operand}
use Rattle.pg_expr.specs.declared.operand.Operand.TheVariants.{Col, Lit}
use Rattle.pg_expr.specs.declared.expr.Expr.{Expr}
use Rattle.pg_expr.specs.Columns.{each_column, each_column_of, passes_column, atom_count_of}
use Rattle.pg_expr.specs.Cond.{Cond, compare, is_null, is_not_null, bool_col, const, all_of, any_of, negation, Conds, no_conds, cond_and, conds_of}
use Rattle.pg_expr.specs.Conjuncts.{conjuncts_of}
use Rattle.pg_expr.specs.Pushed.{pushed}
use Rattle.pg_expr.specs.Typed.{IsTyped, AreTyped}
use Rattle.pg_expr.specs.work.View as view
use Rattle.pg_expr.proofs.ColumnLaws.{weaker-each}
use Rattle.pg_expr.proofs.KeptLaws.{conjuncts-each, conjuncts-typed}
use Rattle.expr_reader.specs.work.Counts.{conjuncts_counted, count_of}
use Rattle.catalog.specs.Contents.{Contents, table_at}
use Rattle.catalog.specs.Range.{Range, table_of, type_in}
use Rattle.eq_classes.specs.Classes.{conjuncts_in, listed}
use Rattle.eq_classes.specs.declared.order.OrderItem.{OrderItem}
use Rattle.eq_classes.proofs.ListLemmas.{IsIn, all_at, all_from, in_parts, in_left, in_right}
use Rattle.eq_classes.proofs.WrittenLemmas.{in_columns, in_typed}
use Rattle.path_cost.specs.work.Columns.{IsOver, is_column_in}
use Rattle.sql_query.specs.WellBound.{IsColumnOf, IsWithinLimits, NamesOnly}
use Rattle.query_reader.specs.Binding.{past_limit}
use Rattle.query_reader.specs.Named.{columns_in, columns_in_all}
use Rattle.pg_base.proofs.NumberLemmas.{below}
use Rattle.eq_classes.proofs.ConditionLemmas.{listed_conds as listed-conds}
use Rattle.eq_classes.specs.Grouping.{operand_columns}

-- a list of expressions, seen as conditions
pub listed-as : (es : List Expr) (cs : Conds) → view.conds es ≡ cs → map view.cond es ≡ listed cs
listed-as es cs is = sym (listed-conds (map view.cond es)) ∙ ap listed is

-- the conjuncts of one more condition
listed-counted : (cs : Conds) → length (listed cs) ≡ count_of cs
listed-counted no_conds = refl
listed-counted (cond_and c cs) = omega (arith, listed-counted cs)

-- the conjuncts of one more condition
pub counted-more : (written : List Expr) (i : ℕ) (part : Expr) → i < length written → part ≡ get_or written i part →
    length (conjuncts_in (map view.cond (drop i written))) ≡ conjuncts_counted false (view.cond part) + length (conjuncts_in (map view.cond (drop (i + 1) written)))
counted-more written i part lt at =
    let later = conjuncts_in (map view.cond (drop (i + 1) written)) in
    let next : drop i written ≡ part ∷ drop (i + 1) written = drop_more written i part lt ∙ ap (λ (e : Expr). e ∷ drop (i + 1) written) (sym at) in
    omega (
      arith,
      ap (λ (l : List Expr). length (conjuncts_in (map view.cond l))) next,
      length-append (listed (conjuncts_of (pushed false (view.cond part)))) later,
      listed-counted (conjuncts_of (pushed false (view.cond part))),
    )

pub pushed-more : (old new parts written : List Expr) (whole : List Cond) (i : ℕ) (part : Expr) (own : Cond) → i < length written → part ≡ get_or written i part → own ≡ pushed false (view.cond part) →
    view.conds parts ≡ conjuncts_of own → new ≡ old ++ parts →
    map view.cond old ++ conjuncts_in (map view.cond (drop i written)) ≡ whole → map view.cond new ++ conjuncts_in (map view.cond (drop (i + 1) written)) ≡ whole
pushed-more old new parts written whole i part own lt at form listed-parts grown so =
    let later = conjuncts_in (map view.cond (drop (i + 1) written)) in
    let here : map view.cond parts ≡ listed (conjuncts_of (pushed false (view.cond part))) = listed-as parts (conjuncts_of own) listed-parts ∙ ap (λ c. listed (conjuncts_of c)) form in
    let next : drop i written ≡ part ∷ drop (i + 1) written = drop_more written i part lt ∙ ap (λ (e : Expr). e ∷ drop (i + 1) written) (sym at) in
    ap (λ (l : List Expr). map view.cond l ++ later) grown
    ∙ ap (λ (l : List Cond). l ++ later) (map-append view.cond old parts)
    ∙ append_assoc (map view.cond old) (map view.cond parts) later
    ∙ ap (λ (l : List Cond). map view.cond old ++ (l ++ later)) here
    ∙ ap (λ (l : List Expr). map view.cond old ++ conjuncts_in (map view.cond l)) (sym next)
    ∙ so

-- lists of conditions, each of which passes
pub all-pass : (test : ColRef → Bool) (ks : List Cond) → All (λ k. each_column test k ≡ true) ks → each_column_of test (conds_of ks) ≡ true
all-pass test [] h = refl
all-pass test (k ∷ ks) h = and_from _ _ (all_at (λ (e : Cond). each_column test e ≡ true) (k ∷ ks) h k (inl refl)) (all-pass test ks (all_from (λ (e : Cond). each_column test e ≡ true) ks (λ e i. all_at (λ (e : Cond). each_column test e ≡ true) (k ∷ ks) h e (inr i))))

pub pass-all : (test : ColRef → Bool) (ks : List Cond) → each_column_of test (conds_of ks) ≡ true → All (λ k. each_column test k ≡ true) ks
pass-all test ks h = all_from (λ (e : Cond). each_column test e ≡ true) ks (at ks h) where
  at : (ks : List Cond) → each_column_of test (conds_of ks) ≡ true → (k : Cond) → IsIn k ks → each_column test k ≡ true
  at [] h k i = absurd i
  at (z ∷ zs) h k i =
      let parts = and_parts (each_column test z) (each_column_of test (conds_of zs)) h in
      ⊎_elim (λ (e : k ≡ z). ap (each_column test) e ∙ parts.0) (λ (later : IsIn k zs). at zs parts.1 k later) i

pub all-typed : (t : ColRef → SqlType) (ks : List Cond) → All (IsTyped t) ks → AreTyped t (conds_of ks)
all-typed t [] h = tt
all-typed t (k ∷ ks) h = (all_at (IsTyped t) (k ∷ ks) h k (inl refl), all-typed t ks (all_from (IsTyped t) ks (λ e i. all_at (IsTyped t) (k ∷ ks) h e (inr i))))

pub typed-all : (t : ColRef → SqlType) (ks : List Cond) → AreTyped t (conds_of ks) → All (IsTyped t) ks
typed-all t ks h = all_from (IsTyped t) ks (at ks h) where
  at : (ks : List Cond) → AreTyped t (conds_of ks) → (k : Cond) → IsIn k ks → IsTyped t k
  at [] h k i = absurd i
  at (z ∷ zs) h k i = ⊎_elim (λ (e : k ≡ z). subst (IsTyped t) (sym e) h.0) (λ (later : IsIn k zs). at zs h.1 k later) i

-- the conjuncts of a condition over the relations are over them
pub conjuncts-over : (c : Contents) (range : Range) (e : Cond) (es : List Expr) → view.conds es ≡ conjuncts_of e → each_column (is_column_in c range) e ≡ true → IsTyped (type_in c range) e → All (IsOver c range) (map view.cond es)
conjuncts-over c range e es is columns typed =
    let ks = map view.cond es in
    let passed = pass-all (is_column_in c range) ks (ap (each_column_of (is_column_in c range)) is ∙ conjuncts-each (is_column_in c range) e ∙ columns) in
    let fine = typed-all (type_in c range) ks (subst (AreTyped (type_in c range)) (sym is) (conjuncts-typed (type_in c range) e typed)) in
    all_from (IsOver c range) ks (λ k i. record { columns = all_at (λ (e : Cond). each_column (is_column_in c range) e ≡ true) ks passed k i; typed = all_at (IsTyped (type_in c range)) ks fine k i })

-- what the classes ask of the conjuncts in pushed form
module _ (c : Contents) (range : Range) (ws : List Cond) (over : All (IsOver c range) ws) (es : List Expr) (is : map view.cond es ≡ conjuncts_in ws) where
  written-columns : All (λ w. each_column (is_column_in c range) w ≡ true) ws
  written-columns = all_from (λ (w : Cond). each_column (is_column_in c range) w ≡ true) ws (λ w i. (all_at (IsOver c range) ws over w i).columns)

  written-typed : All (IsTyped (type_in c range)) ws
  written-typed = all_from (IsTyped (type_in c range)) ws (λ w i. (all_at (IsOver c range) ws over w i).typed)

  near : length range ≤ 16 → (x : ColRef) → is_column_in c range x ≡ true → nat_lt x.rel.0 16 ≡ true
  near few x h =
      let parts = and_parts (nat_lt x.rel.0 (length range)) (nat_lt x.col.0 (length (table_at c (table_of range x)).columns)) h in
      let lt = ltb-true x.rel.0 (length range) parts.0 in
      grind (arith, common_steps)

  pub pushed-bound : each_column_of (is_column_in c range) (view.conds es) ≡ true
  pushed-bound = ap (λ ks. each_column_of (is_column_in c range) (conds_of ks)) is ∙ all-pass (is_column_in c range) (conjuncts_in ws) (in_columns ws (is_column_in c range) written-columns)

  pub pushed-typed : AreTyped (type_in c range) (view.conds es)
  pushed-typed = subst (λ (ks : List Cond). AreTyped (type_in c range) (conds_of ks)) (sym is) (all-typed (type_in c range) (conjuncts_in ws) (in_typed (type_in c range) ws written-typed))

  pub pushed-near : length range ≤ 16 → each_column_of (λ x. nat_lt x.rel.0 16) (view.conds es) ≡ true
  pushed-near few =
      let test : ColRef → Bool = λ x. nat_lt x.rel.0 16 in
      let each : All (λ w. each_column test w ≡ true) ws = all_from (λ (w : Cond). each_column test w ≡ true) ws (λ w i. weaker-each (is_column_in c range) test (near few) w ((all_at (IsOver c range) ws over w i).columns)) in
      ap (λ ks. each_column_of test (conds_of ks)) is ∙ all-pass test (conjuncts_in ws) (in_columns ws test each)

-- the columns that a condition names: a test that they pass, it passes, and the other way round
module _ (test : ColRef → Bool) where
  side-passes : (o : Operand) → ((x : ColRef) → IsIn x (operand_columns o) → test x ≡ true) → passes_column test o ≡ true
  side-passes (Col c) h = h c (inl refl)
  side-passes (Lit v) h = refl

  side-named : (o : Operand) → passes_column test o ≡ true → (x : ColRef) → IsIn x (operand_columns o) → test x ≡ true
  side-named (Col c) h x i = ⊎_elim (λ (e : x ≡ c). ap test e ∙ h) (λ (none : ⊥). absurd none) i
  side-named (Lit v) h x i = absurd i

  alone-named : (c x : ColRef) → test c ≡ true → IsIn x (c ∷ []) → test x ≡ true
  alone-named c x h i = ⊎_elim (λ (e : x ≡ c). ap test e ∙ h) (λ (none : ⊥). absurd none) i

  mutual
    pub names-pass : (e : Cond) → ((x : ColRef) → IsIn x (columns_in e) → test x ≡ true) → each_column test e ≡ true
    names-pass (compare op l r) h = and_from _ _ (side-passes l (λ x i. h x (in_left x (operand_columns l) (operand_columns r) i))) (side-passes r (λ x i. h x (in_right x (operand_columns l) (operand_columns r) i)))
    names-pass (is_null c) h = h c (inl refl)
    names-pass (is_not_null c) h = h c (inl refl)
    names-pass (bool_col c) h = h c (inl refl)
    names-pass (const t) h = refl
    names-pass (all_of cs) h = names-pass-all cs h
    names-pass (any_of cs) h = names-pass-all cs h
    names-pass (negation c) h = names-pass c h

    names-pass-all : (cs : Conds) → ((x : ColRef) → IsIn x (columns_in_all cs) → test x ≡ true) → each_column_of test cs ≡ true
    names-pass-all no_conds h = refl
    names-pass-all (cond_and c cs) h = and_from _ _ (names-pass c (λ x i. h x (in_left x (columns_in c) (columns_in_all cs) i))) (names-pass-all cs (λ x i. h x (in_right x (columns_in c) (columns_in_all cs) i)))

  mutual
    pub pass-named : (e : Cond) → each_column test e ≡ true → (x : ColRef) → IsIn x (columns_in e) → test x ≡ true
    pass-named (compare op l r) h x i =
        let parts = and_parts (passes_column test l) (passes_column test r) h in
        ⊎_elim (λ (a : IsIn x (operand_columns l)). side-named l parts.0 x a) (λ (a : IsIn x (operand_columns r)). side-named r parts.1 x a) (in_parts x (operand_columns l) (operand_columns r) i)
    pass-named (is_null c) h x i = alone-named c x h i
    pass-named (is_not_null c) h x i = alone-named c x h i
    pass-named (bool_col c) h x i = alone-named c x h i
    pass-named (const t) h x i = absurd i
    pass-named (all_of cs) h x i = pass-named-all cs h x i
    pass-named (any_of cs) h x i = pass-named-all cs h x i
    pass-named (negation c) h x i = pass-named c h x i

    pub pass-named-all : (cs : Conds) → each_column_of test cs ≡ true → (x : ColRef) → IsIn x (columns_in_all cs) → test x ≡ true
    pass-named-all no_conds h x i = absurd i
    pass-named-all (cond_and c cs) h x i =
        let parts = and_parts (each_column test c) (each_column_of test cs) h in
        ⊎_elim (λ (a : IsIn x (columns_in c)). pass-named c parts.0 x a) (λ (a : IsIn x (columns_in_all cs)). pass-named-all cs parts.1 x a) (in_parts x (columns_in c) (columns_in_all cs) i)

-- where a condition is one of a list, the list names its columns
pub names-in : (ws : List Cond) (w : Cond) → IsIn w ws → (x : ColRef) → IsIn x (columns_in w) → IsIn x (columns_in_all (conds_of ws))
names-in [] w i x h = absurd i
names-in (z ∷ zs) w i x h = ⊎_elim
    (λ (e : w ≡ z). in_left x (columns_in z) (columns_in_all (conds_of zs)) (subst (λ (c : Cond). IsIn x (columns_in c)) e h))
    (λ (later : IsIn w zs). in_right x (columns_in z) (columns_in_all (conds_of zs)) (names-in zs w later x h))
    i

-- conditions name the columns of a list that has all theirs
pub names-only : (used : List ColRef) (ws : List Cond) → ((x : ColRef) → IsIn x (columns_in_all (conds_of ws)) → IsIn x used) → All (NamesOnly used) ws
names-only used ws inside = all_from (NamesOnly used) ws (λ w i test all. names-pass test w (λ x h. all_at (λ (y : ColRef). test y ≡ true) used all x (inside x (names-in ws w i x h))))

pub is-column-of : (c : Contents) (range : Range) (x : ColRef) → is_column_in c range x ≡ true → IsColumnOf c range x
is-column-of c range x h =
    let parts = and_parts (nat_lt x.rel.0 (length range)) (nat_lt x.col.0 (length (table_at c (table_of range x)).columns)) h in
    record { relation = ltb-true _ _ parts.0; column = ltb-true _ _ parts.1 }

pub all-passing : (c : Contents) (range : Range) (xs : List ColRef) → All (IsColumnOf c range) xs → All (λ x. is_column_in c range x ≡ true) xs
all-passing c range xs h = all-weaker xs h where
  passes : (x : ColRef) → IsColumnOf c range x → is_column_in c range x ≡ true
  passes x of = and_from _ _ (below _ _ of.relation) (below _ _ of.column)

  all-weaker : (xs : List ColRef) → All (IsColumnOf c range) xs → All (λ x. is_column_in c range x ≡ true) xs
  all-weaker xs h = all_from (λ (x : ColRef). is_column_in c range x ≡ true) xs (λ x i. passes x (all_at (IsColumnOf c range) xs h x i))

-- the columns that conditions over the relations name are theirs
pub named-columns : (c : Contents) (range : Range) (ws : List Cond) → All (IsOver c range) ws → (x : ColRef) → IsIn x (columns_in_all (conds_of ws)) → IsColumnOf c range x
named-columns c range ws over x i =
    let each = all_from (λ (w : Cond). each_column (is_column_in c range) w ≡ true) ws (λ w j. (all_at (IsOver c range) ws over w j).columns) in
    is-column-of c range x (pass-named-all (is_column_in c range) (conds_of ws) (all-pass (is_column_in c range) ws each) x i)

-- the columns of an order over the relations are theirs
pub order-columns : (c : Contents) (range : Range) (items : List OrderItem) → All (λ (i : OrderItem). is_column_in c range i.col ≡ true) items → (x : ColRef) → IsIn x (map (λ i. i.col) items) → IsColumnOf c range x
order-columns c range [] h x i = absurd i
order-columns c range (z ∷ zs) h x i = ⊎_elim
    (λ (e : x ≡ z.col). is-column-of c range x (ap (is_column_in c range) e ∙ all_at (λ (k : OrderItem). is_column_in c range k.col ≡ true) (z ∷ zs) h z (inl refl)))
    (λ (later : IsIn x (map (λ i. i.col) zs)). order-columns c range zs (all_from (λ (k : OrderItem). is_column_in c range k.col ≡ true) zs (λ k j. all_at (λ (k : OrderItem). is_column_in c range k.col ≡ true) (z ∷ zs) h k (inr j))) x later)
    i

-- the columns of an order over the relations are of relations below 16
pub order-near : (c : Contents) (range : Range) (items : List OrderItem) → length range ≤ 16 → All (λ (i : OrderItem). is_column_in c range i.col ≡ true) items → All (λ (i : OrderItem). i.col.rel.0 < 16) items
order-near c range items few h = all_from (λ (i : OrderItem). i.col.rel.0 < 16) items
    (λ i j. let at = is-column-of c range i.col (all_at (λ (k : OrderItem). is_column_in c range k.col ≡ true) items h i j) in omega (arith, few, at.relation))

-- conjuncts that are past no limit keep the limits
pub kept-by : (a b : ℕ) → nat_lt a b ≡ false → b ≤ a
kept-by a b h = grind (arith, common_steps)

pub limits-kept : (ws : List Cond) → past_limit ws ≡ None → IsWithinLimits ws
limits-kept ws h = ⊎_elim
    (λ (p : nat_lt MOST_CONJUNCTS (length (conjuncts_in ws)) ≡ true). absurd (none-some (rw p at h)))
    (λ (p : nat_lt MOST_CONJUNCTS (length (conjuncts_in ws)) ≡ false). ⊎_elim
    (λ (r : nat_lt MOST_ATOMS (atom_count_of (conds_of ws)) ≡ true). absurd (none-some (rw (p, r) at h)))
    (λ (r : nat_lt MOST_ATOMS (atom_count_of (conds_of ws)) ≡ false). record { conjuncts = kept-by _ _ p; atoms = kept-by _ _ r })
    (cases_Bool (nat_lt MOST_ATOMS (atom_count_of (conds_of ws)))))
    (cases_Bool (nat_lt MOST_CONJUNCTS (length (conjuncts_in ws)))) where
      none-some : {l : Limit} → ◌≡◌ {A = Option Limit} (Some l) None → ⊥
      none-some {l} e = cc
