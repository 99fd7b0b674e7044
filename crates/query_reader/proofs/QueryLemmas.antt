-- The query that is put together.
use Rattle.std.proofs.Common.{◌≡◌, List, map, ◌++◌, IsErrAnd, Option, Some, None, Result, Ok, Err, refl, sym, ap, subst, ◌∙◌}
use Rattle.pg_base.specs.declared.faults.Code.TheVariants.{S15}
use Rattle.pg_base.specs.declared.faults.Fault.{Fault}
use Rattle.pg_base.specs.declared.faults.Refusal.{Refusal}
use Rattle.pg_base.specs.declared.faults.Refusal.TheVariants as refusal
use Rattle.pg_base.specs.declared.faults.Limit.{Limit}
use Rattle.pg_expr.specs.declared.operand.ColRef.{ColRef}
use Rattle.pg_expr.specs.Cond.{Cond}
use Rattle.catalog.specs.Contents.{Contents}
use Rattle.catalog.specs.Range.{Range, type_in}
use Rattle.eq_classes.specs.declared.order.OrderItem.{OrderItem}
use Rattle.eq_classes.specs.Clauses.{ClassTable}
use Rattle.sql_lex.specs.declared.tokens.Token.{Token}
use Rattle.sql_grammar.specs.Faults.{fault_at}
use Rattle.sql_grammar.specs.Syntax.{Where, OrderBy, WindowTree}
use Rattle.sql_grammar.specs.Terminals.{Terminal}
use Rattle.expr_reader.specs.work.Reads.{Reads}
use Rattle.expr_reader.proofs.StepLemmas.{step, stop}
use Rattle.sql_query.specs.Queries.{Query}
use Rattle.sql_query.specs.declared.window.Window.{Window}
use Rattle.expr_reader.specs.Conditions.{next}
use Rattle.query_reader.specs.declared.written.Item.{Item}
use Rattle.query_reader.specs.Order.{order_items}
use Rattle.query_reader.specs.Scope.{scope_of}
use Rattle.query_reader.specs.work.Scope.{visible_in, Sight}
use Rattle.query_reader.specs.From.{Joined}
use Rattle.query_reader.specs.Windows.{window_of}
use Rattle.pg_expr.specs.declared.expr.Expr.{Expr as ExprRead}
use Rattle.pg_expr.specs.work.View.{cond}
use Rattle.std.proofs.lemmas.List.{map-append}
use Rattle.query_reader.specs.work.Select.{IsBoundByItself, IsBoundAs}
use Rattle.query_reader.specs.work.Adds.{AddsAll}
use Rattle.query_reader.specs.Binding.{Bound, bound_over, conjuncts_written, limited, list_columns, named_in, past_limit, query_with}
use Rattle.query_reader.specs.work.Conveys.{Conveys}

-- all columns are added
pub record AddedAll (x : Result (List ColRef) Fault) (old new : List ColRef) : Type 0 where
  pub columns : List ColRef
  pub is : x ≡ Ok columns
  pub grown : new ≡ old ++ columns

pub added-all : {T : Type 0} (x : Result (List ColRef) Fault) (old new : List ColRef) (v : T) → AddsAll x old new (Ok v) → AddedAll x old new
added-all (Ok columns) old new v a = record { columns = columns; is = refl; grown = a }
added-all (Err f) old new v a = absurd a

-- what is past no limit
limit-by : {T : Type 0} (Says : List Cond → T → Type 0) (start : Token) (o : Option Limit) (ws : List Cond) (t : T) → Conveys Says (limited start o ws) (Ok t) → (o ≡ None) × Says ws t
limit-by Says start None ws t h = (refl, h)
limit-by Says start (Some l) ws t h = absurd h

pub within : {T : Type 0} (Says : List Cond → T → Type 0) (start : Token) (ws : List Cond) (t : T) → Conveys Says (limited start (past_limit ws) ws) (Ok t) → (past_limit ws ≡ None) × Says ws t
within Says start ws t h = limit-by Says start (past_limit ws) ws t h

pub same-query : (range other : Range) (classes : ClassTable) (select columns used : List ColRef) (order items : List OrderItem) (ws all : List Cond) (window : Option Window) → range ≡ other → select ≡ columns → order ≡ items →
    used ≡ named_in columns all items → ws ≡ all →
    query_with classes (record { range = other; select = columns; where_all = all; order = items; window = window }) ≡
    record { range = range; classes = classes; select = select; order = order; used = used; where_all = ws; window = window }
same-query range other classes select columns used order items ws all window r s o u w =
    let P : Range → List ColRef → List OrderItem → List ColRef → List Cond → Query = λ a b d e g. record { range = a; classes = classes; select = b; order = d; used = e; where_all = g; window = window } in
    sym (ap (λ a. P a select order used ws) r ∙ ap (λ b. P other b order used ws) s ∙ ap (λ d. P other columns d used ws) o ∙ ap (λ e. P other columns items e ws) u ∙ ap (λ g. P other columns items (named_in columns all items) g) w)

-- a limit that is passed is told of whatever is within it
pub limited-any : {A B : Type 0} (start : Token) (o : Option Limit) (x : A) (z : B) (f : Fault) → limited start o x ≡ Err f → limited start o z ≡ Err f
limited-any start None x z f is = absurd (cc (is))
limited-any start (Some l) x z f is = let same : fault_at (S15 l) start ≡ f = cc (is) in ap Err same

-- the fault that a part tells is that of what it means
pub adds-fault : (T : Type 0) (x : Result (List ColRef) Fault) (old new : List ColRef) (e : Refusal) (f : Fault) → AddsAll {T = T} x old new (Err e) → e ≡ refusal.Fault f → x ≡ Err f
adds-fault T (Ok cs) old new (refusal.Fault g) f a is = absurd a
adds-fault T (Ok cs) old new refusal.Memory f a is = absurd (cc (is))
adds-fault T (Err g) old new (refusal.Fault h) f a is = cc (a, is)
adds-fault T (Err g) old new refusal.Memory f a is = absurd (cc (is))

pub reads-fault : (T A : Type 0) (seen : T → A) (m : Result A Fault) (rest left : List Terminal) (e : Refusal) (f : Fault) → Reads seen m rest (Err e) left → e ≡ refusal.Fault f → m ≡ Err f
reads-fault T A seen (Ok a) rest left (refusal.Fault g) f told is = absurd told
reads-fault T A seen (Ok a) rest left refusal.Memory f told is = absurd (cc (is))
reads-fault T A seen (Err g) rest left (refusal.Fault h) f told is = cc (told, is)
reads-fault T A seen (Err g) rest left refusal.Memory f told is = absurd (cc (is))

pub conveys-fault : (A T : Type 0) (Says : A → T → Type 0) (m : Result A Fault) (e : Refusal) (f : Fault) → Conveys Says m (Err e) → e ≡ refusal.Fault f → m ≡ Err f
conveys-fault A T Says (Ok a) (refusal.Fault g) f told is = absurd told
conveys-fault A T Says (Ok a) refusal.Memory f told is = absurd (cc (is))
conveys-fault A T Says (Err g) (refusal.Fault h) f told is = cc (told, is)
conveys-fault A T Says (Err g) refusal.Memory f told is = absurd (cc (is))

-- the fault that a part without memory tells is that of what it means
pub told-fault : {A : Type 0} (m : Result A Fault) (g f : Fault) → Err g ≡ m → refusal.Fault g ≡ refusal.Fault f → m ≡ Err f
told-fault m g f is at = let same : g ≡ f = cc (at) in sym is ∙ ap (λ x. Err x) same

-- what is refused after it is so refused
told-so : (f : Fault) (d : Refusal) → d ≡ refusal.Fault f → IsBoundAs (Err f) (Err d)
told-so f d is = subst (λ (e : Refusal). IsBoundAs (Err f) (Err e)) (sym is) refl

pub stopped : (m : Result Bound Fault) (e : Refusal) (r : Result Query Refusal) → ((f : Fault) → e ≡ refusal.Fault f → m ≡ Err f) → IsErrAnd r (λ d. d ≡ e) → IsBoundAs m r
stopped m e (Ok q) wrong told = absurd told
stopped m (refusal.Fault f) (Err d) wrong told = subst (λ (x : Result Bound Fault). IsBoundAs x (Err d)) (sym (wrong f refl)) (told-so f d told)
stopped (Ok b) refusal.Memory (Err d) wrong told = subst (λ (e : Refusal). IsBoundAs (Ok b) (Err e)) (sym told) tt
stopped (Err f) refusal.Memory (Err d) wrong told = subst (λ (e : Refusal). IsBoundAs (Err f) (Err e)) (sym told) tt

no-fault : (m : Result Bound Fault) (f : Fault) → refusal.Memory ≡ refusal.Fault f → m ≡ Err f
no-fault m f is = absurd (cc (is))

pub stopped-short : (m : Result Bound Fault) (r : Result Query Refusal) → IsErrAnd r (λ d. d ≡ refusal.Memory) → IsBoundAs m r
stopped-short m r told = stopped m refusal.Memory r (no-fault m) told

-- what is meant over the relations, step by step
module _ (c : Contents) (range : Range) (joined : List Cond) (start : Token) (items : List Item) (w : Where) (y : OrderBy) (v : WindowTree) where
  abbrev pub meant : Result Bound Fault
  meant = bound_over start items w y v (record { contents = c; range = range; conjuncts = joined })

  conjuncts-stop : (f : Fault) → conjuncts_written (scope_of c range) (type_in c range) w ≡ Err f → meant ≡ Err f
  conjuncts-stop f wrong = stop (conjuncts_written (scope_of c range) (type_in c range) w) _ f wrong

  module _ (ws : List Cond) (conjuncts : conjuncts_written (scope_of c range) (type_in c range) w ≡ Ok ws) where
    columns-stop : (f : Fault) → list_columns (scope_of c range) items ≡ Err f → meant ≡ Err f
    columns-stop f wrong = step (conjuncts_written (scope_of c range) (type_in c range) w) _ ws conjuncts ∙ stop (list_columns (scope_of c range) items) _ f wrong

    module _ (cs : List ColRef) (columns : list_columns (scope_of c range) items ≡ Ok cs) where
      order-stop : (f : Fault) → order_items (scope_of c range) cs y ≡ Err f → meant ≡ Err f
      order-stop f wrong =
          step (conjuncts_written (scope_of c range) (type_in c range) w) _ ws conjuncts ∙
          (step (list_columns (scope_of c range) items) _ cs columns ∙ stop (order_items (scope_of c range) cs y) _ f wrong)

      module _ (os : List OrderItem) (ordered : order_items (scope_of c range) cs y ≡ Ok os) where
        window-stop : (f : Fault) → window_of v ≡ Err f → meant ≡ Err f
        window-stop f wrong =
            step (conjuncts_written (scope_of c range) (type_in c range) w) _ ws conjuncts ∙
            (step (list_columns (scope_of c range) items) _ cs columns ∙
            (step (order_items (scope_of c range) cs y) _ os ordered ∙ stop (window_of v) _ f wrong))

        module _ (rows : Option Window) (windowed : window_of v ≡ Ok rows) where
          abbrev pub all : Bound
          all = record { range = range; select = cs; where_all = joined ++ ws; order = os; window = rows }

          up-to-limits : meant ≡ limited start (past_limit (joined ++ ws)) all
          up-to-limits =
              step (conjuncts_written (scope_of c range) (type_in c range) w) _ ws conjuncts ∙
              (step (list_columns (scope_of c range) items) _ cs columns ∙
              (step (order_items (scope_of c range) cs y) _ os ordered ∙ step (window_of v) _ rows windowed))

          limit-stop : (f : Fault) → limited start (past_limit (joined ++ ws)) (joined ++ ws) ≡ Err f → meant ≡ Err f
          limit-stop f wrong = up-to-limits ∙ limited-any start (past_limit (joined ++ ws)) (joined ++ ws) all f wrong

          all-kept : past_limit (joined ++ ws) ≡ None → meant ≡ Ok all
          all-kept kept = up-to-limits ∙ ap (λ o. limited start o all) kept

  -- what is meant over the relations, step by step, where all of them are in sight
  module _ (s : Sight) (look : s ≡ record { contents = c; range = range; first = 0 }) where
    pub conjuncts-wrong : (f : Fault) → conjuncts_written (visible_in s) (type_in s.contents s.range) w ≡ Err f → meant ≡ Err f
    conjuncts-wrong f wrong = conjuncts-stop f (subst (λ (x : Sight). conjuncts_written (visible_in x) (type_in x.contents x.range) w ≡ Err f) look wrong)

    module _ (ws : List Cond) (conjuncts : conjuncts_written (visible_in s) (type_in s.contents s.range) w ≡ Ok ws) where
      pub own-conjuncts : conjuncts_written (scope_of c range) (type_in c range) w ≡ Ok ws
      own-conjuncts = subst (λ (x : Sight). conjuncts_written (visible_in x) (type_in x.contents x.range) w ≡ Ok ws) look conjuncts

      pub columns-wrong : (f : Fault) → list_columns (visible_in s) items ≡ Err f → meant ≡ Err f
      columns-wrong f wrong = columns-stop ws own-conjuncts f (subst (λ (x : Sight). list_columns (visible_in x) items ≡ Err f) look wrong)

      module _ (cs : List ColRef) (columns : list_columns (visible_in s) items ≡ Ok cs) where
        pub own-columns : list_columns (scope_of c range) items ≡ Ok cs
        own-columns = subst (λ (x : Sight). list_columns (visible_in x) items ≡ Ok cs) look columns

        pub order-wrong : (f : Fault) → order_items (visible_in s) cs y ≡ Err f → meant ≡ Err f
        order-wrong f wrong = order-stop ws own-conjuncts cs own-columns f (subst (λ (x : Sight). order_items (visible_in x) cs y ≡ Err f) look wrong)

        module _ (os : List OrderItem) (ordered : order_items (visible_in s) cs y ≡ Ok os) where
          pub own-order : order_items (scope_of c range) cs y ≡ Ok os
          own-order = subst (λ (x : Sight). order_items (visible_in x) cs y ≡ Ok os) look ordered

          pub window-wrong : (f : Fault) → window_of v ≡ Err f → meant ≡ Err f
          window-wrong f wrong = window-stop ws own-conjuncts cs own-columns os own-order f wrong

          module _ (rows : Option Window) (windowed : window_of v ≡ Ok rows) where
            pub limit-wrong : (f : Fault) → limited start (past_limit (joined ++ ws)) (joined ++ ws) ≡ Err f → meant ≡ Err f
            limit-wrong f wrong = limit-stop ws own-conjuncts cs own-columns os own-order rows windowed f wrong

            pub all-meant : past_limit (joined ++ ws) ≡ None → meant ≡ Ok (all ws own-conjuncts cs own-columns os own-order rows windowed)
            all-meant kept = all-kept ws own-conjuncts cs own-columns os own-order rows windowed kept

-- what is meant over relations as they are lent is meant over those that contracts see
pub at-joined : (i j : Joined) (start : Token) (items : List Item) (w : Where) (y : OrderBy) (v : WindowTree) (r : Result Query Refusal) → i ≡ j → IsBoundAs (bound_over start items w y v i) r → IsBoundAs (bound_over start items w y v j) r
at-joined i j start items w y v r is told = subst (λ (x : Joined). IsBoundAs (bound_over start items w y v x) r) is told

-- conjuncts of conditions of joins, and those of WHERE behind them
pub both-conjuncts : (old new more : List ExprRead) → new ≡ old ++ more → map cond old ++ map cond more ≡ map cond new
both-conjuncts old new more grown = sym (ap (map cond) grown ∙ map-append cond old more)

-- the query that is put together is what is meant
pub read-so : (m : Result Bound Fault) (b : Bound) (q : Query) → m ≡ Ok b → query_with q.classes b ≡ q → IsBoundAs m (Ok q)
read-so m b q is same = subst (λ (x : Result Bound Fault). IsBoundAs x (Ok q)) (sym is) (sym same)

pub bound-at : (i j : Joined) (q : Query) → i ≡ j → IsBoundByItself i.contents q → IsBoundByItself j.contents q
bound-at i j q is h = subst (λ (x : Joined). IsBoundByItself x.contents q) is h

-- the relations of a query that is bound are those that FROM names
limited-range : (start : Token) (o : Option Limit) (b : Bound) (q : Query) → IsBoundAs (limited start o b) (Ok q) → q.range ≡ b.range
limited-range start None b q h = ap (λ (x : Query). x.range) h
limited-range start (Some l) b q h = absurd h

next-range : {A : Type 0} (m : Result A Fault) (more : A → Result Bound Fault) (range : Range) (q : Query) → ((a : A) → IsBoundAs (more a) (Ok q) → q.range ≡ range) → IsBoundAs (next m more) (Ok q) → q.range ≡ range
next-range (Ok a) more range q later h = later a h
next-range (Err f) more range q later h = absurd h

pub over-range : (start : Token) (items : List Item) (w : Where) (y : OrderBy) (v : WindowTree) (j : Joined) (q : Query) → IsBoundAs (bound_over start items w y v j) (Ok q) → q.range ≡ j.range
over-range start items w y v j q h =
    next-range (conjuncts_written (scope_of j.contents j.range) (type_in j.contents j.range) w) _ j.range q
    (λ ks. next-range (list_columns (scope_of j.contents j.range) items) _ j.range q
    (λ cs. next-range (order_items (scope_of j.contents j.range) cs y) _ j.range q
    (λ os. next-range (window_of v) _ j.range q (λ rows. limited-range start (past_limit (j.conjuncts ++ ks)) _ q)))) h
