use Rattle.std.proofs.Common.{◌≡◌, ℕ, ◌++◌, All, List, Option, Result, Ok, length, map, true, sym, ap, subst, ◌∙◌, arith}
use Rattle.pg_base.specs.declared.faults.Fault.{Fault}
use Rattle.pg_base.specs.declared.faults.Limit.{Limit}
use Rattle.pg_expr.specs.Cond.{Cond}
use Rattle.pg_expr.specs.work.View.{cond}
use Rattle.pg_expr.specs.declared.operand.ColRef.{ColRef}
use Rattle.catalog.specs.Range.{type_in}
use Rattle.eq_classes.specs.Classes.{conjuncts_in}
use Rattle.eq_classes.specs.Clauses.{ClassTable}
use Rattle.eq_classes.specs.Holding.{IsClassTable}
use Rattle.eq_classes.specs.declared.order.OrderItem.{OrderItem}
use Rattle.path_cost.specs.work.Columns.{is_column_in}
use Rattle.expr_reader.specs.Conditions.{next}
use Rattle.expr_reader.proofs.StepLemmas.{step}
use Rattle.group_query.specs.Grouping.{plain_item}
use Rattle.query_reader.specs.Binding.{limited, past_limit}
use Rattle.query_reader.specs.Scope.{scope_of}
use Rattle.query_reader.specs.work.Scope.{Sight, visible_in}
use Rattle.query_reader.proofs.QueryLemmas.{within}
use Rattle.group_reader.specs.declared.group.Ready.{Ready}
use Rattle.group_reader.specs.declared.lists.Lists.{Lists}
use Rattle.group_reader.specs.declared.parts.Part.{Part}
use Rattle.group_reader.specs.Binding.{BoundLists, item_in, named_in_lists}
use Rattle.group_reader.specs.work.Meaning.{column_meant, lists_said}
use Rattle.group_reader.specs.work.Seen.{IsReady, lists_of}
use Rattle.group_reader.proofs.AddLemmas.{conveys-ok, was-conveyed}
use Rattle.group_reader.proofs.WellLemmas.{are-lists, each-length, items-over}
use Rattle.group_reader.proofs.group.make_ready.Goals as goal

pub classes_within-requires-clause-order : goal.classes_within-requires-clause-order
classes_within-requires-clause-order c =
    let s : Sight = c.args.relations.now in
    let ws = map cond c.args.written.now in
    let said : Result BoundLists Fault = lists_said (visible_in s) (type_in s.contents s.range) c.args.words.now.listed.items c.args.words.now.distinct c.args.words.now.columns.items c.args.words.now.sorts.items in
    let within_limits : BoundLists → Result BoundLists Fault = limited c.args.start (past_limit ws) in
    let told = was-conveyed BoundLists Lists (λ m l. lists_of l ≡ m) said c.in_ok-lists.lists c.in_ok-lists.ensures.meaning in
    let look : s ≡ record { contents = s.contents; range = s.range; first = 0 } = ap (λ (n : ℕ). record { contents = s.contents; range = s.range; first = n }) c.requires.all in
    let meant = subst (λ (x : Sight). lists_said (visible_in x) (type_in x.contents x.range) c.args.words.now.listed.items c.args.words.now.distinct c.args.words.now.columns.items c.args.words.now.sorts.items ≡ Ok told.0) look told.1 in
    let are = are-lists (scope_of s.contents s.range) (type_in s.contents s.range) c.args.words.now.listed.items c.args.words.now.distinct c.args.words.now.columns.items c.args.words.now.sorts.items told.0 meant in
    let behind : c.deref-3.result.now ≡ told.0.order ++ map plain_item told.0.keys =
    c.deref-3.ensures.value ∙ (c.in_ok-behind.ensures ∙ (ap (λ (o : List OrderItem). o ++ map plain_item c.deref-2.result.now) c.deref.ensures.value
    ∙ (ap (λ (k : List ColRef). c.in_ok-lists.lists.order.items ++ map plain_item k) c.deref-2.ensures.value ∙ ap (λ (l : BoundLists). l.order ++ map plain_item l.keys) told.2))) in
    subst (λ (l : List OrderItem). All (λ (i : OrderItem). is_column_in s.contents s.range i.col ≡ true) l) (sym behind) (items-over s.contents s.range c.requires.are told.0 c.args.words.now.listed.items c.args.words.now.distinct c.args.words.now.columns.items c.args.words.now.sorts.items are)

pub items-requires : goal.items-requires
items-requires c = omega (arith, ap length c.deref-4.ensures.value, c.in_ok-lists.ensures.few)

pub returns-clause-meaning : goal.returns-clause-meaning
returns-clause-meaning c =
    let s : Sight = c.args.relations.now in
    let ws = map cond c.args.written.now in
    let said : Result BoundLists Fault = lists_said (visible_in s) (type_in s.contents s.range) c.args.words.now.listed.items c.args.words.now.distinct c.args.words.now.columns.items c.args.words.now.sorts.items in
    let within_limits : BoundLists → Result BoundLists Fault = limited c.args.start (past_limit ws) in
    let told = was-conveyed BoundLists Lists (λ m l. lists_of l ≡ m) said c.in_ok-lists.lists c.in_ok-lists.ensures.meaning in
    let behind : c.deref-3.result.now ≡ told.0.order ++ map plain_item told.0.keys =
    c.deref-3.ensures.value ∙ (c.in_ok-behind.ensures ∙ (ap (λ (o : List OrderItem). o ++ map plain_item c.deref-2.result.now) c.deref.ensures.value
    ∙ (ap (λ (k : List ColRef). c.in_ok-lists.lists.order.items ++ map plain_item k) c.deref-2.ensures.value ∙ ap (λ (l : BoundLists). l.order ++ map plain_item l.keys) told.2))) in
    let Says : List Cond → ClassTable → Type 0 = λ ks t. IsClassTable (record { conjuncts = conjuncts_in ks; order = c.deref-3.result.now; type_of = type_in s.contents s.range }) t in
    let kept = within Says c.args.start ws c.in_ok-classes.classes c.in_ok-classes.ensures in
    let table = subst (λ (l : List OrderItem). IsClassTable (record { conjuncts = conjuncts_in ws; order = l; type_of = type_in s.contents s.range }) c.in_ok-classes.classes) behind kept.1 in
    conveys-ok BoundLists Ready (IsReady s ws) (next said within_limits) told.0 _ (step said within_limits told.0 told.1 ∙ ap (λ (o : Option Limit). limited c.args.start o told.0) kept.0)
    (record {
      lists = told.2;
      classes = table;
      used = c.in_ok-used.ensures ∙ ap (λ (l : BoundLists). named_in_lists l ws) told.2;
      items = c.in_ok-items.ensures ∙ (ap (λ (k : List ColRef). map (item_in k) c.deref-5.result.now) c.deref-4.ensures.value ∙ (ap (λ (p : List Part). map (item_in c.in_ok-lists.lists.keys.items) p) c.deref-5.ensures.value
          ∙ ap (λ (l : BoundLists). map (item_in l.keys) l.parts) told.2));
    })
