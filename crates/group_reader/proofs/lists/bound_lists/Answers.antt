use Rattle.std.proofs.Common.{◌≡◌, ◌++◌, List, Vec, Some, None, Result, Ok, map, filter_map, sym, ap, ◌∙◌}
use Rattle.std.specs.declared.alloc.Global.{Global}
use Rattle.pg_base.specs.declared.faults.Code.TheVariants.{S18}
use Rattle.pg_base.specs.declared.faults.Fault.{Fault}
use Rattle.pg_base.specs.declared.faults.Refusal.TheVariants as refusal
use Rattle.pg_expr.specs.declared.operand.ColRef.{ColRef}
use Rattle.catalog.specs.Range.{type_in}
use Rattle.eq_classes.specs.declared.order.OrderItem.{OrderItem}
use Rattle.sql_lex.specs.declared.tokens.Token.{Token}
use Rattle.sql_grammar.specs.Faults.{fault_at}
use Rattle.expr_reader.specs.Lists.{bound_each}
use Rattle.expr_reader.specs.Conditions.{next}
use Rattle.expr_reader.proofs.StepLemmas.{step}
use Rattle.query_reader.specs.work.Scope.{Sight, visible_in}
use Rattle.group_reader.specs.declared.lists.Lists.{Lists}
use Rattle.group_reader.specs.declared.parts.Part.{Part}
use Rattle.group_reader.specs.declared.written.Sorting.{Sorting}
use Rattle.group_reader.specs.Binding.{BoundLists, all_grouped, shown_columns, ungrouped_items, ungrouped_part}
use Rattle.group_reader.specs.work.Meaning.{first_of, keys_said, last_word, list_said, lists_said, sorting_said}
use Rattle.group_reader.specs.work.Seen.{lists_of}
use Rattle.group_reader.proofs.AddLemmas.{adds-ok, conveys-fault, conveys-ok, was-conveyed}
use Rattle.group_reader.proofs.FoundLemmas.{told-first, told-none}
use Rattle.group_reader.proofs.lists.bound_lists.Goals as goal

pub returns-in-Some-clause-meaning : goal.returns-in-Some-clause-meaning
returns-in-Some-clause-meaning c =
    let s : Sight = c.args.relations.now in
    let vis = visible_in s in
    let typ = type_in s.contents s.range in
    let listed = c.args.words.now.listed.items in
    let columns = c.args.words.now.columns.items in
    let sorts = c.args.words.now.sorts.items in
    let said : List Part → Result (List ColRef) Fault = keys_said vis c.args.words.now.distinct columns in
    let Says : BoundLists → Lists → Type 0 = λ m l. lists_of l ≡ m in
    let G : List Part → List OrderItem → List ColRef → Result BoundLists Fault = λ ps ordered keys. all_grouped keys ps ordered (map last_word sorts) (record { parts = ps; order = ordered; keys = keys }) in
    let K : List Part → List OrderItem → Result BoundLists Fault = λ ps ordered. next (said ps) (G ps ordered) in
    let O : List Part → Result BoundLists Fault = λ ps. next (bound_each (sorting_said vis (shown_columns ps)) sorts) (K ps) in
    let whole : Result BoundLists Fault = lists_said vis typ listed c.args.words.now.distinct columns sorts in
    let a = adds-ok (list_said vis typ c.deref.result.now) c.new-parts.result.items c.add_list.new.parts.items _ c.in_ok-add_list.ensures in
    let ps = a.parts in
    let one : list_said vis typ listed ≡ Ok ps = ap (list_said vis typ) (sym c.deref.ensures.value) ∙ a.is in
    let parts_are : c.add_list.new.parts.items ≡ ps = a.grown ∙ ap (λ (l : List Part). l ++ a.parts) c.new-parts.ensures.items in
    let shown_are : c.deref-3.result.now ≡ shown_columns ps = c.deref-3.ensures.value ∙ (c.in_ok-shown.ensures ∙ ap shown_columns (c.deref-2.ensures.value ∙ parts_are)) in
    let same : bound_each (sorting_said vis (shown_columns ps)) sorts ≡ bound_each (sorting_said vis c.deref-3.result.now) c.deref-4.result.now =
    ap (λ (l : List ColRef). bound_each (sorting_said vis l) sorts) (sym shown_are) ∙ ap (bound_each (sorting_said vis c.deref-3.result.now)) (sym c.deref-4.ensures.value) in
    let b = was-conveyed (List OrderItem) (Vec OrderItem Global) (λ is v. v.items ≡ is) (bound_each (sorting_said vis c.deref-3.result.now) c.deref-4.result.now) c.in_ok-order.order c.in_ok-order.ensures in
    let two : bound_each (sorting_said vis (shown_columns ps)) sorts ≡ Ok b.0 = same ∙ b.1 in
    let k = was-conveyed (List ColRef) (Vec ColRef Global) (λ xs v. v.items ≡ xs) (said c.deref-5.result.now) c.in_ok-keys.keys c.in_ok-keys.ensures.meaning in
    let three : said ps ≡ Ok k.0 = ap said (sym (c.deref-5.ensures.value ∙ parts_are)) ∙ k.1 in
    let made : BoundLists = record { parts = ps; order = b.0; keys = k.0 } in
    let same_lists : ◌≡◌ {A = BoundLists} (record { parts = c.add_list.new.parts.items; order = c.in_ok-order.order.items; keys = c.in_ok-keys.keys.items }) made =
    ap (λ (p : List Part). record { parts = p; order = c.in_ok-order.order.items; keys = c.in_ok-keys.keys.items }) parts_are
    ∙ (ap (λ (o : List OrderItem). record { parts = ps; order = o; keys = c.in_ok-keys.keys.items }) b.2 ∙ ap (λ (x : List ColRef). record { parts = ps; order = b.0; keys = x }) k.2) in
    let at_fault : BoundLists → List Sorting → List Token = λ l so. filter_map (ungrouped_part l.keys) l.parts ++ ungrouped_items l.keys l.order (map last_word so) in
    let up_to : whole ≡ G ps b.0 k.0 = step (list_said vis typ listed) O ps one ∙ (step (bound_each (sorting_said vis (shown_columns ps)) sorts) (K ps) b.0 two ∙ step (said ps) (G ps b.0) k.0 three) in
    let first : first_of (at_fault made sorts) ≡ Some c.in-Some.word =
    ap (λ (l : BoundLists). first_of (at_fault l sorts)) (sym same_lists) ∙ (ap (λ (l : List Sorting). first_of (at_fault (record { parts = c.add_list.new.parts.items; order = c.in_ok-order.order.items; keys = c.in_ok-keys.keys.items }) l)) (sym c.deref-6.ensures.value) ∙ sym c.in-Some.ensures) in
    conveys-fault BoundLists Lists Says whole (fault_at S18 c.in-Some.word) _ (up_to ∙ told-first (at_fault made sorts) c.in-Some.word made first) (ap refusal.Fault c.fault_at.ensures)

pub returns-clause-meaning : goal.returns-clause-meaning
returns-clause-meaning c =
    let s : Sight = c.args.relations.now in
    let vis = visible_in s in
    let typ = type_in s.contents s.range in
    let listed = c.args.words.now.listed.items in
    let columns = c.args.words.now.columns.items in
    let sorts = c.args.words.now.sorts.items in
    let said : List Part → Result (List ColRef) Fault = keys_said vis c.args.words.now.distinct columns in
    let Says : BoundLists → Lists → Type 0 = λ m l. lists_of l ≡ m in
    let G : List Part → List OrderItem → List ColRef → Result BoundLists Fault = λ ps ordered keys. all_grouped keys ps ordered (map last_word sorts) (record { parts = ps; order = ordered; keys = keys }) in
    let K : List Part → List OrderItem → Result BoundLists Fault = λ ps ordered. next (said ps) (G ps ordered) in
    let O : List Part → Result BoundLists Fault = λ ps. next (bound_each (sorting_said vis (shown_columns ps)) sorts) (K ps) in
    let whole : Result BoundLists Fault = lists_said vis typ listed c.args.words.now.distinct columns sorts in
    let a = adds-ok (list_said vis typ c.deref.result.now) c.new-parts.result.items c.add_list.new.parts.items _ c.in_ok-add_list.ensures in
    let ps = a.parts in
    let one : list_said vis typ listed ≡ Ok ps = ap (list_said vis typ) (sym c.deref.ensures.value) ∙ a.is in
    let parts_are : c.add_list.new.parts.items ≡ ps = a.grown ∙ ap (λ (l : List Part). l ++ a.parts) c.new-parts.ensures.items in
    let shown_are : c.deref-3.result.now ≡ shown_columns ps = c.deref-3.ensures.value ∙ (c.in_ok-shown.ensures ∙ ap shown_columns (c.deref-2.ensures.value ∙ parts_are)) in
    let same : bound_each (sorting_said vis (shown_columns ps)) sorts ≡ bound_each (sorting_said vis c.deref-3.result.now) c.deref-4.result.now =
    ap (λ (l : List ColRef). bound_each (sorting_said vis l) sorts) (sym shown_are) ∙ ap (bound_each (sorting_said vis c.deref-3.result.now)) (sym c.deref-4.ensures.value) in
    let b = was-conveyed (List OrderItem) (Vec OrderItem Global) (λ is v. v.items ≡ is) (bound_each (sorting_said vis c.deref-3.result.now) c.deref-4.result.now) c.in_ok-order.order c.in_ok-order.ensures in
    let two : bound_each (sorting_said vis (shown_columns ps)) sorts ≡ Ok b.0 = same ∙ b.1 in
    let k = was-conveyed (List ColRef) (Vec ColRef Global) (λ xs v. v.items ≡ xs) (said c.deref-5.result.now) c.in_ok-keys.keys c.in_ok-keys.ensures.meaning in
    let three : said ps ≡ Ok k.0 = ap said (sym (c.deref-5.ensures.value ∙ parts_are)) ∙ k.1 in
    let made : BoundLists = record { parts = ps; order = b.0; keys = k.0 } in
    let same_lists : ◌≡◌ {A = BoundLists} (record { parts = c.add_list.new.parts.items; order = c.in_ok-order.order.items; keys = c.in_ok-keys.keys.items }) made =
    ap (λ (p : List Part). record { parts = p; order = c.in_ok-order.order.items; keys = c.in_ok-keys.keys.items }) parts_are
    ∙ (ap (λ (o : List OrderItem). record { parts = ps; order = o; keys = c.in_ok-keys.keys.items }) b.2 ∙ ap (λ (x : List ColRef). record { parts = ps; order = b.0; keys = x }) k.2) in
    let at_fault : BoundLists → List Sorting → List Token = λ l so. filter_map (ungrouped_part l.keys) l.parts ++ ungrouped_items l.keys l.order (map last_word so) in
    let up_to : whole ≡ G ps b.0 k.0 = step (list_said vis typ listed) O ps one ∙ (step (bound_each (sorting_said vis (shown_columns ps)) sorts) (K ps) b.0 two ∙ step (said ps) (G ps b.0) k.0 three) in
    let first : first_of (at_fault made sorts) ≡ None =
    ap (λ (l : BoundLists). first_of (at_fault l sorts)) (sym same_lists) ∙ (ap (λ (l : List Sorting). first_of (at_fault (record { parts = c.add_list.new.parts.items; order = c.in_ok-order.order.items; keys = c.in_ok-keys.keys.items }) l)) (sym c.deref-6.ensures.value) ∙ sym c.in-None.ensures) in
    conveys-ok BoundLists Lists Says whole made _ (up_to ∙ told-none (at_fault made sorts) made first) same_lists
