use Rattle.std.proofs.Common.{◌≡◌, ◌<◌, None, Ok, Err, List, ◌++◌, Vec, map, length, ap, ◌∙◌, subst, sym, true, All}
use Rattle.std.specs.declared.alloc.Global.{Global}
use Rattle.std.proofs.lemmas.List.Elements.{All-append}
use Rattle.pg_base.specs.Names.{IsName}
use Rattle.pg_base.specs.declared.faults.Refusal.TheVariants as refusal
use Rattle.pg_expr.specs.declared.expr.Exprs.{Exprs}
use Rattle.pg_expr.specs.declared.operand.ColRef.{ColRef}
use Rattle.pg_expr.specs.Cond.{Cond}
use Rattle.pg_expr.specs.work.View.{cond}
use Rattle.catalog.specs.Range.{Range, type_in}
use Rattle.eq_classes.specs.Classes.{conjuncts_in}
use Rattle.eq_classes.specs.Clauses.{ClassTable}
use Rattle.eq_classes.specs.Holding.{IsClassTable}
use Rattle.eq_classes.specs.declared.order.OrderItem.{OrderItem}
use Rattle.expr_reader.specs.work.Reads.{Reads}
use Rattle.expr_reader.proofs.ReadsLemmas.{was-read}
use Rattle.path_cost.specs.work.Columns.{IsOver, is_column_in}
use Rattle.sql_grammar.specs.Words.{words_of_order, words_of_window}
use Rattle.query_reader.specs.work.Select.{IsBoundByItself}
use Rattle.query_reader.specs.Binding.{conjuncts_written, limited, list_columns, named_in, past_limit}
use Rattle.query_reader.specs.Windows.{window_of}
use Rattle.query_reader.specs.From.{Joined}
use Rattle.query_reader.specs.Order.{order_items}
use Rattle.query_reader.specs.work.Scope.{Sight, visible_in}
use Rattle.query_reader.proofs.BoundLemmas.{well-bound}
use Rattle.query_reader.proofs.QueryLemmas.{added-all, adds-fault, all-meant, at-joined, both-conjuncts, bound-at, columns-wrong, conjuncts-wrong, conveys-fault, limit-wrong, order-wrong, read-so, reads-fault, same-query, stopped, stopped-short, told-fault, window-wrong, within}
use Rattle.query_reader.proofs.ReadingLemmas.{ends-order, ends-where}
use Rattle.query_reader.proofs.bind.over.Goals as goal

pub returns-in_err-more-clause-meaning : goal.returns-in_err-more-clause-meaning
returns-in_err-more-clause-meaning c = λ w y v later ends_so is.
    let rest = words_of_window v ++ later in
    let ends = ends-order v later ends_so in
    let s : Sight = c.new-range.result in
    let cat = c.sources.inside.cat.now in
    let range : Range = c.sources.inside.relations.items in
    let old = c.sources.inside.written.items in
    let look : s ≡ record { contents = cat; range = range; first = 0 } = c.new-range.ensures ∙ ap (λ (r : Range). record { contents = cat; range = r; first = 0 }) c.deref.ensures.value in
    at-joined (record { contents = cat; range = range; conjuncts = map cond old }) c.args.sources c.args.start c.args.items.now w y v _ c.sources.view_is
    (stopped _ c.in_err-more.field-0.0 _
    (λ f at. conjuncts-wrong cat range (map cond old) c.args.start c.args.items.now w y v s look f
    (reads-fault Exprs (List Cond) (λ (es : Exprs). map cond es.items.items) (conjuncts_written (visible_in s) (type_in s.contents s.range) w) (words_of_order y ++ rest) _ _ f
    (c.in_err-more.ensures.read w (words_of_order y ++ rest) (ends-where y rest ends) is) at))
    c.from_residual.ensures.1)

pub returns-in_err-append-clause-meaning : goal.returns-in_err-append-clause-meaning
returns-in_err-append-clause-meaning c = λ w y v rest ends is. stopped-short _ _ c.from_residual-in_err-append.ensures.1

pub returns-in_err-add_items-clause-meaning : goal.returns-in_err-add_items-clause-meaning
returns-in_err-add_items-clause-meaning c = λ w y v later ends_so is.
    let rest = words_of_window v ++ later in
    let ends = ends-order v later ends_so in
    let s : Sight = c.new-range.result in
    let cat = c.sources.inside.cat.now in
    let range : Range = c.sources.inside.relations.items in
    let old = c.sources.inside.written.items in
    let look : s ≡ record { contents = cat; range = range; first = 0 } = c.new-range.ensures ∙ ap (λ (r : Range). record { contents = cat; range = r; first = 0 }) c.deref.ensures.value in
    let ws = map cond c.in_ok-more.more.items.items in
    let conj = was-read Exprs (List Cond) (λ (es : Exprs). map cond es.items.items) (conjuncts_written (visible_in s) (type_in s.contents s.range) w) c.in_ok-more.more (words_of_order y ++ rest) _
    (c.in_ok-more.ensures.read w (words_of_order y ++ rest) (ends-where y rest ends) is) in
    at-joined (record { contents = cat; range = range; conjuncts = map cond old }) c.args.sources c.args.start c.args.items.now w y v _ c.sources.view_is
    (stopped _ c.in_err-add_items.field-0.0 _
    (λ f at. columns-wrong cat range (map cond old) c.args.start c.args.items.now w y v s look ws conj.meant f
    (adds-fault (Unit {0}) (list_columns (visible_in s) c.args.items.now) c.new-select.result.items c.add_items.new.all.items _ f c.in_err-add_items.ensures at))
    c.from_residual-in_err-add_items.ensures.1)

pub returns-in_err-order-clause-meaning : goal.returns-in_err-order-clause-meaning
returns-in_err-order-clause-meaning c = λ w y v later ends_so is.
    let rest = words_of_window v ++ later in
    let ends = ends-order v later ends_so in
    let s : Sight = c.new-range.result in
    let cat = c.sources.inside.cat.now in
    let range : Range = c.sources.inside.relations.items in
    let old = c.sources.inside.written.items in
    let look : s ≡ record { contents = cat; range = range; first = 0 } = c.new-range.ensures ∙ ap (λ (r : Range). record { contents = cat; range = r; first = 0 }) c.deref.ensures.value in
    let ws = map cond c.in_ok-more.more.items.items in
    let both = both-conjuncts old c.append.new.self.items c.in_ok-more.more.items.items c.in_ok-append.ensures.items in
    let conj = was-read Exprs (List Cond) (λ (es : Exprs). map cond es.items.items) (conjuncts_written (visible_in s) (type_in s.contents s.range) w) c.in_ok-more.more (words_of_order y ++ rest) _
    (c.in_ok-more.ensures.read w (words_of_order y ++ rest) (ends-where y rest ends) is) in
    let shown = added-all (list_columns (visible_in s) c.args.items.now) c.new-select.result.items c.add_items.new.all.items _ c.in_ok-add_items.ensures in
    let select = shown.grown ∙ ap (λ l. l ++ shown.columns) c.new-select.ensures.items in
    at-joined (record { contents = cat; range = range; conjuncts = map cond old }) c.args.sources c.args.start c.args.items.now w y v _ c.sources.view_is
    (stopped _ c.in_err-order.field-0.0 _
    (λ f at. order-wrong cat range (map cond old) c.args.start c.args.items.now w y v s look ws conj.meant shown.columns shown.is f
    (reads-fault (Vec OrderItem Global) (List OrderItem) (λ (v : Vec OrderItem Global). v.items) (order_items (visible_in s) shown.columns y) rest _ _ f
    (subst (λ (l : List ColRef). Reads (λ (v : Vec OrderItem Global). v.items) (order_items (visible_in s) l y) rest (Err c.in_err-order.field-0.0) c.order_by.new.from) (c.deref-2.ensures.value ∙ select) (c.in_err-order.ensures.read y rest ends conj.words)) at))
    c.from_residual-in_err-order.ensures.1)

pub window-requires : goal.window-requires
window-requires c =
    let (w, y, v, rest, ends, is) = c.requires.words in
    let s : Sight = c.new-range.result in
    let conj = was-read Exprs (List Cond) (λ (es : Exprs). map cond es.items.items) (conjuncts_written (visible_in s) (type_in s.contents s.range) w) c.in_ok-more.more (words_of_order y ++ (words_of_window v ++ rest)) _
    (c.in_ok-more.ensures.read w (words_of_order y ++ (words_of_window v ++ rest)) (ends-where y (words_of_window v ++ rest) (ends-order v rest ends)) is) in
    let sorted = was-read (Vec OrderItem Global) (List OrderItem) (λ (l : Vec OrderItem Global). l.items) (order_items (visible_in s) c.deref-2.result.now y) c.in_ok-order.order (words_of_window v ++ rest) _
    (c.in_ok-order.ensures.read y (words_of_window v ++ rest) (ends-order v rest ends) conj.words) in
    (v, rest, ends, sorted.words)

pub returns-in_err-window-clause-meaning : goal.returns-in_err-window-clause-meaning
returns-in_err-window-clause-meaning c = λ w y v later ends_so is.
    let rest = words_of_window v ++ later in
    let ends = ends-order v later ends_so in
    let s : Sight = c.new-range.result in
    let cat = c.sources.inside.cat.now in
    let range : Range = c.sources.inside.relations.items in
    let old = c.sources.inside.written.items in
    let look : s ≡ record { contents = cat; range = range; first = 0 } = c.new-range.ensures ∙ ap (λ (r : Range). record { contents = cat; range = r; first = 0 }) c.deref.ensures.value in
    let ws = map cond c.in_ok-more.more.items.items in
    let both = both-conjuncts old c.append.new.self.items c.in_ok-more.more.items.items c.in_ok-append.ensures.items in
    let conj = was-read Exprs (List Cond) (λ (es : Exprs). map cond es.items.items) (conjuncts_written (visible_in s) (type_in s.contents s.range) w) c.in_ok-more.more (words_of_order y ++ rest) _
    (c.in_ok-more.ensures.read w (words_of_order y ++ rest) (ends-where y rest ends) is) in
    let shown = added-all (list_columns (visible_in s) c.args.items.now) c.new-select.result.items c.add_items.new.all.items _ c.in_ok-add_items.ensures in
    let select = shown.grown ∙ ap (λ l. l ++ shown.columns) c.new-select.ensures.items in
    let sorted = was-read (Vec OrderItem Global) (List OrderItem) (λ (v : Vec OrderItem Global). v.items) (order_items (visible_in s) shown.columns y) c.in_ok-order.order rest _
    (subst (λ (l : List ColRef). Reads (λ (v : Vec OrderItem Global). v.items) (order_items (visible_in s) l y) rest (Ok c.in_ok-order.order) c.order_by.new.from) (c.deref-2.ensures.value ∙ select) (c.in_ok-order.ensures.read y rest ends conj.words)) in
    at-joined (record { contents = cat; range = range; conjuncts = map cond old }) c.args.sources c.args.start c.args.items.now w y v _ c.sources.view_is
    (stopped _ (refusal.Fault c.in_err-window.field-0.0) _
    (λ f at. window-wrong cat range (map cond old) c.args.start c.args.items.now w y v s look ws conj.meant shown.columns shown.is c.in_ok-order.order.items sorted.meant f
    (told-fault (window_of v) c.in_err-window.field-0.0 f (c.in_err-window.ensures v later ends_so sorted.words).0 at))
    c.from_residual-in_err-window.ensures.1)

pub classes_within-requires-clause-over : goal.classes_within-requires-clause-over
classes_within-requires-clause-over c =
    let s : Sight = c.new-range.result in
    let cat = c.sources.inside.cat.now in
    let range : Range = c.sources.inside.relations.items in
    let old = c.sources.inside.written.items in
    let look : s ≡ record { contents = cat; range = range; first = 0 } = c.new-range.ensures ∙ ap (λ (r : Range). record { contents = cat; range = r; first = 0 }) c.deref.ensures.value in
    let ws = map cond c.in_ok-more.more.items.items in
    let both = both-conjuncts old c.append.new.self.items c.in_ok-more.more.items.items c.in_ok-append.ensures.items in
    let every : map cond c.deref-3.result.now ≡ map cond old ++ ws = ap (map cond) c.deref-3.ensures.value ∙ sym both in
    let before = subst (λ (x : Sight). All (IsOver x.contents x.range) (map cond old)) (sym look) c.sources.invariant.1 in
    subst (λ (l : List Cond). All (IsOver s.contents s.range) l) (sym every) (All-append (IsOver s.contents s.range) (map cond old) ws before c.in_ok-more.ensures.over)

pub returns-in_err-classes-clause-meaning : goal.returns-in_err-classes-clause-meaning
returns-in_err-classes-clause-meaning c = λ w y v later ends_so is.
    let rest = words_of_window v ++ later in
    let ends = ends-order v later ends_so in
    let s : Sight = c.new-range.result in
    let cat = c.sources.inside.cat.now in
    let range : Range = c.sources.inside.relations.items in
    let old = c.sources.inside.written.items in
    let look : s ≡ record { contents = cat; range = range; first = 0 } = c.new-range.ensures ∙ ap (λ (r : Range). record { contents = cat; range = r; first = 0 }) c.deref.ensures.value in
    let ws = map cond c.in_ok-more.more.items.items in
    let both = both-conjuncts old c.append.new.self.items c.in_ok-more.more.items.items c.in_ok-append.ensures.items in
    let conj = was-read Exprs (List Cond) (λ (es : Exprs). map cond es.items.items) (conjuncts_written (visible_in s) (type_in s.contents s.range) w) c.in_ok-more.more (words_of_order y ++ rest) _
    (c.in_ok-more.ensures.read w (words_of_order y ++ rest) (ends-where y rest ends) is) in
    let shown = added-all (list_columns (visible_in s) c.args.items.now) c.new-select.result.items c.add_items.new.all.items _ c.in_ok-add_items.ensures in
    let select = shown.grown ∙ ap (λ l. l ++ shown.columns) c.new-select.ensures.items in
    let sorted = was-read (Vec OrderItem Global) (List OrderItem) (λ (v : Vec OrderItem Global). v.items) (order_items (visible_in s) shown.columns y) c.in_ok-order.order rest _
    (subst (λ (l : List ColRef). Reads (λ (v : Vec OrderItem Global). v.items) (order_items (visible_in s) l y) rest (Ok c.in_ok-order.order) c.order_by.new.from) (c.deref-2.ensures.value ∙ select) (c.in_ok-order.ensures.read y rest ends conj.words)) in
    let every : map cond c.deref-3.result.now ≡ map cond old ++ ws = ap (map cond) c.deref-3.ensures.value ∙ sym both in
    let rows : window_of v ≡ Ok c.in_ok-window.window = sym (c.in_ok-window.ensures v later ends_so sorted.words).0 in
    at-joined (record { contents = cat; range = range; conjuncts = map cond old }) c.args.sources c.args.start c.args.items.now w y v _ c.sources.view_is
    (stopped _ c.in_err-classes.field-0.0 _
    (λ f at. limit-wrong cat range (map cond old) c.args.start c.args.items.now w y v s look ws conj.meant shown.columns shown.is c.in_ok-order.order.items sorted.meant c.in_ok-window.window rows f
    (subst (λ (l : List Cond). limited c.args.start (past_limit l) l ≡ Err f) every
    (conveys-fault (List Cond) ClassTable (λ ks t. IsClassTable (record { conjuncts = conjuncts_in ks; order = c.deref-4.result.now; type_of = type_in s.contents s.range }) t) _ _ f c.in_err-classes.ensures at)))
    c.from_residual-in_err-classes.ensures.1)

pub returns-in_err-used-clause-meaning : goal.returns-in_err-used-clause-meaning
returns-in_err-used-clause-meaning c = λ w y v rest ends is. stopped-short _ _ c.from_residual-in_err-used.ensures.1

pub returns-clause-meaning : goal.returns-clause-meaning
returns-clause-meaning c = λ w y v later ends_so is.
    let rest = words_of_window v ++ later in
    let ends = ends-order v later ends_so in
    let s : Sight = c.new-range.result in
    let cat = c.sources.inside.cat.now in
    let range : Range = c.sources.inside.relations.items in
    let old = c.sources.inside.written.items in
    let look : s ≡ record { contents = cat; range = range; first = 0 } = c.new-range.ensures ∙ ap (λ (r : Range). record { contents = cat; range = r; first = 0 }) c.deref.ensures.value in
    let ws = map cond c.in_ok-more.more.items.items in
    let both = both-conjuncts old c.append.new.self.items c.in_ok-more.more.items.items c.in_ok-append.ensures.items in
    let conj = was-read Exprs (List Cond) (λ (es : Exprs). map cond es.items.items) (conjuncts_written (visible_in s) (type_in s.contents s.range) w) c.in_ok-more.more (words_of_order y ++ rest) _
    (c.in_ok-more.ensures.read w (words_of_order y ++ rest) (ends-where y rest ends) is) in
    let shown = added-all (list_columns (visible_in s) c.args.items.now) c.new-select.result.items c.add_items.new.all.items _ c.in_ok-add_items.ensures in
    let select = shown.grown ∙ ap (λ l. l ++ shown.columns) c.new-select.ensures.items in
    let sorted = was-read (Vec OrderItem Global) (List OrderItem) (λ (v : Vec OrderItem Global). v.items) (order_items (visible_in s) shown.columns y) c.in_ok-order.order rest _
    (subst (λ (l : List ColRef). Reads (λ (v : Vec OrderItem Global). v.items) (order_items (visible_in s) l y) rest (Ok c.in_ok-order.order) c.order_by.new.from) (c.deref-2.ensures.value ∙ select) (c.in_ok-order.ensures.read y rest ends conj.words)) in
    let every : map cond c.deref-3.result.now ≡ map cond old ++ ws = ap (map cond) c.deref-3.ensures.value ∙ sym both in
    let Says : List Cond → ClassTable → Type 0 = λ ks t. IsClassTable (record { conjuncts = conjuncts_in ks; order = c.deref-4.result.now; type_of = type_in s.contents s.range }) t in
    let kept = subst (λ (l : List Cond). (past_limit l ≡ None) × Says l c.in_ok-classes.classes) every (within Says c.args.start (map cond c.deref-3.result.now) c.in_ok-classes.classes c.in_ok-classes.ensures) in
    let same = same-query c.from_vec.result range c.in_ok-classes.classes c.from_vec-2.result shown.columns c.from_vec-4.result c.from_vec-3.result c.in_ok-order.order.items (map cond c.from_vec-5.result.items.items) (map cond old ++ ws) c.in_ok-window.window
    c.from_vec.ensures (c.from_vec-2.ensures ∙ select) c.from_vec-3.ensures
    (c.from_vec-4.ensures ∙ c.in_ok-used.ensures ∙ ap (λ l. named_in l (map cond c.deref-6.result.now) c.deref-7.result.now) (c.deref-5.ensures.value ∙ select) ∙
    ap (λ l. named_in shown.columns l c.deref-7.result.now) (ap (map cond) c.deref-6.ensures.value ∙ sym both) ∙ ap (λ l. named_in shown.columns (map cond old ++ ws) l) c.deref-7.ensures.value)
    (ap (λ v. map cond v.items) c.from_vec-5.ensures ∙ sym both) in
    let rows : window_of v ≡ Ok c.in_ok-window.window = sym (c.in_ok-window.ensures v later ends_so sorted.words).0 in
    at-joined (record { contents = cat; range = range; conjuncts = map cond old }) c.args.sources c.args.start c.args.items.now w y v _ c.sources.view_is
    (read-so _ _ _ (all-meant cat range (map cond old) c.args.start c.args.items.now w y v s look ws conj.meant shown.columns shown.is c.in_ok-order.order.items sorted.meant c.in_ok-window.window rows kept.0) same)

pub returns-clause-itself : goal.returns-clause-itself
returns-clause-itself c = λ names.
    let s : Sight = c.new-range.result in
    let cat = c.sources.inside.cat.now in
    let range : Range = c.sources.inside.relations.items in
    let old = c.sources.inside.written.items in
    let look : s ≡ record { contents = cat; range = range; first = 0 } = c.new-range.ensures ∙ ap (λ (r : Range). record { contents = cat; range = r; first = 0 }) c.deref.ensures.value in
    let ws = map cond c.in_ok-more.more.items.items in
    let both = both-conjuncts old c.append.new.self.items c.in_ok-more.more.items.items c.in_ok-append.ensures.items in
    let shown = added-all (list_columns (visible_in s) c.args.items.now) c.new-select.result.items c.add_items.new.all.items _ c.in_ok-add_items.ensures in
    let select = shown.grown ∙ ap (λ l. l ++ shown.columns) c.new-select.ensures.items in
    let every : map cond c.deref-3.result.now ≡ map cond old ++ ws = ap (map cond) c.deref-3.ensures.value ∙ sym both in
    let Says : List Cond → ClassTable → Type 0 = λ ks t. IsClassTable (record { conjuncts = conjuncts_in ks; order = c.deref-4.result.now; type_of = type_in s.contents s.range }) t in
    let kept = subst (λ (l : List Cond). (past_limit l ≡ None) × Says l c.in_ok-classes.classes) every (within Says c.args.start (map cond c.deref-3.result.now) c.in_ok-classes.classes c.in_ok-classes.ensures) in
    let same = same-query c.from_vec.result range c.in_ok-classes.classes c.from_vec-2.result shown.columns c.from_vec-4.result c.from_vec-3.result c.in_ok-order.order.items (map cond c.from_vec-5.result.items.items) (map cond old ++ ws) c.in_ok-window.window
    c.from_vec.ensures (c.from_vec-2.ensures ∙ select) c.from_vec-3.ensures
    (c.from_vec-4.ensures ∙ c.in_ok-used.ensures ∙ ap (λ l. named_in l (map cond c.deref-6.result.now) c.deref-7.result.now) (c.deref-5.ensures.value ∙ select) ∙
    ap (λ l. named_in shown.columns l c.deref-7.result.now) (ap (map cond) c.deref-6.ensures.value ∙ sym both) ∙ ap (λ l. named_in shown.columns (map cond old ++ ws) l) c.deref-7.ensures.value)
    (ap (λ v. map cond v.items) c.from_vec-5.ensures ∙ sym both) in
    let before = subst (λ (x : Sight). All (IsOver x.contents x.range) (map cond old)) (sym look) c.sources.invariant.1 in
    let some = subst (λ (j : Joined). 0 < length j.range) (sym c.sources.view_is) c.requires.some in
    let columns = subst (λ (x : Sight). list_columns (visible_in x) c.args.items.now ≡ Ok shown.columns) look shown.is in
    let over = subst (λ (x : Sight). All (IsOver x.contents x.range) (map cond old ++ ws)) look (All-append (IsOver s.contents s.range) (map cond old) ws before c.in_ok-more.ensures.over) in
    let ordered = subst (λ (x : Sight). All (λ (i : OrderItem). is_column_in x.contents x.range i.col ≡ true) c.in_ok-order.order.items) look c.in_ok-order.ensures.over in
    let table = subst (λ (l : List OrderItem). IsClassTable (record { conjuncts = conjuncts_in (map cond old ++ ws); order = l; type_of = type_in s.contents s.range }) c.in_ok-classes.classes) c.deref-4.ensures.value kept.1 in
    let classes = subst (λ (x : Sight). IsClassTable (record { conjuncts = conjuncts_in (map cond old ++ ws); order = c.in_ok-order.order.items; type_of = type_in x.contents x.range }) c.in_ok-classes.classes) look table in
    let named = subst (λ (r : Range). All (λ x. IsName x.1) r) c.from_vec.ensures names in
    bound-at (record { contents = cat; range = range; conjuncts = map cond old }) c.args.sources _ c.sources.view_is
    (subst (IsBoundByItself cat) same (well-bound cat range c.sources.invariant.0 some c.args.items.now shown.columns (map cond old ++ ws) c.in_ok-order.order.items c.in_ok-window.window c.in_ok-classes.classes columns over ordered kept.0 classes named))
