use Rattle.std.proofs.Common.{◌≡◌, ◌<◌, ◌^◌, ◌++◌, All, List, Result, Ok, Err, length, map, sym, ap, subst, ◌∙◌, arith, length-append}
use Rattle.std.proofs.lemmas.List.Elements.{All-append}
use Rattle.pg_base.specs.Names.{IsName}
use Rattle.pg_base.specs.declared.faults.Fault.{Fault}
use Rattle.pg_expr.specs.Cond.{Cond}
use Rattle.pg_expr.specs.work.View.{cond}
use Rattle.pg_expr.specs.declared.expr.Exprs.{Exprs}
use Rattle.catalog.specs.Range.{Range, type_in}
use Rattle.eq_classes.specs.Classes.{conjuncts_in}
use Rattle.eq_classes.specs.Holding.{IsClassTable}
use Rattle.path_cost.specs.work.Columns.{IsOver}
use Rattle.sql_grammar.specs.Words.{words_of_group_by, words_of_order, words_of_where}
use Rattle.expr_reader.specs.Conditions.{next}
use Rattle.expr_reader.proofs.ReadsLemmas.{was-read}
use Rattle.sql_query.specs.Grouped.{GroupedQuery}
use Rattle.group_query.specs.Grouping.{plain_item}
use Rattle.query_reader.specs.Binding.{conjuncts_written, limited, past_limit}
use Rattle.query_reader.specs.From.{Joined}
use Rattle.query_reader.specs.work.Scope.{Sight, visible_in}
use Rattle.query_reader.proofs.QueryLemmas.{both-conjuncts, conveys-fault, reads-fault}
use Rattle.group_reader.specs.declared.group.Ready.{Ready}
use Rattle.group_reader.specs.Binding.{BoundGroups, BoundLists}
use Rattle.group_reader.specs.work.Binding.{grouper}
use Rattle.group_reader.specs.work.Meaning.{lists_said}
use Rattle.group_reader.specs.work.Seen.{IsReady, grouped_of}
use Rattle.group_reader.specs.work.Selected.{IsGroupedByItself}
use Rattle.group_reader.proofs.AddLemmas.{was-conveyed}
use Rattle.group_reader.proofs.OverLemmas.{at-joined, conjuncts-wrong, few-columns, groups-where, lists-meant, lists-wrong, made-so, own-classes, read-so, stopped, within}
use Rattle.group_reader.proofs.WellLemmas.{are-lists, grouped-of-lists}
use Rattle.group_reader.proofs.group.over.Goals as goal

pub returns-in_err-more-clause-meaning : goal.returns-in_err-more-clause-meaning
returns-in_err-more-clause-meaning c = λ is w b y rest listed ends eq.
    let s : Sight = c.new-range.result in
    let cat = c.sources.inside.cat.now in
    let range : Range = c.sources.inside.relations.items in
    let old = c.sources.inside.written.items in
    let look : s ≡ record { contents = cat; range = range; first = 0 } = c.new-range.ensures ∙ ap (λ (r : Range). record { contents = cat; range = r; first = 0 }) c.deref.ensures.value in
    let behind = words_of_group_by b ++ (words_of_order y ++ rest) in
    at-joined (record { contents = cat; range = range; conjuncts = map cond old }) c.args.sources c.args.start is w (grouper c.args.distinct b) y _ c.sources.view_is
    (stopped _ c.in_err-more.field-0.0 _
    (λ f at. conjuncts-wrong cat range (map cond old) c.args.start is w c.args.distinct b y s look f
    (reads-fault Exprs (List Cond) (λ (es : Exprs). map cond es.items.items) (conjuncts_written (visible_in s) (type_in s.contents s.range) w) behind _ _ f
    (c.in_err-more.ensures.read w behind (groups-where b y rest ends) eq) at))
    c.from_residual.ensures.1)

pub words-requires : goal.words-requires
words-requires c =
    let (w, b, y, rest, ends, eq) = c.requires.words in
    let s : Sight = c.new-range.result in
    let behind = words_of_group_by b ++ (words_of_order y ++ rest) in
    let conj = was-read Exprs (List Cond) (λ (es : Exprs). map cond es.items.items) (conjuncts_written (visible_in s) (type_in s.contents s.range) w) c.in_ok-more.more behind _ (c.in_ok-more.ensures.read w behind (groups-where b y rest ends) eq) in
    (b, y, rest, ends, conj.words)

pub make_ready-requires-clause-over : goal.make_ready-requires-clause-over
make_ready-requires-clause-over c =
    let s : Sight = c.new-range.result in
    let cat = c.sources.inside.cat.now in
    let range : Range = c.sources.inside.relations.items in
    let old = c.sources.inside.written.items in
    let look : s ≡ record { contents = cat; range = range; first = 0 } = c.new-range.ensures ∙ ap (λ (r : Range). record { contents = cat; range = r; first = 0 }) c.deref.ensures.value in
    let ks = map cond c.in_ok-more.more.items.items in
    let both = both-conjuncts old c.append.new.self.items c.in_ok-more.more.items.items c.in_ok-append.ensures.items in
    let every : map cond c.deref-2.result.now ≡ map cond old ++ ks = ap (map cond) c.deref-2.ensures.value ∙ sym both in
    let before = subst (λ (x : Sight). All (IsOver x.contents x.range) (map cond old)) (sym look) c.sources.invariant.1 in
    subst (λ (l : List Cond). All (IsOver s.contents s.range) l) (sym every) (All-append (IsOver s.contents s.range) (map cond old) ks before c.in_ok-more.ensures.over)

pub make_ready-requires-clause-keys : goal.make_ready-requires-clause-keys
make_ready-requires-clause-keys c =
    let (w, b, y, rest, ends, eq) = c.requires.words in
    let s : Sight = c.new-range.result in
    let cat = c.sources.inside.cat.now in
    let range : Range = c.sources.inside.relations.items in
    let old = c.sources.inside.written.items in
    let look : s ≡ record { contents = cat; range = range; first = 0 } = c.new-range.ensures ∙ ap (λ (r : Range). record { contents = cat; range = r; first = 0 }) c.deref.ensures.value in
    let behind = words_of_group_by b ++ (words_of_order y ++ rest) in
    let ks = map cond c.in_ok-more.more.items.items in
    let both = both-conjuncts old c.append.new.self.items c.in_ok-more.more.items.items c.in_ok-append.ensures.items in
    let conj = was-read Exprs (List Cond) (λ (es : Exprs). map cond es.items.items) (conjuncts_written (visible_in s) (type_in s.contents s.range) w) c.in_ok-more.more behind _ (c.in_ok-more.ensures.read w behind (groups-where b y rest ends) eq) in
    let read = c.in_ok-words.ensures.read b y rest ends conj.words in
    omega (arith, ap length read.0, few-columns b, ap length eq, length-append (words_of_where w) behind, length-append (words_of_group_by b) (words_of_order y ++ rest), c.requires.room)

pub returns-in_err-ready-clause-meaning : goal.returns-in_err-ready-clause-meaning
returns-in_err-ready-clause-meaning c = λ is w b y rest listed ends eq.
    let s : Sight = c.new-range.result in
    let cat = c.sources.inside.cat.now in
    let range : Range = c.sources.inside.relations.items in
    let old = c.sources.inside.written.items in
    let look : s ≡ record { contents = cat; range = range; first = 0 } = c.new-range.ensures ∙ ap (λ (r : Range). record { contents = cat; range = r; first = 0 }) c.deref.ensures.value in
    let behind = words_of_group_by b ++ (words_of_order y ++ rest) in
    let ks = map cond c.in_ok-more.more.items.items in
    let both = both-conjuncts old c.append.new.self.items c.in_ok-more.more.items.items c.in_ok-append.ensures.items in
    let conj = was-read Exprs (List Cond) (λ (es : Exprs). map cond es.items.items) (conjuncts_written (visible_in s) (type_in s.contents s.range) w) c.in_ok-more.more behind _ (c.in_ok-more.ensures.read w behind (groups-where b y rest ends) eq) in
    let every : map cond c.deref-2.result.now ≡ map cond old ++ ks = ap (map cond) c.deref-2.ensures.value ∙ sym both in
    let read = c.in_ok-words.ensures.read b y rest ends conj.words in
    let said : Result BoundLists Fault = lists_said (visible_in s) (type_in s.contents s.range) c.in_ok-words.words.listed.items c.in_ok-words.words.distinct c.in_ok-words.words.columns.items c.in_ok-words.words.sorts.items in
    at-joined (record { contents = cat; range = range; conjuncts = map cond old }) c.args.sources c.args.start is w (grouper c.args.distinct b) y _ c.sources.view_is
    (stopped _ c.in_err-ready.field-0.0 _
    (λ f at. lists-wrong cat range (map cond old) c.args.start is w c.args.distinct b y s look ks conj.meant _ _ _ _ (c.in_ok-words.ensures.listed ∙ listed) c.in_ok-words.ensures.distinct read.0 read.1 f
    (subst (λ (l : List Cond). next said (limited c.args.start (past_limit l)) ≡ Err f) every
    (conveys-fault BoundLists Ready (IsReady s (map cond c.deref-2.result.now)) _ _ f c.in_err-ready.ensures.meaning at)))
    c.from_residual-in_err-ready.ensures.1)

pub returns-clause-meaning : goal.returns-clause-meaning
returns-clause-meaning c = λ is w b y rest listed ends eq.
    let s : Sight = c.new-range.result in
    let cat = c.sources.inside.cat.now in
    let range : Range = c.sources.inside.relations.items in
    let old = c.sources.inside.written.items in
    let look : s ≡ record { contents = cat; range = range; first = 0 } = c.new-range.ensures ∙ ap (λ (r : Range). record { contents = cat; range = r; first = 0 }) c.deref.ensures.value in
    let behind = words_of_group_by b ++ (words_of_order y ++ rest) in
    let ks = map cond c.in_ok-more.more.items.items in
    let both = both-conjuncts old c.append.new.self.items c.in_ok-more.more.items.items c.in_ok-append.ensures.items in
    let conj = was-read Exprs (List Cond) (λ (es : Exprs). map cond es.items.items) (conjuncts_written (visible_in s) (type_in s.contents s.range) w) c.in_ok-more.more behind _ (c.in_ok-more.ensures.read w behind (groups-where b y rest ends) eq) in
    let every : map cond c.deref-2.result.now ≡ map cond old ++ ks = ap (map cond) c.deref-2.ensures.value ∙ sym both in
    let read = c.in_ok-words.ensures.read b y rest ends conj.words in
    let said : Result BoundLists Fault = lists_said (visible_in s) (type_in s.contents s.range) c.in_ok-words.words.listed.items c.in_ok-words.words.distinct c.in_ok-words.words.columns.items c.in_ok-words.words.sorts.items in
    let told = subst (λ (l : List Cond). (x : BoundLists) × (next said (limited c.args.start (past_limit l)) ≡ Ok x) × IsReady s l x c.in_ok-ready.ready) every
    (was-conveyed BoundLists Ready (IsReady s (map cond c.deref-2.result.now)) _ c.in_ok-ready.ready c.in_ok-ready.ensures.meaning) in
    let all = map cond old ++ ks in
    let bound : BoundGroups = record { range = range; where_all = all; lists = told.0 } in
    let made = c.finished.ensures ∙ (ap (λ (l : List Cond). grouped_of range l c.in_ok-ready.ready) (sym both) ∙ made-so s range all told.0 c.in_ok-ready.ready told.2) in
    at-joined (record { contents = cat; range = range; conjuncts = map cond old }) c.args.sources c.args.start is w (grouper c.args.distinct b) y _ c.sources.view_is
    (read-so _ bound c.finished.result (lists-meant cat range (map cond old) c.args.start is w c.args.distinct b y s look ks conj.meant _ _ _ _ (c.in_ok-words.ensures.listed ∙ listed) c.in_ok-words.ensures.distinct read.0 read.1 told.0 told.1) (own-classes c.finished.result c.in_ok-ready.ready.classes bound made))

pub returns-clause-itself : goal.returns-clause-itself
returns-clause-itself c = λ names.
    let (w, b, y, rest, ends, eq) = c.requires.words in
    let s : Sight = c.new-range.result in
    let cat = c.sources.inside.cat.now in
    let range : Range = c.sources.inside.relations.items in
    let old = c.sources.inside.written.items in
    let look : s ≡ record { contents = cat; range = range; first = 0 } = c.new-range.ensures ∙ ap (λ (r : Range). record { contents = cat; range = r; first = 0 }) c.deref.ensures.value in
    let behind = words_of_group_by b ++ (words_of_order y ++ rest) in
    let ks = map cond c.in_ok-more.more.items.items in
    let both = both-conjuncts old c.append.new.self.items c.in_ok-more.more.items.items c.in_ok-append.ensures.items in
    let conj = was-read Exprs (List Cond) (λ (es : Exprs). map cond es.items.items) (conjuncts_written (visible_in s) (type_in s.contents s.range) w) c.in_ok-more.more behind _ (c.in_ok-more.ensures.read w behind (groups-where b y rest ends) eq) in
    let every : map cond c.deref-2.result.now ≡ map cond old ++ ks = ap (map cond) c.deref-2.ensures.value ∙ sym both in
    let read = c.in_ok-words.ensures.read b y rest ends conj.words in
    let said : Result BoundLists Fault = lists_said (visible_in s) (type_in s.contents s.range) c.in_ok-words.words.listed.items c.in_ok-words.words.distinct c.in_ok-words.words.columns.items c.in_ok-words.words.sorts.items in
    let told = subst (λ (l : List Cond). (x : BoundLists) × (next said (limited c.args.start (past_limit l)) ≡ Ok x) × IsReady s l x c.in_ok-ready.ready) every
    (was-conveyed BoundLists Ready (IsReady s (map cond c.deref-2.result.now)) _ c.in_ok-ready.ready c.in_ok-ready.ensures.meaning) in
    let all = map cond old ++ ks in
    let kept = within said c.args.start (past_limit all) told.0 told.1 in
    let made = c.finished.ensures ∙ (ap (λ (l : List Cond). grouped_of range l c.in_ok-ready.ready) (sym both) ∙ made-so s range all told.0 c.in_ok-ready.ready told.2) in
    let before = subst (λ (x : Sight). All (IsOver x.contents x.range) (map cond old)) (sym look) c.sources.invariant.1 in
    let over = subst (λ (x : Sight). All (IsOver x.contents x.range) all) look (All-append (IsOver s.contents s.range) (map cond old) ks before c.in_ok-more.ensures.over) in
    let some = subst (λ (j : Joined). 0 < length j.range) (sym c.sources.view_is) c.requires.some in
    let meant = subst (λ (x : Sight). lists_said (visible_in x) (type_in x.contents x.range) c.in_ok-words.words.listed.items c.in_ok-words.words.distinct c.in_ok-words.words.columns.items c.in_ok-words.words.sorts.items ≡ Ok told.0) look kept.meant in
    let classes = subst (λ (x : Sight). IsClassTable (record { conjuncts = conjuncts_in all; order = told.0.order ++ map plain_item told.0.keys; type_of = type_in x.contents x.range }) c.in_ok-ready.ready.classes) look told.2.classes in
    let named = subst (λ (r : Range). All (λ x. IsName x.1) r) (ap (λ (g : GroupedQuery). g.base.range) made) names in
    let few : length told.0.keys < 2 ^ 32 = omega (arith, ap (λ (l : BoundLists). length l.keys) told.2.lists, c.in_ok-ready.ensures.few) in
    let many : length c.in_ok-words.words.listed.items < 2 ^ 32 = omega (arith, ap length c.in_ok-words.ensures.listed, c.requires.few) in
    subst (λ (j : Joined). IsGroupedByItself j.contents c.finished.result) c.sources.view_is
    (subst (IsGroupedByItself cat) (sym made)
    (grouped-of-lists cat range c.sources.invariant.0 some named all over kept.kept c.in_ok-ready.ready.classes told.0 _ _ _ _ (are-lists _ _ _ _ _ _ told.0 meant) classes many few))
