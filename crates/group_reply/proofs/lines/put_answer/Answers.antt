use Rattle.std.proofs.Common.{List, All, ◌++◌, ◌∙◌, ap, subst, sym}
use Rattle.std.proofs.lemmas.Result.{on_ok_weaker, on_err_weaker}
use Rattle.std.specs.Io.KnownBytes.{Appends}
use Rattle.pg_base.specs.Writing.{AppendsPrefix}
use Rattle.catalog.specs.Range.{IsRange}
use Rattle.pg_expr.specs.declared.operand.ColRef.{ColRef}
use Rattle.pg_value.specs.declared.value.SqlType.{SqlType}
use Rattle.sql_query.specs.Grouped.{GroupedQuery}
use Rattle.sql_query.specs.Queries.{Query}
use Rattle.sql_query.specs.WellBound.{IsColumnOf}
use Rattle.sql_query.specs.declared.grouped.Item.{Item}
use Rattle.reply_text.specs.work.Printed.{ArePrintable}
use Rattle.group_reply.specs.Replies.{lines_text}
use Rattle.group_reply.specs.work.Columns.{IsItemIn}
use Rattle.group_reply.proofs.ShapeLemmas.{types-same}
use Rattle.group_reply.proofs.lines.put_answer.Goals as goal

pub item_types-requires-clause-range : goal.item_types-requires-clause-range
item_types-requires-clause-range g c =
    let P : Query → Type 0 = λ x. IsRange c.args.at.now.cat.now x.range in
    subst P (sym c.q.view_is) c.requires.setting.bound.range

pub item_types-requires-clause-keys : goal.item_types-requires-clause-keys
item_types-requires-clause-keys g c =
    let P : Query → Type 0 = λ x. All (IsColumnOf c.args.at.now.cat.now x.range) c.args.g.now.keys in
    let Q : List ColRef → Type 0 = λ xs. All (IsColumnOf c.args.at.now.cat.now c.q.inside.range) xs in
    subst Q (sym (c.items-keys.ensures ∙ ap (λ (x : GroupedQuery). x.keys) c.g.view_is)) (subst P (sym c.q.view_is) c.requires.seen.of_groups)

pub item_types-requires-clause-items : goal.item_types-requires-clause-items
item_types-requires-clause-items g c =
    let P : Query → Type 0 = λ x. All (IsItemIn c.args.at.now.cat.now x.range c.args.g.now.keys) c.args.g.now.items in
    let Q : List ColRef → Type 0 = λ xs. All (IsItemIn c.args.at.now.cat.now c.q.inside.range xs) c.args.g.now.items in
    let R : List Item → Type 0 = λ is. All (IsItemIn c.args.at.now.cat.now c.q.inside.range c.items-keys.result.now) is in
    subst R (sym (c.items-items.ensures ∙ ap (λ (x : GroupedQuery). x.items) c.g.view_is))
    (subst Q (sym (c.items-keys.ensures ∙ ap (λ (x : GroupedQuery). x.keys) c.g.view_is)) (subst P (sym c.q.view_is) c.requires.items))

pub put_text-requires : goal.put_text-requires
put_text-requires g c =
    let P : List SqlType → Type 0 = λ ts. All (ArePrintable ts) c.args.lines.now in
    subst P
    (sym
    (c.deref.ensures.value ∙ c.in_ok-types.ensures
    ∙ types-same c.args.at.now.cat.now c.q.inside.range c.args.at.now.q.now.range c.items-keys.result.now c.args.g.now.keys c.items-items.result.now c.args.g.now.items (ap (λ (x : Query). x.range) c.q.view_is)
    (c.items-keys.ensures ∙ ap (λ (x : GroupedQuery). x.keys) c.g.view_is) (c.items-items.ensures ∙ ap (λ (x : GroupedQuery). x.items) c.g.view_is)))
    c.requires.printable

pub returns-clause-ok : goal.returns-clause-ok
returns-clause-ok g c =
    let P : List SqlType → Type 0 = λ ts. Appends (g.K.Sink.held c.args.out.now) (g.K.Sink.held c.put_text.new.out) (c.args.text.now ++ lines_text ts c.args.lines.now) in
    on_ok_weaker c.put_text.result
    (λ some.
    subst P
    (c.deref.ensures.value ∙ c.in_ok-types.ensures
    ∙ types-same c.args.at.now.cat.now c.q.inside.range c.args.at.now.q.now.range c.items-keys.result.now c.args.g.now.keys c.items-items.result.now c.args.g.now.items (ap (λ (x : Query). x.range) c.q.view_is)
    (c.items-keys.ensures ∙ ap (λ (x : GroupedQuery). x.keys) c.g.view_is) (c.items-items.ensures ∙ ap (λ (x : GroupedQuery). x.items) c.g.view_is))
    some)
    c.put_text.ensures.ok

pub returns-clause-err : goal.returns-clause-err
returns-clause-err g c =
    let P : List SqlType → Type 0 = λ ts. AppendsPrefix (g.K.Sink.held c.args.out.now) (g.K.Sink.held c.put_text.new.out) (c.args.text.now ++ lines_text ts c.args.lines.now) in
    on_err_weaker c.put_text.result
    (λ some.
    subst P
    (c.deref.ensures.value ∙ c.in_ok-types.ensures
    ∙ types-same c.args.at.now.cat.now c.q.inside.range c.args.at.now.q.now.range c.items-keys.result.now c.args.g.now.keys c.items-items.result.now c.args.g.now.items (ap (λ (x : Query). x.range) c.q.view_is)
    (c.items-keys.ensures ∙ ap (λ (x : GroupedQuery). x.keys) c.g.view_is) (c.items-items.ensures ∙ ap (λ (x : GroupedQuery). x.items) c.g.view_is))
    some)
    c.put_text.ensures.err
