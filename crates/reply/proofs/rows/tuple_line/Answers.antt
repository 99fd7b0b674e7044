use Rattle.std.proofs.Common.{◌∙◌, ap, ◌≡◌, map, List, IfOk, subst}
use Rattle.reply_text.specs.Texts.{row_line}
use Rattle.pg_value.specs.declared.value.SqlType.{SqlType}
use Rattle.pg_value.specs.declared.value.Value.{Value}
use Rattle.sql_query.specs.Queries.{Query}
use Rattle.executor.specs.work.Numbers.{numbers}
use Rattle.reply.specs.work.Settings.{types_shown, world_of}
use Rattle.reply.specs.work.Showing.{cell_of}
use Rattle.reply.proofs.RowLemmas.{columns_there, now, shown_by, shown_printable}
use Rattle.reply.proofs.rows.tuple_line.Goals as goal

pub shown_line-requires-clause-there : goal.shown_line-requires-clause-there
shown_line-requires-clause-there g c =
    columns_there c.args.at.now.cat.now c.args.at.now.store.now c.args.at.now.q.now (numbers c.args.tuple.now) c.requires.setting.bound c.requires.setting.store c.requires.tuple (map now c.deref.result.now) c.items.result.now
    (ap (map now) c.deref.ensures.value ∙ c.in_ok-rows.ensures.rows) (c.items.ensures ∙ ap (λ (x : Query). x.select) c.q.view_is)
    (c.selected_columns.ensures c.args.at.now.cat.now c.args.at.now.q.now c.requires.setting.bound)

pub shown_line-requires-clause-printable : goal.shown_line-requires-clause-printable
shown_line-requires-clause-printable g c =
    shown_printable c.args.at.now.cat.now c.args.at.now.store.now c.args.at.now.q.now (numbers c.args.tuple.now) c.requires.setting.bound c.requires.setting.store c.requires.tuple (map now c.deref.result.now) c.items.result.now
    (ap (map now) c.deref.ensures.value ∙ c.in_ok-rows.ensures.rows) (c.items.ensures ∙ ap (λ (x : Query). x.select) c.q.view_is)
    (c.selected_columns.ensures c.args.at.now.cat.now c.args.at.now.q.now c.requires.setting.bound) c.args.types.now c.requires.types
    (c.values_fit_their_types.ensures (world_of c.args.at.now) c.args.at.now.q.now (numbers c.args.tuple.now) c.requires.setting.store.world)

pub returns-clause-line : goal.returns-clause-line
returns-clause-line g c =
    let P : List Value → Type 0 = λ vs. IfOk c.shown_line.result (λ line. line.now ≡ row_line (types_shown c.args.at.now) vs) in
    let Q : List SqlType → Type 0 = λ ts. IfOk c.shown_line.result (λ line. line.now ≡ row_line ts (map (cell_of (map now c.deref.result.now)) c.items.result.now)) in
    subst P
    (shown_by c.args.at.now.cat.now c.args.at.now.store.now c.args.at.now.q.now (numbers c.args.tuple.now) c.requires.setting.bound c.requires.setting.store c.requires.tuple (map now c.deref.result.now) c.items.result.now
    (ap (map now) c.deref.ensures.value ∙ c.in_ok-rows.ensures.rows) (c.items.ensures ∙ ap (λ (x : Query). x.select) c.q.view_is)
    (c.selected_columns.ensures c.args.at.now.cat.now c.args.at.now.q.now c.requires.setting.bound))
    (subst Q c.requires.types c.shown_line.ensures)
