use Rattle.std.proofs.Common.{◌≡◌, ◌++◌, ◌∷◌, [], List, ◌∙◌, ap, map, subst, sym, OnOk}
use Rattle.group_values.specs.Groups.{Seen}
use Rattle.group_values.specs.declared.form.Form.TheVariants.{Sorted}
use Rattle.group_values.specs.work.Grouping.{AreOf}
use Rattle.group_values.specs.work.Steps.{IsLastAlone}
use Rattle.executor.specs.work.Numbers.{numbers}
use Rattle.group_explain.specs.reply_RowLemmas.{now}
use Rattle.group_explain.specs.reply_Settings.{world_of}
use Rattle.group_runs.specs.Seen.{seen_of}
use Rattle.group_reply.specs.work.Columns.{arg_in}
use Rattle.group_reply.proofs.SeenLemmas.{calls-there, keys-there, seen-is}
use Rattle.group_reply.proofs.drawing.push_tuple.Goals as goal

pub keys_in-requires : goal.keys_in-requires
keys_in-requires g c =
    keys-there c.args.at.now.cat.now c.args.at.now.store.now c.args.at.now.q.now (numbers c.args.tuple.now) c.requires.setting.bound c.requires.setting.store c.requires.tuple (map now c.deref.result.now)
    (ap (map now) c.deref.ensures.value ∙ c.in_ok-rows.ensures.rows) _ _ c.requires.seen

pub args_in-requires : goal.args_in-requires
args_in-requires g c =
    calls-there c.args.at.now.cat.now c.args.at.now.store.now c.args.at.now.q.now (numbers c.args.tuple.now) c.requires.setting.bound c.requires.setting.store c.requires.tuple (map now c.deref-2.result.now)
    (ap (map now) c.deref-2.ensures.value ∙ c.in_ok-rows.ensures.rows) _ _ c.requires.seen

pub push-requires-clause-together : goal.push-requires-clause-together
push-requires-clause-together g c =
    let same : seen_of (world_of c.args.at.now) c.args.at.now.q.now c.args.columns.now.keys.now c.args.columns.now.args.now (numbers c.args.tuple.now) ≡ record { keys = c.in_ok-keys.keys; args = c.in_ok-args.args } =
    seen-is c.args.at.now.cat.now c.args.at.now.store.now c.args.at.now.q.now (numbers c.args.tuple.now) c.requires.setting.bound c.requires.setting.store c.requires.tuple (map now c.deref.result.now)
    (ap (map now) c.deref.ensures.value ∙ c.in_ok-rows.ensures.rows) c.args.columns.now.keys.now c.args.columns.now.args.now c.requires.seen c.in_ok-keys.keys c.in_ok-args.args c.in_ok-keys.ensures
    (c.in_ok-args.ensures ∙ ap (λ l. map (arg_in (map now l)) c.args.columns.now.args.now) (c.deref-2.ensures.value ∙ sym c.deref.ensures.value)) in
    let P : Seen → Type 0 = λ s. c.args.groups.now.form ≡ Sorted → IsLastAlone c.args.groups.now.groups s.keys in
    subst P same c.requires.together

pub returns-clause-pushed : goal.returns-clause-pushed
returns-clause-pushed g c =
    let same : seen_of (world_of c.args.at.now) c.args.at.now.q.now c.args.columns.now.keys.now c.args.columns.now.args.now (numbers c.args.tuple.now) ≡ record { keys = c.in_ok-keys.keys; args = c.in_ok-args.args } =
    seen-is c.args.at.now.cat.now c.args.at.now.store.now c.args.at.now.q.now (numbers c.args.tuple.now) c.requires.setting.bound c.requires.setting.store c.requires.tuple (map now c.deref.result.now)
    (ap (map now) c.deref.ensures.value ∙ c.in_ok-rows.ensures.rows) c.args.columns.now.keys.now c.args.columns.now.args.now c.requires.seen c.in_ok-keys.keys c.in_ok-args.args c.in_ok-keys.ensures
    (c.in_ok-args.ensures ∙ ap (λ l. map (arg_in (map now l)) c.args.columns.now.args.now) (c.deref-2.ensures.value ∙ sym c.deref.ensures.value)) in
    let P : Seen → Type 0 = λ s. OnOk c.push.result ((ss : List Seen) → AreOf ss c.args.groups.now → AreOf (ss ++ s ∷ []) c.push.new.self) in
    subst P (sym same) c.push.ensures.pushed
