use Rattle.std.proofs.Common.{◌∙◌, [], length, ap, refl, sym}
use Rattle.std.proofs.lemmas.List.{append-nil}
use Rattle.std.specs.Prelude.{Some}
use Rattle.pg_base.specs.Sets.{has}
use Rattle.pathkeys.specs.Keys.{Keys}
use Rattle.certificate_entries.specs.explain_Texts.{keys_text}
use Rattle.plan_lines.proofs.KeyLemmas.{is-none, is-some, no-keys, some-keys}
use Rattle.pg_base.proofs.OptionLemmas.{none-some-too as none-some}
use Rattle.plan_lines.proofs.keys.read_node_keys.Goals as goal

pub returns-then-is_empty-clause-only : goal.returns-then-is_empty-clause-only
returns-then-is_empty-clause-only c = λ keys h e.
    ap (λ (k : Keys). Some k) (c.in_ok-keys.ensures.list ∙ sym (no-keys c.args.cat.now c.args.q.now (has c.args.set.0) keys c.args.text.now h e (is-none (length c.args.text.now) c.is_empty.result c.is_empty.ensures c.if-is_empty.true)))

pub returns-in-Some-clause-only : goal.returns-in-Some-clause-only
returns-in-Some-clause-only c = λ keys h e.
    let r = c.in_ok-keys-2.ensures.only keys [] h (some-keys c.args.cat.now c.args.q.now (has c.args.set.0) keys c.args.text.now e (is-some (length c.args.text.now) c.is_empty.result c.is_empty.ensures c.if-is_empty.false)) refl refl (c.new-at.ensures ∙ (e ∙ sym (append-nil (keys_text c.args.cat.now c.args.q.now (has c.args.set.0) keys)))) in
    sym c.in-Some.is ∙ r.0

pub returns-in-None-clause-only : goal.returns-in-None-clause-only
returns-in-None-clause-only c = λ keys h e.
    let r = c.in_ok-keys-2.ensures.only keys [] h (some-keys c.args.cat.now c.args.q.now (has c.args.set.0) keys c.args.text.now e (is-some (length c.args.text.now) c.is_empty.result c.is_empty.ensures c.if-is_empty.false)) refl refl (c.new-at.ensures ∙ (e ∙ sym (append-nil (keys_text c.args.cat.now c.args.q.now (has c.args.set.0) keys)))) in
    absurd (none-some {A = Keys} c.in_ok-keys-2.field-0 keys c.in-None.is r.0)
