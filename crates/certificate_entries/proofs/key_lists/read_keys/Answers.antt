use Rattle.std.proofs.Common.{◌∙◌, List, [], ◌∷◌, ◌++◌, ap, refl, sym}
use Rattle.std.proofs.lemmas.Bool.{true≢false}
use Rattle.std.specs.Prelude.{Some}
use Rattle.pg_base.specs.Sets.{has as member}
use Rattle.eq_classes.specs.declared.classes.ClassNo.{ClassNo}
use Rattle.certificate_entries.proofs.KeyListLemmas.{keys-broken, keys-done, keys-first, keys-next, keys-none}
use Rattle.certificate_entries.proofs.key_lists.read_keys.Goals as goal

pub returns-in-None-clause-only : goal.returns-in-None-clause-only
returns-in-None-clause-only c = λ keys rest has some ends other e.
    absurd (keys-none c.args.cat.now c.args.q.now (member c.args.set.0) c.args.at.now c.read_key.new.at c.read_key.result c.read_key.ensures.only c.in-None.is keys rest has some ends e)

pub loop-set-init : goal.loop-set-init
loop-set-init c = keys-first c.args.cat.now c.args.q.now (member c.args.set.0) c.args.at.now c.read_key.new.at c.read_key.result c.in-Some.key c.push.new.self.items c.read_key.ensures.only c.in-Some.is c.in-Some.ensures.has (c.in_ok-push-in-Some.ensures.items ∙ ap (λ (l : List ClassNo). l ++ c.in-Some.key ∷ []) c.new-keys.ensures.items)

pub loop-set-preserved : goal.loop-set-preserved
loop-set-preserved c =
    keys-next c.args.cat.now c.args.q.now (member c.args.set.0) c.args.at.now c.loop-set.at c.eat.new.self c.read_key-in-loop-set.new.at c.loop-set.keys.items c.push-in-Some-read_key.new.self.items c.read_key-in-loop-set.result c.in-Some-read_key.key
    c.loop-set.invariant (c.loop-set-test.ensures.is refl) c.read_key-in-loop-set.ensures.only c.in-Some-read_key.is c.in-Some-read_key.ensures.has c.in_ok-push-in-Some-read_key.ensures.items

pub returns-in-None-read_key-clause-only : goal.returns-in-None-read_key-clause-only
returns-in-None-read_key-clause-only c = λ keys rest has some ends other e.
    absurd (keys-broken c.args.cat.now c.args.q.now (member c.args.set.0) c.args.at.now c.loop-set.at c.eat.new.self c.read_key-in-loop-set.new.at c.loop-set.keys.items c.read_key-in-loop-set.result c.loop-set.invariant (c.loop-set-test.ensures.is refl)
    c.read_key-in-loop-set.ensures.only c.in-None-read_key.is keys rest has some ends other e)

pub returns-clause-only : goal.returns-clause-only
returns-clause-only c = λ keys rest has some ends other e.
    let r = keys-done c.args.cat.now c.args.q.now (member c.args.set.0) c.args.at.now c.loop-set.at c.eat.new.self c.loop-set.keys.items c.loop-set.invariant (λ r is. true≢false (sym (c.loop-set-test.ensures.took r is).0)) (c.loop-set-test.ensures.left refl) keys rest has some ends other e in
    (ap (λ l. Some l) r.0, r.1)
