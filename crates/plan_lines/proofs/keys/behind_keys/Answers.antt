use Rattle.std.proofs.Common.{ap}
use Rattle.std.specs.Prelude.{option_map}
use Rattle.pg_base.specs.Sets.{has}
use Rattle.certificate_entries.specs.explain_KeyLemmas.{key-class}
use Rattle.plan_lines.proofs.KeyLemmas.{key-is, key-only, no-key}
use Rattle.plan_lines.proofs.keys.behind_keys.Goals as goal

pub behind_next-requires-clause-class : goal.behind_next-requires-clause-class
behind_next-requires-clause-class c = key-class c.args.keys.now c.loop-n.n _ _ c.loop-n-test.true c.requires.classes

pub returns-in_err-left-clause-only : goal.returns-in_err-left-clause-only
returns-in_err-left-clause-only c = λ rest e.
    absurd (no-key c.args.cat.now c.args.q.now (has c.args.set.0) c.args.keys.now c.loop-n.n (record { 0 = 0 }) c.loop-n-test.true c.args.text.now c.loop-n.left.now (option_map (λ l. l.now) c.behind_next.result) c.loop-n.invariant.only c.behind_next.ensures.only
    (ap (option_map (λ l. l.now)) c.in_err-left.was) rest e)

pub loop-n-preserved : goal.loop-n-preserved
loop-n-preserved c = record {
  is = key-is c.args.cat.now c.args.q.now (has c.args.set.0) c.args.keys.now c.loop-n.n (record { 0 = 0 }) c.loop-n-test.true c.args.text.now c.loop-n.left.now c.in_ok-left.left.now c.loop-n.invariant.is c.in_ok-left.ensures.is;
  only = key-only c.args.cat.now c.args.q.now (has c.args.set.0) c.args.keys.now c.loop-n.n (record { 0 = 0 }) c.loop-n-test.true c.args.text.now c.loop-n.left.now c.in_ok-left.left.now c.loop-n.invariant.only c.in_ok-left.ensures.is;
}
