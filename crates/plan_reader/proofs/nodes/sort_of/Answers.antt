use Rattle.std.proofs.Common.{ap₂}
use Rattle.std.specs.Prelude.{Some}
use Rattle.pathkeys.specs.Keys.{Keys}
use Rattle.pg_base.specs.Sets.{has}
use Rattle.plan_tree.specs.Plans.{set_of, sort}
use Rattle.plan_tree.specs.work.Views.{plan}
use Rattle.plan_tree.specs.declared.plan.Plan.{Plan as Planned}
use Rattle.plan_lines.proofs.KeyLemmas.{reads-few}
use Rattle.plan_reader.proofs.NodeLemmas.{keys-read, keys-same, no-keys}
use Rattle.plan_reader.proofs.nodes.sort_of.Goals as goal

pub set_of-set-requires : goal.set_of-set-requires
set_of-set-requires c = record { below = reads-few c.args.cat.now c.args.q.now (plan c.args.input) c.requires.bound c.requires.input }

pub returns-in_ok-input-in-Some-clause-only : goal.returns-in_ok-input-in-Some-clause-only
returns-in_ok-input-in-Some-clause-only c = λ keys h e.
    let r = keys-read c.args.cat.now c.args.q.now (has c.set_of-set.result.0) (set_of (plan c.args.input)) c.args.behind.now c.in_ok-keys.field-0 c.set_of-set.ensures.members c.in_ok-keys.ensures.only keys h e in
    ap₂ (λ (k : Keys) (p : Planned). Some (sort k (plan p))) (keys-same c.in_ok-keys.field-0 c.in-Some.keys keys c.in-Some.is r) c.in_ok-input-in-Some.ensures.ok

pub returns-in-None-clause-only : goal.returns-in-None-clause-only
returns-in-None-clause-only c = λ keys h e.
    let r = keys-read c.args.cat.now c.args.q.now (has c.set_of-set.result.0) (set_of (plan c.args.input)) c.args.behind.now c.in_ok-keys.field-0 c.set_of-set.ensures.members c.in_ok-keys.ensures.only keys h e in
    absurd (no-keys c.in_ok-keys.field-0 keys c.in-None.is r)
