use Rattle.std.proofs.Common.{◌∙◌, ◌++◌, refl, sym}
use Rattle.certificate_text.specs.plan_check_Views.{side}
use Rattle.certificate_text.specs.Texts.{sides_text}
use Rattle.pg_base.proofs.OptionLemmas.{none-some-too as none-some}
use Rattle.pg_base.proofs.OptionLemmas.{some-same}
use Rattle.certificate_entries.proofs.NodeLemmas.{ends-sides, merge-as, no-sides}
use Rattle.certificate_entries.proofs.nodes.merge_node.Goals as goal

pub returns-in-None-clause-only : goal.returns-in-None-clause-only
returns-in-None-clause-only c = λ keys a b rest has stop e.
    let r = c.in_ok-keys.ensures.only keys (sides_text a b ++ rest) has.0 has.1 (ends-sides a b rest has.2) refl e in
    absurd (none-some c.in_ok-keys.field-0 keys c.in-None.is r.0)

pub returns-in-Some-read_sides-clause-only : goal.returns-in-Some-read_sides-clause-only
returns-in-Some-read_sides-clause-only c = λ keys a b rest has stop e.
    let r = c.in_ok-keys.ensures.only keys (sides_text a b ++ rest) has.0 has.1 (ends-sides a b rest has.2) refl e in
    let s = c.in-Some-read_sides.ensures.only a b rest has.2 has.3 stop r.1 in
    (merge-as c.in-Some.keys keys (side c.in-Some-read_sides.outer) (side c.in-Some-read_sides.inner) a b (some-same c.in-Some.keys keys (sym c.in-Some.is ∙ r.0)) s.0, s.1)

pub returns-in-None-read_sides-clause-only : goal.returns-in-None-read_sides-clause-only
returns-in-None-read_sides-clause-only c = λ keys a b rest has stop e.
    let r = c.in_ok-keys.ensures.only keys (sides_text a b ++ rest) has.0 has.1 (ends-sides a b rest has.2) refl e in
    absurd (no-sides a b (c.in-None-read_sides.ensures.only a b rest has.2 has.3 stop r.1).0)
