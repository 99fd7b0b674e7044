use Rattle.std.proofs.Common.{◌++◌, refl}
use Rattle.std.specs.Prelude.{None}
use Rattle.pg_base.proofs.OptionLemmas.{none-some-too as none-some}
use Rattle.certificate_entries.specs.work.Kinds.{behind_text, kind_of}
use Rattle.certificate_entries.proofs.NodeLemmas.{behind-words, node-behind}
use Rattle.certificate_entries.proofs.nodes.read_node.Goals as goal

pub returns-in-Some-clause-only : goal.returns-in-Some-clause-only
returns-in-Some-clause-only c = node-behind c.args.cat.now c.args.q.now c.args.set c.args.at.now c.read_kind.new.at c.read_behind.new.at c.read_behind.result c.in-Some.kind c.in-Some.ensures.only c.read_behind.ensures.only

pub returns-in-None-clause-only : goal.returns-in-None-clause-only
returns-in-None-clause-only c = λ x rest has ends other e.
    let w = c.in-None.ensures.only (kind_of x) (behind_text c.args.cat.now c.args.q.now c.args.set x ++ rest) (behind-words c.args.cat.now c.args.q.now c.args.set x c.args.at.now rest e) in
    absurd (none-some None (kind_of x) refl w.0)
