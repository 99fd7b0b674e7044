use Rattle.std.proofs.Common.{ap}
use Rattle.std.specs.Prelude.{option_map}
use Rattle.plan_lines.proofs.TreeLemmas.{no-tree}
use Rattle.plan_reader.proofs.BitsLemmas.{bits-read}
use Rattle.plan_reader.proofs.scans.read_bits.Goals as goal

pub returns-in-Some-clause-only : goal.returns-in-Some-clause-only
returns-in-Some-clause-only c =
    bits-read c.args.cat.now c.args.q.now c.lawful.ensures c.args.depth c.args.at.now c.next_at.new.self c.read_tree.new.at c.in-Some.line.now (option_map (λ l. l.now) c.next_at.result) c.read_tree.result c.next_at.ensures.only
    (ap (option_map (λ l. l.now)) c.in-Some.is) c.read_tree.ensures.only

pub returns-in-None-clause-only : goal.returns-in-None-clause-only
returns-in-None-clause-only c = λ b rest has stands shallow e.
    absurd (no-tree c.args.cat.now c.args.q.now c.lawful.ensures c.args.depth c.args.at.now c.next_at.new.self (option_map (λ l. l.now) c.next_at.result) c.next_at.ensures.only (ap (option_map (λ l. l.now)) c.in-None.is) b rest (has, stands) e)
