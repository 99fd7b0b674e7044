use Rattle.std.proofs.lemmas.Result.{on_ok_weaker}
use Rattle.pathkeys.specs.work.Finding.{class_numbers}
use Rattle.certificate_text.proofs.NodeLemmas.{merge-text}
use Rattle.certificate_text.proofs.nodes.put_node.Goals as goal

pub returns-in_ok-put_keys-in-Merge : goal.returns-in_ok-put_keys-in-Merge
returns-in_ok-put_keys-in-Merge c =
    on_ok_weaker c.put_sides.result
    (λ more. merge-text c.args.cat.now c.args.q.now c.args.set c.args.node.now c.in-Merge.keys (class_numbers c.items.result.now) c.in-Merge.outer c.in-Merge.inner
    c.args.text.now.items c.extend_from_slice-in-Merge.new.self.items c.put_keys.new.text.items c.put_sides.new.text.items c.in-Merge.is c.items.ensures.list
    c.in_ok-extend_from_slice-in-Merge.ensures.items c.in_ok-put_keys-in-Merge.ensures more)
    c.put_sides.ensures
