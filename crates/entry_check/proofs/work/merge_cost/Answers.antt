use Rattle.std.proofs.Common.{◌∙◌, length, sym}
use Rattle.std.proofs.lemmas.List.{length-map}
use Rattle.pg_base.specs.Sets.{has}
use Rattle.eq_classes.specs.declared.classes.ClassNo.{ClassNo}
use Rattle.path_cost.specs.Estimates.{pairs}
use Rattle.pathkeys.specs.work.Finding.{class_numbers}
use Rattle.entry_check.proofs.CostLemmas.{merge-rule}
use Rattle.entry_check.proofs.work.merge_cost.Goals as goal

pub returns-clause-rule : goal.returns-clause-rule
returns-clause-rule c = λ o i h k.
    let keys = class_numbers c.args.keys.now in
    let same = c.classes_of.ensures in
    let range = c.range_of.ensures in
    merge-rule c.args.cat.now c.args.q.now c.args.outer c.args.inner keys o i (length c.args.keys.now) c.pairs-equal.result c.merge_operators-ops.result c.merge.result h k
    (sym (length-map c.args.keys.now (λ (x : ClassNo). x.0)))
    (c.pairs-equal.ensures.rows ∙ (λ z. pairs c.args.cat.now (range z) (same z) (has c.args.outer.set.0) (has c.args.inner.set.0) keys))
    c.pairs-equal.ensures.estimate c.merge_operators-ops.ensures.operators c.merge.ensures.rule
