use Rattle.std.proofs.Common.{ap}
use Rattle.std.proofs.lemmas.Slice.Eq.{slice_eq-Decides}
use Rattle.pathkeys.specs.work.Finding.{class_numbers}
use Rattle.plan_check.proofs.SameLemmas.{class-decides, same-classes}
use Rattle.entry_check.proofs.joins.are_equal.Goals as goal

pub returns : goal.returns
returns c =
    let a = c.args.a.now in
    let b = c.args.b.now in
    let d = slice_eq-Decides class-decides a b c.eq.result c.eq.ensures in
    (λ e. ap class_numbers (d.0 e), λ e. d.1 (same-classes a b e))
