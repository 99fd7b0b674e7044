use Rattle.std.proofs.Common.{◌∙◌, ap, arith, take, sym}
use Rattle.pg_base.specs.Sets.{has}
use Rattle.pathkeys.specs.work.Finding.{class_numbers}
use Rattle.eq_classes.specs.Clauses.{ClassTable}
use Rattle.eq_classes.specs.Parts.{joining_from}
use Rattle.join_search.proofs.ListLemmas.{four-long, joining-all, joining-more, somes-nil}
use Rattle.join_search.proofs.lists.joining.Goals as goal

pub loop-n-init : goal.loop-n-init
loop-n-init c = ap class_numbers c.new-found.ensures.items ∙ sym somes-nil

pub loop-n-preserved : goal.loop-n-preserved
loop-n-preserved c =
    let a = has c.args.a.0 in
    let b = has c.args.b.0 in
    let many = four-long c.joining-four.result (joining_from a b 0 c.classes_of.result.now.classes) c.joining-four.ensures.joining in
    let lt = c.loop-n-test.true in
    joining-more c.joining-four.result c.loop-n.n _ (class_numbers c.loop-n.found.items) (class_numbers c.add_found.new.out.items) (omega (arith, many, lt)) c.loop-n.invariant c.in_ok-add_found.ensures

pub returns : goal.returns
returns c =
    let a = has c.args.a.0 in
    let b = has c.args.b.0 in
    joining-all c.joining-four.result c.loop-n.n (joining_from a b 0 c.classes_of.result.now.classes) (class_numbers c.loop-n.found.items) c.loop-n.invariant c.joining-four.ensures.joining c.loop-n-test.false
    ∙ ap (λ (t : ClassTable). take 4 (joining_from a b 0 t.classes)) c.classes_of.ensures
