use Rattle.std.proofs.Common.{◌∙◌, ◌+◌, List, ap, length, map, subst, sym, take_all}
use Rattle.plan_tree.specs.work.Views.{element}
use Rattle.plan_tree.specs.declared.elements.Element.{Element as Chosen}
use Rattle.scan_cover.specs.work.Trees.{AreKept, element_in}
use Rattle.scan_cover.proofs.KeptLemmas.{elements-push, kept-push, none-kept}
use Rattle.scan_cover.proofs.elements.keep_all.Goals as goal

pub loop-n-init : goal.loop-n-init
loop-n-init c =
    let none = c.new-kept.ensures in
    record {
      long = ap length none;
      elements = ap (map element_in) none;
      kept = subst (AreKept c.args.cat.now c.args.q.now c.args.r c.args.p) (sym none) (none-kept c.args.cat.now c.args.q.now c.args.r c.args.p);
    }

pub keep-requires-clause-made : goal.keep-requires-clause-made
keep-requires-clause-made c = c.requires.made c.loop-n.n _ c.loop-n-test.true

pub loop-n-preserved : goal.loop-n-preserved
loop-n-preserved c =
    let h = c.loop-n.invariant in
    let kept = c.loop-n.kept.items in
    let one = c.keep.ensures.kept in
    record {
      long = c.push.ensures.len ∙ ap (λ n. n + 1) h.long;
      elements = ap (map element_in) c.push.ensures.items ∙ elements-push c.args.found.now kept c.loop-n.n _ c.keep.result c.loop-n-test.true h.elements c.keep.ensures.element;
      kept = subst (AreKept c.args.cat.now c.args.q.now c.args.r c.args.p) (sym c.push.ensures.items) (kept-push c.args.cat.now c.args.q.now c.args.r c.args.p kept c.keep.result one.0 h.kept one.1);
    }

pub returns-clause-elements : goal.returns-clause-elements
returns-clause-elements c = c.loop-n.invariant.elements ∙ ap (λ (xs : List Chosen). map element xs) (take_all c.loop-n.n c.args.found.now c.loop-n-test.false)
