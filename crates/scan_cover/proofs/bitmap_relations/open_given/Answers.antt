use Rattle.std.proofs.Common.{◌≤◌, ◌∙◌, List, length, subst, sym}
use Rattle.bitmap_scan.proofs.ElementLemmas.{elements-made}
use Rattle.scan_cover.specs.work.Trees.{AreFirst, AreKept}
use Rattle.scan_cover.specs.declared.kept.Kept.{Kept}
use Rattle.scan_cover.proofs.KeptLemmas.{are-first, kept-few}
use Rattle.scan_cover.proofs.bitmap_relations.open_given.Goals as goal

pub keep_all-kept-requires-clause-made : goal.keep_all-kept-requires-clause-made
keep_all-kept-requires-clause-made c =
    let found = c.first_elements-elements.ensures.elements in
    elements-made c.args.j.now.cat.now c.args.j.now.q.now c.args.at.rel c.args.at.param found.0 c.items.result.now found.1 (c.items.ensures.list ∙ found.2)

pub open_marks-requires-clause-few : goal.open_marks-requires-clause-few
open_marks-requires-clause-few c =
    subst (λ (ks : List Kept). length ks ≤ 8) (sym c.as_slice.ensures.value) (kept-few c.keep_all-kept.result.items c.items.result.now c.keep_all-kept.ensures.elements c.items.ensures.few)

pub open_marks-requires-clause-first : goal.open_marks-requires-clause-first
open_marks-requires-clause-first c =
    let found = c.first_elements-elements.ensures.elements in
    subst (AreFirst c.args.j.now.cat.now c.args.j.now.q.now c.args.at.rel c.args.at.param) (sym c.as_slice.ensures.value)
    (are-first c.args.j.now.cat.now c.args.j.now.q.now c.args.at.rel c.args.at.param c.items.result.now c.keep_all-kept.result.items found.0 found.1 c.keep_all-kept.ensures.elements (c.items.ensures.list ∙ found.2))

pub open_marks-requires-clause-kept : goal.open_marks-requires-clause-kept
open_marks-requires-clause-kept c = subst (AreKept c.args.j.now.cat.now c.args.j.now.q.now c.args.at.rel c.args.at.param) (sym c.as_slice.ensures.value) c.keep_all-kept.ensures.kept
