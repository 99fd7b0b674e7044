use Rattle.std.proofs.Common.{◌%◌, ◌&&◌, ◌||◌, ◌∙◌, ◌++◌, ◌∷◌, [], Bool, List, ap, cond, get_or, nat_eq, refl, sym}
use Rattle.std.specs.List.{list_any}
use Rattle.pg_expr.specs.work.AtomSets.{contains}
use Rattle.scan_cover.specs.declared.kept.Kept.{Kept}
use Rattle.scan_cover.proofs.MarkLemmas.{any-more, split-all, split-next, split-none}
use Rattle.scan_cover.proofs.marks.is_used.Goals as goal

pub loop-k-init : goal.loop-k-init
loop-k-init c = ([], split-none c.args.mask c.args.kept.now, refl)

pub loop-k-preserved : goal.loop-k-preserved
loop-k-preserved c =
    let h = c.loop-k.invariant in
    let left = c.loop-k.left in
    let is = nat_eq (left % 2) 1 in
    let x = get_or c.args.kept.now c.loop-k.k c.index-kept-k.result in
    let uses = λ (k : Kept). contains k.used c.args.n in
    (h.0 ++ cond is (x ∷ []) [], split-next c.args.mask c.args.kept.now left c.loop-k.k h.0 c.index-kept-k.result c.loop-k-test.true h.1, c.or_uses-found.ensures ∙ ap (λ (b : Bool). b || (is && uses c.index-kept-k.result)) h.2 ∙ ap (λ (k : Kept). list_any uses h.0 || (is && uses k)) c.index-kept-k.is ∙ sym (any-more uses is x h.0))

pub returns : goal.returns
returns c =
    let h = c.loop-k.invariant in
    h.2 ∙ ap (λ (ks : List Kept). list_any (λ (k : Kept). contains k.used c.args.n) ks) (split-all c.args.mask c.args.kept.now c.loop-k.left c.loop-k.k h.0 c.loop-k-test.false h.1)
