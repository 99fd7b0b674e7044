use Rattle.std.proofs.Common.{rules, ◌≡◌, ◌^◌, ℕ, List, ◌∙◌, ap, sym, map, take, length, subst, arith}
use Rattle.std.specs.List.{AllZip, items_where_true}
use Rattle.std.proofs.lemmas.List.{length-map}
use Rattle.plan_tree.specs.Bitmaps.{Element, MOST_ELEMENTS}
use Rattle.plan_tree.specs.Plans.{BitTree}
use Rattle.plan_tree.specs.work.Views.{element, path}
use Rattle.std.specs.Prelude.{All}
use Rattle.bitmap_scan.specs.work.Chosen.{IsLeastTree, marked}
use Rattle.bitmap_scan.specs.declared.element_tree.ElementTree.{ElementTree}
use Rattle.bitmap_scan.specs.work.ElementTrees.{IsKept, tree_in}
use Rattle.bitmap_scan.proofs.MarkedLemmas.{marked-zip}
use Rattle.pg_base.proofs.ListLemmas.{zip-length}
use Rattle.bitmap_scan.proofs.OfferLemmas.{one-offered}
use Rattle.bitmap_scan.proofs.ScanLemmas.{all-covered}
use Rattle.bitmap_scan.proofs.ElementLemmas.{elements-made}
use Rattle.bitmap_scan.proofs.offers.bitmaps.Goals as goal

pub keep_all-requires-clause-made : goal.keep_all-requires-clause-made
keep_all-requires-clause-made c =
    let found = c.elements_among-elements.ensures.elements in
    elements-made c.args.cat.now c.args.q.now c.args.r c.args.p found.0 c.items.result.now found.1 (c.items.ensures.list ∙ found.2)

pub sets_of-mask-end-requires : goal.sets_of-mask-end-requires
sets_of-mask-end-requires c =
    let R = IsLeastTree c.args.cat.now c.args.q.now c.args.r c.args.p in
    let many = zip-length R (map element c.items.result.now) (map tree_in c.in_ok-kept.kept.items) c.in_ok-kept.ensures.least in
    let left = length-map c.items.result.now element in
    let right = length-map c.in_ok-kept.kept.items tree_in in
    let all : c.len.result ≡ length c.in_ok-kept.kept.items = search rules in
    let few = c.items.ensures.few in
    record { few = omega (arith, many, left, right, all, few) }

pub offer_marked-requires-clause-chosen : goal.offer_marked-requires-clause-chosen
offer_marked-requires-clause-chosen c =
    let found = c.elements_among-elements.ensures.elements in
    let R = IsLeastTree c.args.cat.now c.args.q.now c.args.r c.args.p in
    let kept = c.in_ok-kept.kept.items in
    let first = take MOST_ELEMENTS found.0 in
    let zip = subst (λ (es : List Element). AllZip R es (map tree_in kept)) (c.items.ensures.list ∙ found.2) c.in_ok-kept.ensures.least in
    let marks = marked-zip R c.loop-mask.mask first (map tree_in kept) zip in
    let same = ap (λ (ks : List ElementTree). marked c.loop-mask.mask (map tree_in ks)) (sym c.deref.ensures.value) in
    record {
      elements = found.0;
      are = found.1;
      mask = marks.0;
      least = subst (λ (ts : List BitTree). AllZip R (items_where_true marks.0 first) ts) same marks.1;
    }

pub offer_marked-requires-clause-kept : goal.offer_marked-requires-clause-kept
offer_marked-requires-clause-kept c = subst (λ (ks : List ElementTree). All (IsKept c.args.cat.now c.args.q.now c.args.r c.args.p) ks) (sym c.deref.ensures.value) c.in_ok-kept.ensures.kept

pub loop-mask-preserved : goal.loop-mask-preserved
loop-mask-preserved c =
    let kept = c.in_ok-kept.kept.items in
    let done = c.in_ok-offer_marked.ensures in
    let same = ap (λ (ks : List ElementTree). marked c.loop-mask.mask (map tree_in ks)) c.deref.ensures.value in
    one-offered c.args.cat.now c.args.q.now c.args.r c.args.p (map tree_in kept) (map path c.args.front.now) (map path c.loop-mask.front) (map path c.offer_marked.new.front) c.loop-mask.mask
    (marked c.loop-mask.mask (map tree_in c.deref.result.now)) c.loop-mask.invariant same done.paths done.kept done.still done.dominated

pub returns-clause-dominated : goal.returns-clause-dominated
returns-clause-dominated c =
    let found = c.elements_among-elements.ensures.elements in
    let R = IsLeastTree c.args.cat.now c.args.q.now c.args.r c.args.p in
    let kept = c.in_ok-kept.kept.items in
    let zip = subst (λ (es : List Element). AllZip R es (map tree_in kept)) (c.items.ensures.list ∙ found.2) c.in_ok-kept.ensures.least in
    let all : c.len.result ≡ length kept = search rules in
    let end : c.sets_of-mask-end.result ≡ 2 ^ length (map tree_in kept) = c.sets_of-mask-end.ensures ∙ ap (λ (n : ℕ). 2 ^ n) (all ∙ sym (length-map kept tree_in)) in
    let past = c.loop-mask-test.false in
    all-covered c.args.cat.now c.args.q.now c.args.r c.args.p found.0 (map tree_in kept) (map path c.loop-mask.front) found.1 zip
    (λ n lt. c.loop-mask.invariant.each n (omega (arith, lt, end, past)))
