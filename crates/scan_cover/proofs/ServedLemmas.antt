-- Scans by a bitmap that an entry dominates, and those that none does.
use Rattle.std.proofs.Common.{◌≡◌, ◌<◌, ◌≤◌, ◌-◌, ◌^◌, ℕ, Bool, nat_eq, List, [], ◌∷◌, ◌++◌, length, map, take, refl, sym, ap, subst, ◌∙◌, arith}
use Rattle.std.specs.Prelude.{Some, replicate}
use Rattle.std.specs.List.{AllZip, items_where_true}
use Rattle.std.proofs.Math.Nat.{lt_of_le_of_lt}
use Rattle.std.proofs.lemmas.List.{length-map}
use Rattle.pg_base.specs.Sets.{has}
use Rattle.pg_base.specs.declared.limits.TheConstants.{MOST_ATOMS}
use Rattle.pg_base.specs.declared.numbers.IndexNo.{IndexNo}
use Rattle.pg_base.specs.declared.numbers.RelNo.{RelNo}
use Rattle.pg_base.specs.declared.rel_set.RelSet.{RelSet}
use Rattle.catalog.specs.Contents.{Contents}
use Rattle.eq_classes.specs.Clauses.{one}
use Rattle.path_cost.specs.Estimates.{conditions_from}
use Rattle.sql_query.specs.Queries.{Query, all_of_query, width}
use Rattle.plan_tree.specs.Bitmaps.{Element, IsElement, IsTreeOver, MOST_ELEMENTS, candidates, uses}
use Rattle.plan_tree.specs.Least.{IsAdmissible}
use Rattle.plan_tree.specs.Plans.{BitTree, bitmap}
use Rattle.plan_tree.specs.work.Reads.{IsOverTables}
use Rattle.plan_tree.specs.Space.{IsBitmapScan, IsPlanOf, IsSameSet, conditions_used, others_named}
use Rattle.plan_tree.proofs.DominationLemmas.{dominates-trans}
use Rattle.bitmap_scan.specs.work.Chosen.{AreChosen, IsLeastTree, combined, marked}
use Rattle.bitmap_scan.proofs.LeastLemmas.{IsUnder, chosen-under}
use Rattle.bitmap_scan.proofs.MarkedLemmas.{marked-all, where-zip}
use Rattle.pg_base.proofs.ListLemmas.{zip-length}
use Rattle.bitmap_scan.proofs.PickedLemmas.{picked-once}
use Rattle.bitmap_scan.proofs.ScanLemmas.{chosen-scan, under-dominates}
use Rattle.plan_check.specs.Certificates.{Certificate}
use Rattle.plan_check.specs.Tables.{IsDominated}
use Rattle.plan_check.specs.Plains.{IsTreeOf, StandsForPlan, mask_of}
use Rattle.plan_check.specs.declared.verdict.Plain.TheVariants as plain
use Rattle.join_cover.specs.entry_check_Owning.{AreNumbersOf}
use Rattle.join_cover.specs.entry_check_numbers_Own.{Own}
use Rattle.join_cover.specs.work.Serving.{IsServed}
use Rattle.scan_cover.specs.work.Scanning.{IsScanWith}
use Rattle.scan_cover.proofs.GivenLemmas.{bitmap-most}
use Rattle.scan_cover.specs.work.Trees.{AreAllBitmapsServed, AreBitmapsServed, AreFirst, AreKept, AreRelationBitmapsServed, IsKept, IsMarkServed, element_in}
use Rattle.scan_cover.specs.work.Limits.{arms_of_all}
use Rattle.scan_cover.specs.declared.kept.Kept.{Kept}
use Rattle.scan_cover.proofs.MarkLemmas.{mask-marks, zip-marked}
use Rattle.bitmap_scan.proofs.KeptLemmas.{marked-map as map-marked}
use Rattle.scan_cover.proofs.TreeLemmas.{combined-arms, combined-elements, zip-least}

module _ (c : Contents) (q : Query) (r : RelNo) (p : RelSet) where
  -- the elements that a number marks, in trees of least part
  pub marked-elements : (ks : List Kept) (n : ℕ) (first : AreFirst c q r p ks) → map element_in (marked n ks) ≡ marked n (take MOST_ELEMENTS first.elements)
  marked-elements ks n first = map-marked element_in n ks ∙ ap (marked n) first.first

  first-long : (ks : List Kept) (first : AreFirst c q r p ks) → length ks ≤ 8 → length (take MOST_ELEMENTS first.elements) ≤ 8
  first-long ks first le = let a = length-map ks element_in in let b = ap length first.first in omega (arith, le, a, b)

  digits : (ks : List Kept) (n : ℕ) (first : AreFirst c q r p ks) → length ks ≤ 8 → map element_in (marked n ks) ≡ items_where_true (mask_of n) (take MOST_ELEMENTS first.elements)
  digits ks n first le = marked-elements ks n first ∙ sym (mask-marks n (take MOST_ELEMENTS first.elements) (first-long ks first le))

  pub are-chosen : (ks : List Kept) (n : ℕ) (bs : List BitTree) → AreFirst c q r p ks → length ks ≤ 8 → AllZip (IsKept c q r p) (marked n ks) bs → AreChosen c q r p bs
  are-chosen ks n bs first le z = record {
    elements = first.elements;
    are = first.are;
    mask = mask_of n;
    least = subst (λ (es : List Element). AllZip (IsLeastTree c q r p) es bs) (digits ks n first le) (zip-least c q r p (marked n ks) bs z);
  }

  -- over no element there is no scan
  pub none-marked : (t : Certificate) (ks : List Kept) (n : ℕ) → length (marked n ks) ≡ 0 → IsMarkServed c q r p t ks n
  none-marked t ks n none bs z built = by bs (zip-length (IsKept c q r p) (marked n ks) bs z) built
    where
      by : (ds : List BitTree) → length (marked n ks) ≡ length ds → IsBitmapScan c q r p (combined ds) → IsAdmissible c q (bitmap r p (combined ds)) → IsDominated c q t (bitmap r p (combined ds))
      by [] same h admissible = let two : 2 ≤ 0 = h.tree.over.2 in absurd (omega (arith, two))
      by (d ∷ ds) same h admissible = absurd (omega (arith, same, none))

  -- a scan with its numbers
  pub bitmap-with : (set : RelSet) (own : Own) (bs : List BitTree) → ((k : ℕ) → has set.0 k ≡ nat_eq k r.0) → IsPlanOf c q (one r.0) (has p.0) (bitmap r p (combined bs)) → AreNumbersOf c q (bitmap r p (combined bs)) own → IsScanWith c q set p [] own (bitmap r p (combined bs))
  bitmap-with set own bs alone plan n = record {
    scan = refl;
    has = record {
      plan = record { built = plan.built; plain = refl; set_is = λ k. sym (alone k); param_is = plan.param_is };
      admissible = n.admissible;
      keys = refl;
    };
    numbers = n;
  }

  same-uses : (a b : BitTree) → IsUnder c q r p a b → uses c q r.0 (has p.0) a ≡ uses c q r.0 (has p.0) b
  same-uses a b h = λ i n. h.used n i

  under-scan : (a b : BitTree) → IsUnder c q r p a b → IsSameSet (has p.0) (others_named r.0 (conditions_used c q r p b)) → IsSameSet (has p.0) (others_named r.0 (conditions_used c q r p a))
  under-scan a b h named k = named k ∙ ap (λ (f : ℕ → Bool). others_named r.0 (conditions_from 0 f q.classes.clauses) k) (sym (same-uses a b h))

  -- what dominates the scan over trees of least part dominates that over any trees of these elements
  served-under : (t : Certificate) (a b : BitTree) → IsUnder c q r p a b → IsAdmissible c q (bitmap r p b) → (IsAdmissible c q (bitmap r p a) → IsDominated c q t (bitmap r p a)) → IsDominated c q t (bitmap r p b)
  served-under t a b under less served =
      let above = under-dominates c q r p a b under less in
      let d = served (lt_of_le_of_lt above.total less) in
      record { by' = d.by'; is_kept = d.is_kept; dominates = dominates-trans c q d.by' (bitmap r p a) (bitmap r p b) d.dominates above }

  pub bitmaps-served : (t : Certificate) (ks : List Kept) (n : ℕ) → AreFirst c q r p ks → AreKept c q r p ks → length ks ≤ 8 → 2 ^ length ks ≤ n → ((m : ℕ) → m < n → IsMarkServed c q r p t ks m) → AreBitmapsServed c q r p t
  bitmaps-served t ks n first kept le end each bits h less =
      let es = first.elements in
      let P : Element → Type 0 = IsElement c q r.0 (has p.0) in
      let same : h.tree.elements ≡ es = picked-once P (candidates c q r.0 (has p.0)) h.tree.elements es h.tree.are first.are in
      let over = subst (λ (xs : List Element). IsTreeOver c q r.0 (has p.0) (take MOST_ELEMENTS xs) bits) same h.tree.over in
      let bs = kept.trees in
      let zip : AllZip (IsLeastTree c q r p) (take MOST_ELEMENTS es) bs = subst (λ (xs : List Element). AllZip (IsLeastTree c q r p) xs bs) first.first (zip-least c q r p ks bs kept.each) in
      let choice = chosen-under c q r p (take MOST_ELEMENTS es) bs bits zip over in
      let ds = items_where_true choice.mask bs in
      let mark = marked-all choice.mask bs in
      let chosen : AreChosen c q r p ds = record { elements = es; are = first.are; mask = choice.mask; least = where-zip (IsLeastTree c q r p) choice.mask (take MOST_ELEMENTS es) bs zip } in
      let plan = chosen-scan c q r p ds chosen choice.some h.relation (under-scan (combined ds) bits choice.under h.named) in
      let many = zip-length (IsKept c q r p) ks bs kept.each in
      let below : mark.0 < n = let lt = mark.1 in let pow : 2 ^ length ks ≡ 2 ^ length bs = ap (λ (k : ℕ). 2 ^ k) many in omega (arith, lt, pow, end) in
      let zipped = zip-marked (IsKept c q r p) mark.0 ks bs kept.each in
      let served = subst (λ (xs : List BitTree). IsServed c q t (bitmap r p (combined xs))) mark.2 (each mark.0 below (marked mark.0 bs) zipped) in
      served-under t (combined ds) bits choice.under less (served plan.built)

  -- the scan that a number stands for
  pub stands-for : (t : Certificate) (ks : List Kept) (n m : ℕ) (arms : List IndexNo) (bs : List BitTree) → AreFirst c q r p ks → length ks ≤ 8 → m ≡ n → AllZip (IsKept c q r p) (marked n ks) bs →
      arms ≡ arms_of_all bs ++ replicate (MOST_ATOMS - length (arms_of_all bs)) (record { 0 = 0 }) → StandsForPlan c q t (plain.Bitmap r p m arms) (bitmap r p (combined bs))
  stands-for t ks n m arms bs first le same z are = (combined bs, tree, refl)
    where
      tree : IsTreeOf c q r.0 (has p.0) m arms (combined bs)
      tree = record {
        found = first.elements;
        are = first.are;
        chosen = combined-elements c q r p (map element_in (marked n ks)) bs (zip-least c q r p (marked n ks) bs z)
            ∙ ap (map Some) (digits ks n first le) ∙ ap (λ (k : ℕ). map Some (items_where_true (mask_of k) (take MOST_ELEMENTS first.elements))) (sym same);
        arms_are = are ∙ ap (λ (is : List IndexNo). is ++ replicate (256 - length is) (record { 0 = 0 })) (sym (combined-arms bs));
      }

module _ (c : Contents) (q : Query) (t : Certificate) where
  module _ (over : IsOverTables c q) (all : RelSet) (is_all : IsSameSet (has all.0) (all_of_query q)) where
    -- the sets up to that of all are all that scans are given
    pub relation-bitmaps : (r : RelNo) (n : ℕ) → all.0 < n → ((m : ℕ) → m < n → AreBitmapsServed c q r (record { 0 = m }) t) → AreRelationBitmapsServed c q t r
    relation-bitmaps r n lt each p bits built = let le = bitmap-most c q over all is_all r p bits built in each p.0 (omega (arith, lt, le)) bits built

  pub all-bitmaps : (n : ℕ) → width q ≤ n → ((r : ℕ) → r < n → AreRelationBitmapsServed c q t (record { 0 = r })) → AreAllBitmapsServed c q t
  all-bitmaps n le each r p bits built = let lt = built.relation in each r.0 (omega (arith, lt, le)) p bits built
