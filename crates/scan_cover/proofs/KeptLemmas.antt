-- Elements kept one after the other, and the scans over those that a number marks.
use Rattle.std.proofs.Common.{◌≡◌, ◌≢◌, ◌<◌, ◌≤◌, ◌+◌, ℕ, zero, suc, Bool, true, false, cond, ◌&&◌, nat_lt, List, [], ◌∷◌, ◌++◌, get_or, length, map, take, refl, sym, ap, subst, ◌∙◌, arith, append_assoc}
use Rattle.std.specs.Prelude.{All, Some}
use Rattle.std.specs.List.{AllZip, list_any}
use Rattle.std.proofs.lemmas.List.{append-nil, length-append, length-map, map-append, take_more}
use Rattle.pg_base.specs.Sets.{has}
use Rattle.pg_base.specs.declared.limits.TheConstants.{MOST_ATOMS}
use Rattle.pg_base.specs.declared.numbers.IndexNo.{IndexNo}
use Rattle.pg_base.specs.declared.numbers.RelNo.{RelNo}
use Rattle.pg_base.specs.declared.rel_set.RelSet.{RelSet}
use Rattle.pg_expr.specs.work.AtomSets.{contains}
use Rattle.pg_expr.specs.Cond.{Cond}
use Rattle.catalog.specs.Contents.{Contents}
use Rattle.cost_rules.specs.work.Costs.{capped, capped_pair}
use Rattle.cost_rules.specs.declared.pair.Pair.{Pair}
use Rattle.eq_classes.specs.Clauses.{one}
use Rattle.index_match.specs.Arms.{arms_of}
use Rattle.path_cost.specs.Costs.{bitmap_cost}
use Rattle.path_cost.specs.Estimates.{conditions_from}
use Rattle.sql_query.specs.Queries.{Query, width}
use Rattle.plan_tree.specs.Bitmaps.{AreElements, Element, MOST_ELEMENTS, by_clause, by_index, condition_at, uses}
use Rattle.plan_tree.specs.Costs.{cost, parts_of_arms, together}
use Rattle.plan_tree.specs.work.Paths.{kept_cost}
use Rattle.plan_tree.specs.Plans.{BitTree, bitmap, some_arm}
use Rattle.plan_tree.specs.Space.{IsPlanOf, IsSameSet, others_named}
use Rattle.plan_tree.specs.work.Views.{element}
use Rattle.plan_tree.specs.declared.elements.Element.{Element as Chosen}
use Rattle.bitmap_scan.specs.work.Arms.{IsLeastMatch}
use Rattle.bitmap_scan.specs.work.Chosen.{IsLeastTree, combined, marked}
use Rattle.bitmap_scan.specs.work.ElementTrees.{IsMade}
use Rattle.bitmap_scan.proofs.ArmLemmas.{clause-least}
use Rattle.bitmap_scan.proofs.ElementLemmas.{elements-made}
use Rattle.pg_base.proofs.ListLemmas.{zip-length}
use Rattle.bitmap_scan.proofs.ScanLemmas.{chosen-scan, cost-cut, named-from}
use Rattle.plan_check.specs.Plains.{arms_in}
use Rattle.join_cover.specs.entry_check_ScanLemmas.{kept-cut}
use Rattle.scan_cover.specs.work.Limits.{HasFewAtoms, arms_of_all}
use Rattle.scan_cover.proofs.ArmAtomLemmas.{arms-fit}
use Rattle.scan_cover.specs.work.Arms.{IsFilled}
use Rattle.scan_cover.specs.work.Trees.{AreFirst, AreKept, IsKept, element_in}
use Rattle.scan_cover.specs.declared.filling.Arms.{Arms}
use Rattle.scan_cover.specs.declared.kept.Kept.{Kept}
use Rattle.scan_cover.proofs.ArmLemmas.{filled-none}
use Rattle.scan_cover.proofs.MarkLemmas.{zip-joined}
use Rattle.scan_cover.proofs.ServedLemmas.{are-chosen, marked-elements}
use Rattle.scan_cover.proofs.TreeLemmas.{kept-other, leaf-arms, parts-together, used-together, zip-least}

-- one element more
pub elements-push : (es : List Chosen) (ks : List Kept) (n : ℕ) (d : Chosen) (k : Kept) → n < length es → map element_in ks ≡ map element (take n es) → k.element ≡ get_or es n d → map element_in (ks ++ k ∷ []) ≡ map element (take (n + 1) es)
elements-push es ks n d k lt h e =
    map-append element_in ks (k ∷ []) ∙ ap (λ (xs : List Element). xs ++ element_in k ∷ []) h ∙ ap (λ (x : Chosen). map element (take n es) ++ element x ∷ []) e
    ∙ sym (map-append element (take n es) (get_or es n d ∷ [])) ∙ ap (map element) (sym (take_more es n d lt))

pub kept-few : (ks : List Kept) (xs : List Chosen) → map element_in ks ≡ map element xs → length xs ≤ 8 → length ks ≤ 8
kept-few ks xs e le = let a = length-map ks element_in in let b = length-map xs element in let same = ap length e in omega (arith, le, a, b, same)

-- parts together, with one more where it is marked
pub parts-more : (b : Bool) (x : Kept) (seen : List Kept) (old new m k : ℕ) → old ≡ capped (together (map (λ (y : Kept). y.part) seen)) → m ≡ length seen →
    ((ns : List ℕ) → old ≡ capped (together ns) → m ≡ length ns → new ≡ capped (together (ns ++ cond b (x.part ∷ []) []))) → k ≡ m + cond b 1 0 →
    (new ≡ capped (together (map (λ (y : Kept). y.part) (seen ++ cond b (x ∷ []) [])))) × (k ≡ length (seen ++ cond b (x ∷ []) []))
parts-more true x seen old new m k e f h g =
    let long = length-append seen (x ∷ []) in
    (h (map (λ (y : Kept). y.part) seen) e (f ∙ sym (length-map seen (λ (y : Kept). y.part))) ∙ ap (λ (ns : List ℕ). capped (together ns)) (sym (map-append (λ (y : Kept). y.part) seen (x ∷ []))), omega (arith, f, g, long))
parts-more false x seen old new m k e f h g =
    let long = length-append seen [] in
    (h (map (λ (y : Kept). y.part) seen) e (f ∙ sym (length-map seen (λ (y : Kept). y.part))) ∙ ap (λ (ns : List ℕ). capped (together ns)) (sym (map-append (λ (y : Kept). y.part) seen [])), omega (arith, f, g, long))

pub arms-joined : (bs ds : List BitTree) → arms_of_all bs ++ arms_of_all ds ≡ arms_of_all (bs ++ ds)
arms-joined [] ds = refl
arms-joined (b ∷ bs) ds = append_assoc (arms_in b) (arms_of_all bs) (arms_of_all ds) ∙ ap (λ (is : List IndexNo). arms_in b ++ is) (arms-joined bs ds)

module _ (c : Contents) (q : Query) (r : RelNo) (p : RelSet) where
  pub none-kept : AreKept c q r p []
  none-kept = record { trees = []; each = tt }

  pub kept-push : (ks : List Kept) (k : Kept) (b : BitTree) → AreKept c q r p ks → IsKept c q r p k b → AreKept c q r p (ks ++ k ∷ [])
  kept-push ks k b h x = record { trees = h.trees ++ b ∷ []; each = zip-joined (IsKept c q r p) ks (k ∷ []) h.trees (b ∷ []) h.each (x, tt) }

  kept-in : (ks : List Kept) (bs : List BitTree) (n : ℕ) (d : Kept) → n < length ks → AllZip (IsKept c q r p) ks bs → (b : BitTree) × IsKept c q r p (get_or ks n d) b
  kept-in [] bs n d lt z = absurd (omega (arith, lt))
  kept-in (k ∷ ks) [] n d lt z = absurd z
  kept-in (k ∷ ks) (b ∷ bs) zero d lt z = (b, z.0)
  kept-in (k ∷ ks) (b ∷ bs) (suc n) d lt z = kept-in ks bs n d (omega (arith, lt)) z.1

  pub kept-at : (ks : List Kept) (n : ℕ) (d : Kept) → n < length ks → AreKept c q r p ks → (b : BitTree) × IsKept c q r p (get_or ks n d) b
  kept-at ks n d lt h = kept-in ks h.trees n d lt h.each

  -- what a slice of them is
  pub are-first : (xs : List Chosen) (ks : List Kept) (es : List Element) → AreElements c q r.0 (has p.0) es → map element_in ks ≡ map element xs → map element xs ≡ take MOST_ELEMENTS es → AreFirst c q r p ks
  are-first xs ks es are e f = record { elements = es; are = are; first = e ∙ f }

  all-made : (ks : List Kept) → map element (map (λ (k : Kept). k.element) ks) ≡ map element_in ks
  all-made [] = refl
  all-made (k ∷ ks) = ap (λ (es : List Element). element_in k ∷ es) (all-made ks)

  from-mapped : (P : Chosen → Type 0) (ks : List Kept) → All P (map (λ (k : Kept). k.element) ks) → (n : ℕ) (d : Kept) → n < length ks → P (get_or ks n d).element
  from-mapped P ks h n d lt =
      let long = length-map ks (λ (k : Kept). k.element) in
      subst P (at ks n d lt) (h n d.element (omega (arith, lt, long)))
    where
      at : (xs : List Kept) (m : ℕ) (e : Kept) → m < length xs → get_or (map (λ (k : Kept). k.element) xs) m e.element ≡ (get_or xs m e).element
      at [] m e l = refl
      at (x ∷ xs) zero e l = refl
      at (x ∷ xs) (suc m) e l = at xs m e (omega (arith, l))

  -- an index, or an OR clause that is matched
  pub first-made : (ks : List Kept) → AreFirst c q r p ks → All (λ (k : Kept). IsMade c q r p (element_in k)) ks
  first-made ks first = from-mapped (λ (e : Chosen). IsMade c q r p (element e)) ks (elements-made c q r p first.elements (map (λ (k : Kept). k.element) ks) first.are (all-made ks ∙ first.first))

  -- the arms of an index
  pub put-index : (k : Kept) (i : IndexNo) (b : BitTree) (a : Arms) → element_in k ≡ by_index i → IsKept c q r p k b → (found : List IndexNo) → IsFilled a found → IsFilled a (found ++ arms_in b)
  put-index k i b a e h found f = subst (λ (is : List IndexNo). IsFilled a (found ++ is)) (sym (leaf-arms c q r p b i (h.least.element ∙ ap Some e))) (filled-none a found f)

  -- the arms of a clause
  pub put-clause : (k : Kept) (n : ℕ) (b : BitTree) (xs : List Cond) (is : List IndexNo) → element_in k ≡ by_clause n → IsKept c q r p k b → arms_of (condition_at q n) ≡ xs → AllZip (IsLeastMatch c q r p) xs is → IsKept c q r p k (some_arm n is)
  put-clause k n b xs is e h arms z =
      kept-other c q r p k b (some_arm n is) h
      (subst (λ (x : Element). IsLeastTree c q r p x (some_arm n is)) (sym e) (clause-least c q r p n xs is (capped (together (parts_of_arms c q r p xs is))) arms (record { least = z; part = refl })))

  -- the arms of one tree
  pub put-one : (b : BitTree) (a d : Arms) → ((found : List IndexNo) → IsFilled a found → IsFilled d (found ++ arms_in b)) → (found : List IndexNo) → IsFilled a found → IsFilled d (found ++ arms_of_all (b ∷ []))
  put-one b a d h found f = subst (λ (is : List IndexNo). IsFilled d (found ++ is)) (sym (append-nil (arms_in b))) (h found f)

  -- the scan over the elements that a number marks
  module _ (ks : List Kept) (n : ℕ) (bs : List BitTree) (z : AllZip (IsKept c q r p) (marked n ks) bs) where
    pub arms-few : HasFewAtoms q → AreFirst c q r p ks → length (arms_of_all bs) ≤ MOST_ATOMS
    arms-few few first =
        arms-fit c q r p few first.elements n bs first.are
        (subst (λ (es : List Element). AllZip (IsLeastTree c q r p) es bs) (marked-elements c q r p ks n first) (zip-least c q r p (marked n ks) bs z))

    module _ (used : ℕ → Bool) (are : (m : ℕ) → used m ≡ nat_lt m (length q.classes.clauses) && list_any (λ (k : Kept). contains k.used m) (marked n ks)) where
      pub mark-used : (m : ℕ) → used m ≡ uses c q r.0 (has p.0) (combined bs) m
      mark-used = used-together c q r p (marked n ks) bs used z are

      pub mark-plan : AreFirst c q r p ks → length ks ≤ 8 → (count : ℕ) → count ≢ 0 → count ≡ length (marked n ks) → r.0 < width q → IsSameSet (has p.0) (others_named r.0 (conditions_from 0 used q.classes.clauses)) → IsPlanOf c q (one r.0) (has p.0) (bitmap r p (combined bs))
      mark-plan first le count some many lt named =
          let same = zip-length (IsKept c q r p) (marked n ks) bs z in
          chosen-scan c q r p bs (are-chosen c q r p ks n bs first le z) (omega (arith, some, many, same)) lt (named-from c q r p used (combined bs) mark-used named)

      pub mark-cost : (parts : ℕ) → parts ≡ capped (together (map (λ (k : Kept). k.part) (marked n ks))) → capped_pair (bitmap_cost c q.range q.classes r.0 (has p.0) used parts) ≡ capped_pair (cost c q (bitmap r p (combined bs)))
      mark-cost parts e = cost-cut c q r p used (combined bs) parts mark-used (parts-together c q r p (marked n ks) bs parts z e)

      pub mark-priced : (priced x : Pair) (parts : ℕ) → priced ≡ kept_cost q.window x → x ≡ capped_pair (bitmap_cost c q.range q.classes r.0 (has p.0) used parts) → parts ≡ capped (together (map (λ (k : Kept). k.part) (marked n ks))) →
          priced ≡ capped_pair (kept_cost q.window (cost c q (bitmap r p (combined bs))))
      mark-priced priced x parts e f g = e ∙ ap (kept_cost q.window) (f ∙ mark-cost parts g) ∙ kept-cut q.window (cost c q (bitmap r p (combined bs)))
