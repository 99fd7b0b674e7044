-- Bitmap scans over trees of least part dominate those over any trees of the same elements.
use Rattle.std.proofs.Common.{◌≡◌, ◌<◌, ◌≤◌, ◌^◌, ℕ, ◌+◌, ◌*◌, ◌⊎◌, Bool, true, false, cond, List, length, take, refl, sym, ◌∙◌, ap, ap₂, subst, arith, inl, inr, true≢false}
use Rattle.std.specs.Prelude.{Contains, Some, None}
use Rattle.std.specs.List.{AllZip, items_where_true}
use Rattle.std.proofs.lemmas.List.Elements.{All-contains, All-weaker}
use Rattle.std.proofs.lemmas.Bool.{eqb-true, eq-eqb}
use Rattle.pg_base.specs.Sets.{has}
use Rattle.pg_base.proofs.SetLaws.{same_set, has-zero}
use Rattle.pg_base.specs.declared.numbers.RelNo.{RelNo}
use Rattle.pg_base.specs.declared.rel_set.RelSet.{RelSet}
use Rattle.catalog.specs.Contents.{Contents}
use Rattle.eq_classes.specs.Clauses.{Set, one}
use Rattle.sql_query.specs.Queries.{Query, width}
use Rattle.cost_rules.specs.Costs.{pair, row_cost}
use Rattle.cost_rules.specs.work.Costs.{IsAtMost, capped, capped_pair}
use Rattle.cost_rules.specs.Scans.{bitmap_scan_cost, heap_pages_of, page_in_order, run_cost}
use Rattle.cost_rules.specs.declared.parameters.TheConstants.{MOST_COST}
use Rattle.path_cost.specs.Costs.{bitmap_cost, local_operators, rows_after}
use Rattle.path_cost.specs.Estimates.{conditions_from, table_pages}
use Rattle.path_cost.specs.Runs.{runs}
use Rattle.plan_tree.specs.Plans.{Plan, seq, index, index_only, bitmap, sort, nest, merge, BitTree, param_of, param_in, is_empty}
use Rattle.plan_tree.specs.Bitmaps.{Element, MOST_ELEMENTS, AreElements, IsElement, IsTreeOver, candidates, uses}
use Rattle.plan_tree.specs.Costs.{cost, part_of}
use Rattle.plan_tree.specs.Space.{IsBitmapScan, IsPlanOf, IsSameSet, conditions_used, others_named}
use Rattle.plan_tree.specs.Least.{Dominates, IsAdmissible}
use Rattle.plan_tree.specs.work.Paths.{Path}
use Rattle.plan_tree.specs.work.Fronts.{AreDominated, AreOldOrOffers, HasDominating, IsOffer, is_bitmap}
use Rattle.plan_tree.proofs.DominationLemmas.{dominates-trans}
use Rattle.plan_tree.proofs.WindowLemmas.{startup-from}
use Rattle.bitmap_scan.specs.work.Chosen.{AreChosen, IsLeastTree, combined, marked}
use Rattle.bitmap_scan.proofs.MarkedLemmas.{marked-all, where-zip}
use Rattle.bitmap_scan.proofs.PickedLemmas.{picked-once}
use Rattle.bitmap_scan.proofs.LeastLemmas.{IsUnder, chosen-over, chosen-under}

-- the parts are the lesser numbers where the greater sum is below the limit
parts-rise : (m n a b : ℕ) → capped m ≤ capped n → n + a + b < MOST_COST → m ≤ n
parts-rise m n a b h less = omega (arith, h, less)

sums-rise : (m n a b : ℕ) → m ≤ n → m + a + b ≤ n + a + b
sums-rise m n a b h = omega (arith, h)

-- the parameterisation of a scan is the set that it is given
param-by : (r : RelNo) (p : RelSet) (b : Bool) → is_empty p ≡ b → (k : ℕ) → param_in (cond b None (Some (record { relation = r; param = p }))) k ≡ has p.0 k
param-by r p true e k = sym (ap (λ (n : ℕ). has n k) (eqb-true p.0 0 e) ∙ has-zero k)
param-by r p false e k = refl

pub param-is : (r : RelNo) (p : RelSet) (bits : BitTree) (k : ℕ) → param_of (bitmap r p bits) k ≡ has p.0 k
param-is r p bits k = param-by r p (is_empty p) refl k

le-trans-less : {l m n : ℕ} → l ≤ m → m < n → l < n
le-trans-less h less = omega (arith, h, less)

cut-first : (n m : ℕ) → n ≡ capped m → capped n ≡ capped m
cut-first n m e = omega (arith, e)

cut-sum : (n m a b : ℕ) → n ≡ capped m → capped (n + a + b) ≡ capped (m + a + b)
cut-sum n m a b e = omega (arith, e)

scan-cut : (runs n m rows pages ops : ℕ) → n ≡ capped m → capped_pair (bitmap_scan_cost runs n rows pages ops) ≡ capped_pair (bitmap_scan_cost runs m rows pages ops)
scan-cut runs n m rows pages ops e =
    ap₂ (λ (s t : ℕ). pair s t) (cut-first n m e) (cut-sum n m (run_cost runs rows pages (page_in_order (heap_pages_of rows pages) pages)) (rows * row_cost ops) e)

module _ (c : Contents) (q : Query) where
  bitmap-rises : (r : RelNo) (p : RelSet) (u v : ℕ → Bool) (m n : ℕ) → u ≡ v → capped m ≤ capped n →
      (bitmap_cost c q.range q.classes r.0 (has p.0) v n).total < MOST_COST → IsAtMost (bitmap_cost c q.range q.classes r.0 (has p.0) u m) (bitmap_cost c q.range q.classes r.0 (has p.0) v n)
  bitmap-rises r p u v m n same h less =
      subst (λ (f : ℕ → Bool). IsAtMost (bitmap_cost c q.range q.classes r.0 (has p.0) f m) (bitmap_cost c q.range q.classes r.0 (has p.0) v n)) (sym same)
      (let le = parts-rise m n _ _ h less in record { startup = le; total = sums-rise m n _ _ le })

  module _ (r : RelNo) (p : RelSet) where
    same-uses : (a b : BitTree) → IsUnder c q r p a b → uses c q r.0 (has p.0) a ≡ uses c q r.0 (has p.0) b
    same-uses a b h = λ i n. h.used n i

    -- a tree that is under another one is of a scan that dominates the other's
    pub under-dominates : (a b : BitTree) → IsUnder c q r p a b → IsAdmissible c q (bitmap r p b) → Dominates c q (bitmap r p a) (bitmap r p b)
    under-dominates a b h less =
        let most = bitmap-rises r p (uses c q r.0 (has p.0) a) (uses c q r.0 (has p.0) b) (part_of c q r p a) (part_of c q r p b) (same-uses a b h) h.part less in
        record {
          like = record { set = λ k. refl; param = λ k. refl };
          total = most.total;
          startup = startup-from q.window _ _ most.startup;
          keys = refl;
        }

    -- a bitmap scan of a relation with a parameterisation is a plan of them
    pub scan-plan : (bits : BitTree) → IsBitmapScan c q r p bits → IsPlanOf c q (one r.0) (has p.0) (bitmap r p bits)
    scan-plan bits h = record { built = h; plain = refl; set_is = λ k. refl; param_is = param-is r p bits }

    pub chosen-scan : (ts : List BitTree) → AreChosen c q r p ts → 1 ≤ length ts → r.0 < width q → IsSameSet (has p.0) (others_named r.0 (conditions_used c q r p (combined ts))) → IsPlanOf c q (one r.0) (has p.0) (bitmap r p (combined ts))
    chosen-scan ts h some below named = scan-plan (combined ts) (record {
      relation = below;
      tree = record { elements = h.elements; are = h.are; over = chosen-over c q r p (take MOST_ELEMENTS h.elements) h.mask ts h.least some };
      named = named;
    })

    under-scan : (a b : BitTree) → IsUnder c q r p a b → IsSameSet (has p.0) (others_named r.0 (conditions_used c q r p b)) → IsSameSet (has p.0) (others_named r.0 (conditions_used c q r p a))
    under-scan a b h named k = named k ∙ ap (λ (f : ℕ → Bool). others_named r.0 (conditions_from 0 f q.classes.clauses) k) (sym (same-uses a b h))

    -- what the clauses of a set name, where these are those that a tree uses
    pub named-from : (used : ℕ → Bool) (b : BitTree) → ((n : ℕ) → used n ≡ uses c q r.0 (has p.0) b n) → IsSameSet (has p.0) (others_named r.0 (conditions_from 0 used q.classes.clauses)) → IsSameSet (has p.0) (others_named r.0 (conditions_used c q r p b))
    named-from used b same named k = named k ∙ ap (λ (f : ℕ → Bool). others_named r.0 (conditions_from 0 f q.classes.clauses) k) (λ i n. same n i)

    pub named-to : (used : ℕ → Bool) (b : BitTree) → ((n : ℕ) → used n ≡ uses c q r.0 (has p.0) b n) → IsSameSet (has p.0) (others_named r.0 (conditions_used c q r p b)) → IsSameSet (has p.0) (others_named r.0 (conditions_from 0 used q.classes.clauses))
    named-to used b same named k = named k ∙ sym (ap (λ (f : ℕ → Bool). others_named r.0 (conditions_from 0 f q.classes.clauses) k) (λ i n. same n i))

    -- a cost over parts that were cut is the cost once it is cut
    pub cost-cut : (used : ℕ → Bool) (b : BitTree) (n : ℕ) → ((k : ℕ) → used k ≡ uses c q r.0 (has p.0) b k) → n ≡ capped (part_of c q r p b) →
        capped_pair (bitmap_cost c q.range q.classes r.0 (has p.0) used n) ≡ capped_pair (cost c q (bitmap r p b))
    cost-cut used b n same e =
        ap (λ (f : ℕ → Bool). capped_pair (bitmap_cost c q.range q.classes r.0 (has p.0) f n)) (λ i k. same k i)
        ∙ scan-cut (runs c q.range q.classes (has p.0)) n (part_of c q r p b) (rows_after c q.range q.classes r.0 (uses c q r.0 (has p.0) b)) (table_pages c q.range r.0) (local_operators c q.range q.classes r.0 (has p.0)) e

    -- a plan of the relation and the parameterisation that is a bitmap scan
    record IsOver (t : Plan) : Type 0 where
      bits : BitTree
      is : t ≡ bitmap r p bits

    over-of : (s : RelNo) (o : RelSet) (bits : BitTree) → IsSameSet (one s.0) (one r.0) → IsSameSet (param_of (bitmap s o bits)) (has p.0) → IsOver (bitmap s o bits)
    over-of s o bits set param =
        let rel : s.0 ≡ r.0 = eqb-true s.0 r.0 (sym (set s.0) ∙ eq-eqb s.0 s.0 refl) in
        let given : o.0 ≡ p.0 = same_set o.0 p.0 (λ k. sym (param-is s o bits k) ∙ param k) in
        record { bits = bits; is = ap₂ (λ (m n : ℕ). bitmap (record { 0 = m }) (record { 0 = n }) bits) rel given }

    over-plan : (t : Plan) → is_bitmap t ≡ true → IsPlanOf c q (one r.0) (has p.0) t → IsOver t
    over-plan (seq s) e h = absurd (true≢false (sym e))
    over-plan (index s i backward o) e h = absurd (true≢false (sym e))
    over-plan (index_only s i backward o) e h = absurd (true≢false (sym e))
    over-plan (bitmap s o bits) e h = over-of s o bits h.set_is h.param_is
    over-plan (sort keys input) e h = absurd (true≢false (sym e))
    over-plan (nest outer inner) e h = absurd (true≢false (sym e))
    over-plan (merge keys outer inner) e h = absurd (true≢false (sym e))

    -- the scan over what a number marks is dominated
    abbrev pub MarkIsDominated : List BitTree → List Path → ℕ → Type 0
    MarkIsDominated ts paths n = IsPlanOf c q (one r.0) (has p.0) (bitmap r p (combined (marked n ts))) → IsAdmissible c q (bitmap r p (combined (marked n ts))) → HasDominating c q paths (bitmap r p (combined (marked n ts)))

    scan-at : (ts : List BitTree) (paths : List Path) (n : ℕ) (ds : List BitTree) → marked n ts ≡ ds → MarkIsDominated ts paths n →
        IsPlanOf c q (one r.0) (has p.0) (bitmap r p (combined ds)) → IsAdmissible c q (bitmap r p (combined ds)) → HasDominating c q paths (bitmap r p (combined ds))
    scan-at ts paths n ds same h =
        subst (λ (xs : List BitTree). IsPlanOf c q (one r.0) (has p.0) (bitmap r p (combined xs)) → IsAdmissible c q (bitmap r p (combined xs)) → HasDominating c q paths (bitmap r p (combined xs))) same h

    -- where the scan over each choice of trees of least part is dominated, each scan over one tree is
    scan-covered : (es : List Element) (ts : List BitTree) (paths : List Path) → AreElements c q r.0 (has p.0) es → AllZip (IsLeastTree c q r p) (take MOST_ELEMENTS es) ts →
        ((n : ℕ) → n < 2 ^ length ts → MarkIsDominated ts paths n) → (bits : BitTree) → IsBitmapScan c q r p bits → IsAdmissible c q (bitmap r p bits) → HasDominating c q paths (bitmap r p bits)
    scan-covered es ts paths are z each bits h less =
        let P : Element → Type 0 = IsElement c q r.0 (has p.0) in
        let same : h.tree.elements ≡ es = picked-once P (candidates c q r.0 (has p.0)) h.tree.elements es h.tree.are are in
        let over = subst (λ (xs : List Element). IsTreeOver c q r.0 (has p.0) (take MOST_ELEMENTS xs) bits) same h.tree.over in
        let choice = chosen-under c q r p (take MOST_ELEMENTS es) ts bits z over in
        let ds = items_where_true choice.mask ts in
        let mark = marked-all choice.mask ts in
        let chosen : AreChosen c q r p ds = record { elements = es; are = are; mask = choice.mask; least = where-zip (IsLeastTree c q r p) choice.mask (take MOST_ELEMENTS es) ts z } in
        let plan = chosen-scan ds chosen choice.some h.relation (under-scan (combined ds) bits choice.under h.named) in
        let above = under-dominates (combined ds) bits choice.under less in
        let there = scan-at ts paths mark.0 ds mark.2 (each mark.0 mark.1) plan (le-trans-less above.total less) in
        record { path = there.path; is_there = there.is_there; dominates = dominates-trans c q there.path.tree (bitmap r p (combined ds)) (bitmap r p bits) there.dominates above }

    pub all-covered : (es : List Element) (ts : List BitTree) (paths : List Path) → AreElements c q r.0 (has p.0) es → AllZip (IsLeastTree c q r p) (take MOST_ELEMENTS es) ts →
        ((n : ℕ) → n < 2 ^ length ts → MarkIsDominated ts paths n) → AreDominated c q is_bitmap (one r.0) (has p.0) paths
    all-covered es ts paths are z each t plan less is =
        let at = over-plan t is plan in
        let there = subst (IsPlanOf c q (one r.0) (has p.0)) at.is plan in
        subst (HasDominating c q paths) (sym at.is) (scan-covered es ts paths are z each at.bits there.built (subst (IsAdmissible c q) at.is less))

-- a path that was there before or offered, through two offers
pub offers-trans : (c : Contents) (q : Query) (test : Plan → Bool) (set param : Set) (old mid new : List Path) → AreOldOrOffers c q test set param old mid → AreOldOrOffers c q test set param mid new → AreOldOrOffers c q test set param old new
offers-trans c q test set param old mid new h k =
    All-weaker (λ (x : Path). Contains mid x ⊎ IsOffer c q test set param x) (λ (x : Path). Contains old x ⊎ IsOffer c q test set param x) by new k
  where
    by : (x : Path) → Contains mid x ⊎ IsOffer c q test set param x → Contains old x ⊎ IsOffer c q test set param x
    by x (inl there) = All-contains (λ (y : Path). Contains old y ⊎ IsOffer c q test set param y) mid x h there
    by x (inr offer) = inr offer
