-- What the entries of candidates say beside their numbers.
use Rattle.std.proofs.Common.{◌≡◌, ◌<◌, ◌≤◌, ◌-◌, ◌||◌, ℕ, suc, Bool, true, false, cond, nat_eq, List, [], length, take, refl, sym, ap, ap₂, subst, ◌∙◌, arith}
use Rattle.std.specs.Prelude.{Option, None, Some, slice_get}
use Rattle.std.specs.Option.{option_map}
use Rattle.std.proofs.lemmas.Bool.{eq-eqb}
use Rattle.std.proofs.lemmas.Grind.{common_steps}
use Rattle.std.proofs.lemmas.Option.{slice_get_within}
use Rattle.pg_base.specs.Sets.{has}
use Rattle.pg_base.specs.declared.numbers.IndexNo.{IndexNo}
use Rattle.pg_base.specs.declared.numbers.RelNo.{RelNo}
use Rattle.pg_base.specs.declared.rel_set.RelSet.{RelSet}
use Rattle.pg_base.proofs.SetLaws.{has-zero}
use Rattle.catalog.specs.Contents.{Contents, IsIndex}
use Rattle.eq_classes.specs.declared.classes.ClassNo.{ClassNo}
use Rattle.pathkeys.specs.Keys.{AreDifferent, Keys}
use Rattle.sql_query.specs.Queries.{Query, width}
use Rattle.plan_tree.specs.Bitmaps.{AreElements, Element, MOST_ELEMENTS}
use Rattle.plan_tree.specs.Keys.{keys_of, scan_keys}
use Rattle.plan_tree.specs.Plans.{BitTree, Plan, seq, index, index_only, bitmap, nest, merge, set_of}
use Rattle.plan_tree.specs.Space.{IsBuilt}
use Rattle.scan_paths.proofs.SpaceLemmas.{given-param}
use Rattle.bitmap_scan.specs.work.Chosen.{combined}
use Rattle.plan_check.specs.Certificates.{Certificate, Entry, Side, by_bitmap, by_index, by_index_only, by_merge, by_nest, by_seq, join_by, plan_at, plans_of, relation_in, side_at, sorted_if, unfold_at}
use Rattle.plan_check.specs.Views.{side as seen}
use Rattle.plan_check.specs.declared.entry.Side.{Side as Sided}
use Rattle.plan_check.proofs.UnfoldLemmas.{numbered}
use Rattle.certificate_check.specs.entry_check_ScanLemmas.{relation-found}
use Rattle.certificate_check.specs.join_cover_CoverLemmas.{right-at}
use Rattle.plan_check.specs.work.Beating.{IsRight}
use Rattle.plan_check.specs.Plains.{IsTreeOf, StandsForPlan, keys_in}
use Rattle.plan_check.specs.declared.verdict.Plain.{Plain}
use Rattle.plan_check.specs.declared.verdict.Plain.TheVariants as plain
use Rattle.plan_check.specs.Reasons.{AllRight}
use Rattle.check_reply.specs.work.Telling.{Tells, trees_by}
use Rattle.check_reply.proofs.TreeLemmas.{tree-told}
use Rattle.pg_base.proofs.OptionLemmas.{some-same}
use Rattle.pg_base.proofs.OptionLemmas.{none-some}

-- the parts of a join
pub record HasParts (f : Plan → Plan → Plan) (a b : Option Plan) (p : Plan) : Type 0 where
  pub outer : Plan
  pub inner : Plan
  pub first : a ≡ Some outer
  pub second : b ≡ Some inner
  pub is : f outer inner ≡ p

pub parts-of : (f : Plan → Plan → Plan) (a b : Option Plan) (p : Plan) → join_by f a b ≡ Some p → HasParts f a b p
parts-of f None b p h = absurd (none-some p h)
parts-of f (Some o) None p h = absurd (none-some p h)
parts-of f (Some o) (Some i) p h = record { outer = o; inner = i; first = refl; second = refl; is = some-same (f o i) p h }

-- the plan of a side, as it stands and as it is sorted or not
pub record IsSide (plans : List (Option Plan)) (keys : Keys) (s : Side) (p : Plan) : Type 0 where
  pub input : Plan
  pub at : plan_at plans s.entry ≡ Some input
  pub is : sorted_if s.sorted keys input ≡ p

pub side-of : (plans : List (Option Plan)) (keys : Keys) (s : Side) (p : Plan) → side_at plans keys s ≡ Some p → IsSide plans keys s p
side-of plans keys s p h = by (plan_at plans s.entry) refl h
  where
    by : (o : Option Plan) → plan_at plans s.entry ≡ o → option_map (sorted_if s.sorted keys) o ≡ Some p → IsSide plans keys s p
    by None e g = absurd (none-some p g)
    by (Some x) e g = record { input = x; at = e; is = some-same (sorted_if s.sorted keys x) p g }

sorted-set : (b : Bool) (keys : Keys) (p : Plan) (k : ℕ) → set_of (sorted_if b keys p) k ≡ set_of p k
sorted-set true keys p k = refl
sorted-set false keys p k = refl

-- a number that has a plan is that of an entry
pub record IsNumber (t : Certificate) (n : ℕ) : Type 0 where
  pub some : 1 ≤ n
  pub within : n ≤ length t.entries

pub number-of : (q : Query) (t : Certificate) (n : ℕ) (p : Plan) → unfold_at q t n ≡ Some p → IsNumber t n
number-of q t n p h =
    let x = numbered q t n p h in
    let is = x.number in
    let lt = slice_get_within t.entries x.place x.entry x.stands in
    record { some = omega (arith, is); within = omega (arith, is, lt) }

other-relation : (k r : ℕ) → k < r → nat_eq k r ≡ false
other-relation k r lt = grind (arith, common_steps)

module _ (c : Contents) (q : Query) (t : Certificate) where
  module _ (rel : RelNo) (set : RelSet) (alone : (k : ℕ) → has set.0 k ≡ nat_eq k rel.0) where
    relation-is : rel.0 < width q → relation_in (width q) set ≡ Some rel
    relation-is lt = sym (relation-found (width q) set rel (alone rel.0 ∙ eq-eqb rel.0 rel.0 refl) (λ k less. alone k ∙ other-relation k rel.0 less) lt)

    pub seq-tells : (keys : Keys) (p : Plan) → keys ≡ [] → p ≡ seq rel → IsBuilt c q p → Tells c q t set (record { 0 = 0 }) by_seq keys p
    seq-tells keys p none is built =
        let made : rel.0 < width q = subst (IsBuilt c q) is built in
        subst (Tells c q t set (record { 0 = 0 }) by_seq keys) (sym is) (record {
          unfolds = ap (option_map seq) (relation-is made);
          set_is = λ k. sym (alone k);
          param_is = λ k. sym (has-zero k);
          keys_are = none;
        })

    module _ (i : IndexNo) (backward : Bool) (param : RelSet) (keys : Keys) (p : Plan) (list : keys ≡ scan_keys c q rel i backward param) where
      pub index-tells : (only : Bool) → p ≡ cond only (index_only rel i backward param) (index rel i backward param) → IsBuilt c q p → Tells c q t set param (cond only (by_index_only i backward) (by_index i backward)) keys p
      index-tells true is built =
          let made = subst (IsBuilt c q) is built in
          subst (Tells c q t set param (by_index_only i backward) keys) (sym is) (record {
            unfolds = ap (option_map (λ r. index_only r i backward param)) (relation-is made.scan.relation);
            set_is = λ k. sym (alone k);
            param_is = λ k. given-param rel param k;
            keys_are = list;
          })
      index-tells false is built =
          let made = subst (IsBuilt c q) is built in
          subst (Tells c q t set param (by_index i backward) keys) (sym is) (record {
            unfolds = ap (option_map (λ r. index r i backward param)) (relation-is made.relation);
            set_is = λ k. sym (alone k);
            param_is = λ k. given-param rel param k;
            keys_are = list;
          })

    pub bitmap-tells : (param : RelSet) (keys : Keys) (n : ℕ) (arms : List IndexNo) (found : List Element) (made : BitTree) → keys ≡ [] →
        ((es : List Element) × AreElements c q rel.0 (has param.0) es × (found ≡ take MOST_ELEMENTS es)) → made ≡ combined (trees_by q n found arms) →
        (p : Plan) → ((bits : BitTree) × IsTreeOf c q rel.0 (has param.0) n arms bits × (p ≡ bitmap rel param bits)) → IsBuilt c q p → Tells c q t set param (by_bitmap made) keys p
    bitmap-tells param keys n arms found made none first is p stands built =
        let bits = stands.0 in
        let scan = subst (IsBuilt c q) stands.2 built in
        let same : made ≡ bits = is ∙ tree-told c q rel.0 (has param.0) n arms bits found first stands.1 scan.tree in
        subst (λ (b : BitTree). Tells c q t set param (by_bitmap b) keys p) (sym same)
        (subst (Tells c q t set param (by_bitmap bits) keys) (sym stands.2) (record {
          unfolds = ap (option_map (λ r. bitmap r param bits)) (relation-is scan.relation);
          set_is = λ k. sym (alone k);
          param_is = λ k. given-param rel param k;
          keys_are = none;
        }))

  -- the entry of a number is right for its plan
  right-number : AllRight c q t → (n : ℕ) (e : Entry) (p : Plan) → 1 ≤ n → slice_get t.entries (n - 1) ≡ Some e → unfold_at q t n ≡ Some p → IsRight c q e p
  right-number right n e p some at is =
      let same : n ≡ suc (n - 1) = omega (arith, some) in
      right-at c q t right (n - 1) e p at (ap (unfold_at q t) (sym same) ∙ is)

  module _ (right : AllRight c q t) (a b : Entry) (set : RelSet) (keys : Keys) (both : (k : ℕ) → has set.0 k ≡ has a.set.0 k || has b.set.0 k) where
    pub nest-tells : (outer inner : ℕ) (p : Plan) → 1 ≤ outer → 1 ≤ inner → slice_get t.entries (outer - 1) ≡ Some a → slice_get t.entries (inner - 1) ≡ Some b → keys ≡ a.keys →
        join_by nest (unfold_at q t outer) (unfold_at q t inner) ≡ Some p → Tells c q t set (record { 0 = 0 }) (by_nest outer inner) keys p
    nest-tells outer inner p so si at_a at_b list stands =
        let parts = parts-of nest (unfold_at q t outer) (unfold_at q t inner) p stands in
        let o = right-number right outer a parts.outer so at_a parts.first in
        let i = right-number right inner b parts.inner si at_b parts.second in
        subst (Tells c q t set (record { 0 = 0 }) (by_nest outer inner) keys) parts.is (record {
          unfolds = stands ∙ ap Some (sym parts.is);
          set_is = λ k. ap₂ (λ (x y : Bool). x || y) (o.has.plan.set_is k) (i.has.plan.set_is k) ∙ sym (both k);
          param_is = λ k. sym (has-zero k);
          keys_are = list ∙ o.has.keys;
        })

    side-keys : (sorted : Bool) (list : Keys) (p : Plan) → keys ≡ cond sorted list a.keys → a.keys ≡ keys_of c q p → keys ≡ keys_of c q (sorted_if sorted list p)
    side-keys true list p e f = e
    side-keys false list p e f = e ∙ f

    pub merge-tells : (list : Keys) (outer inner : Side) (p : Plan) → 1 ≤ outer.entry → 1 ≤ inner.entry → slice_get t.entries (outer.entry - 1) ≡ Some a → slice_get t.entries (inner.entry - 1) ≡ Some b → keys ≡ cond outer.sorted list a.keys →
        join_by (merge list) (side_at (plans_of q t) list outer) (side_at (plans_of q t) list inner) ≡ Some p → Tells c q t set (record { 0 = 0 }) (by_merge list outer inner) keys p
    merge-tells list outer inner p so si at_a at_b kept stands =
        let parts = parts-of (merge list) (side_at (plans_of q t) list outer) (side_at (plans_of q t) list inner) p stands in
        let x = side-of (plans_of q t) list outer parts.outer parts.first in
        let y = side-of (plans_of q t) list inner parts.inner parts.second in
        let o = right-number right outer.entry a x.input so at_a x.at in
        let i = right-number right inner.entry b y.input si at_b y.at in
        subst (Tells c q t set (record { 0 = 0 }) (by_merge list outer inner) keys) parts.is (record {
          unfolds = stands ∙ ap Some (sym parts.is);
          set_is = λ k.
              ap₂ (λ (u v : Bool). u || v)
              (ap (λ (u : Plan). set_of u k) (sym x.is) ∙ sorted-set outer.sorted list x.input k ∙ o.has.plan.set_is k)
              (ap (λ (u : Plan). set_of u k) (sym y.is) ∙ sorted-set inner.sorted list y.input k ∙ i.has.plan.set_is k)
              ∙ sym (both k);
          param_is = λ k. sym (has-zero k);
          keys_are = side-keys outer.sorted list x.input kept o.has.keys ∙ ap (keys_of c q) x.is;
        })

  module _ (node : Plain) where
    -- a candidate has a plan of the space
    abbrev pub HasPlan : Type 0
    HasPlan = (p : Plan) × StandsForPlan c q t node p × IsBuilt c q p

    pub seq-within : (rel : RelNo) → node ≡ plain.Seq rel → HasPlan → rel.0 < width q
    seq-within rel e h = let is = subst (λ (n : Plain). StandsForPlan c q t n h.0) e h.1 in subst (IsBuilt c q) is h.2

    pub index-within : (rel : RelNo) (i : IndexNo) (backward only : Bool) (param : RelSet) → node ≡ plain.Index rel i backward only param → HasPlan → (rel.0 < width q) × IsIndex c i
    index-within rel i backward only param e h = by only (subst (λ (n : Plain). StandsForPlan c q t n h.0) e h.1)
      where
        by : (b : Bool) → h.0 ≡ cond b (index_only rel i backward param) (index rel i backward param) → (rel.0 < width q) × IsIndex c i
        by true is = let made = subst (IsBuilt c q) is h.2 in (made.scan.relation, made.scan.index.made)
        by false is = let made = subst (IsBuilt c q) is h.2 in (made.relation, made.index.made)

    pub bitmap-within : (rel : RelNo) (param : RelSet) (n : ℕ) (arms : List IndexNo) → node ≡ plain.Bitmap rel param n arms → HasPlan → rel.0 < width q
    bitmap-within rel param n arms e h =
        let stands = subst (λ (x : Plain). StandsForPlan c q t x h.0) e h.1 in
        let made = subst (IsBuilt c q) stands.2 h.2 in
        made.relation

    pub nest-within : (outer inner : ℕ) → node ≡ plain.Nest outer inner → HasPlan → IsNumber t outer × IsNumber t inner
    nest-within outer inner e h =
        let stands = subst (λ (x : Plain). StandsForPlan c q t x h.0) e h.1 in
        let parts = parts-of nest (unfold_at q t outer) (unfold_at q t inner) h.0 stands in
        (number-of q t outer parts.outer parts.first, number-of q t inner parts.inner parts.second)

    pub merge-within : (keys : List (Option ClassNo)) (outer inner : Sided) → node ≡ plain.Merge keys outer inner → HasPlan → IsNumber t outer.entry × IsNumber t inner.entry × AreDifferent (keys_in keys)
    merge-within keys outer inner e h =
        let stands = subst (λ (x : Plain). StandsForPlan c q t x h.0) e h.1 in
        let list = keys_in keys in
        let parts = parts-of (merge list) (side_at (plans_of q t) list (seen outer)) (side_at (plans_of q t) list (seen inner)) h.0 stands in
        let x = side-of (plans_of q t) list (seen outer) parts.outer parts.first in
        let y = side-of (plans_of q t) list (seen inner) parts.inner parts.second in
        let made = subst (IsBuilt c q) (sym parts.is) h.2 in
        (number-of q t outer.entry x.input x.at, number-of q t inner.entry y.input y.at, made.2.list.different)
