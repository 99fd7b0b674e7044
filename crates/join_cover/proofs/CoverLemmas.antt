-- Joins of right entries that an entry dominates, and those that none does.
use Rattle.std.proofs.Common.{Bool, true, false, true≢false, ◌≡◌, ◌≢◌, ◌<◌, ◌≤◌, ℕ, List, map, suc, length, sym, ap, ap₂, subst, subst₂, refl, ◌∙◌, inr}
use Rattle.std.specs.Prelude.{MatchOption, Option, Some, None, slice_get}
use Rattle.std.proofs.lemmas.Bool.{lt-ltb}
use Rattle.std.proofs.lemmas.Option.{slice_get_within, same_Some}
use Rattle.pg_base.specs.Sets.{has}
use Rattle.pg_base.specs.work.Sets.{Meets}
use Rattle.pg_base.specs.declared.rel_set.RelSet.{RelSet}
use Rattle.catalog.specs.Contents.{Contents}
use Rattle.eq_classes.specs.Holding.{AreApart}
use Rattle.sql_query.specs.Queries.{Query, all_of_query, width}
use Rattle.sql_query.specs.declared.window.Window.{Window}
use Rattle.plan_tree.specs.Costs.{cost}
use Rattle.plan_tree.specs.Least.{IsAdmissible}
use Rattle.plan_tree.specs.Paths.{startup_kept}
use Rattle.eq_classes.specs.declared.classes.ClassNo.{ClassNo}
use Rattle.pathkeys.specs.work.Finding.{class_numbers}
use Rattle.pathkeys.specs.Keys.{Keys}
use Rattle.plan_tree.specs.Plans.{Plan, seq, index, index_only, bitmap, sort, nest, merge, is_sort}
use Rattle.plan_laws.specs.Closed.{IsKeptSide}
use Rattle.plan_tree.specs.Space.{HasKeys, IsBuilt, IsSameSet}
use Rattle.plan_check.specs.Certificates.{Certificate, Entry, join_by, sorted_if, unfold_at}
use Rattle.plan_check.specs.Tables.{IsEntryPlan}
use Rattle.plan_check.specs.work.Views.{entry}
use Rattle.plan_check.specs.declared.entry.Entry.{Entry as Entered}
use Rattle.plan_check.proofs.UnfoldLemmas.{entry-at, numbered}
use Rattle.plan_check.specs.work.Beating.{IsBeaten, IsRight, IsUnbeaten}
use Rattle.plan_check.specs.work.Joining.{MayMerge}
use Rattle.plan_check.specs.work.Placing.{IsOf}
use Rattle.plan_check.specs.Reasons.{AllRight}
use Rattle.plan_check.specs.declared.verdict.Plain.{Plain}
use Rattle.plan_check.specs.declared.verdict.Plain.TheVariants as plain
use Rattle.plan_check.proofs.BeatingLemmas.{beaten-dominated, kept, unbeaten-none}
use Rattle.plan_check.proofs.MergeLemmas.{built-merge}
use Rattle.plan_check.proofs.NestLemmas.{built-nest}
use Rattle.entry_check.specs.work.Owning.{HasRight}
use Rattle.entry_check.proofs.NestLemmas.{apart-not}
use Rattle.entry_check.proofs.PartLemmas.{relation-below}
use Rattle.plan_tree.proofs.SetLemmas.{within-most}
use Rattle.join_cover.specs.work.Serving.{AreJoinsOf, AreJoinsServed, AreMergesOf, AreMergesServed, AreNestsOf, AreNestsServed, IsJoinOfSets, IsListServed, IsMergeBy, IsMergeOfSets, IsMergeOpen, IsMergeServed, IsNestServed, IsOpen, IsServed}
use Rattle.join_cover.specs.work.Covering.{IsMergeNode}
use Rattle.join_cover.specs.declared.uncovered.Uncovered.{Uncovered}

module _ (c : Contents) (q : Query) (t : Certificate) (right : AllRight c q t) where
  plain-kept : (p : Plan) → is_sort p ≡ false → IsEntryPlan q t p → IsKeptSide c q (IsEntryPlan q t) p
  plain-kept (seq r) e h = h
  plain-kept (index r i backward p) e h = h
  plain-kept (index_only r i backward p) e h = h
  plain-kept (bitmap r p bits) e h = h
  plain-kept (sort ks input) e h = absurd (true≢false e)
  plain-kept (nest o i) e h = h
  plain-kept (merge ks o i) e h = h

  side-kept : (s : Bool) (keys : Keys) (p : Plan) (n : ℕ) → is_sort p ≡ false → unfold_at q t (suc n) ≡ Some p → IsKeptSide c q (IsEntryPlan q t) (sorted_if s keys p)
  side-kept true keys p n plain e = record { number = suc n; unfolds = e }
  side-kept false keys p n plain e = plain-kept p plain (record { number = suc n; unfolds = e })

  pub right-at : (k : ℕ) (e : Entry) (p : Plan) → slice_get t.entries k ≡ Some e → unfold_at q t (suc k) ≡ Some p → IsRight c q e p
  right-at k e p at is = let h = right k e at in subst (IsRight c q e) (same_Some h.plan p (sym h.unfolds ∙ is)) (record { has = h.has; numbers = h.numbers })

  pub has-right-at : (k : ℕ) (e : Entry) → slice_get t.entries k ≡ Some e → HasRight c q e
  has-right-at k e at = let h = right k e at in record { plan = h.plan; right = record { has = h.has; numbers = h.numbers } }

  module _ (k l : ℕ) (a b : Entry) (at : slice_get t.entries k ≡ Some a) (at' : slice_get t.entries l ≡ Some b) where
    -- the plan space has no admissible nested loop of theirs
    pub nest-none : ((o i : Plan) → IsRight c q a o → IsRight c q b i → IsBuilt c q (nest o i) → ¬ IsAdmissible c q (nest o i)) → IsNestServed c q t k l
    nest-none none o i eo ei built admissible = absurd (none o i (right-at k a o at eo) (right-at l b i at' ei) built admissible)

    module _ (e : Entry) (says : (o i : Plan) → IsRight c q a o → IsRight c q b i → IsRight c q e (nest o i)) where
      pub nest-beaten : IsBeaten q.window t.entries e → IsNestServed c q t k l
      nest-beaten beaten o i eo ei built admissible = beaten-dominated c q t right e (nest o i) (says o i (right-at k a o at eo) (right-at l b i at' ei)) beaten

      pub nest-open : (x : Uncovered) → IsUnbeaten q.window t.entries e → x.startup ≡ startup_kept q.window e.startup → x.cost ≡ e.cost → x.rows ≡ e.rows → IsOpen c q t (plain.Nest (suc k) (suc l)) x
      nest-open x unbeaten s f g =
          let outer = right k a at in
          let inner = right l b at' in
          let o = outer.plan in
          let i = inner.plan in
          let r = says o i (record { has = outer.has; numbers = outer.numbers }) (record { has = inner.has; numbers = inner.numbers }) in
          record {
            plan = nest o i;
            stands = ap₂ (join_by nest) outer.unfolds inner.unfolds;
            candidate = record {
              built = r.has.plan.built;
              admissible = r.has.admissible;
              made = inr (record { number = suc k; unfolds = outer.unfolds }, record { number = suc l; unfolds = inner.unfolds });
            };
            none = unbeaten-none c q t right e (nest o i) r unbeaten;
            startup_is = s ∙ kept q.window e.startup (cost c q (nest o i)).startup r.numbers.startup;
            total_is = f ∙ r.numbers.total;
            rows_is = g ∙ r.numbers.rows;
          }

    -- the plan space has no admissible merge of theirs by a list
    module _ (keys : Keys) (sa sb : Bool) where
      abbrev merged : Plan → Plan → Plan
      merged o i = merge keys (sorted_if sa keys o) (sorted_if sb keys i)

      pub merge-none : ((o i : Plan) → IsRight c q a o → IsRight c q b i → IsBuilt c q (merged o i) → ¬ IsAdmissible c q (merged o i)) → IsMergeServed c q t keys sa sb k l
      merge-none none o i eo ei built admissible = absurd (none o i (right-at k a o at eo) (right-at l b i at' ei) built admissible)

      module _ (e : Entry) (says : (o i : Plan) → IsRight c q a o → IsRight c q b i → IsRight c q e (merged o i)) where
        pub merge-beaten : IsBeaten q.window t.entries e → IsMergeServed c q t keys sa sb k l
        merge-beaten beaten o i eo ei built admissible = beaten-dominated c q t right e (merged o i) (says o i (right-at k a o at eo) (right-at l b i at' ei)) beaten

        pub merge-open : (x : Uncovered) → IsUnbeaten q.window t.entries e → x.startup ≡ startup_kept q.window e.startup → x.cost ≡ e.cost → x.rows ≡ e.rows → IsMergeOpen c q t keys sa sb k l x
        merge-open x unbeaten s f g node stands =
            let outer = right k a at in
            let inner = right l b at' in
            let o = outer.plan in
            let i = inner.plan in
            let r = says o i (record { has = outer.has; numbers = outer.numbers }) (record { has = inner.has; numbers = inner.numbers }) in
            record {
              plan = merged o i;
              stands = stands o i outer.unfolds inner.unfolds;
              candidate = record {
                built = r.has.plan.built;
                admissible = r.has.admissible;
                made = inr (side-kept sa keys o k outer.has.plan.plain outer.unfolds, side-kept sb keys i l inner.has.plan.plain inner.unfolds);
              };
              none = unbeaten-none c q t right e (merged o i) r unbeaten;
              startup_is = s ∙ kept q.window e.startup (cost c q (merged o i)).startup r.numbers.startup;
              total_is = f ∙ r.numbers.total;
              rows_is = g ∙ r.numbers.rows;
            }

  -- all places are all entries
  nests-served : ((k l : ℕ) → k < length t.entries → l < length t.entries → IsNestServed c q t k l) → AreNestsServed c q t
  nests-served h o i ko ki =
      let x = numbered q t ko.number o ko.unfolds in
      let y = numbered q t ki.number i ki.unfolds in
      h x.place y.place (slice_get_within t.entries x.place x.entry x.stands) (slice_get_within t.entries y.place y.entry y.stands) o i
      (ap (unfold_at q t) (sym x.number) ∙ ko.unfolds) (ap (unfold_at q t) (sym y.number) ∙ ki.unfolds)

  -- a side of a merge is an entry's plan, as it stands or sorted by the merge's list
  record IsSideBy (keys : Keys) (p : Plan) : Type 0 where
    sorted : Bool
    input : Plan
    kept : IsEntryPlan q t input
    is : sorted_if sorted keys input ≡ p

  as-stands : (keys : Keys) (p : Plan) → IsEntryPlan q t p → IsSideBy keys p
  as-stands keys p h = record { sorted = false; input = p; kept = h; is = refl }

  side-by : (keys : Keys) (p : Plan) → IsKeptSide c q (IsEntryPlan q t) p → HasKeys c q p keys → IsSideBy keys p
  side-by keys (seq r) h has = as-stands keys _ h
  side-by keys (index r i backward p) h has = as-stands keys _ h
  side-by keys (index_only r i backward p) h has = as-stands keys _ h
  side-by keys (bitmap r p bits) h has = as-stands keys _ h
  side-by keys (sort ks input) h has = record { sorted = true; input = input; kept = h; is = ap (λ (x : Keys). sort x input) (sym has) }
  side-by keys (nest o i) h has = as-stands keys _ h
  side-by keys (merge ks o i) h has = as-stands keys _ h

  merges-served : ((k l : ℕ) → k < length t.entries → l < length t.entries → (keys : Keys) → IsListServed c q t keys k l) → AreMergesServed c q t
  merges-served h keys o i ko ki built =
      let so = side-by keys o ko built.2.outer_keys in
      let si = side-by keys i ki built.2.inner_keys in
      let x = numbered q t so.kept.number so.input so.kept.unfolds in
      let y = numbered q t si.kept.number si.input si.kept.unfolds in
      let served : IsServed c q t (merge keys (sorted_if so.sorted keys so.input) (sorted_if si.sorted keys si.input)) =
      h x.place y.place (slice_get_within t.entries x.place x.entry x.stands) (slice_get_within t.entries y.place y.entry y.stands) keys so.sorted si.sorted so.input si.input
      (ap (unfold_at q t) (sym x.number) ∙ so.kept.unfolds) (ap (unfold_at q t) (sym y.number) ∙ si.kept.unfolds) in
      subst₂ (λ (u v : Plan). IsServed c q t (merge keys u v)) so.is si.is served built

  -- nested loops and merges are all joins
  joined : AreNestsServed c q t → AreMergesServed c q t → AreJoinsServed c q t
  joined nests merges (seq r) h = absurd h
  joined nests merges (index r i backward p) h = absurd h
  joined nests merges (index_only r i backward p) h = absurd h
  joined nests merges (bitmap r p bits) h = absurd h
  joined nests merges (sort ks input) h = absurd h
  joined nests merges (nest o i) h = nests o i h.0 h.1
  joined nests merges (merge ks o i) h = merges ks o i h.0 h.1

  module _ (all : RelSet) (is_all : IsSameSet (has all.0) (all_of_query q)) where
    -- the relations of an entry are the query's
    set-most : (k : ℕ) (e : Entry) → slice_get t.entries k ≡ Some e → e.set.0 ≤ all.0
    set-most k e at =
        let r = has-right-at k e at in
        within-most e.set.0 all.0 (λ n is. is_all n ∙ lt-ltb n (width q) (relation-below c q e r.plan r.right n is))

    -- the entries of all pairs of sets are all pairs of entries
    module _ (each : (x y : ℕ) → x ≤ all.0 → y ≤ all.0 → AreJoinsOf c q t x y) where
      of-sets : (k l : ℕ) (a b : Entry) → slice_get t.entries k ≡ Some a → slice_get t.entries l ≡ Some b → AreJoinsOf c q t a.set.0 b.set.0
      of-sets k l a b at at' = each a.set.0 b.set.0 (set-most k a at) (set-most l b at')

      pub joins-served : AreJoinsServed c q t
      joins-served = joined
          (nests-served (λ k l lt lt'.
          let a = entry-at t.entries k lt in
          let b = entry-at t.entries l lt' in
          (of-sets k l a.0 b.0 a.1 b.1).nests k l (record { entry = a.0; stands = a.1; same = refl }) (record { entry = b.0; stands = b.1; same = refl })))
          (merges-served (λ k l lt lt' keys.
          let a = entry-at t.entries k lt in
          let b = entry-at t.entries l lt' in
          (of-sets k l a.0 b.0 a.1 b.1).merges keys k l (record { entry = a.0; stands = a.1; same = refl }) (record { entry = b.0; stands = b.1; same = refl })))

  -- sets with a relation in common have no joins
  pub none-meeting : (x y : ℕ) → Meets x y → AreJoinsOf c q t x y
  none-meeting x y meets = record {
    nests = λ k l a b o i eo ei built.
        let may = built-nest c q a.entry b.entry o i (right-at k a.entry o a.stands eo) (right-at l b.entry i b.stands ei) built in
        absurd (apart-not x y (subst₂ (λ (m n : ℕ). AreApart (has m) (has n)) a.same b.same may.apart) meets);
    merges = λ keys k l a b sa sb o i eo ei built.
        let may = built-merge c q keys a.entry b.entry sa sb o i (right-at k a.entry o a.stands eo) (right-at l b.entry i b.stands ei) built in
        absurd (apart-not x y (subst₂ (λ (m n : ℕ). AreApart (has m) (has n)) a.same b.same may.apart) meets);
  }

  -- a merge is a join
  merge-joins : (keys : Keys) (x y : ℕ) (node : Plain) → IsMergeBy t keys x y node → IsJoinOfSets t x y node
  merge-joins keys x y (plain.Merge list outer inner) h = h.1
  merge-joins keys x y (plain.Seq r) h = absurd h
  merge-joins keys x y (plain.Index r i backward only param) h = absurd h
  merge-joins keys x y (plain.Bitmap r param elements arms) h = absurd h
  merge-joins keys x y (plain.Nest outer inner) h = absurd h

  pub pair-served : (x y : ℕ) → AreNestsOf c q t x y → (r : Option (Plain × Uncovered)) → MatchOption r (AreMergesOf c q t x y) (λ u. IsMergeOfSets t x y u.0 × IsOpen c q t u.0 u.1) → MatchOption r (AreJoinsOf c q t x y) (λ u. IsJoinOfSets t x y u.0 × IsOpen c q t u.0 u.1)
  pair-served x y nests None merges = record { nests = nests; merges = merges }
  pair-served x y nests (Some u) h = (merge-joins h.0.0 x y u.0 h.0.1, h.1)

  -- the entry that was read is of no other set than its own
  pub other-than : (x k : ℕ) (a : Entry) → slice_get t.entries k ≡ Some a → a.set.0 ≢ x → ¬ IsOf t.entries x k
  other-than x k a at differ is = differ (ap (λ (e : Entry). e.set.0) (same_Some a is.entry (sym at ∙ is.stands)) ∙ is.same)

  pub own-set : (x k : ℕ) (a : Entry) → slice_get t.entries k ≡ Some a → IsOf t.entries x k → a.set.0 ≡ x
  own-set x k a at is = ap (λ (e : Entry). e.set.0) (same_Some a is.entry (sym at ∙ is.stands)) ∙ is.same

  -- an entry that may be no outer side of a merge
  pub none-led : (k : ℕ) (a : Entry) (keys : Keys) (sa : Bool) → slice_get t.entries k ≡ Some a → ((b : Entry) (sb : Bool) → ¬ MayMerge c q keys a b sa sb) → (l : ℕ) → IsMergeServed c q t keys sa false k l
  none-led k a keys sa at none l o i eo ei built =
      let y = numbered q t (suc l) i ei in
      absurd (none y.entry false (built-merge c q keys a y.entry sa false o i (right-at k a o at eo) (right-at y.place y.entry i y.stands (ap (unfold_at q t) (sym y.number) ∙ ei)) built))

-- the data for a merge of two entries names them
pub merge-named : (t : Certificate) (list : List ClassNo) (at : ℕ × ℕ) (x y : ℕ) (node : Plain) → IsMergeNode list at node → IsOf t.entries x at.0 → IsOf t.entries y at.1 → IsMergeBy t (class_numbers list) x y node
merge-named t list at x y (plain.Merge keys outer inner) h a b = (h.0, (record { place = at.0; is = h.1; of = a }, record { place = at.1; is = h.2; of = b }))
merge-named t list at x y (plain.Seq r) h a b = absurd h
merge-named t list at x y (plain.Index r i backward only param) h a b = absurd h
merge-named t list at x y (plain.Bitmap r param elements arms) h a b = absurd h
merge-named t list at x y (plain.Nest outer inner) h a b = absurd h

-- what is said of the entries as they were read
pub beaten-read : (w : Option Window) (t : Certificate) (xs items : List Entered) (e : Entry) → t.entries ≡ map entry xs → items ≡ xs → IsBeaten w (map entry items) e → IsBeaten w t.entries e
beaten-read w t xs items e es same h = subst (λ (ys : List Entry). IsBeaten w ys e) (ap (map entry) same ∙ sym es) h

pub unbeaten-read : (w : Option Window) (t : Certificate) (xs items : List Entered) (e : Entry) → t.entries ≡ map entry xs → items ≡ xs → IsUnbeaten w (map entry items) e → IsUnbeaten w t.entries e
unbeaten-read w t xs items e es same h = subst (λ (ys : List Entry). IsUnbeaten w ys e) (ap (map entry) same ∙ sym es) h
