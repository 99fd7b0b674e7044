-- The whole search: the gathered paths are all of them, and their certificate is a table with a text.
use Rattle.std.proofs.Common.{◌≡◌, ◌<◌, ◌≤◌, inl, inr, ℕ, Bool, true, false, ◌||◌, List, [], ◌∷◌, ◌++◌, get_or, length, refl, sym, ◌∙◌, subst, subst₂, arith, true≢false, Bor}
use Rattle.std.specs.Prelude.{All, Contains, Option, None, Some}
use Rattle.std.specs.List.{AllByRecursion}
use Rattle.std.specs.List.Sorted.{IsPermutation}
use Rattle.std.proofs.lemmas.Bool.{cases_lt, or_parts, or_from}
use Rattle.std.proofs.lemmas.List.Elements.{All-contains, All-from_recursion, recursion_from_All, All-map, All-weaker, All-contains_itself}
use Rattle.std.proofs.lemmas.List.Sorted.{All-permutation, Contains-permutation}
use Rattle.std.proofs.lemmas.Map.Keys.{IsDistinct-IsPermutation, IsDistinct-from_apart, apart_from_distinct}
use Rattle.pg_base.specs.Sets.{has}
use Rattle.pg_base.specs.declared.numbers.RelNo.{RelNo}
use Rattle.pg_base.specs.declared.rel_set.RelSet.{RelSet}
use Rattle.pg_base.proofs.SetLaws.{none-zero}
use Rattle.catalog.specs.Contents.{Contents, IsLawful}
use Rattle.eq_classes.specs.Clauses.{one}
use Rattle.sql_query.specs.Queries.{Query, all_of_query, width}
use Rattle.sql_query.specs.WellBound.{IsWellBound}
use Rattle.sql_query.specs.declared.window.Window.{Window}
use Rattle.plan_tree.specs.Paths.{startup_kept}
use Rattle.plan_tree.specs.work.Paths.{Path, is_at_most}
use Rattle.plan_tree.specs.Plans.{Plan, seq, index, index_only, bitmap, sort, nest, merge, set_of}
use Rattle.plan_tree.specs.work.Reads.{IsOverTables, ReadsBelow}
use Rattle.plan_tree.specs.Space.{IsBuilt, IsPlanOf, IsSameSet}
use Rattle.plan_tree.specs.Least.{IsBestPlan}
use Rattle.plan_tree.specs.work.Views.{plan}
use Rattle.plan_tree.specs.declared.path.Path.{Path as Costed}
use Rattle.plan_tree.proofs.BoundLemmas.{lawful-rows}
use Rattle.plan_tree.proofs.EstimateLemmas.{below-more}
use Rattle.plan_tree.proofs.FrontLemmas.{contains-mapped}
use Rattle.plan_tree.proofs.PathLemmas.{built-below}
use Rattle.plan_laws.proofs.WithinLemmas.{built-within}
use Rattle.join_search.specs.work.Joins.{IsPathAt}
use Rattle.join_search.specs.work.Tables.{Fronts}
use Rattle.certificate_laws.specs.planner_BaseLemmas.{scan-most}
use Rattle.plan_tree.proofs.SetLemmas.{within-most}
use Rattle.plan_check.specs.Certificates.{Certificate, Entry, finish_at}
use Rattle.plan_check.specs.Limit.{MOST_ENTRIES}
use Rattle.plan_check.specs.Tables.{IsPlanTable}
use Rattle.certificate_laws.specs.work.Kept.{AreEntriesOf, AreOf}
use Rattle.certificate_laws.proofs.KeptLemmas.{made-table}
use Rattle.certificate_laws.specs.certificate_text_HasText.{HasText}
use Rattle.certificate_laws.specs.work.Made.{tree_of}
use Rattle.certificate_laws.specs.work.Searched.{AreOfFronts, IsSearched}
use Rattle.certificate_laws.proofs.FrontsLemmas.{at-place, is-path, paths-kept}
use Rattle.certificate_laws.specs.work.Arms.{HasArmsInOrs}
use Rattle.certificate_laws.proofs.EntryLemmas.{has-text}
use Rattle.planned_table.specs.work.Gathering.{AreGathered, AreUnrelated, IsBelow, StandAtTheirs, shown}
use Rattle.planned_table.specs.work.Numbering.{trees}
use Rattle.planned_table.proofs.MakeLemmas.{one as seen, trees-are}

module _ (c : Contents) (q : Query) (over : IsOverTables c q) (all : RelSet) (is_all : IsSameSet (has all.0) (all_of_query q)) (fronts : Fronts) (searched : IsSearched c q fronts) where
  pub stand-theirs : StandAtTheirs fronts
  stand-theirs s p = All-weaker (IsPathAt c q s p) (λ (x : Path). (x.set ≡ s) × (x.param ≡ p)) (λ x at. (at.set, at.param)) (fronts s p) (searched.placed.paths s p)

  -- the set of a plan of the space is within that of all relations
  set-most : (s : RelSet) (t : Plan) → IsBuilt c q t → IsSameSet (set_of t) (has s.0) → s.0 ≤ all.0
  set-most s t built same = within-most s.0 all.0 (λ k is. is_all k ∙ built-within c q t built k (same k ∙ is))

  -- a scan that is given rows is at a set of one relation
  scan-place : (r : RelNo) (s p : RelSet) (t : Plan) → 1 ≤ p.0 → r.0 < width q → IsSameSet (one r.0) (has s.0) → IsPlanOf c q (one r.0) (has p.0) t → IsBelow all.0 (width q) s p
  scan-place r s p t some lt same of = inr (some, scan-most c q r p over all is_all t of, r.0, lt, λ k. sym (same k))

  no-param : (p : RelSet) → 1 ≤ p.0 → ((k : ℕ) → has p.0 k ≡ false) → ⊥
  no-param p some none = let zero-is = none-zero p.0 none in omega (arith, some, zero-is)

  given-place : (s p : RelSet) (t : Plan) → 1 ≤ p.0 → IsPlanOf c q (has s.0) (has p.0) t → IsBelow all.0 (width q) s p
  given-place s p (seq r) some of = absurd (no-param p some (λ k. sym (of.param_is k)))
  given-place s p (index r i backward o) some of =
      scan-place r s p (index r i backward o) some of.built.relation of.set_is (record { built = of.built; plain = refl; set_is = λ k. refl; param_is = of.param_is })
  given-place s p (index_only r i backward o) some of =
      scan-place r s p (index_only r i backward o) some of.built.scan.relation of.set_is (record { built = of.built; plain = refl; set_is = λ k. refl; param_is = of.param_is })
  given-place s p (bitmap r o bits) some of =
      scan-place r s p (bitmap r o bits) some of.built.relation of.set_is (record { built = of.built; plain = refl; set_is = λ k. refl; param_is = of.param_is })
  given-place s p (sort keys input) some of = absurd (true≢false of.plain)
  given-place s p (nest outer inner) some of = absurd (no-param p some (λ k. sym (of.param_is k)))
  given-place s p (merge keys outer inner) some of = absurd (no-param p some (λ k. sym (of.param_is k)))

  -- where a path stands was gathered
  place-of : (s p : RelSet) (x : Path) → IsPathAt c q s p x → IsBelow all.0 (width q) s p
  place-of s p x at =
      subst₂ (λ (t o : RelSet). IsBelow all.0 (width q) t o) at.set at.param (elim (cases_lt x.param.0 1) [
        | inl lt ↦ let most = set-most x.set x.tree at.is_path.plan.built at.is_path.plan.set_is in inl (omega (arith, most), omega (arith, lt))
        | inr some ↦ given-place x.set x.param x.tree some at.is_path.plan
      ])

  pub all-gathered : (paths : List Path) → AreGathered (IsBelow all.0 (width q)) fronts paths → AreOfFronts fronts paths
  all-gathered paths h = record {
    from = All-weaker (λ (x : Path). IsBelow all.0 (width q) x.set x.param × Contains (fronts x.set x.param) x) (λ x. Contains (fronts x.set x.param) x) (λ x g. g.1) paths h.from;
    all = λ s p. All-weaker (Contains (fronts s p)) (Contains paths) (each s p) (fronts s p) (All-contains_itself (fronts s p));
    apart = h.apart;
  }
    where
      each : (s p : RelSet) (x : Path) → Contains (fronts s p) x → Contains paths x
      each s p x there = All-contains (Contains paths) (fronts s p) x (h.all s p (place-of s p x (at-place c q fronts searched s p x there))) there

  -- each path of the list reads relations of a set
  pub below-listed : (xs : List (Bor Costed)) → AreOfFronts fronts (shown xs) → All (ReadsBelow 16) (trees xs)
  below-listed xs are =
      All-map (ReadsBelow 16) (λ (x : Bor Costed). plan x.now.plan) xs (All-weaker (Contains xs) (λ (x : Bor Costed). ReadsBelow 16 (plan x.now.plan)) each xs (All-contains_itself xs))
    where
      each : (x : Bor Costed) → Contains xs x → ReadsBelow 16 (plan x.now.plan)
      each x there =
          let at = is-path c q fronts searched (shown xs) are (seen x) (contains-mapped seen xs x there) in
          below-more (width q) 16 (plan x.now.plan) over.few (built-below c q (plan x.now.plan) at.is_path.plan.built)

  -- a path of a front has its plan there
  pub tree-there : (xs : List (Bor Costed)) → AreOfFronts fronts (shown xs) → (s p : RelSet) (x : Path) → Contains (fronts s p) x → Contains (trees xs) x.tree
  tree-there xs are s p x there =
      subst (λ (ts : List Plan). Contains ts x.tree) (sym (trees-are xs)) (contains-mapped tree_of (shown xs) x (All-contains (Contains (shown xs)) (fronts s p) x (are.all s p) there))

-- one of two paths is at most the other
abbrev either : Path → Path → Bool
either x y = is_at_most x y || is_at_most y x

either-turns : (x y : Path) → either x y ≡ either y x
either-turns x y = turns (is_at_most x y) (is_at_most y x)
  where
    turns : (a b : Bool) → a || b ≡ b || a
    turns true true = refl
    turns true false = refl
    turns false true = refl
    turns false false = refl

unrelated-moved : (xs ys : List Path) → IsPermutation xs ys → AreUnrelated xs → AreUnrelated ys
unrelated-moved xs ys moved h i j d lt within =
    let distinct = IsDistinct-from_apart either xs (λ k l x low high. let r = h k l x low high in or_from (is_at_most (get_or xs k x) (get_or xs l x)) (is_at_most (get_or xs l x) (get_or xs k x)) r.0 r.1) in
    or_parts (is_at_most (get_or ys i d) (get_or ys j d)) (is_at_most (get_or ys j d) (get_or ys i d))
    (apart_from_distinct either ys i j d (IsDistinct-IsPermutation either either-turns xs ys moved distinct) lt within)

-- in another order they are the same paths
pub moved-paths : (fronts : Fronts) (xs ys : List Path) → IsPermutation xs ys → AreOfFronts fronts xs → AreOfFronts fronts ys
moved-paths fronts xs ys moved h = record {
  from = All-permutation (λ (x : Path). Contains (fronts x.set x.param) x) xs ys moved h.from;
  all = λ s p. All-weaker (Contains xs) (Contains ys) (λ x. Contains-permutation xs ys x moved) (fronts s p) (h.all s p);
  apart = unrelated-moved xs ys moved h.apart;
}

-- what the certificate of the gathered paths is
module _ (c : Contents) (q : Query) (lawful : IsLawful c) (bound : IsWellBound c q) (fronts : Fronts) (searched : IsSearched c q fronts) (xs : List (Bor Costed)) (are : AreOfFronts fronts (shown xs)) (t : Certificate) (of : AreOf q t (shown xs)) where
  pub table-of : (best : Plan) → finish_at q t t.best ≡ Some best → IsBestPlan c q best → IsPlanTable c q t
  table-of best is b =
      made-table c q t (shown xs) (paths-kept c q fronts searched (shown xs) are (lawful-rows c q lawful)) of best is b.finished b.admissible b.least

  -- without a window the paths have no startup
  kept-zero : (w : Option Window) (n m : ℕ) → w ≡ None → n ≡ startup_kept w m → n ≡ 0
  kept-zero None n m e h = h
  kept-zero (Some w) n m e h = cc

  no-startup : q.window ≡ None → All (λ (x : Path). x.startup ≡ 0) (shown xs)
  no-startup none = All-weaker (Contains (shown xs)) (λ (x : Path). x.startup ≡ 0)
      (λ x there. kept-zero q.window x.startup _ none (is-path c q fronts searched (shown xs) are x there).is_path.numbers.startup) (shown xs) (All-contains_itself (shown xs))

  entry-startups : (w : ℕ) (before : List (Option Plan)) (es : List Entry) (ys : List Path) → AreEntriesOf w before es ys → AllByRecursion (λ (x : Path). x.startup ≡ 0) ys → AllByRecursion (λ (e : Entry). e.startup ≡ 0) es
  entry-startups w before [] ys h g = tt
  entry-startups w before (e ∷ es) [] h g = absurd h
  entry-startups w before (e ∷ es) (y ∷ ys) h g = (h.0.startup ∙ g.0, entry-startups w (before ++ Some y.tree ∷ []) es ys h.1 g.1)

  pub text-of : (best : Plan) → finish_at q t t.best ≡ Some best → IsBestPlan c q best → length t.entries ≤ MOST_ENTRIES → HasArmsInOrs q → HasText c q t
  text-of best is b few arms =
      has-text c q bound lawful arms t (table-of best is b) few
      (λ none. All-from_recursion (λ (e : Entry). e.startup ≡ 0) t.entries (entry-startups (width q) [] t.entries (shown xs) of (recursion_from_All (λ (x : Path). x.startup ≡ 0) (shown xs) (no-startup none))))
