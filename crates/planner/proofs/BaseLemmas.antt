-- The scans of a relation with a parameterisation are all of its paths, and none has a parameterisation that its clauses do
-- not name.
use Rattle.std.proofs.Common.{◌≡◌, ◌<◌, ◌≤◌, ◌⊎◌, bit_and, nat_eq, subst, ℕ, Bool, true, false, not, ◌&&◌, nat_lt, List, length, inl, inr, refl, sym, ◌∙◌, ap, subst₂}
use Rattle.std.specs.Prelude.{All, Contains}
use Rattle.std.proofs.lemmas.Bool.{and_parts, lt-ltb, true≢false}
use Rattle.std.proofs.lemmas.Nat.{and_le_r}
use Rattle.std.specs.List.{list_any}
use Rattle.pg_base.proofs.SetLaws.{has-and, same_set}
use Rattle.pg_expr.specs.Columns.{names_rel}
use Rattle.plan_tree.specs.work.Reads.{IsOverTables}
use Rattle.std.proofs.lemmas.List.Elements.{All-contains, All-weaker}
use Rattle.pg_base.specs.Sets.{has}
use Rattle.pg_base.specs.declared.numbers.IndexNo.{IndexNo}
use Rattle.pg_base.specs.declared.numbers.RelNo.{RelNo}
use Rattle.pg_base.specs.declared.rel_set.RelSet.{RelSet}
use Rattle.catalog.specs.Contents.{Contents}
use Rattle.eq_classes.specs.Clauses.{one}
use Rattle.eq_classes.specs.Listing.{clause_at}
use Rattle.eq_classes.specs.Parts.{is_param}
use Rattle.index_match.specs.Conditions.{index_conditions}
use Rattle.index_match.specs.Numbered.{has_number}
use Rattle.index_match.proofs.PartLemmas.{conditions_local}
use Rattle.path_cost.specs.Estimates.{conditions_from}
use Rattle.sql_query.specs.Queries.{Query, all_of_query, width}
use Rattle.plan_tree.specs.Bitmaps.{uses}
use Rattle.plan_tree.specs.Plans.{Plan, seq, index, index_only, bitmap, sort, nest, merge, BitTree}
use Rattle.plan_tree.specs.Space.{IsBitmapScan, IsIndexScan, IsPlanOf, IsSameSet, others_named}
use Rattle.plan_tree.specs.Least.{IsAdmissible}
use Rattle.plan_tree.specs.work.Paths.{Path}
use Rattle.plan_tree.specs.work.Fronts.{AreDominated, AreOldOrOffers, HasDominating, IsOffer, StayDominated, is_bitmap, is_no_bitmap}
use Rattle.plan_tree.proofs.ConditionLemmas.{conditions-listed}
use Rattle.scan_paths.proofs.SpaceLemmas.{no-join, same-param, same-relation}
use Rattle.planner.specs.work.Bases.{AreAllOf, is_plan}
use Rattle.planner.proofs.GivenLemmas.{named-given, used-local}
use Rattle.plan_tree.proofs.GivenLemmas.{clauses-below as below}
use Rattle.pg_base.proofs.BoolLemmas.{and-within}
use Rattle.plan_tree.proofs.SetLemmas.{within-most}

module _ (c : Contents) (q : Query) (r : RelNo) (p : RelSet) where
  module _ (given : ℕ → Bool) (are : (n : ℕ) → given n ≡ nat_lt n (length q.classes.clauses) && is_param r.0 (has p.0) (clause_at q.classes.clauses n)) where
    abbrev Named : ℕ → Type 0
    Named k = others_named r.0 (conditions_from 0 given q.classes.clauses) k ≡ true

    index-named : (s : RelNo) (i : IndexNo) (backward : Bool) (o : RelSet) → r ≡ s → p ≡ o → IsIndexScan c q s i backward o → (k : ℕ) → has p.0 k ≡ true → Named k
    index-named s i backward o same of scan k is =
        let here = subst₂ (λ x y. IsIndexScan c q x i backward y) (sym same) (sym of) scan in
        let chosen = has_number (index_conditions c q.classes i r.0 (has p.0)) in
        named-given c q r p chosen given are (conditions_local c q.classes i r.0 (has p.0)) k
        (sym (ap (λ es. others_named r.0 es k) (conditions-listed c q.classes i r.0 (has p.0))) ∙ sym (here.named k) ∙ is)

    bitmap-named : (s : RelNo) (o : RelSet) (bits : BitTree) → r ≡ s → p ≡ o → IsBitmapScan c q s o bits → (k : ℕ) → has p.0 k ≡ true → Named k
    bitmap-named s o bits same of scan k is =
        let here = subst₂ (λ x y. IsBitmapScan c q x y bits) (sym same) (sym of) scan in
        named-given c q r p (uses c q r.0 (has p.0) bits) given are (used-local c q r p bits here.tree) k (sym (here.named k) ∙ is)

    -- a relation of the parameterisation of a scan is named
    pub scan-named : (t : Plan) → IsPlanOf c q (one r.0) (has p.0) t → (k : ℕ) → has p.0 k ≡ true → Named k
    scan-named (seq s) of k is = absurd (true≢false (sym is ∙ sym (of.param_is k)))
    scan-named (index s i backward o) of k is = index-named s i backward o (same-relation r s of.set_is) (same-param s p o of.param_is) of.built k is
    scan-named (index_only s i backward o) of k is = index-named s i backward o (same-relation r s of.set_is) (same-param s p o of.param_is) of.built.scan k is
    scan-named (bitmap s o bits) of k is = bitmap-named s o bits (same-relation r s of.set_is) (same-param s p o of.param_is) of.built k is
    scan-named (sort keys input) of k is = absurd (true≢false of.plain)
    scan-named (nest outer inner) of k is = absurd (no-join outer inner r.0 of.built.2.sides of.set_is)
    scan-named (merge keys outer inner) of k is = absurd (no-join outer inner r.0 of.built.2.sides of.set_is)

  module _ (over : IsOverTables c q) where
    named-below : (chosen : ℕ → Bool) (k : ℕ) → others_named r.0 (conditions_from 0 chosen q.classes.clauses) k ≡ true → k < width q
    named-below chosen k h = below c q k chosen 0 q.classes.clauses over.clauses (and_parts (not (nat_eq k r.0)) (list_any (names_rel k) (conditions_from 0 chosen q.classes.clauses)) h).1

    index-below : (s : RelNo) (i : IndexNo) (backward : Bool) (o : RelSet) → r ≡ s → p ≡ o → IsIndexScan c q s i backward o → (k : ℕ) → has p.0 k ≡ true → k < width q
    index-below s i backward o same of scan k is =
        let here = subst₂ (λ x y. IsIndexScan c q x i backward y) (sym same) (sym of) scan in
        named-below (has_number (index_conditions c q.classes i r.0 (has p.0))) k
        (sym (ap (λ es. others_named r.0 es k) (conditions-listed c q.classes i r.0 (has p.0))) ∙ sym (here.named k) ∙ is)

    bitmap-below : (s : RelNo) (o : RelSet) (bits : BitTree) → r ≡ s → p ≡ o → IsBitmapScan c q s o bits → (k : ℕ) → has p.0 k ≡ true → k < width q
    bitmap-below s o bits same of scan k is =
        let here = subst₂ (λ x y. IsBitmapScan c q x y bits) (sym same) (sym of) scan in
        named-below (uses c q r.0 (has p.0) bits) k (sym (here.named k) ∙ is)

    -- a relation of the parameterisation of a scan is one of the query
    pub scan-below : (t : Plan) → IsPlanOf c q (one r.0) (has p.0) t → (k : ℕ) → has p.0 k ≡ true → k < width q
    scan-below (seq s) of k is = absurd (true≢false (sym is ∙ sym (of.param_is k)))
    scan-below (index s i backward o) of k is = index-below s i backward o (same-relation r s of.set_is) (same-param s p o of.param_is) of.built k is
    scan-below (index_only s i backward o) of k is = index-below s i backward o (same-relation r s of.set_is) (same-param s p o of.param_is) of.built.scan k is
    scan-below (bitmap s o bits) of k is = bitmap-below s o bits (same-relation r s of.set_is) (same-param s p o of.param_is) of.built k is
    scan-below (sort keys input) of k is = absurd (true≢false of.plain)
    scan-below (nest outer inner) of k is = absurd (no-join outer inner r.0 of.built.2.sides of.set_is)
    scan-below (merge keys outer inner) of k is = absurd (no-join outer inner r.0 of.built.2.sides of.set_is)

    -- the number of a scan's parameterisation is no greater than that of the set of all relations
    pub scan-most : (all : RelSet) → IsSameSet (has all.0) (all_of_query q) → (t : Plan) → IsPlanOf c q (one r.0) (has p.0) t → p.0 ≤ all.0
    scan-most all is_all t of = within-most p.0 all.0 (λ k is. is_all k ∙ lt-ltb k (width q) (scan-below t of k is))

  offer-of : (test : Plan → Bool) (x : Path) → IsOffer c q test (one r.0) (has p.0) x → IsOffer c q is_plan (one r.0) (has p.0) x
  offer-of test x h = record { plan = h.plan; admissible = h.admissible; passes = refl; is_path = h.is_path }

  all-offers : (test : Plan → Bool) (old new : List Path) → All (IsOffer c q is_plan (one r.0) (has p.0)) old → AreOldOrOffers c q test (one r.0) (has p.0) old new → All (IsOffer c q is_plan (one r.0) (has p.0)) new
  all-offers test old new before kept = All-weaker (λ x. Contains old x ⊎ IsOffer c q test (one r.0) (has p.0) x) (IsOffer c q is_plan (one r.0) (has p.0)) each new kept
    where
      each : (x : Path) → Contains old x ⊎ IsOffer c q test (one r.0) (has p.0) x → IsOffer c q is_plan (one r.0) (has p.0) x
      each x (inl h) = All-contains (IsOffer c q is_plan (one r.0) (has p.0)) old x before h
      each x (inr h) = offer-of test x h

  -- after the scans but those by a bitmap, and then after those
  pub all-paths : (old scanned new : List Path) → All (IsOffer c q is_plan (one r.0) (has p.0)) old → AreOldOrOffers c q is_no_bitmap (one r.0) (has p.0) old scanned → AreDominated c q is_no_bitmap (one r.0) (has p.0) scanned →
      AreOldOrOffers c q is_bitmap (one r.0) (has p.0) scanned new → AreDominated c q is_bitmap (one r.0) (has p.0) new → StayDominated c q scanned new → AreAllOf c q (one r.0) (has p.0) new
  all-paths old scanned new start kept plain kept' bits still = record {
    offers = all-offers is_bitmap scanned new (all-offers is_no_bitmap old scanned start kept) kept';
    dominated = λ t h admissible u. by-kind t h admissible (is_bitmap t) refl;
  }
    where
      by-kind : (t : Plan) → IsPlanOf c q (one r.0) (has p.0) t → IsAdmissible c q t → (b : Bool) → is_bitmap t ≡ b → HasDominating c q new t
      by-kind t h admissible true e = bits t h admissible e
      by-kind t h admissible false e = still t (plain t h admissible (ap not e))
