-- Scans of a relation, one after the other.
use Rattle.std.proofs.Common.{◌≡◌, ◌<◌, ◌≤◌, ◌+◌, ℕ, Bool, true, false, List, [], ◌∷◌, nat_eq, sym, ap, subst, arith, ⊎_elim, ◌⊎◌, inl, inr, true≢false}
use Rattle.std.specs.Prelude.{All, MatchOption, Option, Some, None}
use Rattle.std.proofs.lemmas.Bool.{cases_lt, eqb-true, or_cases}
use Rattle.std.proofs.lemmas.List.Elements.{All-head, All-tail}
use Rattle.pg_base.specs.Sets.{has}
use Rattle.pg_base.specs.declared.numbers.IndexNo.{IndexNo}
use Rattle.pg_base.specs.declared.numbers.RelNo.{RelNo}
use Rattle.pg_base.specs.declared.rel_set.RelSet.{RelSet}
use Rattle.catalog.specs.Contents.{Contents, indexes_of}
use Rattle.sql_query.specs.Queries.{Query, all_of_query, width}
use Rattle.plan_tree.specs.Bitmaps.{IsIndexOn, table_of_relation}
use Rattle.plan_tree.specs.Plans.{seq, index, index_only, bitmap, sort, nest, merge}
use Rattle.plan_tree.specs.work.Reads.{IsOverTables}
use Rattle.plan_tree.specs.Space.{IsBuilt, IsSameSet}
use Rattle.plan_tree.proofs.ElementLemmas.{is-listed, listed-on}
use Rattle.plan_check.specs.Certificates.{Certificate}
use Rattle.plan_check.specs.declared.verdict.Plain.{Plain}
use Rattle.join_cover.specs.work.Serving.{IsServed}
use Rattle.join_cover.specs.declared.uncovered.Uncovered.{Uncovered}
use Rattle.scan_cover.specs.work.Scanning.{ArePlainScansServed, IsIndexServed, IsRelationServed, scan_by}
use Rattle.scan_cover.proofs.GivenLemmas.{index-most}

-- what all of a list have, each that is listed has
listed-has : (P : IndexNo → Type 0) (i : IndexNo) (xs : List IndexNo) → All P xs → is-listed i xs ≡ true → P i
listed-has P i [] all h = absurd (true≢false (sym h))
listed-has P i (x ∷ xs) all h = ⊎_elim here (listed-has P i xs (All-tail P x xs all)) (or_cases (nat_eq x.0 i.0) (is-listed i xs) h)
  where
    here : nat_eq x.0 i.0 ≡ true → P i
    here e = subst P (ap (λ (n : ℕ). let y : IndexNo = record { 0 = n } in y) (eqb-true x.0 i.0 e)) (All-head P x xs all)

module _ (c : Contents) (q : Query) (t : Certificate) where
  on-table : (r : RelNo) (p : RelSet) (i : IndexNo) (only backward : Bool) → IsBuilt c q (scan_by r p i only backward) → IsIndexOn c q r.0 i
  on-table r p i true backward h = h.scan.index
  on-table r p i false backward h = h.index

  -- the indexes of the table are all
  pub all-indexes : (r : RelNo) (p : RelSet) (xs : List IndexNo) → xs ≡ indexes_of c (table_of_relation q r.0) → All (IsIndexServed c q t r p) xs → (i : IndexNo) → IsIndexServed c q t r p i
  all-indexes r p xs same all i only backward built =
      listed-has (IsIndexServed c q t r p) i xs all (subst (λ (ys : List IndexNo). is-listed i ys ≡ true) (sym same) ((listed-on c q r.0 i).1 (on-table r p i only backward built))) only backward built

  -- a scan by an index, either way, index-only or not
  pub four-ways : (r : RelNo) (p : RelSet) (i : IndexNo) → IsServed c q t (index r i false p) → IsServed c q t (index r i true p) → IsServed c q t (index_only r i false p) →
      (last : Option (Plain × Uncovered)) (S : Plain × Uncovered → Type 0) → MatchOption last (IsServed c q t (index_only r i true p)) S → MatchOption last (IsIndexServed c q t r p i) S
  four-ways r p i a b d (Some x) S h = h
  four-ways r p i a b d None S h = by
    where
      by : IsIndexServed c q t r p i
      by false false = a
      by false true = b
      by true false = d
      by true true = h

  module _ (over : IsOverTables c q) (all : RelSet) (is_all : IsSameSet (has all.0) (all_of_query q)) where
    given-most : (r : RelNo) (p : RelSet) (i : IndexNo) (only backward : Bool) → IsBuilt c q (scan_by r p i only backward) → p.0 ≤ all.0
    given-most r p i true backward h = index-most c q over all is_all r i backward p h.scan
    given-most r p i false backward h = index-most c q over all is_all r i backward p h

    -- the sets up to that of all are all that scans are given
    pub relation-served : (r : RelNo) (n : ℕ) → all.0 < n → IsServed c q t (seq r) → ((m : ℕ) → m < n → (i : IndexNo) → IsIndexServed c q t r (record { 0 = m }) i) → IsRelationServed c q t r
    relation-served r n lt in_order each = record {
      in_order = in_order;
      by_index = λ p i only backward built.
          let le = given-most r p i only backward built in
          each p.0 (omega (arith, lt, le)) i only backward built;
    }

  -- the relations up to the width are all that plain scans read
  pub plain-served : (n : ℕ) → width q ≤ n → ((r : ℕ) → r < n → IsRelationServed c q t (record { 0 = r })) → ArePlainScansServed c q t
  plain-served n le each (seq r) scan plain built = (each r.0 (omega (arith, built, le))).in_order built
  plain-served n le each (index r i backward p) scan plain built = let lt = built.relation in (each r.0 (omega (arith, lt, le))).by_index p i false backward built
  plain-served n le each (index_only r i backward p) scan plain built = let lt = built.scan.relation in (each r.0 (omega (arith, lt, le))).by_index p i true backward built
  plain-served n le each (bitmap r p bits) scan plain built = absurd (true≢false (sym plain))
  plain-served n le each (sort ks input) scan plain built = absurd (true≢false (sym scan))
  plain-served n le each (nest o i) scan plain built = absurd (true≢false (sym scan))
  plain-served n le each (merge ks o i) scan plain built = absurd (true≢false (sym scan))
