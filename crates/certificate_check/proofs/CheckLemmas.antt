-- What a certificate is that nothing was found against.
use Rattle.std.proofs.Common.{◌≡◌, ◌≤◌, true, false, List, map, refl, sym, ap, subst, ◌∙◌, inl, inr}
use Rattle.std.specs.Prelude.{MatchOption, Option, Some, None}
use Rattle.catalog.specs.Contents.{Contents}
use Rattle.pathkeys.specs.Keys.{Keys}
use Rattle.sql_query.specs.Queries.{Query}
use Rattle.sql_query.specs.Tuples.{Tuple}
use Rattle.sql_query.specs.WellBound.{IsWellBound}
use Rattle.sql_query.specs.Worlds.{IsWorld, World}
use Rattle.plan_laws.specs.Closed.{is_scan}
use Rattle.plan_tree.specs.Costs.{price}
use Rattle.plan_tree.specs.work.Costs.{HaveRows}
use Rattle.plan_tree.specs.Least.{IsAdmissible}
use Rattle.plan_tree.specs.Keys.{keys_of}
use Rattle.plan_tree.specs.Plans.{Plan, seq, index, index_only, bitmap, sort, nest, merge, is_sort, set_of}
use Rattle.plan_tree.specs.Run.{run}
use Rattle.plan_tree.specs.work.Sorted.{AreSorted}
use Rattle.plan_tree.specs.Space.{IsBuilt, IsFinished}
use Rattle.plan_check.specs.Certificates.{Certificate, Entry, finish_at}
use Rattle.plan_check.specs.Tables.{IsDominated, IsLeastAmong, IsOver, IsPlanTable}
use Rattle.plan_check.specs.work.Views.{entry}
use Rattle.plan_check.specs.declared.entry.Entry.{Entry as Entered}
use Rattle.certificate_laws.proofs.TableLemmas.{best-least, dominated}
use Rattle.plan_check.specs.work.Placing.{ArePlaced}
use Rattle.plan_check.specs.Reasons.{AreCovered, AreUndominated, HasBest}
use Rattle.plan_check.specs.Verdicts.{AreWhole, IsVerdict}
use Rattle.plan_check.specs.declared.places.SetPlaces.{SetPlaces}
use Rattle.plan_check.specs.declared.verdict.Plain.{Plain}
use Rattle.plan_check.specs.declared.verdict.Verdict.{Verdict}
use Rattle.plan_check.specs.declared.verdict.Verdict.TheVariants as verdicts
use Rattle.plan_check.proofs.ReasonLemmas.{table-from}
use Rattle.certificate_check.specs.work.Checked.{AreSortedByKeys}
use Rattle.scan_cover.specs.work.Trees.{AreAllBitmapsServed}
use Rattle.scan_cover.specs.join_cover_Serving.{AreJoinsServed, IsOpen, IsServed}
use Rattle.scan_cover.specs.join_cover_uncovered_Uncovered.{Uncovered}
use Rattle.scan_cover.specs.work.Scanning.{ArePlainScansServed}

some-same : (x y : Plan) → Some x ≡ Some y → x ≡ y
some-same x y e = cc

module _ (c : Contents) (q : Query) (t : Certificate) where
  scans-served : ArePlainScansServed c q t → AreAllBitmapsServed c q t → (p : Plan) → is_scan p ≡ true → IsServed c q t p
  scans-served plain bitmaps (seq r) e = plain (seq r) refl refl
  scans-served plain bitmaps (index r i backward p) e = plain (index r i backward p) refl refl
  scans-served plain bitmaps (index_only r i backward p) e = plain (index_only r i backward p) refl refl
  scans-served plain bitmaps (bitmap r p bits) e = bitmaps r p bits
  scans-served plain bitmaps (sort ks input) e = plain (sort ks input) e refl
  scans-served plain bitmaps (nest o i) e = plain (nest o i) e refl
  scans-served plain bitmaps (merge ks o i) e = plain (merge ks o i) e refl

  all-covered : ArePlainScansServed c q t → AreAllBitmapsServed c q t → AreJoinsServed c q t → AreCovered c q t
  all-covered plain bitmaps joins p k = elim k.made [
    | inl scan ↦ scans-served plain bitmaps p scan k.built k.admissible
    | inr sides ↦ joins p sides k.built k.admissible
  ]

  -- scans, those by a bitmap, and joins are all candidates
  pub covered : ArePlainScansServed c q t → AreAllBitmapsServed c q t → (r : Option (Plain × Uncovered)) (S : Plain × Uncovered → Type 0) → ((x : Plain × Uncovered) → S x → IsOpen c q t x.0 x.1) →
      MatchOption r (AreJoinsServed c q t) S → MatchOption r (AreCovered c q t) (λ x. IsOpen c q t x.0 x.1)
  covered plain bitmaps None S says joins = all-covered plain bitmaps joins
  covered plain bitmaps (Some x) S says h = says x h

  -- where the best plan is the least, the certificate is a table
  pub valid : AreWhole c q t → AreUndominated c q t → AreCovered c q t → ((best : HasBest c q t) → IsLeastAmong c q (IsOver c q t) best.plan) → IsPlanTable c q t
  valid whole apart covers least = table-from c q t whole.best whole.right apart covers (least whole.best)

  -- what a verdict says where it is that
  table-of : (v : Verdict) → v ≡ verdicts.Valid → IsVerdict c q t v → IsPlanTable c q t
  table-of v e h = subst (IsVerdict c q t) e h

  pub valid-dominated : HaveRows c q → (v : Verdict) → IsVerdict c q t v → v ≡ verdicts.Valid → (p : Plan) → IsBuilt c q p → is_sort p ≡ false → IsAdmissible c q p → IsDominated c q t p
  valid-dominated some v h e = dominated c q t (table-of v e h) some

  pub valid-best : HaveRows c q → (v : Verdict) → IsVerdict c q t v → v ≡ verdicts.Valid → (best : Plan) → finish_at q t t.best ≡ Some best →
      IsFinished c q best × ((p : Plan) → IsFinished c q p → IsAdmissible c q p → IsAdmissible c q best × (price c q best ≤ price c q p))
  valid-best some v h e best is =
      let table = table-of v e h in
      (subst (IsFinished c q) (some-same table.best.plan best (sym table.best.is ∙ is)) table.best.finished, best-least c q t table some best is)

  -- the tuples of an entry's plan are sorted by the keys that the entry says
  pub valid-sorted : ((w : World) (p : Plan) (o : Tuple) → IsWorld w → IsWellBound w.contents q → IsBuilt w.contents q p → AreSorted w q (set_of p) (keys_of w.contents q p) (run w q p o)) →
      (v : Verdict) → IsVerdict c q t v → v ≡ verdicts.Valid → AreSortedByKeys c q t
  valid-sorted sorts v h e w same world bound n x p there unfolds o =
      let stands = (table-of v e h).entries n x there in
      let is : stands.plan ≡ p = some-same stands.plan p (sym stands.unfolds ∙ unfolds) in
      let built : IsBuilt c q p = subst (IsBuilt c q) is stands.has.plan.built in
      let says : x.keys ≡ keys_of w.contents q p = stands.has.keys ∙ ap (keys_of c q) is ∙ ap (λ (d : Contents). keys_of d q p) (sym same) in
      subst (λ (ks : Keys). AreSorted w q (set_of p) ks (run w q p o)) (sym says)
      (sorts w p o world (subst (λ (d : Contents). IsWellBound d q) (sym same) bound) (subst (λ (d : Contents). IsBuilt d q p) (sym same) built))

-- the places of the entries as they were read
pub placed-there : (t : Certificate) (xs items : List Entered) (p : SetPlaces) → t.entries ≡ map entry xs → items ≡ xs → ArePlaced (map entry items) p → ArePlaced t.entries p
placed-there t xs items p es same h = subst (λ (ys : List Entry). ArePlaced ys p) (ap (map entry) same ∙ sym es) h
