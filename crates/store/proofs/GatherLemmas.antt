-- What is found of a table's rows is kept, and never refused.
use Rattle.std.proofs.Common.{◌≡◌, ◌<◌, ◌∙◌, Bool, true, false, [], length, Some, Result, Ok, Err, ap, sym, subst, arith, inl, inr, refl}
use Rattle.std.proofs.lemmas.Bool.{true≢false}
use Rattle.std.specs.Prelude.{IfErr, OnOk, is_err, slice_get}
use Rattle.std.proofs.lemmas.Option.{get_or_from_slice_get}
use Rattle.pg_base.specs.declared.numbers.TableNo.{TableNo}
use Rattle.heap.specs.Stored.{Stored}
use Rattle.analyze.specs.Analysis.{table_statistics}
use Rattle.analyze.proofs.LawLemmas.{columns-fit, table-allowed}
use Rattle.catalog.specs.Analysed.{with_analysis}
use Rattle.catalog.specs.work.Analysed.{FitColumns, IsAllowedTable, IsTableRefusal}
use Rattle.catalog.specs.Contents.{Contents, IsTable, table_at}
use Rattle.catalog.specs.Statistics.{Statistics}
use Rattle.catalog.specs.declared.fault.CatalogFault.{CatalogFault}
use Rattle.catalog.specs.declared.fault.CatalogFault.TheVariants as refused
use Rattle.catalog.specs.declared.statistics.TableStats.{TableStats}
use Rattle.sql_query.specs.Worlds.{nothing_stored, world}
use Rattle.store.specs.work.Kept.{IsStoreOf, Kept, stored_of}
use Rattle.store.proofs.LawLemmas.{definition-changed}
use Rattle.store.proofs.StoreLemmas.{as-many-stored, holds}
use Rattle.store.specs.Actions.{after, gather}

module _ (c : Contents) (k : Kept) (of : IsStoreOf c k) (t : TableNo) (is : IsTable c t) where
  pub there : t.0 < length k.stored
  there = let many = as-many-stored c k of in omega (arith, many, is)

  module _ (h : Stored) (at : slice_get k.stored t.0 ≡ Some h) where
    pub here : h ≡ stored_of k t
    here = sym (get_or_from_slice_get k.stored t.0 h nothing_stored at)

    module _ (s : TableStats) (found : s ≡ table_statistics h) where
      found-here : s ≡ table_statistics (stored_of k t)
      found-here = found ∙ ap table_statistics here

      pub fits : FitColumns (table_at c t).columns s.columns
      fits =
          let held = holds c k of t is in
          subst (λ (x : TableStats). FitColumns (table_at c t).columns x.columns) (sym found-here)
          (subst (λ columns. FitColumns columns (table_statistics (stored_of k t)).columns) held.columns (columns-fit (stored_of k t) held.lawful))

      allowed : IsAllowedTable s
      allowed = subst IsAllowedTable (sym found-here) (table-allowed (stored_of k t) (holds c k of t is).lawful)

      pub kept : (d : Contents) → d ≡ with_analysis c t s → world d k.stored ≡ after (world c k.stored) (gather t)
      kept d made = ap (λ (x : Contents). world x k.stored) (made ∙ ap (with_analysis c t) found-here)

      pub store-kept : (d : Contents) → d ≡ with_analysis c t s → IsStoreOf d k
      store-kept d made = subst (λ (x : Contents). IsStoreOf x k) (sym made) (definition-changed c k t _ refl refl of)

      -- no cause of a refusal is left
      not-both : {b : Bool} → b ≡ true → b ≡ false → ⊥
      not-both held wrong = true≢false (sym held ∙ wrong)

      pub none : (e : CatalogFault) → IsTableRefusal s e → ⊥
      none (refused.BadNumber place) (inl (inl (at-rows, wrong))) = not-both allowed.rows wrong
      none (refused.BadNumber place) (inl (inr (at-pages, some, wrong))) = not-both allowed.pages wrong
      none (refused.BadNumber place) (inr (some, (more, r))) =
          let d : Statistics = record { distinct = 1; nulls = 0; common = []; histogram = [] } in
          not-both (r.refused d).refused (allowed.columns r.column d r.within place)
      none refused.NameTaken h = h
      none (refused.ColumnTwice place) h = h
      none refused.TooMany h = h
      none refused.Memory h = h

      pub never-refused : {T : Type 0} (r : Result T CatalogFault) → IfErr r (IsTableRefusal s) → is_err r ≡ true → ⊥
      never-refused (Ok x) cause wrong = true≢false (sym wrong)
      never-refused (Err e) cause wrong = none e cause

      pub is-kept : {T : Type 0} (r : Result T CatalogFault) (d : Contents) → IfErr r (IsTableRefusal s) → OnOk r (d ≡ with_analysis c t s) → d ≡ with_analysis c t s
      is-kept (Ok x) d cause made = made
      is-kept (Err e) d cause made = absurd (none e cause)
