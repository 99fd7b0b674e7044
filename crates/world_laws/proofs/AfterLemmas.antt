-- What may be done in a lawful world leaves it lawful.
use Rattle.std.proofs.Common.{◌≡◌, ◌<◌, ℕ, zero, suc, true, List, [], ◌∷◌, length, get_or, map, set, refl, subst, arith, Some, Ok, ◌∙◌}
use Rattle.std.specs.List.{AllZip}
use Rattle.pg_base.specs.declared.numbers.ColNo.{ColNo}
use Rattle.pg_base.specs.declared.numbers.TableNo.{TableNo}
use Rattle.pg_value.specs.declared.columns.Column.{Column}
use Rattle.analyze.specs.Analysis.{table_statistics}
use Rattle.analyze.proofs.LawLemmas.{columns-fit, table-allowed}
use Rattle.catalog.specs.work.Analysed.{FitColumns}
use Rattle.catalog.specs.Contents.{IsIndexOf, IsKnown, IsLawfulTable, IsTable, TableDef, new_table, no_table, table_at, with_definition}
use Rattle.catalog.specs.Indexes.{Index, no_column, type_at}
use Rattle.catalog.specs.Statistics.{IsLawfulStatistics, Statistics, is_count}
use Rattle.catalog.specs.Tables.{IsAcceptable, IsAcceptableIndex}
use Rattle.catalog.proofs.AnalysedLemmas.{known-each}
use Rattle.catalog.proofs.LawfulLemmas.{lawful-defined, lawful-index, lawful-table}
use Rattle.heap.specs.Loading.{loaded}
use Rattle.heap.specs.Stored.{Stored}
use Rattle.sql_query.specs.Worlds.{Holds, World, stored_at, world}
use Rattle.store.specs.Actions.{Action, after, idle, make, build, size, describe, fill, gather, answer, explain, certify, advise, verify, follow, answer_groups, explain_groups}
use Rattle.store.specs.work.Kept.{IsStoreOf, Kept, built_over}
use Rattle.store.proofs.LawLemmas.{definition-changed, table-added}
use Rattle.store.proofs.StoreLemmas.{holds}
use Rattle.world_laws.specs.LawfulWorlds.{IsLawfulWorld}
use Rattle.world_laws.specs.work.LawfulWorlds.{MayBeDone}
use Rattle.world_laws.proofs.LoadedLemmas.{loaded-lawful}

module _ {A B : Type 0} (R : A → B → Type 0) where
  both-set : (xs : List A) (ys : List B) (i : ℕ) (x : A) (y : B) → AllZip R xs ys → R x y → AllZip R (set xs i x) (set ys i y)
  both-set [] [] i x y h r = tt
  both-set [] (b ∷ ys) i x y h r = absurd h
  both-set (a ∷ xs) [] i x y h r = absurd h
  both-set (a ∷ xs) (b ∷ ys) zero x y h r = (r, h.1)
  both-set (a ∷ xs) (b ∷ ys) (suc i) x y h r = (h.0, both-set xs ys i x y h.1 r)

  second-set : (xs : List A) (ys : List B) (i : ℕ) (d : A) (y : B) → AllZip R xs ys → (i < length xs → R (get_or xs i d) y) → AllZip R xs (set ys i y)
  second-set [] [] i d y h r = tt
  second-set [] (b ∷ ys) i d y h r = absurd h
  second-set (a ∷ xs) [] i d y h r = absurd h
  second-set (a ∷ xs) (b ∷ ys) zero d y h r = (r (omega arith), h.1)
  second-set (a ∷ xs) (b ∷ ys) (suc i) d y h r = (h.0, second-set xs ys i d y h.1 (λ lt. r (omega (arith, lt))))

-- a world with its indexes built
abbrev kept : World → Kept
kept w = record { stored = w.stored; built = map (built_over w.stored) w.contents.indexes }

kept-is : (w : World) → IsLawfulWorld w → IsStoreOf w.contents (kept w)
kept-is w h = record { world = h.stored; built = refl }

module _ (w : World) (h : IsLawfulWorld w) where
  there : (t : TableNo) → IsTable w.contents t → Holds (table_at w.contents t) (stored_at w t)
  there t is = holds w.contents (kept w) (kept-is w h) t is

  table-is : (t : TableNo) → IsTable w.contents t → IsLawfulTable (table_at w.contents t)
  table-is t is = h.contents.tables t.0 no_table is

  -- other sizes or statistics of a table
  defined-lawful : (t : TableNo) (d : TableDef) → IsTable w.contents t → d.name ≡ (table_at w.contents t).name → d.columns ≡ (table_at w.contents t).columns → d.loaded ≡ (table_at w.contents t).loaded → IsLawfulTable d →
      IsLawfulWorld (world (with_definition w.contents t d) w.stored)
  defined-lawful t d is name columns rows new = record {
    contents = lawful-defined w.contents t d is name columns new h.contents;
    stored = (definition-changed w.contents (kept w) t d columns rows (kept-is w h)).world;
  }

  made-lawful : (name : List ℕ) (names : List (List ℕ)) (columns : List Column) → IsAcceptable w.contents name names → IsLawfulTable (new_table name names columns) → IsLawfulWorld (after w (make name names columns))
  made-lawful name names columns may new = record {
    contents = lawful-table w.contents (new_table name names columns) new may.free may.room h.contents;
    stored = (table-added w.contents (kept w) name names columns h.contents (kept-is w h)).world;
  }

  built-lawful : (name : List ℕ) (x : Index) → IsAcceptableIndex w.contents name x → IsIndexOf w.contents (record { name = name; index = x }) → IsLawfulWorld (after w (build name x))
  built-lawful name x may is = record { contents = lawful-index w.contents name x is may.free may.room h.contents; stored = h.stored }

  sized-lawful : (t : TableNo) (rows pages : ℕ) → IsTable w.contents t → is_count rows ≡ true → is_count pages ≡ true → IsLawfulWorld (after w (size t rows pages))
  sized-lawful t rows pages is some-rows some-pages =
      let old = table-is t is in
      defined-lawful t (record (table_at w.contents t) { sizes = Some (record { rows = rows; pages = pages }) }) is refl refl refl
      (record { name = old.name; names = old.names; distinct = old.distinct; width = old.width; some = old.some; few = old.few; sizes = record { rows = some-rows; pages = some-pages }; stats = old.stats })

  described-lawful : (t : TableNo) (column : ColNo) (s : Statistics) → IsTable w.contents t → IsLawfulStatistics (type_at (table_at w.contents t).columns column) s → IsLawfulWorld (after w (describe t column s))
  described-lawful t column s is lawful =
      let old = table-is t is in
      let stats = second-set IsKnown (table_at w.contents t).columns (table_at w.contents t).stats column.0 no_column (Some s) old.stats (λ lt. lawful) in
      defined-lawful t (record (table_at w.contents t) { stats = set (table_at w.contents t).stats column.0 (Some s) }) is refl refl refl
      (record { name = old.name; names = old.names; distinct = old.distinct; width = old.width; some = old.some; few = old.few; sizes = old.sizes; stats = stats })

  gathered-lawful : (t : TableNo) → IsTable w.contents t → IsLawfulWorld (after w (gather t))
  gathered-lawful t is =
      let old = table-is t is in
      let here = there t is in
      let s = table_statistics (stored_at w t) in
      let allowed = table-allowed (stored_at w t) here.lawful in
      let fits = subst (λ (columns : List Column). FitColumns columns s.columns) here.columns (columns-fit (stored_at w t) here.lawful) in
      defined-lawful t (record (table_at w.contents t) { sizes = Some (record { rows = s.rows; pages = s.pages }); stats = map Some s.columns }) is refl refl refl
      (record { name = old.name; names = old.names; distinct = old.distinct; width = old.width; some = old.some; few = old.few; sizes = record { rows = allowed.rows; pages = allowed.pages }; stats = known-each (table_at w.contents t).columns s.columns fits allowed.columns })

  filled-lawful : (t : TableNo) (s : Stored) (rs : List (List (List ℕ))) → IsTable w.contents t → loaded (stored_at w t) rs ≡ Ok s → IsLawfulWorld (after w (fill t s))
  filled-lawful t s rs is load =
      let old = table-is t is in
      let here = there t is in
      let now = loaded-lawful (stored_at w t) s rs here.lawful load in
      let d : TableDef = record (table_at w.contents t) { loaded = length s.rows } in
      record {
        contents = lawful-defined w.contents t d is refl refl (record { name = old.name; names = old.names; distinct = old.distinct; width = old.width; some = old.some; few = old.few; sizes = old.sizes; stats = old.stats }) h.contents;
        stored = both-set Holds w.contents.tables w.stored t.0 d s h.stored (record { columns = now.1 ∙ here.columns; loaded = refl; lawful = now.0 });
      }

  pub kept-lawful : (action : Action) → MayBeDone w action → IsLawfulWorld (after w action)
  kept-lawful idle may = h
  kept-lawful (make name names columns) may = made-lawful name names columns may.0 may.1
  kept-lawful (build name x) may = built-lawful name x may.0 may.1
  kept-lawful (size t rows pages) may = sized-lawful t rows pages may.0 may.1 may.2
  kept-lawful (describe t column s) may = described-lawful t column s may.0 may.1
  kept-lawful (fill t s) may = filled-lawful t s may.1.0 may.0 may.1.1
  kept-lawful (gather t) may = gathered-lawful t may
  kept-lawful (answer q) may = h
  kept-lawful (explain q) may = h
  kept-lawful (certify q) may = h
  kept-lawful (advise most candidates queries) may = h
  kept-lawful (verify q block) may = h
  kept-lawful (follow q block) may = h
  kept-lawful (answer_groups g) may = h
  kept-lawful (explain_groups g) may = h
