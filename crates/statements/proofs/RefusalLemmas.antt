-- What the catalogue refuses, told of the words of the definition.
use Rattle.std.proofs.Common.{◌≡◌, ◌≢◌, ◌+◌, ◌*◌, ◌<◌, ◌≤◌, ◌&&◌, ℕ, inl, inr, Bool, true, false, cond, nat_eq, nat_lt, List, [], ◌∷◌, length, ap, ◌∙◌, refl, sym, subst, arith}
use Rattle.std.proofs.lemmas.Bool.{cases_lt}
use Rattle.std.proofs.lemmas.Bool.Decides.{nat_tests}
use Rattle.pg_base.specs.declared.numbers.ColNo.{ColNo}
use Rattle.pg_base.specs.declared.numbers.TableNo.{TableNo}
use Rattle.pg_value.specs.declared.columns.Column.{Column}
use Rattle.catalog.specs.declared.fault.CatalogFault.{CatalogFault}
use Rattle.catalog.specs.declared.fault.CatalogFault.TheVariants as refused
use Rattle.catalog.specs.Statistics.{Statistics, bound_number_at, is_refused, pair_of}
use Rattle.catalog.specs.Tables.{IsRefusal, IsSizeRefusal, IsStatisticsRefusal}
use Rattle.ddl_reader.specs.Tables.{table, sizes_for, statistics_for}
use Rattle.sql_query.specs.Worlds.{World}
use Rattle.statements.specs.declared.end.End.{End}
use Rattle.statements.specs.work.Ending.{IsCauseFor, IsNumberAmong, end_by}
use Rattle.statements.specs.Faults.{number_fault, table_fault, word_ends}
use Rattle.statements.specs.work.Steps.{RefusesDefinition}

module _ (w : World) (name : List ℕ) (names : List (List ℕ)) (columns : List Column) (at : List ℕ) where
  abbrev words : List ℕ
  words = word_ends at (name ∷ names)

  catalogue-refused : (e : CatalogFault) → (e ≢ refused.Memory → IsRefusal w.contents name names e) → RefusesDefinition (end_by (table_fault e at words)) w [] (table name names columns) at
  catalogue-refused refused.NameTaken h = ((refused.NameTaken, h (λ e. cc (e)), refl), λ field. absurd (cc (field)))
  catalogue-refused (refused.ColumnTwice place) h = ((refused.ColumnTwice place, h (λ e. cc (e)), refl), λ field. absurd (cc (field)))
  catalogue-refused refused.TooMany h = ((refused.TooMany, h (λ e. cc (e)), refl), λ field. absurd (cc (field)))
  catalogue-refused (refused.BadNumber place) h = tt
  catalogue-refused refused.Memory h = tt

  pub refused-told : (e : CatalogFault) (ends : List ℕ) (end : End) → (e ≢ refused.Memory → IsRefusal w.contents name names e) → ends ≡ words → end ≡ end_by (table_fault e at ends) →
      RefusesDefinition end w [] (table name names columns) at
  refused-told e ends end cause is told =
      subst (λ (x : End). RefusesDefinition x w [] (table name names columns) at) (sym (told ∙ ap (λ l. end_by (table_fault e at l)) is)) (catalogue-refused e cause)

  -- the cause is one for so many words
  pub cause-for : (e : CatalogFault) (count : ℕ) → (e ≢ refused.Memory → IsRefusal w.contents name names e) → count ≡ length names + 1 → IsCauseFor e count
  cause-for e count cause many = λ some. (w.contents, name, names, many, cause some)

-- why statistics are refused, told of the places of their numbers and literals
pub sizes-told : (w : World) (text : List ℕ) (t : TableNo) (rows pages : ℕ) (at : List ℕ) (e : CatalogFault) (end : End) → IsSizeRefusal rows pages e → end ≡ end_by (number_fault e at) → RefusesDefinition end w text (sizes_for t rows pages) at
sizes-told w text t rows pages at (refused.BadNumber p) end h is =
    subst (λ (x : End). RefusesDefinition x w text (sizes_for t rows pages) at) (sym is) ((refused.BadNumber p, h, refl), λ field some. absurd (omega (arith, some)))
sizes-told w text t rows pages at refused.NameTaken end h is = absurd h
sizes-told w text t rows pages at (refused.ColumnTwice p) end h is = absurd h
sizes-told w text t rows pages at refused.TooMany end h is = absurd h
sizes-told w text t rows pages at refused.Memory end h is = absurd h

pub statistics-told : (w : World) (text : List ℕ) (t : TableNo) (col : ColNo) (s : Statistics) (at : List ℕ) (e : CatalogFault) (end : End) → IsStatisticsRefusal s e → end ≡ end_by (number_fault e at) →
    RefusesDefinition end w text (statistics_for t col s) at
statistics-told w text t col s at (refused.BadNumber p) end h is =
    subst (λ (x : End). RefusesDefinition x w text (statistics_for t col s) at) (sym is) ((refused.BadNumber p, h, refl), λ field some. absurd (omega (arith, some)))
statistics-told w text t col s at refused.NameTaken end h is = absurd h
statistics-told w text t col s at (refused.ColumnTwice p) end h is = absurd h
statistics-told w text t col s at refused.TooMany end h is = absurd h
statistics-told w text t col s at refused.Memory end h is = absurd h

-- the place is one of theirs
pub size-among : (rows pages : ℕ) (e : CatalogFault) (count : ℕ) → IsSizeRefusal rows pages e → count ≡ 2 → IsNumberAmong e count
size-among rows pages (refused.BadNumber p) count (inl (at, bad)) two = omega (arith, at, two)
size-among rows pages (refused.BadNumber p) count (inr (at, good, bad)) two = omega (arith, at, two)
size-among rows pages refused.NameTaken count h two = absurd h
size-among rows pages (refused.ColumnTwice p) count h two = absurd h
size-among rows pages refused.TooMany count h two = absurd h
size-among rows pages refused.Memory count h two = absurd h

none-refused : (a b c d : Bool) (x y z u : Bool) → a ≡ false → b ≡ false → c ≡ false → d ≡ false → cond a x (cond b y (cond c z (d && u))) ≡ false
none-refused false false false false x y z u p q r s = refl
none-refused true b c d x y z u p q r s = cc
none-refused false true c d x y z u p q r s = cc
none-refused false false true d x y z u p q r s = cc
none-refused false false false true x y z u p q r s = cc

past-all : (s : Statistics) (place : ℕ) → 2 + (2 * length s.common + length s.histogram) ≤ place → is_refused s place ≡ false
past-all s place le =
    none-refused (nat_eq place 0) (nat_eq place 1) (nat_lt (pair_of place) (length s.common)) (nat_lt (bound_number_at s place) (length s.histogram)) _ _ _ _
    (grind (arith, nat_tests, le)) (grind (arith, nat_tests, le)) (grind (arith, nat_tests, le)) (grind (arith, nat_tests, le))

refused-within : (s : Statistics) (place : ℕ) → is_refused s place ≡ true → place < 2 + (2 * length s.common + length s.histogram)
refused-within s place bad = elim (cases_lt place (2 + (2 * length s.common + length s.histogram))) [
  | inl lt ↦ lt
  | inr le ↦ let wrong : true ≡ false = sym bad ∙ past-all s place le in absurd (cc (wrong))
]

pub statistics-among : (s : Statistics) (e : CatalogFault) (count : ℕ) → IsStatisticsRefusal s e → count ≡ 2 + (2 * length s.common + length s.histogram) → IsNumberAmong e count
statistics-among s (refused.BadNumber p) count h many = let within = refused-within s p h.refused in omega (arith, within, many)
statistics-among s refused.NameTaken count h many = absurd h
statistics-among s (refused.ColumnTwice p) count h many = absurd h
statistics-among s refused.TooMany count h many = absurd h
statistics-among s refused.Memory count h many = absurd h
