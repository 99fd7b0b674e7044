-- What a later statement puts in place of an earlier one's.
use Rattle.std.proofs.Common.{◌≡◌, ◌≢◌, ◌∷◌, [], ◌∙◌, ℕ, List, Option, Some, None, length, set, get_or, zero, suc, refl, sym, ap, arith}
use Rattle.std.specs.List.{AllZip}
use Rattle.std.proofs.lemmas.List.{get_or-set_same, get_or-set_other}
use Rattle.pg_base.specs.declared.numbers.ColNo.{ColNo}
use Rattle.pg_base.specs.declared.numbers.TableNo.{TableNo}
use Rattle.catalog.specs.Contents.{Contents, TableDef, IsColumn, IsKnown, IsLawful, IsTable, no_table, stats_at, table_at, with_definition, with_sizes, with_stats}
use Rattle.catalog.specs.Statistics.{Statistics}
use Rattle.pg_base.proofs.ListLemmas.{zip-length as as_many}

set-twice : {X : Type 0} (xs : List X) (i : ℕ) (a b : X) → set (set xs i a) i b ≡ set xs i b
set-twice [] i a b = refl
set-twice (x ∷ xs) zero a b = refl
set-twice (x ∷ xs) (suc i) a b = ap (λ l. x ∷ l) (set-twice xs i a b)

-- another thing known of a column
pub known-set : {A B : Type 0} (R : A → B → Type 0) (xs : List A) (ys : List B) (i : ℕ) (d : A) (y : B) → AllZip R xs ys → R (get_or xs i d) y → AllZip R xs (set ys i y)
known-set R [] [] i d y h r = tt
known-set R [] (b ∷ ys) i d y h r = absurd h
known-set R (x ∷ xs) [] i d y h r = absurd h
known-set R (x ∷ xs) (b ∷ ys) zero d y h r = (r, h.1)
known-set R (x ∷ xs) (b ∷ ys) (suc i) d y h r = (h.0, known-set R xs ys i d y h.1 r)

-- the definition that was put for a table
pub defined : (c : Contents) (t : TableNo) (d : TableDef) → IsTable c t → table_at (with_definition c t d) t ≡ d
defined c t d lt = get_or-set_same c.tables t.0 d no_table lt

-- two in turn are the second
pub second : (c : Contents) (t : TableNo) (d e : TableDef) → with_definition (with_definition c t d) t e ≡ with_definition c t e
second c t d e = ap (λ (l : List TableDef). record { tables = l; indexes = c.indexes }) (set-twice c.tables t.0 d e)

module _ (c : Contents) (t : TableNo) (lt : IsTable c t) where
  pub sizes-replaced : (rows pages more held : ℕ) → with_sizes (with_sizes c t rows pages) t more held ≡ with_sizes c t more held
  sizes-replaced rows pages more held =
      ap (λ (d : TableDef). with_definition (with_sizes c t rows pages) t (record d { sizes = Some (record { rows = more; pages = held }) })) (defined c t _ lt)
      ∙ second c t _ _

  pub known-there : (x : ColNo) (s : Statistics) → IsLawful c → IsColumn c t x → stats_at (with_stats c t x s) t x ≡ Some s
  known-there x s h within =
      let d = table_at c t in
      let len = as_many IsKnown d.columns d.stats ((h.tables t.0 no_table lt).stats) in
      ap (λ (e : TableDef). get_or e.stats x.0 None) (defined c t _ lt) ∙ get_or-set_same d.stats x.0 (Some s) None (omega (arith, len, within))

  pub known-other : (x y : ColNo) (s : Statistics) → x.0 ≢ y.0 → stats_at (with_stats c t x s) t y ≡ stats_at c t y
  known-other x y s ne =
      ap (λ (e : TableDef). get_or e.stats y.0 None) (defined c t _ lt) ∙ get_or-set_other (table_at c t).stats x.0 y.0 (Some s) None (λ e. ne (sym e))

  pub stats-replaced : (x : ColNo) (s u : Statistics) → with_stats (with_stats c t x s) t x u ≡ with_stats c t x u
  stats-replaced x s u =
      ap (λ (d : TableDef). with_definition (with_stats c t x s) t (record d { stats = set d.stats x.0 (Some u) })) (defined c t _ lt)
      ∙ second c t _ _
      ∙ ap (λ (l : List (Option Statistics)). with_definition c t (record (table_at c t) { stats = l })) (set-twice (table_at c t).stats x.0 (Some s) (Some u))
