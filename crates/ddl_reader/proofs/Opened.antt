-- A table's name and the columns after it.
use Rattle.std.proofs.Common.{◌≡◌, ◌≤◌, suc, List, ◌∷◌, length, drop, map, sym, ap, ◌∙◌, Some, Result, Ok, Err, MatchResult, drop-cons, slice_get}
use Rattle.std.proofs.lemmas.List.{drop-map, drop_all}
use Rattle.std.proofs.lemmas.Option.{slice_get_within, get_or_from_slice_get}
use Rattle.pg_base.specs.declared.limits.TheConstants.{MOST_COLUMNS}
use Rattle.pg_base.specs.declared.faults.Code.TheVariants.{S15}
use Rattle.pg_base.specs.declared.faults.Limit.TheVariants.{Columns}
use Rattle.pg_base.specs.declared.faults.Fault.{Fault}
use Rattle.pg_base.specs.declared.faults.Refusal.{Refusal}
use Rattle.pg_base.specs.declared.faults.Refusal.TheVariants as refusal
use Rattle.sql_grammar.specs.declared.class.Symbol.TheVariants.{Open}
use Rattle.sql_grammar.specs.Terminals.{Terminal, Ident, token_of, t_mark, t_name}
use Rattle.sql_grammar.specs.Syntax.{Mark}
use Rattle.sql_grammar.specs.Faults.{bytes_of, fault_at}
use Rattle.expr_reader.specs.declared.cursor.Spelled.{Spelled}
use Rattle.expr_reader.specs.Reading.{spelled}
use Rattle.expr_reader.specs.work.Reading.{BeginsName}
use Rattle.ddl_reader.specs.declared.ddl.Read.{Read}
use Rattle.ddl_reader.specs.declared.columns.ColumnDef.{ColumnDef}
use Rattle.ddl_reader.specs.Columns.{BoundColumn}
use Rattle.ddl_reader.specs.work.AsMeant.{IsAsMeant, seen}
use Rattle.ddl_reader.specs.Tables.{Reading, table_reading, limited_columns, bound_table}
use Rattle.ddl_reader.specs.work.Readings.{reading}
use Rattle.ddl_reader.proofs.Parts.{named}

-- a table's name and `(` are taken
pub opened : (n : Ident) (o : Mark) (body old mid new : List Terminal) (s : Spelled) → old ≡ t_name n ∷ t_mark Open o ∷ body → BeginsName s old mid → new ≡ drop 1 mid → (s ≡ spelled n) × (new ≡ body)
opened n o body old mid new s is begins skipped = let one = named n (t_mark Open o ∷ body) s old mid is begins in (one.0, skipped ∙ ap (drop 1) one.1)

module _ (n : Ident) (ds : List ColumnDef) (m : Result (List BoundColumn) Fault) (meant : m ≡ Ok (map seen ds)) where
  pub past : (d : ColumnDef) → slice_get ds MOST_COLUMNS ≡ Some d → bound_table (bytes_of n) (token_of n) m ≡ Err (fault_at (S15 Columns) d.name.token)
  past d is =
      let lt = slice_get_within ds MOST_COLUMNS d is in
      let at = get_or_from_slice_get ds MOST_COLUMNS d d is in
      let later = drop-map seen MOST_COLUMNS ds ∙ (ap (map seen) (drop-cons ds MOST_COLUMNS d lt) ∙ ap (λ y. seen y ∷ map seen (drop (suc MOST_COLUMNS) ds)) at) in
      rw meant (ap (limited_columns (table_reading (bytes_of n) (token_of n) (map seen ds))) later)

  pub within : (s : Spelled) → s ≡ spelled n → length ds ≤ MOST_COLUMNS → bound_table (bytes_of n) (token_of n) m ≡ Ok (table_reading s.bytes s.token (map seen ds))
  within s is le =
      let none = drop-map seen MOST_COLUMNS ds ∙ ap (map seen) (drop_all MOST_COLUMNS ds le) in
      rw (meant, is) (ap (limited_columns (table_reading (bytes_of n) (token_of n) (map seen ds))) none)

-- what is made is read
pub made-reads : (r : Result Read Refusal) (v : Reading) (m : Result Reading Fault) → MatchResult r (λ x. reading x ≡ v) (λ e. e ≡ refusal.Memory) → m ≡ Ok v → IsAsMeant Read Reading reading r m
made-reads (Ok x) v m is e = e ∙ ap Ok (sym is)
made-reads (Err (refusal.Fault f)) v m is e = absurd (cc)
made-reads (Err refusal.Memory) v m is e = tt

-- a fault that is read
pub fault-reads : (r : Result Read Refusal) (e : Refusal) (f : Fault) (m : Result Reading Fault) → r ≡ Err e → e ≡ refusal.Fault f → m ≡ Err f → IsAsMeant Read Reading reading r m
fault-reads r e f m is told wrong = rw (is, told) wrong
