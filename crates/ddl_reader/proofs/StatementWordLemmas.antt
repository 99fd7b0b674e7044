-- The first words of STATISTICS and of ANALYZE.
use Rattle.std.proofs.Common.{◌≡◌, ◌⊎◌, inl, inr, ℕ, List, [], sym, ap, ◌∙◌, Ok, Result}
use Rattle.pg_base.specs.declared.faults.Code.TheVariants.{S2}
use Rattle.pg_base.specs.declared.faults.Fault.{Fault}
use Rattle.pg_base.specs.declared.numbers.TableNo.{TableNo}
use Rattle.sql_grammar.specs.declared.class.Symbol.TheVariants.{Dot}
use Rattle.sql_grammar.specs.Terminals.{Terminal, Ident, Said, t_mark}
use Rattle.expr_reader.specs.declared.cursor.Spelled.{Spelled}
use Rattle.expr_reader.specs.Reading.{spelled}
use Rattle.expr_reader.specs.work.Reading.{BeginsName, BeginsNot}
use Rattle.expr_reader.specs.Conditions.{next}
use Rattle.catalog.specs.Contents.{Contents}
use Rattle.catalog.specs.Tables.{table_named}
use Rattle.ddl_reader.specs.Statistics.{known, table_of_name, analysis, analysis_reading}
use Rattle.ddl_reader.specs.Tables.{Reading, analysis_of}
use Rattle.ddl_reader.specs.work.AsMeant.{SpellsSizes, SpellsColumn, words_of_sizes}
use Rattle.ddl_reader.proofs.Parts.{named}

-- without a dot the sizes of a table are left
pub sizes-left : (old mid new : List Terminal) (title : Spelled) → SpellsSizes old ⊎ SpellsColumn old → BeginsName title old mid → BeginsNot (t_mark Dot) mid → new ≡ mid →
    (r : Ident) × (rows : Said) × (b : Terminal) × (pages : Said) × (rest : List Terminal) × (new ≡ words_of_sizes r rows b pages rest)
sizes-left old mid new title (inl (t, r, rows, b, pages, rest, is)) begins other same = (r, rows, b, pages, rest, same ∙ (named t (words_of_sizes r rows b pages rest) title old mid is begins).1)
sizes-left old mid new title (inr (t, m, c, a, d, b, n, cs, h, rest, commons, bounds, is)) begins other same = absurd (other _ (m, (named t _ title old mid is begins).1))

-- the table that is given
pub table-told : (cat : Contents) (t : Ident) (title : Spelled) (r : Result TableNo Fault) → title ≡ spelled t → known S2 title.token (table_named cat title.bytes) ≡ r → table_of_name cat t ≡ r
table-told cat t title r is told = ap (λ (x : Spelled). known S2 x.token (table_named cat x.bytes)) (sym is) ∙ told

-- a table to be analyzed that is read, with no place
abbrev placed-so : TableNo → List ℕ → Reading
placed-so t at = record { definition = analysis_of t; at = at }

abbrev read-so : Reading → Result Reading Fault
read-so r = Ok r

pub analysis-read : (cat : Contents) (n : Ident) (t : TableNo) (at : List ℕ) → table_of_name cat n ≡ Ok t → at ≡ [] → analysis cat n ≡ Ok (placed-so t at)
analysis-read cat n t at table none = ap (λ (k : Result TableNo Fault). next k (λ i. Ok (analysis_reading i))) table ∙ ap (λ (l : List ℕ). read-so (placed-so t l)) (sym none)
