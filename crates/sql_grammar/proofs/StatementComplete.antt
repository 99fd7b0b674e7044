-- The walk takes every statement.
use Rattle.std.proofs.Common.{◌≡◌, ℕ, ◌≤◌, true, [], ◌∷◌, ◌++◌, refl, ◌∙◌, arith}
use Rattle.sql_grammar.specs.declared.offered.TheConstants.{READS_ADVISE, READS_ANALYZE, READS_CHECK, READS_PLAN}
use Rattle.sql_grammar.specs.declared.table.Item.TheVariants.{Whole, Ends, MaybeHistogram}
use Rattle.sql_grammar.specs.Syntax.{semicolon, text_end, advise_of, Statement, empty, create_table, create_index, query, copy, sizes, column_statistics, analyze, advise, check, use_plan, unexplained, explained, grouped}
use Rattle.sql_grammar.specs.Words.{words_of, words_of_histogram, words_of_ending, levels_of}
use Rattle.sql_grammar.specs.work.Machine.{takes_all}
use Rattle.sql_grammar.proofs.TableComplete.{columns}
use Rattle.sql_grammar.proofs.Complete.{common-values, histograms, after-common, after-histogram, ending}
use Rattle.sql_grammar.proofs.GroupComplete.{ordered, grouped-select}
use Rattle.sql_grammar.proofs.IndexComplete.{index}
use Rattle.sql_grammar.proofs.AdviseComplete.{analyzed, advises, checks, plans}

module _ (limit : ℕ) where
  pub statement : (x : Statement) → levels_of x ≤ limit → takes_all limit (words_of x) (Whole ∷ []) ≡ true
  statement (empty (semicolon t)) low = refl
  statement (empty (text_end t)) low = refl
  statement (create_table k t n o c cs m e) low = columns limit c cs m (Ends ∷ []) (words_of_ending e) ∙ ending limit e
  statement (create_index x) low = index limit x low
  statement (query x) low = ordered limit x low
  statement (copy k n text) low = refl
  statement (sizes k n r p e) low = ending limit e
  statement (column_statistics k n c d z v h e) low =
      common-values limit v (MaybeHistogram ∷ Ends ∷ []) (words_of_histogram h ++ words_of_ending e) (after-common limit h e) ∙
      (histograms limit h (Ends ∷ []) (words_of_ending e) (after-histogram limit e) ∙ ending limit e)
  statement (analyze p k n e) low = analyzed limit READS_ANALYZE p n e
  statement (advise (advise_of p k n o c cs m x xs e)) low = advises limit READS_ADVISE p n o c cs m x xs e (omega (arith, low)) (omega (arith, low)) (omega (arith, low)) (omega (arith, low))
  statement (check p k x t) low = checks limit READS_CHECK p x t low
  statement (use_plan p u k q y t) low = plans limit READS_PLAN p k q y t low
  statement (grouped p unexplained k q) low = grouped-select limit p q low
  statement (grouped p (explained j) k q) low = grouped-select limit p q low
