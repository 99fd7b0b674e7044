-- A list of words is spelled by one statement.
use Rattle.std.proofs.Common.{◌≡◌, ℕ, true, List, ◌∷◌, ◌++◌, drop, refl, sym, ap, ◌∙◌, arith}
use Rattle.sql_grammar.specs.declared.class.Word.TheVariants.{Create, Select}
use Rattle.sql_grammar.specs.declared.class.Free.TheVariants.{Advise as AdviseWord, Analyze, Check, Copy, Explain, Statistics, Use}
use Rattle.sql_grammar.specs.declared.offered.TheConstants.{READS_ANALYZE, READS_CHECK, READS_GROUPS, READS_PLAN}
use Rattle.sql_grammar.specs.Terminals.{Terminal, free, t_key, t_mark, t_name}
use Rattle.sql_grammar.specs.Syntax.{CopyWords, SizesWords, ColumnWords, Histogram, no_histogram, histogram, select_from, Ending, semicolon, text_end, no_explain, explain, explain_table, ordered_select, index_on, advise_of, Statement, empty, create_table, create_index, query, copy, sizes, column_statistics, analyze, advise, check, use_plan, unexplained, explained, grouped}
use Rattle.sql_grammar.specs.Words.{words_of_histogram, words_of_ending, words_of}
use Rattle.sql_grammar.proofs.StatisticsLemmas.{ends_common, ends_histogram, one_common, one_histogram}
use Rattle.sql_grammar.proofs.Trees.{one_ending}
use Rattle.sql_grammar.proofs.TableTrees.{one_table}
use Rattle.sql_grammar.proofs.ExprTrees.{one_offered}
use Rattle.sql_grammar.proofs.OrderTrees.{one_ordered}
use Rattle.sql_grammar.proofs.IndexTrees.{one_index}
use Rattle.sql_grammar.proofs.GroupTrees.{one_begun, plain-apart}
use Rattle.sql_grammar.proofs.AdviseTrees.{one_advise, one_stopped, one_planned}

-- the kind of a statement, by its first words
abbrev kind_of : List Terminal → ℕ
kind_of (t_key Create _ ∷ t_name _ ∷ x) = 6
kind_of (t_key Create _ ∷ x) = 1
kind_of (t_key Select _ ∷ x) = 2
kind_of (t_name (free Explain _) ∷ x) = 2
kind_of (t_name (free Copy _) ∷ x) = 3
kind_of (t_name (free Statistics _) ∷ _ ∷ t_mark _ _ ∷ x) = 5
kind_of (t_name (free Statistics _) ∷ x) = 4
kind_of (t_name (free Analyze _) ∷ x) = 7
kind_of (t_name (free AdviseWord _) ∷ x) = 8
kind_of (t_name (free Check _) ∷ x) = 9
kind_of (t_name (free Use _) ∷ x) = 10
kind_of _ = 0

abbrev kind : Statement → ℕ
kind (empty e) = 0
kind (create_table k t n o c cs m e) = 1
kind (create_index x) = 6
kind (query x) = 2
kind (copy k n null) = 3
kind (sizes k n r p e) = 4
kind (column_statistics k n c d z v h e) = 5
kind (analyze p k n e) = 7
kind (advise x) = 8
kind (check p k x s) = 9
kind (use_plan p u k q y s) = 10
kind (grouped p x k q) = 2

kind-is : (x : Statement) → kind_of (words_of x) ≡ kind x
kind-is (empty (semicolon t)) = refl
kind-is (empty (text_end t)) = refl
kind-is (create_table k t n o c cs m e) = refl
kind-is (create_index (index_on k i n o t u p x xs m c w e)) = refl
kind-is (query (ordered_select no_explain (select_from k o os f g gs w) y v e)) = refl
kind-is (query (ordered_select (explain x) q y v e)) = refl
kind-is (copy k n null) = refl
kind-is (sizes k n r p e) = refl
kind-is (column_statistics k n c d z v h e) = refl
kind-is (query (ordered_select (explain_table p k o t m) q y v e)) = refl
kind-is (analyze p k n e) = refl
kind-is (advise (advise_of p k n o c cs m x xs e)) = refl
kind-is (check p k x s) = refl
kind-is (use_plan p u k q y s) = refl
kind-is (grouped p unexplained k q) = refl
kind-is (grouped p (explained j) k q) = refl

same_kind : (x y : Statement) → words_of x ≡ words_of y → kind x ≡ kind y
same_kind x y e = sym (kind-is x) ∙ (ap kind_of e ∙ kind-is y)

abbrev rebuilt : CopyWords → CopyWords
rebuilt k = record { copy = k.copy; from_at = k.from_at; stdin = k.stdin; with_at = k.with_at; open_at = k.open_at; format = k.format; csv = k.csv; comma = k.comma; null = k.null; close_at = k.close_at; stop = k.stop }

abbrev rebuilt_sizes : SizesWords → SizesWords
rebuilt_sizes k = record { statistics = k.statistics; rows = k.rows; pages = k.pages }

abbrev rebuilt_column : ColumnWords → ColumnWords
rebuilt_column k = record { statistics = k.statistics; dot = k.dot; distinct = k.distinct; nulls = k.nulls }

histogram-ends : (e : Ending) → ends_histogram (words_of_ending e) ≡ true
histogram-ends (semicolon t) = refl
histogram-ends (text_end t) = refl

common-ends : (g : Histogram) (e : Ending) → ends_common (words_of_histogram g ++ words_of_ending e) ≡ true
common-ends no_histogram (semicolon t) = refl
common-ends no_histogram (text_end t) = refl
common-ends (histogram k o l ls m) e = refl

one_of : (x y : Statement) → kind x ≡ kind y → words_of x ≡ words_of y → x ≡ y
one_of (empty e) (empty f) k h = ap empty (one_ending e f h)
one_of (create_table a t n o c cs m e) (create_table b u i p d ds j f) k h =
    let first : a ≡ b = cc in
    let second : t ≡ u = cc in
    let name : n ≡ i = cc in
    let open_at : o ≡ p = cc in
    let (head, others, mark, end) = one_table c d cs ds m j e f (ap (drop 4) h) in
    cc (first, second, name, open_at, head, others, mark, end)
one_of (create_index x) (create_index y) k h = ap create_index (one_index x y h)
one_of (query x) (query y) k h = ap query (one_ordered x y h)
one_of (copy i n a) (copy j m b) k h = let same : copy (rebuilt i) n a ≡ copy (rebuilt j) m b = cc in same
one_of (sizes i n r p e) (sizes j m s q f) k h =
    let end = one_ending e f (ap (drop 6) h) in
    let same : sizes (rebuilt_sizes i) n r p e ≡ sizes (rebuilt_sizes j) m s q f = cc (h, end) in
    same
one_of (column_statistics i n a c x v g e) (column_statistics j m b d y w q f) k h =
    let (values, more) = one_common v w (words_of_histogram g ++ words_of_ending e) (words_of_histogram q ++ words_of_ending f) (common-ends g e) (common-ends q f) (ap (drop 8) h) in
    let (bounds, last) = one_histogram g q (words_of_ending e) (words_of_ending f) (histogram-ends e) (histogram-ends f) more in
    let end = one_ending e f last in
    let same : column_statistics (rebuilt_column i) n a c x v g e ≡ column_statistics (rebuilt_column j) m b d y w q f = cc (h, values, bounds, end) in
    same
one_of (analyze p i n e) (analyze q j m f) k h =
    let offered = one_offered READS_ANALYZE p q in
    let word : i ≡ j = cc (h) in
    let name : n ≡ m = cc (h) in
    let end = one_ending e f (ap (drop 2) h) in
    cc (offered, word, name, end)
one_of (advise x) (advise y) k h = ap advise (one_advise x y h)
one_of (check p i x s) (check q j y t) k h =
    let offered = one_offered READS_CHECK p q in
    let word : i ≡ j = cc (h) in
    let (same, stop) = one_stopped x y s t (ap (drop 1) h) in
    cc (offered, word, same, stop)
one_of (use_plan p i l a o s) (use_plan q j m b u t) k h =
    let offered = one_offered READS_PLAN p q in
    let first : i ≡ j = cc (h) in
    let second : l ≡ m = cc (h) in
    let (same, order, stop) = one_planned a b o u s t (ap (drop 2) h) in
    cc (offered, first, second, same, order, stop)
one_of (query x) (grouped q y j b) k h = absurd (plain-apart x y j b h)
one_of (grouped p x i a) (query y) k h = absurd (plain-apart y x i a (sym h))
one_of (grouped p x i a) (grouped q y j b) k h =
    let offered = one_offered READS_GROUPS p q in
    let (explaining, word, same) = one_begun x y i j a b h in
    cc (offered, explaining, word, same)
one_of _ _ k h = absurd (omega (arith, k))

-- a list of words, each with its token, is spelled by one statement
pub one_tree : (x y : Statement) → words_of x ≡ words_of y → x ≡ y
one_tree x y e = one_of x y (same_kind x y e) e
