use Rattle.std.proofs.Common.{◌≡◌, ◌≤◌, ◌<◌, List, ◌∷◌, ◌++◌, length}
use Rattle.pg_expr.specs.work.View.{conds}
use Rattle.sql_grammar.specs.declared.class.Symbol.TheVariants.{Close, Open}
use Rattle.sql_grammar.specs.Terminals.{Terminal, t_mark}
use Rattle.sql_grammar.specs.Syntax.{Lit, Mark}
use Rattle.sql_grammar.specs.Words.{words_of_bounds, words_of_lit}
use Rattle.expr_reader.specs.Conditions.{literals_after, of_column}
use Rattle.expr_reader.specs.work.Expressions.{each_equal}
use Rattle.expr_reader.proofs.ListLemmas.{EqualsLeft}
use Rattle.expr_reader.proofs.expr.among.Given as goal

-- the comparisons read so far, with those that are left, are those of the list
abbrev pub invariant-more : goal.invariant-more
invariant-more l = record {
  left : (o : Mark) (one : Lit) (ls : List (Mark × Lit)) (m : Mark) (rest : List Terminal) → l.fn.from ≡ t_mark Open o ∷ (words_of_lit one ++ (words_of_bounds ls ++ t_mark Close m ∷ rest)) →
      EqualsLeft (of_column l.fn.c l.fn.t l.fn.first) l.fn.word (each_equal (of_column l.fn.c l.fn.t l.fn.first) l.fn.word (one ∷ literals_after ls)) (t_mark Close m ∷ rest) (conds l.parts.items) l.from;
  some : 0 < length l.parts.items;
  ahead : length l.from ≤ length l.fn.from;
}

abbrev pub decreases-more : goal.decreases-more
decreases-more l = length l.from
