use Rattle.std.proofs.Common.{◌≡◌, ◌<◌, ◌≤◌, ◌+◌, ◌*◌, true, List, ◌++◌, length}
use Rattle.pg_expr.specs.work.View.{conds}
use Rattle.sql_grammar.specs.Terminals.{Terminal}
use Rattle.sql_grammar.specs.Syntax.{Expr, Conj}
use Rattle.sql_grammar.specs.work.Unique.{ends_conj, ends_expr}
use Rattle.sql_grammar.specs.Words.{words_of_expr, words_of_conj}
use Rattle.expr_reader.proofs.PartLemmas.{OrsLeft, AndsLeft}
use Rattle.expr_reader.proofs.expr.+expr.Given as goal

-- the words left get fewer, and within one word's place a part is in turn each of its kinds
abbrev pub decreases-atom : goal.decreases-atom
decreases-atom g l = 4 * length l.from.now

abbrev pub decreases-negation : goal.decreases-negation
decreases-negation g l = 4 * length l.from.now + 1

abbrev pub decreases-conjunction : goal.decreases-conjunction
decreases-conjunction g l = 4 * length l.from.now + 2

abbrev pub decreases-disjunction : goal.decreases-disjunction
decreases-disjunction g l = 4 * length l.from.now + 3

-- the parts read so far, with those that are left, are those of the tree
abbrev pub invariant-conjunction-more : goal.invariant-conjunction-more
invariant-conjunction-more g l = record {
  left : (c : Conj) (rest : List Terminal) → ends_conj rest ≡ true → l.fn.from ≡ words_of_conj c ++ rest → AndsLeft (g.S.Scope.visible l.scope) (g.S.Scope.type_of l.scope) c rest (conds l.parts.items) l.from;
  some : 0 < length l.parts.items;
  ahead : length l.from ≤ length l.fn.from;
}

abbrev pub decreases-conjunction-more : goal.decreases-conjunction-more
decreases-conjunction-more g l = length l.from

abbrev pub invariant-disjunction-more : goal.invariant-disjunction-more
invariant-disjunction-more g l = record {
  left : (e : Expr) (rest : List Terminal) → ends_expr rest ≡ true → l.fn.from ≡ words_of_expr e ++ rest → OrsLeft (g.S.Scope.visible l.scope) (g.S.Scope.type_of l.scope) e rest (conds l.parts.items) l.from;
  some : 0 < length l.parts.items;
  ahead : length l.from ≤ length l.fn.from;
}

abbrev pub decreases-disjunction-more : goal.decreases-disjunction-more
decreases-disjunction-more g l = length l.from
