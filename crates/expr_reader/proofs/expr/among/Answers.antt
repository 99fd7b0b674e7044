use Rattle.std.proofs.Common.{◌≡◌, List, ◌∷◌, ◌++◌, Ok, arith, length, refl, sym, ap, ◌∙◌}
use Rattle.pg_expr.specs.Cond.{Cond}
use Rattle.pg_expr.specs.work.View.{cond, conds}
use Rattle.pg_expr.specs.declared.expr.Expr.{Expr}
use Rattle.sql_grammar.specs.declared.class.Symbol.TheVariants.{Close, Comma, Open}
use Rattle.sql_grammar.specs.Terminals.{Terminal, t_mark}
use Rattle.sql_grammar.specs.Words.{words_of_bounds, words_of_lit}
use Rattle.expr_reader.specs.Conditions.{literals_after, of_column}
use Rattle.expr_reader.specs.work.Expressions.{each_equal}
use Rattle.expr_reader.proofs.ListLemmas.{any, any-fault, any-read, equal_one, first-equal, first-equal-fault, next-equal, next-equal-read, next-equal-fault, last-equal}
use Rattle.expr_reader.proofs.PartLemmas.{some-parts, first-parts, more-parts, fewer}
use Rattle.expr_reader.proofs.ReadsLemmas.{read-ok, read-refused, read-want, was-read}
use Rattle.expr_reader.proofs.expr.among.Goals as goal

pub unreachable-requires : goal.unreachable-requires
unreachable-requires c = let (o, l, ls, m, rest, is) = c.requires in c.if-not-takes_mark.ensures.other refl _ (o, is)

pub returns-in_err-equality-clause-read : goal.returns-in_err-equality-clause-read
returns-in_err-equality-clause-read c = λ o l ls m rest is.
    let s = of_column c.args.c c.args.t c.args.first in
    let (k, took) = c.if-not-takes_mark.ensures.took refl in
    let words : c.takes_mark.new.self ≡ words_of_lit l ++ (words_of_bounds ls ++ t_mark Close m ∷ rest) = cc (took, is) in
    read-refused Expr Expr Cond Cond cond cond (equal_one s c.args.word l) (any (each_equal s c.args.word (l ∷ literals_after ls))) c.in_err-equality.field-0.0 c.from_residual.result (words_of_bounds ls ++ t_mark Close m ∷ rest) rest c.equality.new.from c.equality.new.from
    (c.in_err-equality.ensures.read l (words_of_bounds ls ++ t_mark Close m ∷ rest) words) (λ f e. any-fault _ f (first-equal-fault s c.args.word l ls f e)) c.from_residual.ensures.1

pub returns-in_err-push-clause-read : goal.returns-in_err-push-clause-read
returns-in_err-push-clause-read c = λ o l ls m rest is. read-want Expr Cond cond _ _ rest _ c.from_residual-in_err-push.ensures.1

pub more-init : goal.more-init
more-init c = record {
  left = λ o l ls m rest is. (
      let s = of_column c.args.c c.args.t c.args.first in
      let (k, took) = c.if-not-takes_mark.ensures.took refl in
      let words : c.takes_mark.new.self ≡ words_of_lit l ++ (words_of_bounds ls ++ t_mark Close m ∷ rest) = cc (took, is) in
      let x = c.in_ok-equality.field-0 in
      let read = was-read Expr Cond cond (equal_one s c.args.word l) x (words_of_bounds ls ++ t_mark Close m ∷ rest) c.equality.new.from (c.in_ok-equality.ensures.read l (words_of_bounds ls ++ t_mark Close m ∷ rest) words) in
      first-equal s c.args.word l ls (t_mark Close m ∷ rest) c.equality.new.from (conds c.push.new.self.items) (cond x) read.meant read.words
      (first-parts c.new-parts.result.items c.push.new.self.items x c.new-parts.ensures.items c.in_ok-push.ensures.items)
      );
  some = some-parts c.new-parts.result.items c.push.new.self.items c.in_ok-equality.field-0 c.in_ok-push.ensures.items;
  ahead = (
      let (k, took) = c.if-not-takes_mark.ensures.took refl in
      omega (arith, fewer c.args.from.now c.takes_mark.new.self (t_mark Open k) took, c.in_ok-equality.ensures.ahead)
      );
}

pub equality-requires-in-more : goal.equality-requires-in-more
equality-requires-in-more c =
    let (o, l, ls, m, rest, is) = c.requires in
    let s = of_column c.args.c c.args.t c.args.first in
    let (k, took) = c.more-test.ensures.took refl in
    let a = next-equal s c.args.word _ m rest (conds c.more.parts.items) c.more.from c.takes_mark-in-more.new.self k took (c.more.invariant.left o l ls m rest is) in
    (a.part, words_of_bounds a.more ++ t_mark Close m ∷ rest, a.words)

pub returns-in_err-equality-2-clause-read : goal.returns-in_err-equality-2-clause-read
returns-in_err-equality-2-clause-read c = λ o l ls m rest is.
    let s = of_column c.args.c c.args.t c.args.first in
    let (k, took) = c.more-test.ensures.took refl in
    let a = next-equal s c.args.word _ m rest (conds c.more.parts.items) c.more.from c.takes_mark-in-more.new.self k took (c.more.invariant.left o l ls m rest is) in
    read-refused Expr Expr Cond Cond cond cond (equal_one s c.args.word a.part) (any (each_equal s c.args.word (l ∷ literals_after ls))) c.in_err-equality-2.field-0.0 c.from_residual-in_err-equality-2.result (words_of_bounds a.more ++ t_mark Close m ∷ rest) rest c.equality-in-more.new.from c.equality-in-more.new.from
    (c.in_err-equality-2.ensures.read a.part (words_of_bounds a.more ++ t_mark Close m ∷ rest) a.words) (λ f e. any-fault _ f (next-equal-fault s c.args.word _ (t_mark Close m ∷ rest) (conds c.more.parts.items) c.takes_mark-in-more.new.self f a e)) c.from_residual-in_err-equality-2.ensures.1

pub more-preserved : goal.more-preserved
more-preserved c = record {
  left = λ o l ls m rest is. (
      let s = of_column c.args.c c.args.t c.args.first in
      let (k, took) = c.more-test.ensures.took refl in
      let a = next-equal s c.args.word _ m rest (conds c.more.parts.items) c.more.from c.takes_mark-in-more.new.self k took (c.more.invariant.left o l ls m rest is) in
      let x = c.in_ok-equality-2.field-0 in
      let read = was-read Expr Cond cond (equal_one s c.args.word a.part) x (words_of_bounds a.more ++ t_mark Close m ∷ rest) c.equality-in-more.new.from (c.in_ok-equality-2.ensures.read a.part (words_of_bounds a.more ++ t_mark Close m ∷ rest) a.words) in
      next-equal-read s c.args.word _ (t_mark Close m ∷ rest) (conds c.more.parts.items) (conds c.push-in-more.new.self.items) c.takes_mark-in-more.new.self c.equality-in-more.new.from (cond x) a read.meant read.words
      (more-parts c.more.parts.items c.push-in-more.new.self.items x c.in_ok-push-2.ensures.items)
      );
  some = some-parts c.more.parts.items c.push-in-more.new.self.items c.in_ok-equality-2.field-0 c.in_ok-push-2.ensures.items;
  ahead = (
      let (k, took) = c.more-test.ensures.took refl in
      omega (arith, fewer c.more.from c.takes_mark-in-more.new.self (t_mark Comma k) took, c.more.invariant.ahead, c.in_ok-equality-2.ensures.ahead)
      );
}

pub returns-in_err-push-2-clause-read : goal.returns-in_err-push-2-clause-read
returns-in_err-push-2-clause-read c = λ o l ls m rest is. read-want Expr Cond cond _ _ rest _ c.from_residual-in_err-push-2.ensures.1

pub unreachable-requires-then-not-takes_mark-2 : goal.unreachable-requires-then-not-takes_mark-2
unreachable-requires-then-not-takes_mark-2 c =
    let (o, l, ls, m, rest, is) = c.requires in
    let s = of_column c.args.c c.args.t c.args.first in
    let last = last-equal s c.args.word _ (t_mark Close m ∷ rest) (conds c.more.parts.items) c.more.from (c.more-test.ensures.other refl) (c.more.invariant.left o l ls m rest is) in
    c.if-not-takes_mark-2.ensures.other refl rest (m, c.more-test.ensures.left refl ∙ last.1)

pub returns-clause-read : goal.returns-clause-read
returns-clause-read c = λ o l ls m rest is.
    let s = of_column c.args.c c.args.t c.args.first in
    let last = last-equal s c.args.word _ (t_mark Close m ∷ rest) (conds c.more.parts.items) c.more.from (c.more-test.ensures.other refl) (c.more.invariant.left o l ls m rest is) in
    let (k, closed) = c.if-not-takes_mark-2.ensures.took refl in
    let words : t_mark Close k ∷ c.takes_mark-2.new.self ≡ t_mark Close m ∷ rest = sym closed ∙ (c.more-test.ensures.left refl ∙ last.1) in
    read-ok Expr Cond cond (any (each_equal s c.args.word (l ∷ literals_after ls))) c.or_of.result rest c.takes_mark-2.new.self (ap (λ m. Ok m) c.or_of.ensures ∙ any-read _ _ last.0) (cc (words))
