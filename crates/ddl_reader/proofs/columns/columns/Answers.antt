use Rattle.std.proofs.Common.{[], ◌∷◌, ◌++◌, map, refl, ap, arith, Vec}
use Rattle.std.specs.declared.alloc.Global.{Global}
use Rattle.ddl_reader.specs.declared.columns.ColumnDef.{ColumnDef}
use Rattle.std.proofs.lemmas.Result.{err_from_is_err_and}
use Rattle.sql_grammar.specs.declared.class.Symbol.TheVariants.{Close}
use Rattle.sql_grammar.specs.Terminals.{t_mark}
use Rattle.sql_grammar.specs.Words.{words_of_columns}
use Rattle.ddl_reader.specs.work.AsMeant.{seen}
use Rattle.ddl_reader.proofs.AnswerLemmas.{err-reads, grown}
use Rattle.ddl_reader.proofs.ListLemmas.{first, next, at-fault, more, all-read}
use Rattle.ddl_reader.proofs.ColumnLemmas.{column_parts, columns-end}
use Rattle.ddl_reader.proofs.columns.columns.Goals as goal

pub returns-in_err-first-clause-read : goal.returns-in_err-first-clause-read
returns-in_err-first-clause-read c = λ x xs m rest is.
    let p = err_from_is_err_and c.from_residual.result c.from_residual.ensures.1 in
    let n = first column_parts x xs m rest c.args.from.now is in
    rw (p.1, p.2) (err-reads seen (λ (v : Vec ColumnDef Global). map seen v.items) c.in_err-first.field-0.0 _ _ (c.in_err-first.ensures.read x _ (columns-end xs m rest) is) (λ f wrong. at-fault column_parts _ [] c.args.from.now m rest n f wrong))

pub one_column-requires : goal.one_column-requires
one_column-requires c =
    let (x, xs, m, rest, is) = c.requires in
    (x, words_of_columns xs ++ t_mark Close m ∷ rest, columns-end xs m rest, is)

pub more-init : goal.more-init
more-init c = (
  omega (arith, c.in_ok-push.ensures.len),
  λ x xs m rest is.
      let n = first column_parts x xs m rest c.args.from.now is in
      let d = c.in_ok-first.first in
      more column_parts _ [] (map seen c.push.new.self.items) c.args.from.now c.one_column.new.from m rest n (seen d)
      (c.in_ok-first.ensures.read x _ (columns-end xs m rest) is) (c.in_ok-first.ensures.left x _ (columns-end xs m rest) is)
      (grown seen _ _ d [] c.in_ok-push.ensures.items (ap (map seen) c.new-all.ensures.items)),
)

pub returns-in_err-next-clause-read : goal.returns-in_err-next-clause-read
returns-in_err-next-clause-read c = λ x xs m rest is.
    let p = err_from_is_err_and c.from_residual-in_err-next.result c.from_residual-in_err-next.ensures.1 in
    let (token, comma) = c.more-test.ensures.took refl in
    let n = next column_parts _ (map seen c.more.all.items) c.more.from c.takes_mark.new.self token m rest comma (c.more.invariant.1 x xs m rest is) in
    rw (p.1, p.2) (err-reads seen (λ (v : Vec ColumnDef Global). map seen v.items) c.in_err-next.field-0.0 _ _ (c.in_err-next.ensures.read n.y _ (columns-end n.ys m rest) n.words) (λ f wrong. at-fault column_parts _ _ c.takes_mark.new.self m rest n f wrong))

pub more-preserved : goal.more-preserved
more-preserved c = (
  omega (arith, c.in_ok-push-2.ensures.len),
  λ x xs m rest is.
      let (token, comma) = c.more-test.ensures.took refl in
      let n = next column_parts _ (map seen c.more.all.items) c.more.from c.takes_mark.new.self token m rest comma (c.more.invariant.1 x xs m rest is) in
      let d = c.in_ok-next.next in
      more column_parts _ (map seen c.more.all.items) (map seen c.push-in-more.new.self.items) c.takes_mark.new.self c.one_column-in-more.new.from m rest n (seen d)
      (c.in_ok-next.ensures.read n.y _ (columns-end n.ys m rest) n.words) (c.in_ok-next.ensures.left n.y _ (columns-end n.ys m rest) n.words)
      (grown seen _ _ d _ c.in_ok-push-2.ensures.items refl),
)

pub returns-clause-read : goal.returns-clause-read
returns-clause-read c = λ x xs m rest is. (all-read column_parts _ _ c.more.from m rest (c.more-test.ensures.other refl) (c.more.invariant.1 x xs m rest is)).0

pub one_column-requires-in-more : goal.one_column-requires-in-more
one_column-requires-in-more c =
    let (x, xs, m, rest, is) = c.requires in
    let (token, comma) = c.more-test.ensures.took refl in
    let n = next column_parts _ (map seen c.more.all.items) c.more.from c.takes_mark.new.self token m rest comma (c.more.invariant.1 x xs m rest is) in
    (n.y, words_of_columns n.ys ++ t_mark Close m ∷ rest, columns-end n.ys m rest, n.words)
