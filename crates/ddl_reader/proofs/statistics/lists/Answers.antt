use Rattle.std.proofs.Common.{◌++◌, Vec}
use Rattle.std.proofs.lemmas.Result.{err_from_is_err_and}
use Rattle.std.specs.declared.alloc.Global.{Global}
use Rattle.sql_grammar.specs.Words.{words_of_histogram}
use Rattle.expr_reader.specs.declared.value.Placed.{Placed}
use Rattle.ddl_reader.specs.declared.literals.CommonRead.{CommonRead}
use Rattle.ddl_reader.specs.Statistics.{commons_of, bounds_of}
use Rattle.ddl_reader.specs.work.Readings.{reading}
use Rattle.ddl_reader.proofs.AnswerLemmas.{err-reads}
use Rattle.ddl_reader.proofs.Opened.{made-reads}
use Rattle.ddl_reader.proofs.LiteralListLemmas.{lists-end}
use Rattle.ddl_reader.proofs.StatisticsLemmas.{statistics-ok, common-err, bound-err}
use Rattle.ddl_reader.proofs.statistics.lists.Goals as goal

pub common-requires : goal.common-requires
common-requires c =
    let (cs, h, rest, commons, bounds, is) = c.requires in
    (cs, words_of_histogram h ++ rest, lists-end h rest commons, is)

pub histogram-requires : goal.histogram-requires
histogram-requires c =
    let (cs, h, rest, commons, bounds, is) = c.requires in
    (h, rest, bounds, c.in_ok-common.ensures.left cs _ (lists-end h rest commons) is)

pub returns-in_err-common : goal.returns-in_err-common
returns-in_err-common c = λ d n cs h rest distinct nulls commons bounds is.
    let p = err_from_is_err_and c.from_residual.result c.from_residual.ensures.1 in
    rw (p.1, p.2) (err-reads (λ (v : Vec CommonRead Global). v.items) reading c.in_err-common.field-0.0 _ _ (c.in_err-common.ensures.read cs _ (lists-end h rest commons) is)
    (common-err c.args.t c.args.counted d n (commons_of cs) (bounds_of h)))

pub returns-in_err-bounds : goal.returns-in_err-bounds
returns-in_err-bounds c = λ d n cs h rest distinct nulls commons bounds is.
    let p = err_from_is_err_and c.from_residual-in_err-bounds.result c.from_residual-in_err-bounds.ensures.1 in
    let left = c.in_ok-common.ensures.left cs _ (lists-end h rest commons) is in
    rw (p.1, p.2) (err-reads (λ (v : Vec Placed Global). v.items) reading c.in_err-bounds.field-0.0 _ _ (c.in_err-bounds.ensures h rest bounds left)
    (λ f wrong. bound-err c.args.t c.args.counted d n (commons_of cs) (bounds_of h) c.in_ok-common.common.items f (c.in_ok-common.ensures.read cs _ (lists-end h rest commons) is) wrong))

pub returns : goal.returns
returns c = λ d n cs h rest distinct nulls commons bounds is.
    let left = c.in_ok-common.ensures.left cs _ (lists-end h rest commons) is in
    made-reads c.made.result _ _ c.made.ensures
    (statistics-ok c.args.t c.args.counted d n (commons_of cs) (bounds_of h) c.in_ok-common.common.items c.in_ok-bounds.bounds.items distinct nulls
    (c.in_ok-common.ensures.read cs _ (lists-end h rest commons) is) (c.in_ok-bounds.ensures h rest bounds left))
