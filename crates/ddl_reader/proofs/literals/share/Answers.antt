use Rattle.std.proofs.Common.{◌∷◌, ◌∙◌}
use Rattle.std.proofs.lemmas.Result.{err_from_is_err_and}
use Rattle.sql_grammar.specs.Terminals.{t_number}
use Rattle.expr_reader.specs.declared.value.Placed.{Placed}
use Rattle.ddl_reader.specs.declared.literals.CommonRead.{CommonRead}
use Rattle.ddl_reader.specs.Statistics.{common_words}
use Rattle.ddl_reader.proofs.AnswerLemmas.{err-reads}
use Rattle.ddl_reader.proofs.LiteralListLemmas.{numbered-is, share-words, share-ok, share-err}
use Rattle.ddl_reader.proofs.literals.share.Goals as goal

pub bound-requires : goal.bound-requires
bound-requires c =
    let (s, rest, is) = c.requires in
    ((common_words s).0, t_number (common_words s).1 ∷ rest, is ∙ share-words s rest)

pub number-share-requires : goal.number-share-requires
number-share-requires c =
    let (s, rest, is) = c.requires in
    ((common_words s).1, rest, c.in_ok-literal.ensures.left (common_words s).0 _ (is ∙ share-words s rest))

pub returns-in_err-literal-clause-read : goal.returns-in_err-literal-clause-read
returns-in_err-literal-clause-read c = λ s rest is.
    let p = err_from_is_err_and c.from_residual.result c.from_residual.ensures.1 in
    rw (p.1, p.2) (err-reads (λ (b : Placed). b) (λ (b : CommonRead). b) c.in_err-literal.field-0.0 _ _ (c.in_err-literal.ensures.read (common_words s).0 _ (is ∙ share-words s rest)) (share-err c.args.t (common_words s)))

pub returns-clause-read : goal.returns-clause-read
returns-clause-read c = λ s rest is.
    let old = is ∙ share-words s rest in
    let (number, _) = numbered-is (common_words s).1 rest c.number-share.result c.bound.new.from c.number-share.new.from (c.in_ok-literal.ensures.left (common_words s).0 _ old) c.number-share.ensures in
    share-ok c.args.t (common_words s) c.in_ok-literal.literal c.number-share.result (c.in_ok-literal.ensures.read (common_words s).0 _ old) number

pub returns-clause-left : goal.returns-clause-left
returns-clause-left c = λ s rest is.
    (numbered-is (common_words s).1 rest c.number-share.result c.bound.new.from c.number-share.new.from (c.in_ok-literal.ensures.left (common_words s).0 _ (is ∙ share-words s rest)) c.number-share.ensures).1
