use Rattle.std.proofs.Common.{◌≡◌, ◌++◌, arith, ap, subst, ◌∙◌, length}
use Rattle.sql_grammar.specs.Words.{words_of_joins}
use Rattle.expr_reader.proofs.StepLemmas.{step, stop}
use Rattle.query_reader.specs.work.Conveys.{ReadsInto}
use Rattle.query_reader.specs.From.{Joined, with_group, with_joins, with_relation}
use Rattle.query_reader.specs.Written.{source_of}
use Rattle.query_reader.proofs.FromLemmas.{group-words}
use Rattle.query_reader.proofs.JoinLemmas.{joins-alias}
use Rattle.query_reader.proofs.SourceLemmas.{into-fault, into-same, into-stopped, was-into}
use Rattle.query_reader.proofs.sources.Sources.take_group.Goals as goal

pub take_relation-requires : goal.take_relation-requires
take_relation-requires c =
    let (g, rest, ends, is) = c.requires in
    let p = group-words g rest _ is in
    (p.relation, words_of_joins p.joins ++ rest, joins-alias p.joins rest ends, p.words)

pub returns-in_err-take_relation : goal.returns-in_err-take_relation
returns-in_err-take_relation c = λ g rest ends is.
    let p = group-words g rest _ is in
    let told = c.in_err-take_relation.ensures p.relation (words_of_joins p.joins ++ rest) (joins-alias p.joins rest ends) p.words in
    into-stopped (Unit {0}) Joined c.take_relation.new.self _ c.in_err-take_relation.field-0.0 _ rest _
    (λ f at. ap (with_group c.args.self.now) p.is ∙ stop (with_relation c.args.self.now (source_of p.relation)) _ f (into-fault (Unit {0}) Joined c.take_relation.new.self _ (words_of_joins p.joins ++ rest) c.take_relation.new.from _ f told at))
    c.from_residual.ensures.1

pub take_joins-requires : goal.take_joins-requires
take_joins-requires c =
    let (g, rest, ends, is) = c.requires in
    let p = group-words g rest _ is in
    let told = c.in_ok-take_relation.ensures p.relation (words_of_joins p.joins ++ rest) (joins-alias p.joins rest ends) p.words in
    let w = was-into (Unit {0}) Joined c.take_relation.new.self (with_relation c.args.self.now (source_of p.relation)) _ (words_of_joins p.joins ++ rest) c.take_relation.new.from told in
    (p.joins, rest, ends, w.words)

pub returns : goal.returns
returns c = λ g rest ends is.
    let p = group-words g rest _ is in
    let told = c.in_ok-take_relation.ensures p.relation (words_of_joins p.joins ++ rest) (joins-alias p.joins rest ends) p.words in
    let w = was-into (Unit {0}) Joined c.take_relation.new.self (with_relation c.args.self.now (source_of p.relation)) _ (words_of_joins p.joins ++ rest) c.take_relation.new.from told in
    let at : c.len-first.result ≡ length c.args.self.now.range = omega (arith, c.len-first.ensures, ap (λ (j : Joined). length j.range) c.self.view_is) in
    into-same c.take_joins.new.self _ (with_joins (length c.args.self.now.range) c.take_relation.new.self p.joins) c.take_joins.result rest c.take_joins.new.from
    (ap (with_group c.args.self.now) p.is ∙ step (with_relation c.args.self.now (source_of p.relation)) _ c.take_relation.new.self w.meant)
    (subst (λ n. ReadsInto c.take_joins.new.self (with_joins n c.take_relation.new.self p.joins) rest c.take_joins.result c.take_joins.new.from) at
    (c.take_joins.ensures p.joins rest ends w.words))
