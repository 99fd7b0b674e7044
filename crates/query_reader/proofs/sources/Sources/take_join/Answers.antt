use Rattle.std.proofs.Common.{◌∷◌, ◌++◌, Some, subst}
use Rattle.sql_grammar.specs.Words.{words_of_joins}
use Rattle.query_reader.specs.work.Joins.{IsNext}
use Rattle.query_reader.proofs.FromLemmas.{cross-join, on-join}
use Rattle.query_reader.proofs.JoinLemmas.{joins-alias, joins-expr}
use Rattle.query_reader.proofs.SourceLemmas.{into-same}
use Rattle.query_reader.proofs.sources.Sources.take_join.Goals as goal

pub take_on-requires : goal.take_on-requires
take_on-requires c =
    let (x, more, rest, ends, n) = c.requires in
    let o = on-join c.args.first x more rest c.args.from.now (subst (λ h. IsNext (Some h) (x ∷ more) rest c.args.from.now) c.in-On.is n) in
    (o.relation, o.on_at, o.condition, words_of_joins more ++ rest, joins-expr more rest ends, o.words)

pub take_relation-requires : goal.take_relation-requires
take_relation-requires c =
    let (x, more, rest, ends, n) = c.requires in
    let o = cross-join c.args.first x more rest c.args.from.now (subst (λ h. IsNext (Some h) (x ∷ more) rest c.args.from.now) c.in-Cross.is n) in
    (o.relation, words_of_joins more ++ rest, joins-alias more rest ends, o.words)

pub returns-in-On : goal.returns-in-On
returns-in-On c = λ x more rest ends n.
    let o = on-join c.args.first x more rest c.args.from.now (subst (λ h. IsNext (Some h) (x ∷ more) rest c.args.from.now) c.in-On.is n) in
    into-same c.take_on.new.self _ _ c.take_on.result (words_of_joins more ++ rest) c.take_on.new.from (o.meant c.args.self.now)
    (c.take_on.ensures o.relation o.on_at o.condition (words_of_joins more ++ rest) (joins-expr more rest ends) o.words)

pub returns-in-Cross : goal.returns-in-Cross
returns-in-Cross c = λ x more rest ends n.
    let o = cross-join c.args.first x more rest c.args.from.now (subst (λ h. IsNext (Some h) (x ∷ more) rest c.args.from.now) c.in-Cross.is n) in
    into-same c.take_relation.new.self _ _ c.take_relation.result (words_of_joins more ++ rest) c.take_relation.new.from (o.meant c.args.self.now)
    (c.take_relation.ensures o.relation (words_of_joins more ++ rest) (joins-alias more rest ends) o.words)
