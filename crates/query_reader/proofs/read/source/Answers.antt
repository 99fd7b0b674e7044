use Rattle.std.proofs.Common.{◌≡◌, ◌++◌, sym, ap, ◌∙◌}
use Rattle.sql_grammar.specs.Words.{words_of_alias}
use Rattle.query_reader.specs.declared.written.Source.{Source}
use Rattle.query_reader.specs.Written.{alias_of, source_of}
use Rattle.expr_reader.specs.Reading.{spelled}
use Rattle.query_reader.proofs.JoinLemmas.{relation-words}
use Rattle.query_reader.proofs.read.source.Goals as goal

pub alias-requires : goal.alias-requires
alias-requires c =
    let (r, rest, ends, is) = c.requires in
    let w = relation-words r rest _ is in
    let first = c.in_ok-table.ensures.read w.name (words_of_alias w.alias ++ rest) w.words in
    (w.alias, rest, ends, first.1)

pub returns : goal.returns
returns c = λ r rest ends is.
    let w = relation-words r rest _ is in
    let first = c.in_ok-table.ensures.read w.name (words_of_alias w.alias ++ rest) w.words in
    let second = c.in_ok-alias.ensures w.alias rest ends first.1 in
    let same : ◌≡◌ {A = Source} (record { table = c.in_ok-table.table; alias = c.in_ok-alias.alias }) (record { table = spelled w.name; alias = alias_of w.alias }) = cc (first.0, second.0) in
    (same ∙ sym (ap source_of w.is), second.1)
