use Rattle.sql_grammar.proofs.StatementWords.{words-are-tokens}
use Rattle.query_reader.proofs.FormLemmas.{ends-before, ends-last, fails, groups-else, no-end, ok, select-by-end}
use Rattle.query_reader.proofs.select.groups.Goals as goal

pub returns-in-Ok-clause-plain : goal.returns-in-Ok-clause-plain
returns-in-Ok-clause-plain c = λ test.
    let are = words-are-tokens c.args.text.now c.requires.words.0 c.args.tokens.now c.requires.words.1 c.requires.short in
    select-by-end c.args.text.now c.args.tokens.now c.args.first c.in-Ok.end are c.requires.whole c.in-Ok.ensures (ends-last c.in-Ok.end c.items.result.now c.args.tokens.now c.items.ensures test)

pub returns-in-Ok-clause-grouped : goal.returns-in-Ok-clause-grouped
returns-in-Ok-clause-grouped c = λ test.
    groups-else c.args.text.now c.args.tokens.now c.args.first (ok c.in-Ok.end) c.requires.within c.requires.whole c.requires.begins c.in-Ok.ensures
    (ends-before c.in-Ok.end c.items.result.now c.args.tokens.now c.args.first c.requires.within c.items.ensures test)

pub returns-in-Err-clause-grouped : goal.returns-in-Err-clause-grouped
returns-in-Err-clause-grouped c = λ test.
    groups-else c.args.text.now c.args.tokens.now c.args.first (fails c.in-Err.field-0) c.requires.within c.requires.whole c.requires.begins c.in-Err.ensures (no-end c.in-Err.field-0 _)
