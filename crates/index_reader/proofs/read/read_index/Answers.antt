use Rattle.std.proofs.Common.{◌-◌, List, length, ap, arith}
use Rattle.sql_lex.specs.declared.tokens.Token.{Token}
use Rattle.sql_grammar.proofs.StatementWords.{words-are-tokens}
use Rattle.ddl_reader.proofs.TokenLaws.{some-token}
use Rattle.index_reader.specs.work.Candidates.{cand_of}
use Rattle.index_reader.proofs.CandLemmas.{cand-behind, index-told}
use Rattle.index_reader.proofs.IndexLemmas.{indexing, meant-as, refused-as}
use Rattle.index_reader.proofs.read.read_index.Goals as goal

pub overflow_cast-items : goal.overflow_cast-items
overflow_cast-items c =
    let few = (words-are-tokens c.args.text.now c.requires.words.0 c.args.tokens.now c.requires.words.1 c.requires.short).few in
    omega (arith, few, ap (λ (ts : List Token). length ts) c.items.ensures)

pub overflow_sub-items : goal.overflow_sub-items
overflow_sub-items c = omega (arith, some-token c.args.text.now c.requires.words.0 c.args.tokens.now c.requires.words.1, ap (λ (ts : List Token). length ts) c.items.ensures)

pub cand-requires-clause-part : goal.cand-requires-clause-part
cand-requires-clause-part c =
    let given = indexing c.args.text.now c.args.tokens.now c.in-None.ensures c.requires.opens in
    (cand_of given.tree, cand-behind given.tree c.args.text.now c.args.tokens.now _ given.spelled (ap (λ (ts : List Token). length ts - 1) c.items.ensures))

pub returns-in-None-clause-read : goal.returns-in-None-clause-read
returns-in-None-clause-read c =
    let given = indexing c.args.text.now c.args.tokens.now c.in-None.ensures c.requires.opens in
    let some = some-token c.args.text.now c.requires.words.0 c.args.tokens.now c.requires.words.1 in
    meant-as c.args.cat.now c.args.text.now c.args.tokens.now c.cand.result given
    (index-told c.args.cat.now c.args.text.now c.args.tokens.now given.tree _ c.cand.result given.spelled some (ap (λ (ts : List Token). length ts - 1) c.items.ensures) c.cand.ensures.meaning)

pub returns-in-None-clause-refused : goal.returns-in-None-clause-refused
returns-in-None-clause-refused c =
    let given = indexing c.args.text.now c.args.tokens.now c.in-None.ensures c.requires.opens in
    let some = some-token c.args.text.now c.requires.words.0 c.args.tokens.now c.requires.words.1 in
    refused-as c.args.cat.now c.args.text.now c.args.tokens.now c.cand.result given
    (index-told c.args.cat.now c.args.text.now c.args.tokens.now given.tree _ c.cand.result given.spelled some (ap (λ (ts : List Token). length ts - 1) c.items.ensures) c.cand.ensures.meaning)
