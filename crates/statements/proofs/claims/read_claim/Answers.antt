use Rattle.std.proofs.Common.{Ok, Err, ◌<◌, ℕ, [], length, arith, subst, sym}
use Rattle.sql_query.specs.Worlds.{world}
use Rattle.statements.specs.work.Ending.{end_of_refusal}
use Rattle.statements.proofs.ArmsLemmas.{has-arms}
use Rattle.statements.proofs.BlockLemmas.{block-within}
use Rattle.statements.proofs.ClaimLemmas.{a-claim, claim-read, claim-whole, endless-refused, line-refused, meant-there, select-refused}
use Rattle.statements.proofs.PlaceLemmas.{ends-behind, start-behind}
use Rattle.statements.proofs.TellingLemmas.{refused-by}
use Rattle.statements.proofs.claims.read_claim.Goals as goal

pub data_start-requires-clause-from : goal.data_start-requires-clause-from
data_start-requires-clause-from c =
    let inside = (ends-behind c.args.text.now c.requires.words.0 c.args.tokens.now c.requires.words.1).inside in
    omega (arith, inside, c.end.ensures)

pub returns-in-Err-clause-refused : goal.returns-in-Err-clause-refused
returns-in-Err-clause-refused c = λ stored.
    let w = world c.args.catalog.now stored in
    let text = c.args.text.now in
    let tokens = c.args.tokens.now in
    line-refused c.args.given w text tokens (a-claim w text tokens c.args.given c.in_default.ensures c.requires.opens) c.end.result c.end.ensures c.in-Err.fault c.in-Err.ensures

pub read_select-requires-clause-within : goal.read_select-requires-clause-within
read_select-requires-clause-within c =
    let text = c.args.text.now in
    let tokens = c.args.tokens.now in
    let is = a-claim (world c.args.catalog.now []) text tokens c.args.given c.in_default.ensures c.requires.opens in
    subst (λ (n : ℕ). n < length tokens) (sym c.select_of.ensures) is.within

pub returns-in_err-query-clause-refused : goal.returns-in_err-query-clause-refused
returns-in_err-query-clause-refused c = λ stored.
    let w = world c.args.catalog.now stored in
    let text = c.args.text.now in
    let tokens = c.args.tokens.now in
    let given = c.args.given in
    let is = a-claim w text tokens given c.in_default.ensures c.requires.opens in
    let refused = c.in_err-query.field-0.0 in
    refused-by w text tokens c.from_residual.result (end_of_refusal refused)
    (select-refused given w text tokens is c.end.result c.end.ensures c.in-Ok.start c.in-Ok.ensures refused
    (meant-there given w text tokens is (Err refused) c.select_of.result c.select_of.ensures c.in_default.ensures c.in_err-query.ensures.binding))
    c.from_residual.ensures.1

pub block_end-requires-clause-start : goal.block_end-requires-clause-start
block_end-requires-clause-start c = (start-behind c.args.text.now c.end.result c.in-Ok.start c.in-Ok.ensures).1

pub returns-in-Some-block_end-clause-arms : goal.returns-in-Some-block_end-clause-arms
returns-in-Some-block_end-clause-arms c = has-arms c.args.catalog.now c.in_ok-query.query c.in_ok-query.ensures.classes c.in_ok-query.ensures.parts

pub returns-in-Some-block_end-clause-whole : goal.returns-in-Some-block_end-clause-whole
returns-in-Some-block_end-clause-whole c =
    let w = world c.args.catalog.now [] in
    let text = c.args.text.now in
    let tokens = c.args.tokens.now in
    let given = c.args.given in
    let is = a-claim w text tokens given c.in_default.ensures c.requires.opens in
    claim-whole given w text tokens is c.end.result c.end.ensures c.in-Ok.start c.in-Ok.ensures c.in_ok-query.query
    (meant-there given w text tokens is (Ok c.in_ok-query.query) c.select_of.result c.select_of.ensures c.in_default.ensures c.in_ok-query.ensures.binding)

pub returns-in-Some-block_end-clause-within : goal.returns-in-Some-block_end-clause-within
returns-in-Some-block_end-clause-within c =
    let text = c.args.text.now in
    let start = (start-behind text c.end.result c.in-Ok.start c.in-Ok.ensures).1 in
    let lies = block-within text c.in-Ok.start c.in-Some-block_end.end c.in-Some-block_end.next start c.in-Some-block_end.ensures in
    (lies.order, omega (arith, lies.end_order, lies.within))

pub returns-in-Some-block_end-clause-read : goal.returns-in-Some-block_end-clause-read
returns-in-Some-block_end-clause-read c = λ stored.
    let w = world c.args.catalog.now stored in
    let text = c.args.text.now in
    let tokens = c.args.tokens.now in
    let given = c.args.given in
    let is = a-claim w text tokens given c.in_default.ensures c.requires.opens in
    claim-read given w text tokens is c.end.result c.end.ensures c.in-Ok.start c.in-Ok.ensures c.in_ok-query.query
    (meant-there given w text tokens is (Ok c.in_ok-query.query) c.select_of.result c.select_of.ensures c.in_default.ensures c.in_ok-query.ensures.binding)
    c.in-Some-block_end.end c.in-Some-block_end.next c.in-Some-block_end.ensures c.in_ok-query.ensures.classes

pub returns-in-None-clause-refused : goal.returns-in-None-clause-refused
returns-in-None-clause-refused c = λ stored.
    let w = world c.args.catalog.now stored in
    let text = c.args.text.now in
    let tokens = c.args.tokens.now in
    let given = c.args.given in
    let is = a-claim w text tokens given c.in_default.ensures c.requires.opens in
    endless-refused given w text tokens is c.end.result c.end.ensures c.in-Ok.start c.in-Ok.ensures c.in_ok-query.query
    (meant-there given w text tokens is (Ok c.in_ok-query.query) c.select_of.result c.select_of.ensures c.in_default.ensures c.in_ok-query.ensures.binding)
    c.endless.result c.endless.ensures c.in-None.ensures
