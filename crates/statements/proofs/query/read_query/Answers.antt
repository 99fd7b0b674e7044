use Rattle.std.proofs.Common.{[], Err, Ok, arith}
use Rattle.sql_query.specs.Worlds.{world}
use Rattle.statements.specs.work.Ending.{end_of_refusal}
use Rattle.statements.proofs.TellingLemmas.{refused-by}
use Rattle.statements.proofs.AnsweringLemmas.{query-refused}
use Rattle.statements.proofs.QueryLemmas.{Reads, read-selected, selected-bound, selected-form, unplanned-selected}
use Rattle.statements.proofs.query.read_query.Goals as goal

pub returns-in_err-read-clause-refused : goal.returns-in_err-read-clause-refused
returns-in_err-read-clause-refused c = λ stored.
    let w = world c.args.catalog.now stored in
    let text = c.args.text.now in
    let tokens = c.args.tokens.now in
    let refused = c.in_err-read.field-0.0 in
    let reads : Reads w text tokens (Err refused) = record { grammar = c.in_err-read.ensures.grammar; plain = c.in_err-read.ensures.plain; grouped = c.in_err-read.ensures.grouped; well = tt } in
    refused-by w text tokens c.from_residual.result (end_of_refusal refused) (query-refused w text tokens refused c.requires.some c.requires.kind reads) c.from_residual.ensures.1

pub returns-clause-bound : goal.returns-clause-bound
returns-clause-bound c = selected-bound c.args.catalog.now c.in_ok-read.read c.in_ok-read.ensures.well

pub returns-clause-select : goal.returns-clause-select
returns-clause-select c =
    let w = world c.args.catalog.now [] in
    let text = c.args.text.now in
    let tokens = c.args.tokens.now in
    let reads : Reads w text tokens (Ok c.in_ok-read.read) =
    record { grammar = c.in_ok-read.ensures.grammar; plain = c.in_ok-read.ensures.plain; grouped = c.in_ok-read.ensures.grouped; well = c.in_ok-read.ensures.well } in
    selected-form w text tokens c.in_ok-read.read reads

pub returns-clause-read : goal.returns-clause-read
returns-clause-read c = λ stored.
    let w = world c.args.catalog.now stored in
    let text = c.args.text.now in
    let tokens = c.args.tokens.now in
    let reads : Reads w text tokens (Ok c.in_ok-read.read) =
    record { grammar = c.in_ok-read.ensures.grammar; plain = c.in_ok-read.ensures.plain; grouped = c.in_ok-read.ensures.grouped; well = c.in_ok-read.ensures.well } in
    read-selected w text tokens (omega (arith, c.requires.some)) c.in_ok-read.read reads

pub returns-clause-unplanned : goal.returns-clause-unplanned
returns-clause-unplanned c = λ stored none.
    let w = world c.args.catalog.now stored in
    let text = c.args.text.now in
    let tokens = c.args.tokens.now in
    let reads : Reads w text tokens (Ok c.in_ok-read.read) =
    record { grammar = c.in_ok-read.ensures.grammar; plain = c.in_ok-read.ensures.plain; grouped = c.in_ok-read.ensures.grouped; well = c.in_ok-read.ensures.well } in
    unplanned-selected w text tokens (omega (arith, c.requires.some)) c.in_ok-read.read reads none
