use Rattle.std.proofs.Common.{◌≡◌, rules}
use Rattle.std.proofs.lemmas.Result.{err_from_is_err_and}
use Rattle.index_reader.specs.work.Reads.{index_meant}
use Rattle.sql_query.specs.Worlds.{world}
use Rattle.statements.specs.work.Ending.{end_by}
use Rattle.statements.specs.Faults.{index_fault}
use Rattle.statements.proofs.IndexingLemmas.{read-refused, refused-as}
use Rattle.statements.proofs.index.create_index.Goals as goal

pub returns-in_err-name-clause-refused : goal.returns-in_err-name-clause-refused
returns-in_err-name-clause-refused g c =
    let p = err_from_is_err_and c.from_residual.result c.from_residual.ensures.1 in
    rw (p.1, p.2) (read-refused (world c.args.catalog.now c.args.store.now.stored) c.args.text.now c.args.tokens.now c.args.reads.now c.in_err-name.field-0.0 c.in_err-name.ensures.refused)

pub returns-clause-refused : goal.returns-clause-refused
returns-clause-refused g c =
    let read = c.in_ok-name.field-0 in
    let at : c.deref.result.now ≡ read.at.items = search rules in
    let told : c.refused_index.result ≡ end_by (index_fault c.in-Err.refused c.deref.result.now read.method c.args.tokens.now) = search rules in
    refused-as (world c.args.catalog.now c.args.store.now.stored) c.args.text.now c.args.tokens.now (index_meant read) c.in_ok-name.ensures.read c.args.reads.now c.build.new.reads c.in-Err.refused c.deref.result.now c.refused_index.result
    c.in-Err.ensures.cause c.in-Err.ensures.unread c.in-Err.ensures.looks at told
