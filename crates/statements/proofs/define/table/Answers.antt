use Rattle.std.proofs.Common.{◌∷◌, arith}
use Rattle.sql_query.specs.Worlds.{world}
use Rattle.statements.proofs.WordEndLemmas.{ends-as-many, ends-told}
use Rattle.statements.proofs.RefusalLemmas.{cause-for, refused-told}
use Rattle.statements.proofs.define.table.Goals as goal

pub refused_table-requires-clause-ends : goal.refused_table-requires-clause-ends
refused_table-requires-clause-ends g c =
    let names = c.args.asked.names.items in
    let told = ends-told c.args.at.now c.args.asked.name names c.deref.result.now c.in_ok-ends.ends.items c.deref-in-Err.result.now c.deref-in-Err.ensures.value c.in_ok-ends.ensures c.deref.ensures.value in
    ends-as-many c.args.at.now (c.args.asked.name ∷ names) c.deref-in-Err.result.now told (omega (arith, c.requires.places))

pub refused_table-requires-clause-cause : goal.refused_table-requires-clause-cause
refused_table-requires-clause-cause g c =
    cause-for (world c.args.catalog.now c.args.store.now.stored) c.args.asked.name c.args.asked.names.items c.args.asked.columns c.args.at.now c.in-Err.refused _ c.in-Err.ensures.cause c.requires.places

pub returns-clause-refused : goal.returns-clause-refused
returns-clause-refused g c =
    let w = world c.args.catalog.now c.args.store.now.stored in
    let names = c.args.asked.names.items in
    let told = ends-told c.args.at.now c.args.asked.name names c.deref.result.now c.in_ok-ends.ends.items c.deref-in-Err.result.now c.deref-in-Err.ensures.value c.in_ok-ends.ensures c.deref.ensures.value in
    refused-told w c.args.asked.name names c.args.asked.columns c.args.at.now c.in-Err.refused c.deref-in-Err.result.now c.refused_table.result
    c.in-Err.ensures.cause told c.refused_table.ensures
