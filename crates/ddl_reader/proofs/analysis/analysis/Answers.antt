use Rattle.std.proofs.Common.{Ok}
use Rattle.ddl_reader.proofs.Parts.{named}
use Rattle.ddl_reader.proofs.StatementWordLemmas.{table-told, analysis-read}
use Rattle.ddl_reader.proofs.analysis.analysis.Goals as goal

pub returns : goal.returns
returns c = λ n rest is.
    let one = named n rest c.in_ok-title.title c.args.from.now c.name.new.from is c.in_ok-title.ensures in
    let table = table-told c.args.cat.now n c.in_ok-title.title (Ok c.in_ok-table.table) one.0 c.in_ok-table.ensures.told in
    analysis-read c.args.cat.now n c.in_ok-table.table c.new.result.items table c.new.ensures.items
