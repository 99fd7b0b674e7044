use Rattle.std.proofs.Common.{◌≡◌, Err, rules}
use Rattle.statements.specs.declared.end.End.TheVariants.{Fault}
use Rattle.pgplan.proofs.TopLemmas.{told_fault}
use Rattle.pgplan.proofs.top.close.Goals as goal

pub returns-in-Err-Fault-clause-line : goal.returns-in-Err-Fault-clause-line
returns-in-Err-Fault-clause-line g c =
    let e : c.args.ended.now ≡ Err (Fault c.in-Err-Fault.fault) = search rules in
    told_fault c.write_fault.result c.args.ended.now c.args.catalog.now c.args.text.now c.in-Err-Fault.fault _ _ _ _ e c.write_fault.ensures.ok c.write_fault.ensures.err c.write_fault.ensures.cause
