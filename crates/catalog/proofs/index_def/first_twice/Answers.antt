use Rattle.std.proofs.Common.{arith}
use Rattle.catalog.specs.work.Entries.{index_of}
use Rattle.catalog.specs.Indexes.{columns_of}
use Rattle.catalog.proofs.IndexLemmas.{different-all, different-more, length-columns}
use Rattle.catalog.proofs.NameLaws.{not_among}
use Rattle.catalog.proofs.index_def.first_twice.Goals as goal

pub loop-n-preserved : goal.loop-n-preserved
loop-n-preserved c =
    let x = index_of c.args.def.now in
    let len = length-columns x in
    different-more (columns_of x) c.loop-n.n (record { 0 = 0 }) (omega (arith, len, c.loop-n-test.true, c.len.ensures, c.len-2.ensures)) c.loop-n.invariant (not_among _ _ c.stands_before.ensures c.if-stands_before.false)

pub returns : goal.returns
returns c =
    let x = index_of c.args.def.now in
    let len = length-columns x in
    different-all (columns_of x) c.loop-n.n (omega (arith, len, c.loop-n-test.false, c.len.ensures, c.len-2.ensures)) c.loop-n.invariant
