use Rattle.std.proofs.Common.{◌∙◌, ap, take_all}
use Rattle.join_search.specs.work.Tables.{params_of}
use Rattle.join_search.proofs.TableLemmas.{params-more}
use Rattle.join_search.proofs.table.params_in.Goals as goal

pub loop-f-preserved : goal.loop-f-preserved
loop-f-preserved c = params-more c.args.places.now c.loop-f.f-index c.f-item.result c.loop-f.params.items c.push.new.self.items c.loop-f-test.true c.f-item.is c.loop-f.invariant c.in_ok-push.ensures.items

pub returns : goal.returns
returns c = c.loop-f.invariant ∙ ap params_of (take_all c.loop-f.f-index c.args.places.now c.loop-f-test.false)
