use Rattle.std.proofs.Common.{arith}
use Rattle.plan_tree.specs.work.Views.{path}
use Rattle.plan_tree.proofs.BoundLemmas.{lawful-rows}
use Rattle.plan_tree.proofs.WindowLemmas.{path-cost}
use Rattle.plan_tree.proofs.window.cost_of.Goals as goal

pub returns : goal.returns
returns c =
    let numbers = c.requires.numbers in
    let h = path-cost c.args.cat.now c.args.q.now (path c.args.p.now) (lawful-rows c.args.cat.now c.args.q.now c.lawful.ensures) numbers c.requires.admissible in
    record {
      kept = h.0;
      cost = record { startup = h.1; most = omega (arith, numbers.cost, c.requires.admissible) };
    }
