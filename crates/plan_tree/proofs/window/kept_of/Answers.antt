use Rattle.std.proofs.Common.{ap, arith}
use Rattle.cost_rules.specs.Costs.{pair}
use Rattle.plan_tree.proofs.WindowLemmas.{kept-least}
use Rattle.plan_tree.proofs.window.kept_of.Goals as goal

pub returns : goal.returns
returns c =
    let same = c.startup_of.ensures in
    let least = kept-least c.args.q.now.window c.args.cost.startup in
    record {
      kept = ap (λ n. pair n c.args.cost.total) same;
      cost = record { startup = omega (arith, same, least, c.requires.startup); most = c.requires.most };
    }
