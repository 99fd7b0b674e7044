use Rattle.std.proofs.Common.{◌∙◌, refl, sym, ap, arith}
use Rattle.cost_rules.specs.declared.pair.Pair.{Pair}
use Rattle.plan_tree.specs.Costs as costs
use Rattle.plan_tree.specs.work.Costs as costs_work
use Rattle.plan_tree.specs.Paths.{startup_kept}
use Rattle.plan_tree.specs.work.Views.{plan}
use Rattle.plan_tree.proofs.BoundLemmas.{lawful-rows, startup-most}
use Rattle.plan_tree.proofs.PathLemmas.{built-below, uncut}
use Rattle.plan_tree.proofs.make.scan_path.Goals as goal

pub estimate-rows-requires-clause-reads : goal.estimate-rows-requires-clause-reads
estimate-rows-requires-clause-reads c = built-below c.args.cat.now c.args.q.now (plan c.args.t) c.requires.of.built

pub returns : goal.returns
returns c =
    let of = c.requires.of in
    let total = uncut (costs.cost c.args.cat.now c.args.q.now (plan c.args.t)).total c.args.cost.total (ap (λ (p : Pair). p.total) c.requires.cost) c.requires.below in
    let most = startup-most c.args.cat.now c.args.q.now (lawful-rows c.args.cat.now c.args.q.now c.lawful.ensures) (plan c.args.t) in
    let cut = ap (λ (p : Pair). p.startup) c.requires.cost in
    let startup = uncut (costs.cost c.args.cat.now c.args.q.now (plan c.args.t)).startup c.args.cost.startup cut (omega (arith, cut, most, total, c.requires.below)) in
    record {
      tree = refl;
      numbers = record {
        plan = record {
          built = of.built;
          plain = of.plain;
          set_is = λ k. of.set_is k ∙ sym (c.one.ensures k);
          param_is = of.param_is;
        };
        numbers = record {
          set = λ k. c.one.ensures k ∙ sym (of.set_is k);
          param = λ k. sym (of.param_is k);
          startup = c.startup_of.ensures ∙ ap (startup_kept c.args.q.now.window) startup;
          cost = total;
          rows = c.estimate-rows.ensures.rows;
          keys = c.requires.keys;
        };
      };
      admissible = omega (arith, sym total, c.requires.below);
    }
