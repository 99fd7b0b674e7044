use Rattle.std.proofs.Common.{◌≡◌, ◌∙◌, ◌+◌, ap, sym, subst, true, map, drop, sum, arith, get_or}
use Rattle.pg_expr.specs.declared.expr.Expr.{Expr}
use Rattle.pg_expr.specs.work.View.{cond}
use Rattle.sql_query.specs.catalog_Contents.{index_at}
use Rattle.cost_rules.specs.work.Costs.{capped}
use Rattle.index_match.specs.Arms.{is_matched}
use Rattle.plan_tree.specs.work.Costable.{IsMatchedBy}
use Rattle.plan_tree.specs.Costs.{parts_of_arms}
use Rattle.plan_tree.proofs.PricingLemmas.{zip-at, zip-within, part-of-arm, arm-done, arms-done, arms-long}
use Rattle.plan_tree.proofs.pricing.arms_part.Goals as goal

pub bounds-indexes-n : goal.bounds-indexes-n
bounds-indexes-n c = zip-within (IsMatchedBy c.args.cat.now c.args.r.0) cond c.args.arms.now c.args.indexes.now c.loop-n.n c.requires.matched c.loop-n-test.true

pub arm_part_of-requires-clause-index : goal.arm_part_of-requires-clause-index
arm_part_of-requires-clause-index c = (zip-at (IsMatchedBy c.args.cat.now c.args.r.0) cond c.args.arms.now c.args.indexes.now c.loop-n.n c.index-arms-n.result (record { 0 = 0 }) c.requires.matched c.loop-n-test.true).made

pub arm_part_of-requires-clause-matched : goal.arm_part_of-requires-clause-matched
arm_part_of-requires-clause-matched c =
    subst (λ (x : Expr). is_matched (index_at c.args.cat.now (get_or c.args.indexes.now c.loop-n.n (record { 0 = 0 }))) c.args.r.0 (cond x) ≡ true) (sym c.index-arms-n.is)
    (zip-at (IsMatchedBy c.args.cat.now c.args.r.0) cond c.args.arms.now c.args.indexes.now c.loop-n.n c.index-arms-n.result (record { 0 = 0 }) c.requires.matched c.loop-n-test.true).matched

pub loop-n-preserved : goal.loop-n-preserved
loop-n-preserved c =
    let contents = c.args.cat.now in
    let q = c.args.q.now in
    let r = c.args.r in
    let p = c.args.p in
    let arms = c.args.arms.now in
    let is = c.args.indexes.now in
    let cut : c.min-sum.result ≡ capped (c.loop-n.sum + c.arm_part_of.result) = omega arith in
    record {
      most = omega arith;
      total =
          ap (λ n. capped (n + sum (parts_of_arms contents q r p (map cond (drop (c.loop-n.n + 1) arms)) (drop (c.loop-n.n + 1) is)))) cut
          ∙ arm-done contents q r p cond arms is c.loop-n.n c.index-arms-n.result (record { 0 = 0 }) c.loop-n.sum c.arm_part_of.result _ c.loop-n-test.true
          (zip-within (IsMatchedBy contents r.0) cond arms is c.loop-n.n c.requires.matched c.loop-n-test.true)
          (c.arm_part_of.ensures.part ∙ ap (λ (x : Expr). capped (part-of-arm contents q r p (cond x) (get_or is c.loop-n.n (record { 0 = 0 })))) c.index-arms-n.is) c.loop-n.invariant.total;
    }

pub returns-clause-part : goal.returns-clause-part
returns-clause-part c =
    let contents = c.args.cat.now in
    let q = c.args.q.now in
    let r = c.args.r in
    let p = c.args.p in
    let arms = c.args.arms.now in
    let is = c.args.indexes.now in
    c.together.ensures.part (parts_of_arms contents q r p (map cond arms) is)
    (arms-done contents q r p cond arms is c.loop-n.n c.loop-n.sum _ c.loop-n-test.false c.loop-n.invariant.most c.loop-n.invariant.total)
    (sym (arms-long contents q r p cond arms is c.requires.matched))
