use Rattle.std.proofs.Common.{◌+◌, ◌∙◌, List, ap, arith, refl, subst, sym}
use Rattle.std.specs.Prelude.{Some, option_map}
use Rattle.certificate_entries.specs.explain_Texts.{leaf_line}
use Rattle.plan_tree.specs.Plans.{BitTree, some_arm}
use Rattle.plan_tree.proofs.PricingLemmas.{or-bits}
use Rattle.pg_base.specs.declared.numbers.IndexNo.{IndexNo}
use Rattle.plan_lines.specs.work.Parts.{IsShallow}
use Rattle.plan_lines.specs.HasText.{HasBits}
use Rattle.plan_lines.specs.Stands.{Stands}
use Rattle.plan_lines.proofs.ListLemmas.{broken, done}
use Rattle.plan_lines.proofs.TreeLemmas.{HasLeaf, arm-has, leaf-begins, leaf-item, leaves-begun, leaves-have, leaves-next, no-leaf}
use Rattle.pg_base.proofs.OptionLemmas.{none-some-too as none-some}
use Rattle.plan_lines.proofs.trees.read_arms.Goals as goal

pub arms-init : goal.arms-init
arms-init c = leaves-begun c.args.cat.now c.args.q.now c.args.depth c.args.at.now c.new-indexes.result.items c.new-indexes.ensures.items

pub arms-preserved : goal.arms-preserved
arms-preserved c =
    let less = c.in-Some.ensures.less in
    leaves-next c.args.cat.now c.args.q.now c.args.depth c.args.at.now c.arms.at c.next_at.new.self c.arms.indexes.items c.push.new.self.items c.read_leaf_at.result c.in-Some-read_leaf_at.index c.arms.invariant
    (λ (shallow : IsShallow c.args.depth c.arms.at). none-some c.next_at.result c.in-Some.line (c.next_at.ensures.shallow c.args.depth refl shallow) c.in-Some.is)
    (leaf-item c.args.cat.now c.args.q.now c.lawful.ensures c.args.depth c.arms.at c.next_at.new.self c.in-Some.line.now (option_map (λ l. l.now) c.next_at.result) c.read_leaf_at.result c.next_at.ensures.only
    (ap (option_map (λ l. l.now)) c.in-Some.is) c.read_leaf_at.ensures.only)
    c.in-Some-read_leaf_at.is c.in-Some-read_leaf_at.ensures.has c.in_ok-push-in-Some-read_leaf_at.ensures.items (omega (arith, less))

pub returns-in-None-clause-only : goal.returns-in-None-clause-only
returns-in-None-clause-only c = λ is rest has low shallow e.
    absurd (broken (HasLeaf c.args.cat.now c.args.q.now (c.args.depth + 1)) (leaf_line c.args.cat.now (c.args.depth + 1)) c.args.depth (leaf-begins c.args.cat.now c.args.q.now c.args.depth) c.args.at.now c.arms.at c.next_at.new.self c.arms.indexes.items
    c.read_leaf_at.result c.arms.invariant.list
    (λ (s : IsShallow c.args.depth c.arms.at). none-some c.next_at.result c.in-Some.line (c.next_at.ensures.shallow c.args.depth refl s) c.in-Some.is)
    (leaf-item c.args.cat.now c.args.q.now c.lawful.ensures c.args.depth c.arms.at c.next_at.new.self c.in-Some.line.now (option_map (λ l. l.now) c.next_at.result) c.read_leaf_at.result c.next_at.ensures.only
    (ap (option_map (λ l. l.now)) c.in-Some.is) c.read_leaf_at.ensures.only)
    c.in-None.is is rest (leaves-have c.args.cat.now c.args.q.now (c.args.depth + 1) is has low) shallow e)

pub returns-clause-has : goal.returns-clause-has
returns-clause-has c =
    subst (λ (b : BitTree). HasBits c.args.cat.now c.args.q.now b × Stands c.args.depth b) (sym (or-bits c.args.clause c.arms.indexes))
    (arm-has c.args.cat.now c.args.q.now c.args.depth c.args.clause c.arms.indexes.items c.requires.clause c.requires.deep c.arms.invariant.has)

pub returns-clause-only : goal.returns-clause-only
returns-clause-only c = λ is rest has low shallow e.
    let r = done (HasLeaf c.args.cat.now c.args.q.now (c.args.depth + 1)) (leaf_line c.args.cat.now (c.args.depth + 1)) c.args.depth (leaf-begins c.args.cat.now c.args.q.now c.args.depth) c.args.at.now c.arms.at c.next_at.new.self c.arms.indexes.items
    c.arms.invariant.list
    (no-leaf c.args.cat.now c.args.q.now c.lawful.ensures c.args.depth c.arms.at c.next_at.new.self (option_map (λ l. l.now) c.next_at.result) c.next_at.ensures.only (ap (option_map (λ l. l.now)) c.in_default.is)) c.in_default.ensures.left
    is rest (leaves-have c.args.cat.now c.args.q.now (c.args.depth + 1) is has low) shallow e in
    (ap (λ (b : BitTree). Some b) (or-bits c.args.clause c.arms.indexes ∙ ap (λ (l : List IndexNo). some_arm c.args.clause l) r.0), r.1)
