use Rattle.std.proofs.Common.{◌+◌, ◌∙◌, ◌++◌, ℕ, List, ap, arith, map, refl, subst, sym}
use Rattle.std.specs.Prelude.{Some, option_map}
use Rattle.certificate_entries.specs.explain_Texts.{bits_text}
use Rattle.plan_tree.specs.Plans.{BitTree, all_hold}
use Rattle.plan_tree.specs.work.Views.{bits, trees_of}
use Rattle.plan_tree.proofs.PricingLemmas.{and-bits}
use Rattle.plan_lines.specs.work.Parts.{IsShallow}
use Rattle.plan_lines.specs.HasText.{HasBits}
use Rattle.plan_lines.specs.Stands.{Stands}
use Rattle.plan_lines.proofs.ListLemmas.{broken, done}
use Rattle.plan_lines.proofs.TreeLemmas.{HasTree, held-has, in_list, in_list-back, in_list-has, in_list-text, no-tree, tree-begins, tree-item, trees-begun, trees-have, trees-next}
use Rattle.pg_base.proofs.OptionLemmas.{none-some-too as none-some}
use Rattle.plan_lines.proofs.trees.+read_tree.Goals as goal

pub read_all-trees-init : goal.read_all-trees-init
read_all-trees-init t c = trees-begun c.args.cat.now c.args.q.now c.args.depth c.args.at.now c.new-items.result.items c.new-items.ensures.items

pub read_all-trees-preserved : goal.read_all-trees-preserved
read_all-trees-preserved t c =
    let less = c.in-Some.ensures.less in
    let more = c.read_tree.ensures.shorter in
    trees-next c.args.cat.now c.args.q.now c.args.depth c.args.at.now c.trees.at c.read_tree.new.at c.trees.items.items c.push.new.self.items (option_map bits c.in_ok-tree.field-0) c.in-Some-2.tree c.trees.invariant
    (λ (shallow : IsShallow c.args.depth c.trees.at). none-some c.next_at.result c.in-Some.line (c.next_at.ensures.shallow c.args.depth refl shallow) c.in-Some.is)
    (tree-item c.args.cat.now c.args.q.now c.lawful.ensures c.args.depth c.trees.at c.next_at.new.self c.read_tree.new.at c.in-Some.line.now (option_map (λ l. l.now) c.next_at.result) (option_map bits c.in_ok-tree.field-0) c.next_at.ensures.only
    (ap (option_map (λ l. l.now)) c.in-Some.is) c.in_ok-tree.ensures.only)
    (ap (option_map bits) c.in-Some-2.is) (held-has c.args.cat.now c.args.q.now (c.args.depth + 1) c.in_ok-tree.field-0 c.in-Some-2.tree c.in-Some-2.is c.in_ok-tree.ensures.has) c.in_ok-push-in-Some-2.ensures.items (omega (arith, less, more))

pub read_all-returns-in-None-clause-only : goal.read_all-returns-in-None-clause-only
read_all-returns-in-None-clause-only t c = λ bs rest has stands shallow e.
    absurd (broken (HasTree c.args.cat.now c.args.q.now (c.args.depth + 1)) (bits_text c.args.cat.now c.args.q.now (c.args.depth + 1)) c.args.depth (tree-begins c.args.cat.now c.args.q.now c.args.depth) c.args.at.now c.trees.at c.read_tree.new.at
    (map bits c.trees.items.items) (option_map bits c.in_ok-tree.field-0) c.trees.invariant.list
    (λ (s : IsShallow c.args.depth c.trees.at). none-some c.next_at.result c.in-Some.line (c.next_at.ensures.shallow c.args.depth refl s) c.in-Some.is)
    (tree-item c.args.cat.now c.args.q.now c.lawful.ensures c.args.depth c.trees.at c.next_at.new.self c.read_tree.new.at c.in-Some.line.now (option_map (λ l. l.now) c.next_at.result) (option_map bits c.in_ok-tree.field-0) c.next_at.ensures.only
    (ap (option_map (λ l. l.now)) c.in-Some.is) c.in_ok-tree.ensures.only)
    (ap (option_map bits) c.in-None.is) (in_list bs) rest (in_list-has c.args.cat.now c.args.q.now (c.args.depth + 1) bs has stands.1) shallow
    (e ∙ ap (λ (l : List ℕ). l ++ rest) (in_list-text c.args.cat.now c.args.q.now (c.args.depth + 1) bs)))

pub read_all-returns-clause-has : goal.read_all-returns-clause-has
read_all-returns-clause-has t c =
    let h = trees-have c.args.cat.now c.args.q.now (c.args.depth + 1) (map bits c.trees.items.items) c.trees.invariant.has in
    subst (λ (b : BitTree). HasBits c.args.cat.now c.args.q.now b × Stands c.args.depth b) (sym (and-bits (record { items = c.trees.items }))) (h.0, (c.requires.deep, h.1))

pub read_all-returns-clause-only : goal.read_all-returns-clause-only
read_all-returns-clause-only t c = λ bs rest has stands shallow e.
    let r = done (HasTree c.args.cat.now c.args.q.now (c.args.depth + 1)) (bits_text c.args.cat.now c.args.q.now (c.args.depth + 1)) c.args.depth (tree-begins c.args.cat.now c.args.q.now c.args.depth) c.args.at.now c.trees.at c.next_at.new.self
    (map bits c.trees.items.items) c.trees.invariant.list
    (no-tree c.args.cat.now c.args.q.now c.lawful.ensures c.args.depth c.trees.at c.next_at.new.self (option_map (λ l. l.now) c.next_at.result) c.next_at.ensures.only (ap (option_map (λ l. l.now)) c.in_default.is)) c.in_default.ensures.left
    (in_list bs) rest (in_list-has c.args.cat.now c.args.q.now (c.args.depth + 1) bs has stands.1) shallow (e ∙ ap (λ (l : List ℕ). l ++ rest) (in_list-text c.args.cat.now c.args.q.now (c.args.depth + 1) bs)) in
    (ap (λ (b : BitTree). Some b) (and-bits (record { items = c.trees.items }) ∙ ap all_hold (ap trees_of r.0 ∙ in_list-back bs)), r.1)
