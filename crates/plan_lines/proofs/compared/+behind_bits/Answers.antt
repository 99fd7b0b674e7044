use Rattle.std.proofs.Common.{◌∙◌, ap, sym}
use Rattle.std.specs.Prelude.{option_map}
use Rattle.plan_tree.specs.Plans.{all_hold}
use Rattle.plan_tree.specs.work.Views.{bits, bits_all}
use Rattle.plan_tree.proofs.PricingLemmas.{and-bits}
use Rattle.plan_lines.proofs.CompareLemmas.{and-if, and-only, leaf-only}
use Rattle.plan_lines.proofs.TreeLemmas.{leaf-bits}
use Rattle.plan_lines.proofs.compared.+behind_bits.Goals as goal

pub behind_bits-returns-in-Leaf-clause-only : goal.behind_bits-returns-in-Leaf-clause-only
behind_bits-returns-in-Leaf-clause-only t c =
    leaf-only c.args.cat.now c.args.q.now c.args.depth c.args.text.now c.args.text.now (bits c.args.tree.now) c.in-Leaf.i (option_map (λ l. l.now) c.behind_leaf.result) (ap bits c.in-Leaf.is ∙ leaf-bits c.in-Leaf.i) c.behind_leaf.ensures.only

pub behind_bits-returns-in_ok-left-in-And-clause-is : goal.behind_bits-returns-in_ok-left-in-And-clause-is
behind_bits-returns-in_ok-left-in-And-clause-is t c =
    and-if c.args.cat.now c.args.q.now c.args.depth c.args.text.now c.in_ok-left-in-And.left.now (bits c.args.tree.now) (bits_all c.deref.result.now) c.behind_trees.result
    (ap bits c.in-And.is ∙ (and-bits c.in-And.parts ∙ ap (λ l. all_hold (bits_all l)) (sym c.deref.ensures.value))) c.in_ok-left-in-And.ensures.is c.behind_trees.ensures.is

pub behind_bits-returns-in_ok-left-in-And-clause-only : goal.behind_bits-returns-in_ok-left-in-And-clause-only
behind_bits-returns-in_ok-left-in-And-clause-only t c =
    and-only c.args.cat.now c.args.q.now c.args.depth c.args.text.now c.in_ok-left-in-And.left.now (bits c.args.tree.now) (bits_all c.deref.result.now) (option_map (λ l. l.now) c.behind_and.result) (option_map (λ l. l.now) c.behind_trees.result)
    (ap bits c.in-And.is ∙ (and-bits c.in-And.parts ∙ ap (λ l. all_hold (bits_all l)) (sym c.deref.ensures.value))) c.behind_and.ensures.only (ap (option_map (λ l. l.now)) c.in_ok-left-in-And.was) c.behind_trees.ensures.only
