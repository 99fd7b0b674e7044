use Rattle.std.proofs.Common.{◌≡◌, ◌∙◌, ◌++◌, ℕ, List, ap₂, sym}
use Rattle.pg_base.specs.Sets.{has}
use Rattle.eq_classes.specs.Clauses.{Set}
use Rattle.certificate_entries.specs.explain_Texts.{keys_text}
use Rattle.plan_tree.specs.Plans.{set_of}
use Rattle.plan_tree.specs.work.Views.{plan}
use Rattle.plan_lines.proofs.KeyLemmas.{reads-few}
use Rattle.plan_lines.proofs.titles.behind_node_keys.Goals as goal

pub set_of-requires : goal.set_of-requires
set_of-requires c = record { below = reads-few c.args.cat.now c.args.q.now (plan c.args.p.now) c.requires.bound c.requires.has }

pub returns-clause-only : goal.returns-clause-only
returns-clause-only c = λ rest e.
    let same : has c.set_of.result.0 ≡ set_of (plan c.args.p.now) = λ t k. c.set_of.ensures.members k t in
    c.behind_keys.ensures.only rest (e ∙ ap₂ (λ (s : Set) (k : List ℕ). keys_text c.args.cat.now c.args.q.now s k ++ rest) (sym same) (sym c.items.ensures.list))
