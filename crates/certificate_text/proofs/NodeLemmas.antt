-- The text of a merge, appended in three parts.
use Rattle.std.proofs.Common.{◌≡◌, ℕ, List, ◌++◌, codes, sym, ◌∙◌, ap, append_assoc}
use Rattle.pg_base.specs.Sets.{has}
use Rattle.pg_base.specs.declared.rel_set.RelSet.{RelSet}
use Rattle.catalog.specs.Contents.{Contents}
use Rattle.explain.specs.Texts.{keys_text}
use Rattle.pathkeys.specs.Keys.{Keys}
use Rattle.sql_query.specs.Queries.{Query}
use Rattle.plan_check.specs.Views as views
use Rattle.plan_check.specs.work.Views as views_work
use Rattle.plan_check.specs.declared.entry.Node.{Node as Noded}
use Rattle.plan_check.specs.declared.entry.Node.TheVariants as nodes
use Rattle.plan_check.specs.declared.entry.Side.{Side as Sided}
use Rattle.certificate_text.specs.Texts.{node_text, sides_text}

pub merge-text : (c : Contents) (q : Query) (set : RelSet) (node : Noded) (keys ks : Keys) (a b : Sided) (old one two new : List ℕ) → node ≡ nodes.Merge keys a b → ks ≡ keys →
    one ≡ old ++ codes "Merge Join by " → two ≡ one ++ keys_text c q (has set.0) ks → new ≡ two ++ sides_text (views.side a) (views.side b) → new ≡ old ++ node_text c q set (views_work.node node)
merge-text c q set node keys ks a b old one two new is same first next more =
    let M = codes "Merge Join by " in
    let K = keys_text c q (has set.0) ks in
    let S = sides_text (views.side a) (views.side b) in
    more
    ∙ ap (λ (l : List ℕ). l ++ S) next
    ∙ ap (λ (l : List ℕ). (l ++ K) ++ S) first
    ∙ append_assoc (old ++ M) K S
    ∙ append_assoc old M (K ++ S)
    ∙ ap (λ (k : Keys). old ++ (M ++ (keys_text c q (has set.0) k ++ S))) same
    ∙ sym (ap (λ (n : Noded). old ++ node_text c q set (views_work.node n)) is)
