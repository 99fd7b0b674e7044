use Rattle.std.proofs.Common.{◌≡◌, ◌≢◌, ◌++◌, ◌∙◌, ℕ, List, Bor, codes, ap, sym}
use Rattle.std.specs.Prelude.{IfSome, MatchOption, None, Option, Some}
use Rattle.std.proofs.lemmas.Bool.Decides.{Decides-eqb}
use Rattle.std.proofs.lemmas.Slice.Eq.{strip_prefix_is}
use Rattle.sql_query.specs.Queries.{Query}
use Rattle.sql_query.specs.declared.window.Window.{Window}
use Rattle.certificate_entries.specs.certificate_text_Texts.{head_text}
use Rattle.certificate_reader.proofs.block.behind_head.Goals as goal

behind : (w : Option Window) (f : Window) (block wanted : List ℕ) (o : Option (Bor (List ℕ))) → w ≡ Some f → wanted ≡ codes "certificate 2\n" → MatchOption o ((rest : List ℕ) → block ≢ wanted ++ rest) (λ x. block ≡ wanted ++ x.now) →
    IfSome o (λ left. block ≡ head_text w ++ left.now)
behind w f block wanted None e l h = tt
behind w f block wanted (Some x) e l h = h ∙ ap (λ (t : List ℕ). t ++ x.now) (l ∙ sym (ap head_text e))

pub returns-in-Some-clause-behind : goal.returns-in-Some-clause-behind
returns-in-Some-clause-behind c =
    behind c.args.q.now.window c.in-Some.field-0 c.args.block.now c.as_slice.result.now c.strip_prefix.result (sym (ap (λ (x : Query). x.window) c.q.view_is) ∙ c.in-Some.is) c.as_slice.ensures
    (strip_prefix_is Decides-eqb c.args.block.now c.as_slice.result.now c.strip_prefix.result c.strip_prefix.ensures.cases)
