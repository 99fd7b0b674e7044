use Rattle.std.proofs.Common.{◌∙◌, List, sym, subst}
use Rattle.std.specs.Prelude.{Contains}
use Rattle.pathkeys.specs.Keys.{Keys}
use Rattle.join_search.proofs.FilledLemmas.{not-false}
use Rattle.join_search.proofs.PastLemmas.{no-member}
use Rattle.join_search.proofs.past.may_merge.Goals as goal

pub returns : goal.returns
returns c = λ never ks is.
    no-member c.as_slice.result.now ks (sym c.is_empty.ensures ∙ not-false c.is_empty.result never) (subst (λ (ls : List Keys). Contains ls ks) (sym c.as_slice.ensures.value) (c.in_ok-lists.ensures.complete ks is))
