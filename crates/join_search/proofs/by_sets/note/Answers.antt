use Rattle.std.proofs.Common.{List, [], ◌∷◌, ◌++◌, sym, subst}
use Rattle.std.specs.Prelude.{All, Contains}
use Rattle.std.proofs.lemmas.List.Elements.{All-contains_itself, All-weaker, Contains-append_left}
use Rattle.pg_base.specs.declared.rel_set.RelSet.{RelSet}
use Rattle.join_search.proofs.by_sets.note.Goals as goal

pub returns-in_err-push-clause-others : goal.returns-in_err-push-clause-others
returns-in_err-push-clause-others c =
    let old = c.args.filled.now.items in
    subst (λ (xs : List RelSet). All (Contains xs) old) (sym c.in_err-push.ensures.items) (All-contains_itself old)

pub returns-clause-others : goal.returns-clause-others
returns-clause-others c =
    let old = c.args.filled.now.items in
    subst (λ (xs : List RelSet). All (Contains xs) old) (sym c.in_ok-push.ensures.items)
    (All-weaker (Contains old) (Contains (old ++ c.args.set ∷ [])) (λ x at. Contains-append_left old (c.args.set ∷ []) x at) old (All-contains_itself old))
