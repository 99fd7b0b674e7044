use Rattle.std.proofs.Common.{◌∙◌, inl, inr, sym, subst}
use Rattle.std.proofs.lemmas.Bool.{true≢false}
use Rattle.std.proofs.lemmas.List.{length-set}
use Rattle.join_search.specs.work.Joins.{IsSingle}
use Rattle.join_search.specs.work.Tables.{set_numbered}
use Rattle.join_search.proofs.TableLemmas.{list-others, list-set}
use Rattle.join_search.proofs.table.forget_at.Goals as goal

pub returns-then-is_one-clause-here : goal.returns-then-is_one-clause-here
returns-then-is_one-clause-here c = inl (c.is_one.ensures.0 c.if-is_one.true)

pub returns-clause-many : goal.returns-clause-many
returns-clause-many c = length-set c.args.sets.now.items c.args.n _

pub returns-clause-here : goal.returns-clause-here
returns-clause-here c = inr (list-set c.args.sets.now.items c.args.n _ c.requires.within ∙ c.clear.ensures.items)

pub returns-clause-single : goal.returns-clause-single
returns-clause-single c =
    λ k single. list-others c.args.sets.now.items c.args.n k _ (λ e. true≢false (sym (c.is_one.ensures.1 (subst (λ m. IsSingle (set_numbered m)) e single)) ∙ c.if-is_one.false))

pub returns-clause-others : goal.returns-clause-others
returns-clause-others c = λ k other. list-others c.args.sets.now.items c.args.n k _ other
