use Rattle.std.proofs.Common.{◌≡◌, ◌∙◌, ◌&&◌, ℕ, ap, length, nat_lt}
use Rattle.pg_base.specs.Sets.{has}
use Rattle.pg_expr.specs.work.AtomSets.{contains}
use Rattle.eq_classes.specs.Clauses.{Set, ClassTable, one}
use Rattle.eq_classes.specs.Listing.{clause_at}
use Rattle.eq_classes.specs.Parts.{is_param}
use Rattle.planner.proofs.GivenLemmas.{named-where}
use Rattle.planner.proofs.near.named_with.Goals as goal

pub returns : goal.returns
returns c =
    let q = c.args.q.now in
    let r = c.args.r.0 in
    let m = c.args.k.0 in
    let tested = c.param_clauses-tested.result in
    let alone : has c.one.result.0 ≡ one m = λ i j. c.one.ensures j i in
    let given : (n : ℕ) → contains tested n ≡ nat_lt n (length q.classes.clauses) && is_param r (one m) (clause_at q.classes.clauses n) =
    λ n. c.param_clauses-tested.ensures n ∙ ap (λ (x : ClassTable). nat_lt n (length x.clauses) && is_param r (has c.one.result.0) (clause_at x.clauses n)) c.classes_of.ensures
    ∙ ap (λ (s : Set). nat_lt n (length q.classes.clauses) && is_param r s (clause_at q.classes.clauses n)) alone in
    λ k. c.others_named.ensures k ∙ named-where r (one m) q.classes.clauses (contains tested) given k
