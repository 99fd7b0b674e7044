use Rattle.std.proofs.Common.{◌≡◌, ◌∙◌, ◌&&◌, ℕ, ap, length, nat_lt, sym}
use Rattle.std.proofs.lemmas.Bool.{true≢false}
use Rattle.pg_base.specs.Sets.{has}
use Rattle.pg_expr.specs.work.AtomSets.{contains}
use Rattle.eq_classes.specs.Clauses.{ClassTable}
use Rattle.eq_classes.specs.Listing.{clause_at}
use Rattle.eq_classes.specs.Parts.{is_param}
use Rattle.path_cost.specs.Estimates.{conditions_where}
use Rattle.plan_tree.specs.Space.{others_named}
use Rattle.planner.proofs.BaseLemmas.{scan-named}
use Rattle.planner.proofs.GivenLemmas.{named-where}
use Rattle.planner.proofs.base.may_be_given.Goals as goal

pub returns : goal.returns
returns c =
    let r = c.args.r in
    let p = c.args.p in
    let q = c.args.q.now in
    let tested = c.param_clauses-tested.result in
    let given : (n : ℕ) → contains tested n ≡ nat_lt n (length q.classes.clauses) && is_param r.0 (has p.0) (clause_at q.classes.clauses n) =
    λ n. c.param_clauses-tested.ensures n ∙ ap (λ (x : ClassTable). nat_lt n (length x.clauses) && is_param r.0 (has p.0) (clause_at x.clauses n)) c.classes_of.ensures in
    let same : (k : ℕ) → has c.others_named-named.result.0 k ≡ others_named r.0 (conditions_where (is_param r.0 (has p.0)) q.classes.clauses) k =
    λ k. c.others_named-named.ensures k ∙ named-where r.0 (has p.0) q.classes.clauses (contains tested) given k in
    record {
      named = (λ yes k is. sym (same k) ∙ c.within.ensures.0 yes k is, λ h. c.within.ensures.1 (λ k is. same k ∙ h k is));
      none = λ no t of.
          let yes = c.within.ensures.1 (λ k is. c.others_named-named.ensures k ∙ scan-named c.args.cat.now q r p (contains tested) given t of k is) in
          absurd (true≢false (sym yes ∙ no));
    }
