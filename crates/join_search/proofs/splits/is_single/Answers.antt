use Rattle.std.proofs.Common.{◌∙◌, ap, arith}
use Rattle.std.proofs.lemmas.Bool.{eq-eqb, eqb-true, false≢true}
use Rattle.pg_base.specs.Sets.{has}
use Rattle.pg_base.proofs.SetLaws.{has-below}
use Rattle.join_search.proofs.SetLemmas.{single-is, single-some}
use Rattle.join_search.proofs.splits.is_single.Goals as goal

pub one-requires : goal.one-requires
one-requires c = has-below c.args.s.0 c.in-Some.r.0 (omega arith) c.in-Some.ensures.found

pub returns-in-Some : goal.returns-in-Some
returns-in-Some c =
    let r = c.in-Some.r.0 in
    let m = c.one.result.0 in (
      λ is. (r, λ k. ap (λ n. has n k) (eqb-true c.args.s.0 m is) ∙ c.one.ensures k),
      λ single. eq-eqb c.args.s.0 m (single-is c.args.s r m single c.in-Some.ensures.found c.one.ensures),
    )

pub returns-in-None : goal.returns-in-None
returns-in-None c = (λ is. absurd (false≢true is), λ single. absurd (single-some c.args.s single c.in-None.ensures.none))
