use Rattle.std.proofs.Common.{◌≡◌, ◌<◌, ap, arith}
use Rattle.std.proofs.lemmas.Bool.{false≢true}
use Rattle.std.proofs.lemmas.Bool.Decides.{nat_tests}
use Rattle.pg_base.specs.Sets.{has}
use Rattle.pg_base.proofs.SetLaws.{has-zero}
use Rattle.std.proofs.Common.{◌∙◌}
use Rattle.join_search.specs.work.Tables.{set_numbered}
use Rattle.join_search.proofs.SetLemmas.{power-single, single-some}
use Rattle.join_search.proofs.table.is_one.Goals as goal

pub returns-then-n-eq0 : goal.returns-then-n-eq0
returns-then-n-eq0 c =
    let zero : c.args.n ≡ 0 = grind (arith, nat_tests, c.if-n-eq0.true) in
    (λ is. absurd (false≢true is), λ single. absurd (single-some (set_numbered c.args.n) single (λ k. ap (λ m. has m k) zero ∙ has-zero k)))

pub returns : goal.returns
returns c =
    let some : 0 < c.args.n = grind (arith, nat_tests, c.if-n-eq0.false) in
    power-single c.args.n some (omega (arith, c.ranges.n.fits))
