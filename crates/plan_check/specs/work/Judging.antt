-- What is so of a certificate that is judged, over its catalogue and query. Own.
use Rattle.std.specs.Prelude.{ℕ}
use Rattle.plan_check.specs.Certificates.{Certificate}
use Rattle.plan_check.specs.work.Views.{certificate}
use Rattle.plan_check.specs.Reasons.{AreUndominated, IsFirstDominated}
use Rattle.plan_check.specs.declared.judged.Judged.{Judged}

-- the certificate that is judged
abbrev pub judged_certificate : Judged → Certificate
judged_certificate j = certificate j.t.now

-- no entry of the certificate that is judged is dominated by another
abbrev pub HasNoneDominated : Judged → Type 0
HasNoneDominated j = AreUndominated j.cat.now j.q.now (judged_certificate j)

-- the entry of the first number is the first that is dominated, and that of the second the first that dominates it
abbrev pub IsFirstBeatenPair : Judged → ℕ → ℕ → Type 0
IsFirstBeatenPair j n m = IsFirstDominated j.cat.now j.q.now (judged_certificate j) n m
