use Rattle.std.proofs.Common.{◌∙◌, ap, sym}
use Rattle.std.proofs.lemmas.Bool.{eq-eqb, eqb-true}
use Rattle.pg_base.specs.Sets.{has}
use Rattle.pg_base.proofs.SetLaws.{same_set}
use Rattle.entry_check.proofs.scans.is_alone.Goals as goal

pub returns : goal.returns
returns c = (
  λ is. λ k. sym (c.one.ensures k) ∙ sym (ap (λ n. has n k) (eqb-true c.args.set.0 c.one.result.0 is)),
  λ same. eq-eqb c.args.set.0 c.one.result.0 (same_set c.args.set.0 c.one.result.0 (λ k. sym (same k) ∙ sym (c.one.ensures k))),
)
