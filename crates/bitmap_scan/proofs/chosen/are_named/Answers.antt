use Rattle.std.proofs.Common.{◌∙◌, sym, ap}
use Rattle.std.proofs.lemmas.Bool.{eq-eqb, eqb-true}
use Rattle.pg_base.specs.Sets.{has}
use Rattle.pg_base.proofs.SetLaws.{same_set}
use Rattle.bitmap_scan.proofs.chosen.are_named.Goals as goal

pub returns : goal.returns
returns c =
    let found = c.named_by.result.0 in
    let p = c.args.p.0 in (
      λ is k. sym (ap (λ n. has n k) (eqb-true found p (sym c.eq.ensures ∙ is))) ∙ c.named_by.ensures k,
      λ same. c.eq.ensures ∙ eq-eqb found p (same_set found p (λ k. c.named_by.ensures k ∙ sym (same k))),
    )
