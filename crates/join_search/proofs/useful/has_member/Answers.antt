use Rattle.std.proofs.Common.{◌∙◌, ap, is_some}
use Rattle.pg_base.specs.Sets.{has}
use Rattle.eq_classes.specs.Clauses.{ClassTable}
use Rattle.eq_classes.specs.Listing.{class_at}
use Rattle.eq_classes.specs.Parts.{has_in}
use Rattle.join_search.proofs.UseLemmas.{some-found}
use Rattle.join_search.proofs.useful.has_member.Goals as goal

pub returns : goal.returns
returns c =
    let set = c.args.set.0 in
    let n = c.args.class.0 in
    c.is_some.ensures ∙ ap is_some c.member.ensures ∙ some-found (λ x. has set x.rel.0) (class_at c.classes_of.result.now.classes n).members
    ∙ ap (λ (t : ClassTable). has_in (class_at t.classes n) (has set)) c.classes_of.ensures
