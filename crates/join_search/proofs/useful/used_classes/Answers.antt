use Rattle.std.proofs.Common.{◌≡◌, true, length, sym, ◌∙◌, ap, arith}
use Rattle.std.proofs.lemmas.List.{length-map}
use Rattle.eq_classes.specs.declared.classes.ClassNo.{ClassNo}
use Rattle.pathkeys.specs.Keys.{Keys, covers}
use Rattle.join_search.proofs.UseLemmas.{covered-length}
use Rattle.join_search.proofs.useful.used_classes.Goals as goal

pub returns-clause-within : goal.returns-clause-within
returns-clause-within c =
    let is : covers c.args.list.now c.args.order.now ≡ true = sym c.covers.ensures.prefix ∙ c.if-not-covers.false in
    let le = covered-length c.args.list.now c.args.order.now is in
    let same = ap (λ (ks : Keys). length ks) c.items.ensures.list in
    let mapped = length-map c.items.result.now (λ (k : ClassNo). k.0) in
    omega (arith, le, same, mapped, c.requires, c.max.ensures)
