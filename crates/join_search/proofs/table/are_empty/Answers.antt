use Rattle.std.proofs.Common.{◌≡◌, [], subst, take_all}
use Rattle.std.specs.Prelude.{All}
use Rattle.join_search.specs.declared.table.Placed.{Placed}
use Rattle.join_search.proofs.TableLemmas.{none-there}
use Rattle.join_search.proofs.table.are_empty.Goals as goal

pub returns : goal.returns
returns c =
    λ is p. none-there p c.args.places.now (subst (All (λ (x : Placed). x.front ≡ [])) (take_all c.loop-f.f-index c.args.places.now c.loop-f-test.false) c.loop-f.invariant)
