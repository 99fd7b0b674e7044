use Rattle.std.proofs.Common.{◌∙◌, refl, ap}
use Rattle.std.proofs.lemmas.Bool.{eq-eqb}
use Rattle.join_search.specs.declared.table.Placed.{Placed}
use Rattle.join_search.specs.work.Tables.{found_at}
use Rattle.join_search.proofs.TableLemmas.{added-here, added-others, no-other}
use Rattle.join_search.proofs.table.add.Goals as goal

pub returns-in-Ok-clause-here : goal.returns-in-Ok-clause-here
returns-in-Ok-clause-here c =
    let placed : Placed = record { param = c.args.p; front = c.args.f } in
    ap (found_at c.args.p) c.in-Ok.ensures.items ∙ added-here c.args.p c.args.places.now.items placed (eq-eqb c.args.p.0 c.args.p.0 refl) c.requires.new

pub returns-in-Ok-clause-others : goal.returns-in-Ok-clause-others
returns-in-Ok-clause-others c =
    let placed : Placed = record { param = c.args.p; front = c.args.f } in
    λ o other. ap (found_at o) c.in-Ok.ensures.items ∙ added-others o c.args.places.now.items placed (no-other c.args.p o placed (eq-eqb c.args.p.0 c.args.p.0 refl) other _ refl)
