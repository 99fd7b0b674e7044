use Rattle.statements.specs.Scripts.{place_after}
use Rattle.script_laws.proofs.GroupLemmas.{read-grouped}
use Rattle.script_laws.proofs.ReachedLemmas.{lawful, own}
use Rattle.script_laws.proofs.reached.asked_groups_are_well_grouped.Goals as goal
use Rattle.script_laws.specs.Reached.{reached}

pub returns : goal.returns
returns z = λ text before behind s short first.
    read-grouped (reached before) text (place_after 0 before) s.action s.next short (lawful text before s behind first) (own text before s behind first).read
