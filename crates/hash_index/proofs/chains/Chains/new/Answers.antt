use Rattle.std.proofs.Common.{ap, ◌∙◌}
use Rattle.pg_value.specs.declared.value.Value.TheVariants.{Null}
use Rattle.hash_index.specs.work.Groups.{held_by}
use Rattle.hash_index.proofs.GroupLemmas.{wider_held, wider_push}
use Rattle.hash_index.proofs.chains.Chains.new.Goals as goal

pub returns-clause-empty : goal.returns-clause-empty
returns-clause-empty c =
    let one = c.add_slot.new.self.groups.items in
    wider_held one c.add_heads.new.self.groups.items c.add_heads.ensures.wider
    ∙ wider_held c.new-2.result.items one (wider_push c.new-2.result.items one Null c.in_ok-add_slot.ensures.groups)
    ∙ ap held_by c.new-2.ensures.items
