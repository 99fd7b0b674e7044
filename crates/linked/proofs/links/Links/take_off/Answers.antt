use Rattle.std.proofs.Common.{◌≡◌, ◌-◌, take, length, ap, ◌∙◌, arith}
use Rattle.linked.proofs.RunLemmas.{are_lists}
use Rattle.linked.proofs.LastLemmas.{taken_linked, taken_lists}
use Rattle.linked.proofs.links.Links.take_off.Goals as goal

pub invariant_of-self : goal.invariant_of-self
invariant_of-self c =
    let ns = c.self.inside.nodes.items in
    let is : c.pop.new.self.items ≡ take (length ns - 1) ns = c.pop.ensures.rest ∙ ap (λ k. take k ns) (omega arith) in
    taken_linked ns c.pop.new.self.items c.self.invariant c.args.self.now c.self.view_is c.requires.some c.requires.alone is

pub returns-clause-off : goal.returns-clause-off
returns-clause-off c =
    let ns = c.self.inside.nodes.items in
    let is : c.pop.new.self.items ≡ take (length ns - 1) ns = c.pop.ensures.rest ∙ ap (λ k. take k ns) (omega arith) in
    taken_lists ns c.pop.new.self.items c.self.invariant c.args.self.now c.self.view_is c.requires.some c.requires.alone is

pub returns-clause-lawful : goal.returns-clause-lawful
returns-clause-lawful c =
    let ns = c.self.inside.nodes.items in
    let is : c.pop.new.self.items ≡ take (length ns - 1) ns = c.pop.ensures.rest ∙ ap (λ k. take k ns) (omega arith) in
    are_lists c.pop.new.self.items (taken_linked ns c.pop.new.self.items c.self.invariant c.args.self.now c.self.view_is c.requires.some c.requires.alone is)
