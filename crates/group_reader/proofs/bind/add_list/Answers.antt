use Rattle.std.proofs.Common.{◌++◌, ◌+◌, Ok, drop, sym, ap, ◌∙◌, arith, append_assoc}
use Rattle.catalog.specs.Range.{type_in}
use Rattle.query_reader.specs.work.Scope.{visible_in}
use Rattle.group_reader.specs.work.Meaning.{list_said, then_parts}
use Rattle.group_reader.proofs.AddLemmas.{adds-done, adds-ok, all-listed, list-stopped, next-listed, then-then}
use Rattle.group_reader.proofs.bind.add_list.Goals as goal

pub loop-listed-preserved : goal.loop-listed-preserved
loop-listed-preserved c =
    let scope = visible_in c.args.relations.now in
    let type_of = type_in c.args.relations.now.contents c.args.relations.now.range in
    let (so, grown, whole) = c.loop-listed.invariant in
    let a = adds-ok _ _ _ _ c.in_ok-add_listed.ensures in
    let later = list_said scope type_of (drop (c.loop-listed.listed-index + 1) c.args.list.now) in
    let next = next-listed scope type_of c.args.list.now c.loop-listed.listed-index c.listed-item.result (omega arith) c.listed-item.is in (
      so ++ a.parts,
      a.grown ∙ (ap (λ l. l ++ a.parts) grown ∙ append_assoc c.args.parts.now.items so a.parts),
      sym (then-then so a.parts later) ∙ (ap (then_parts (Ok so)) (ap (λ x. then_parts x later) (sym a.is) ∙ sym next) ∙ whole),
    )

pub returns-in_err-add_listed : goal.returns-in_err-add_listed
returns-in_err-add_listed c =
    let scope = visible_in c.args.relations.now in
    let type_of = type_in c.args.relations.now.contents c.args.relations.now.range in
    let (so, grown, whole) = c.loop-listed.invariant in
    let next = next-listed scope type_of c.args.list.now c.loop-listed.listed-index c.listed-item.result (omega arith) c.listed-item.is in
    list-stopped (Unit {0}) (Unit {0}) _ _ _ so _ _ _ _ _ _ (ap (then_parts (Ok so)) (sym next) ∙ whole) c.in_err-add_listed.ensures c.from_residual.ensures.1

pub returns : goal.returns
returns c =
    let scope = visible_in c.args.relations.now in
    let type_of = type_in c.args.relations.now.contents c.args.relations.now.range in
    let (so, grown, whole) = c.loop-listed.invariant in
    adds-done (Unit {0}) _ _ _ so _ (all-listed scope type_of c.args.list.now c.loop-listed.listed-index so (omega arith) whole) grown
