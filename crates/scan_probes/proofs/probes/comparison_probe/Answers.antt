use Rattle.std.proofs.Common.{sym, inl, inr}
use Rattle.index_match.specs.Conditions.{is_key_side, is_outside}
use Rattle.scan_probes.proofs.OtherSideLemmas.{neither, other_given}
use Rattle.scan_probes.proofs.probes.comparison_probe.Goals.{else-is_key_side-via-then-is_key_side+else-is_outside, else-is_key_side-via-else-is_key_side}
use Rattle.scan_probes.proofs.probes.comparison_probe.Goals as goal

pub bound-requires-else-is_key_side : goal.bound-requires-else-is_key_side
bound-requires-else-is_key_side c =
    let r = c.args.at.now.rel.0 in
    let k = c.args.at.now.key in
    let given = other_given r c.args.given.now k c.args.op c.args.a.now c.args.b.now c.requires.form c.requires.known in
    elim c.else-is_key_side.branch [
      | else-is_key_side-via-then-is_key_side+else-is_outside w ↦ given (neither (is_key_side r k c.args.a.now) (is_outside r c.args.b.now) (inr (sym w.if-is_outside.ensures)))
      | else-is_key_side-via-else-is_key_side w ↦ given (neither (is_key_side r k c.args.a.now) (is_outside r c.args.b.now) (inl (sym w.if-is_key_side.ensures)))
    ]
