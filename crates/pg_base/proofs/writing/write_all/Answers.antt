use Rattle.std.proofs.Common.{rules, arith, length-drop}
use Rattle.std.proofs.lemmas.List.{length-take}
use Rattle.pg_base.proofs.Bytes.{Appends-more, take-more}
use Rattle.pg_base.proofs.writing.write_all.Goals as goal

pub pieces-preserved : goal.pieces-preserved
pieces-preserved g c = record {
  bytes = Appends-more _ _ _ _ _ _ c.pieces.invariant.bytes c.in_ok-at.ensures.bytes (take-more c.pieces.at c.in_ok-at.field-0 c.args.bytes.now);
  within = let bound = simp (length-take, length-drop) at c.in_ok-at.ensures.bound in omega arith;
  quiet = search (rules, c.in_ok-at.ensures.cause);
}
