use Rattle.std.proofs.Common.{◌≡◌, take}
use Rattle.std.specs.List.{flat_map}
use Rattle.std.specs.Io.KnownBytes.{Appends}
use Rattle.reply_text.proofs.pieces.write_pieces.Given as goal

abbrev pub invariant-pieces : goal.invariant-pieces
invariant-pieces g l = record {
  bytes : Appends (g.E.Sink.held l.fn.errors) (g.E.Sink.held l.errors) (flat_map (λ p. p.now) (take l.piece-index l.pieces));
  quiet : g.E.Sink.faults l.errors ≡ g.E.Sink.faults l.fn.errors;
}
