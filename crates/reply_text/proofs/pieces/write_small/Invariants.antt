use Rattle.std.proofs.Common.{◌≡◌, take, map}
use Rattle.std.specs.Char.{to_ascii_lowercase}
use Rattle.std.specs.Io.KnownBytes.{Appends}
use Rattle.reply_text.proofs.pieces.write_small.Given as goal

abbrev pub invariant-bytes : goal.invariant-bytes
invariant-bytes g l = record {
  bytes : Appends (g.E.Sink.held l.fn.errors) (g.E.Sink.held l.errors) (map to_ascii_lowercase (take l.byte-index l.word));
  quiet : g.E.Sink.faults l.errors ≡ g.E.Sink.faults l.fn.errors;
}
