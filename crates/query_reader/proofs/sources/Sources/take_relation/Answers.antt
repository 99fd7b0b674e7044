use Rattle.std.proofs.Common.{◌≡◌, subst}
use Rattle.query_reader.specs.declared.written.Source.{Source}
use Rattle.query_reader.specs.work.Conveys.{Conveys}
use Rattle.query_reader.specs.From.{Joined, with_relation}
use Rattle.query_reader.specs.Written.{source_of}
use Rattle.query_reader.proofs.SourceLemmas.{into-conveyed}
use Rattle.query_reader.proofs.sources.Sources.take_relation.Goals as goal

pub returns : goal.returns
returns c = λ r rest ends is.
    let read = c.in_ok-source.ensures r rest ends is in
    into-conveyed {T = Unit {0}} {A = Joined} c.add.new.self (with_relation c.args.self.now (source_of r)) c.add.result rest c.source.new.from read.1
    (subst (λ (s : Source). Conveys {T = Unit {0}} (λ j _. c.add.new.self ≡ j) (with_relation c.args.self.now s) c.add.result) read.0 c.add.ensures)
