use Rattle.catalog.specs.work.Entries.{index_of}
use Rattle.store.proofs.FitLemmas.{hash-builds}
use Rattle.store.proofs.built.BuiltIndex.empty.Goals as goal

pub build-requires-in-Hash : goal.build-requires-in-Hash
build-requires-in-Hash g c = hash-builds c.requires.0 (index_of c.args.def.now) c.requires.1 c.index.result.now c.in-Hash.is c.index.ensures
