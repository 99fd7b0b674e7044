use Rattle.catalog.specs.Candidates.{with_candidates}
use Rattle.index_reader.specs.work.Reads.{index_meant}
use Rattle.index_reader.proofs.CandidateLemmas.{repeated-by}
use Rattle.index_reader.proofs.allowed.not_allowed.Goals as goal

pub returns-in-Some : goal.returns-in-Some
returns-in-Some c =
    repeated-by (with_candidates c.args.cat.now c.args.earlier.now) c.args.tokens.now (index_meant c.args.read.now) c.items.result.now c.in-Some.place c.index-in-Some.result.now _ c.at_word-in-Some.result c.is_taken.result
    c.items.ensures c.is_taken.ensures c.if-is_taken.false c.in-Some.ensures c.requires.places c.index-in-Some.ensures c.at_word-in-Some.ensures
