use Rattle.catalog.specs.Contents.{index_name_at}
use Rattle.certificate_entries.proofs.NameLemmas.{index-found, index-word}
use Rattle.certificate_entries.proofs.indexes.read_index.Goals as goal

pub returns-clause-only : goal.returns-clause-only
returns-clause-only c = record {
  only = λ i rest is stop e.
      let w = c.word.ensures.only (index_name_at c.args.cat.now i) rest e (index-word c.args.cat.now c.lawful.ensures i is) stop in
      (index-found c.args.cat.now c.lawful.ensures i c.word.result.now c.index_named.result c.index_named.ensures.meaning is w.0, w.1);
}
