use Rattle.std.proofs.Common.{length}
use Rattle.btree_index.specs.work.Pages.{entries_of, rank}
use Rattle.btree_index.proofs.SeekLemmas.{rank_within, behind_parts, put_in}
use Rattle.btree_index.proofs.pages.Pages.add.Goals as goal

pub find-place-requires-clause-partitioned : goal.find-place-requires-clause-partitioned
find-place-requires-clause-partitioned c = behind_parts c.args.keys.now (entries_of c.args.self.now) c.requires.order c.args.entry

pub returns-clause-added : goal.returns-clause-added
returns-clause-added c =
    let p = c.args.self.now in
    let place = c.find-place.result in
    let within = rank_within (length p.leaves.items) p.links c.requires.paged p.leaves.items place.slot place.at c.find-place.ensures.place.slot c.find-place.ensures.place.at in
    put_in c.args.keys.now (entries_of p) c.requires.order c.args.entry c.insert.result (entries_of c.insert.new.self) (rank p place) within c.find-place.ensures.point c.insert.ensures.inserted
