use Rattle.std.proofs.Common.{ℕ, ap, ◌∙◌}
use Rattle.pg_base.specs.Sets.{has}
use Rattle.pg_expr.specs.work.AtomSets.{contains}
use Rattle.catalog.specs.work.Entries.{index_of}
use Rattle.index_match.specs.work.Slots.{is_number, least}
use Rattle.index_match.proofs.FoundLemmas.{btree_conditions, hash_conditions}
use Rattle.index_match.proofs.matching.found.Goals as goal

pub returns-in-Btree : goal.returns-in-Btree
returns-in-Btree c = record {
  conditions = btree_conditions (index_of c.args.def.now) c.args.classes.now c.args.r.0 (has c.args.p.0) (contains c.all_found-all.result) c.all_found-all.ensures c.in-Btree.is;
}

pub returns-in-Hash : goal.returns-in-Hash
returns-in-Hash c = record {
  conditions = hash_conditions (index_of c.args.def.now) c.args.classes.now c.args.r.0 (has c.args.p.0) (contains c.all_found-all.result) c.all_found-all.ensures c.in-Hash.is (contains c.least.result)
      (λ j. c.least.ensures j ∙ ap (λ (n : ℕ). is_number j (least (contains c.all_found-all.result) n)) c.count.ensures.count);
}
