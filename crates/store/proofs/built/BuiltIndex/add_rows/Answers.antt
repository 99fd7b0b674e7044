use Rattle.std.proofs.Common.{◌≡◌, ◌∙◌, ap, sym}
use Rattle.std.proofs.lemmas.Result.{on_ok_weaker}
use Rattle.btree_index.specs.work.Tree.{with_entries}
use Rattle.hash_index.specs.work.Held.{with_held}
use Rattle.catalog.specs.work.Entries.{index_of}
use Rattle.store.specs.work.View.{built}
use Rattle.store.proofs.BuiltLemmas.{sorted-fits, sorted-grown, hashed-fits, hashed-grown}
use Rattle.store.proofs.built.BuiltIndex.add_rows.Goals as goal

pub insert_all-requires : goal.insert_all-requires
insert_all-requires g c =
    sorted-fits (index_of c.args.def.now) c.args.heap.now.rows c.args.from c.requires.from c.in-Sorted.tree (sym (ap built c.in-Sorted.is) ∙ c.requires.built)
    c.in_ok-added-in-Sorted.added.items c.in_ok-added-in-Sorted.ensures.fits

pub insert_all-requires-in-Hashed : goal.insert_all-requires-in-Hashed
insert_all-requires-in-Hashed g c =
    hashed-fits (index_of c.args.def.now) c.args.heap.now.rows c.args.from c.requires.from c.in-Hashed.index (sym (ap built c.in-Hashed.is) ∙ c.requires.built)
    c.in_ok-added-in-Hashed.added.items c.in_ok-added-in-Hashed.ensures.fits

pub returns-in_ok-added-in-Sorted-clause-built : goal.returns-in_ok-added-in-Sorted-clause-built
returns-in_ok-added-in-Sorted-clause-built g c =
    on_ok_weaker c.insert_all.result
    (λ (grown : c.insert_all.new.self ≡ with_entries c.in-Sorted.tree c.in_ok-added-in-Sorted.added.items).
    sorted-grown (index_of c.args.def.now) c.args.heap.now.rows c.args.from c.requires.from c.in-Sorted.tree (sym (ap built c.in-Sorted.is) ∙ c.requires.built)
    c.insert_all.new.self (grown ∙ ap (with_entries c.in-Sorted.tree) c.in_ok-added-in-Sorted.ensures.entries))
    c.insert_all.ensures.inserted

pub returns-in_ok-added-in-Hashed-clause-built : goal.returns-in_ok-added-in-Hashed-clause-built
returns-in_ok-added-in-Hashed-clause-built g c =
    on_ok_weaker c.insert_all-in-Hashed.result
    (λ (grown : c.insert_all-in-Hashed.new.self ≡ with_held c.in-Hashed.index c.in_ok-added-in-Hashed.added.items).
    hashed-grown (index_of c.args.def.now) c.args.heap.now.rows c.args.from c.requires.from c.in-Hashed.index (sym (ap built c.in-Hashed.is) ∙ c.requires.built)
    c.insert_all-in-Hashed.new.self (grown ∙ ap (with_held c.in-Hashed.index) c.in_ok-added-in-Hashed.ensures.entries))
    c.insert_all-in-Hashed.ensures.inserted
