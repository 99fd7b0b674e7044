use Rattle.std.proofs.Common.{◌≡◌, ◌≤◌, ◌+◌, ◌∙◌, ◌∷◌, [], ap, length, map, subst, sym}
use Rattle.std.proofs.lemmas.List.{map-append}
use Rattle.heap.specs.Stored.{Stored}
use Rattle.catalog.specs.Contents.{index_at}
use Rattle.catalog.specs.work.Contents.{indexes_before}
use Rattle.catalog.specs.work.Entries.{index_of}
use Rattle.catalog.specs.Indexes.{Index}
use Rattle.store.specs.work.Kept.{IsStoreOf}
use Rattle.store.specs.work.View.{built}
use Rattle.store.proofs.StoreLemmas.{added-lawful, heap-is, index-added, table-within}
use Rattle.store.proofs.store.Store.add_index.Goals as goal

pub get-heap-requires : goal.get-heap-requires
get-heap-requires g c =
    let k = c.args.self.now in
    let of = subst (IsStoreOf (indexes_before c.args.cat.now c.args.i)) (sym c.self.view_is) c.requires.store in
    table-within c.args.cat.now c.index-def.ensures.lawful c.self.inside.heaps (map built c.self.inside.indexes.items) c.args.i c.requires.last of (index_of c.index-def.result.now) c.index-def.ensures.value

pub over-requires : goal.over-requires
over-requires g c =
    let of = subst (IsStoreOf (indexes_before c.args.cat.now c.args.i)) (sym c.self.view_is) c.requires.store in
    record { lawful = added-lawful c.args.cat.now c.index-def.ensures.lawful c.self.inside.heaps (map built c.self.inside.indexes.items) c.args.i c.requires.last of (index_of c.index-def.result.now) c.index-def.ensures.value c.get-heap.result.now c.get-heap.ensures }

pub returns-in_err-index-clause-fewer : goal.returns-in_err-index-clause-fewer
returns-in_err-index-clause-fewer g c =
    let at = heap-is c.args.self.now c.self.inside.heaps (map built c.self.inside.indexes.items) c.self.view_is c.index-def.result.now.table (index_at c.args.cat.now c.args.i).table (ap (λ (d : Index). d.table) c.index-def.ensures.value) c.get-heap.result.now c.get-heap.ensures in
    subst (λ (s : Stored). c.over.new.looks ≤ c.args.looks.now + length s.rows) at c.over.ensures.fewer

pub returns-in_err-push-clause-fewer : goal.returns-in_err-push-clause-fewer
returns-in_err-push-clause-fewer g c =
    let at = heap-is c.args.self.now c.self.inside.heaps (map built c.self.inside.indexes.items) c.self.view_is c.index-def.result.now.table (index_at c.args.cat.now c.args.i).table (ap (λ (d : Index). d.table) c.index-def.ensures.value) c.get-heap.result.now c.get-heap.ensures in
    subst (λ (s : Stored). c.over.new.looks ≤ c.args.looks.now + length s.rows) at c.over.ensures.fewer

pub returns-clause-fewer : goal.returns-clause-fewer
returns-clause-fewer g c =
    let at = heap-is c.args.self.now c.self.inside.heaps (map built c.self.inside.indexes.items) c.self.view_is c.index-def.result.now.table (index_at c.args.cat.now c.args.i).table (ap (λ (d : Index). d.table) c.index-def.ensures.value) c.get-heap.result.now c.get-heap.ensures in
    subst (λ (s : Stored). c.over.new.looks ≤ c.args.looks.now + length s.rows) at c.over.ensures.fewer

pub returns-clause-looks : goal.returns-clause-looks
returns-clause-looks g c =
    let at = heap-is c.args.self.now c.self.inside.heaps (map built c.self.inside.indexes.items) c.self.view_is c.index-def.result.now.table (index_at c.args.cat.now c.args.i).table (ap (λ (d : Index). d.table) c.index-def.ensures.value) c.get-heap.result.now c.get-heap.ensures in
    subst (λ (s : Stored). c.over.new.looks ≡ c.args.looks.now + length s.rows) at c.in_ok-index.ensures.looks

pub returns-clause-store : goal.returns-clause-store
returns-clause-store g c =
    let of = subst (IsStoreOf (indexes_before c.args.cat.now c.args.i)) (sym c.self.view_is) c.requires.store in
    index-added c.args.cat.now c.index-def.ensures.lawful c.self.inside.heaps (map built c.self.inside.indexes.items) c.args.i c.requires.last of (index_of c.index-def.result.now) c.index-def.ensures.value
    c.get-heap.result.now c.get-heap.ensures (built c.in_ok-index.index) c.in_ok-index.ensures.built (map built c.push.new.self.items)
    (ap (map built) c.in_ok-push.ensures.items ∙ map-append built c.self.inside.indexes.items (c.in_ok-index.index ∷ []))
