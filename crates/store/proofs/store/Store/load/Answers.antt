use Rattle.std.proofs.Common.{◌≡◌, ◌≤◌, ◌+◌, ◌-◌, ◌*◌, ◌∙◌, ℕ, Ok, ap, arith, get_or, length, map, refl, set, subst, sym, take}
use Rattle.std.proofs.lemmas.Option.{get_or_from_slice_get}
use Rattle.std.proofs.lemmas.Result.{err_from_is_err_and}
use Rattle.heap.specs.Loading.{loaded, records_of}
use Rattle.heap.specs.work.Loading.{NamesColumnOf}
use Rattle.heap.specs.Stored.{Stored}
use Rattle.catalog.specs.Contents.{indexes_of}
use Rattle.sql_query.specs.Worlds.{nothing_stored}
use Rattle.store.specs.work.Kept.{IsStoreOf, stored_of}
use Rattle.store.specs.work.View.{built}
use Rattle.store.proofs.GrowthLemmas.{at_err}
use Rattle.pg_value.proofs.SortByLemmas.{at_ok}
use Rattle.store.proofs.StoreLemmas.{built-before, heap-is, inside, no-fewer, not-loaded, on-err, others-kept, put-back, same-columns, still-inside, store-after, taken-back, there, what-is-there}
use Rattle.store.proofs.store.Store.load.Goals as goal

pub get-requires : goal.get-requires
get-requires g c =
    let cat = c.args.cat.now in
    let stored = c.self.inside.heaps in
    let bs = map built c.self.inside.indexes.items in
    let of = subst (IsStoreOf cat) (sym c.self.view_is) c.requires.store in
    inside cat stored bs c.args.t c.requires.table of

pub get_mut-requires : goal.get_mut-requires
get_mut-requires g c =
    let cat = c.args.cat.now in
    let stored = c.self.inside.heaps in
    let bs = map built c.self.inside.indexes.items in
    let of = subst (IsStoreOf cat) (sym c.self.view_is) c.requires.store in
    inside cat stored bs c.args.t c.requires.table of

pub returns-in_err-count-clause-fault : goal.returns-in_err-count-clause-fault
returns-in_err-count-clause-fault g c =
    let cat = c.args.cat.now in
    let stored = c.self.inside.heaps in
    let bs = map built c.self.inside.indexes.items in
    let of = subst (IsStoreOf cat) (sym c.self.view_is) c.requires.store in
    let at = what-is-there cat stored bs c.args.t c.requires.table of c.get_mut.result.now c.get_mut.ensures.value in
    let here : stored_of c.args.self.now c.args.t ≡ c.get_mut.result.now = sym (heap-is c.args.self.now stored bs c.self.view_is c.args.t c.args.t refl c.get_mut.result.now c.get_mut.ensures.value) in
    let p = err_from_is_err_and c.from_residual.result c.from_residual.ensures.1 in
    rw (p.1, p.2) (λ h. ap (λ (s : Stored). loaded s (records_of c.args.block.now)) here ∙ c.in_err-count.ensures.fault h)

pub returns-in_err-count-clause-field : goal.returns-in_err-count-clause-field
returns-in_err-count-clause-field g c =
    let cat = c.args.cat.now in
    let stored = c.self.inside.heaps in
    let bs = map built c.self.inside.indexes.items in
    let of = subst (IsStoreOf cat) (sym c.self.view_is) c.requires.store in
    let at = what-is-there cat stored bs c.args.t c.requires.table of c.get_mut.result.now c.get_mut.ensures.value in
    let here : stored_of c.args.self.now c.args.t ≡ c.get_mut.result.now = sym (heap-is c.args.self.now stored bs c.self.view_is c.args.t c.args.t refl c.get_mut.result.now c.get_mut.ensures.value) in
    let p = err_from_is_err_and c.from_residual.result c.from_residual.ensures.1 in
    rw (p.1, p.2) (subst (λ (s : Stored). NamesColumnOf s.columns c.in_err-count.field-0.0) (sym here) c.in_err-count.ensures.field)

pub returns-in_err-count-clause-refused : goal.returns-in_err-count-clause-refused
returns-in_err-count-clause-refused g c =
    let cat = c.args.cat.now in
    let stored = c.self.inside.heaps in
    let bs = map built c.self.inside.indexes.items in
    let of = subst (IsStoreOf cat) (sym c.self.view_is) c.requires.store in
    let at = what-is-there cat stored bs c.args.t c.requires.table of c.get_mut.result.now c.get_mut.ensures.value in
    on-err c.from_residual.result (not-loaded c.args.self.now stored bs c.self.view_is c.args.t c.get_mut.result.now c.load.new.self at c.in_err-count.ensures.refused)

pub grow-requires-clause-table : goal.grow-requires-clause-table
grow-requires-clause-table g c =
    let cat = c.args.cat.now in
    let stored = c.self.inside.heaps in
    let bs = map built c.self.inside.indexes.items in
    let of = subst (IsStoreOf cat) (sym c.self.view_is) c.requires.store in
    let at = what-is-there cat stored bs c.args.t c.requires.table of c.get_mut.result.now c.get_mut.ensures.value in
    let count : c.len-before.result ≡ length c.get_mut.result.now.rows = c.len-before.ensures.len ∙ ap (λ (s : Stored). length s.rows) (what-is-there cat stored bs c.args.t c.requires.table of c.get.result.now c.get.ensures ∙ sym at) in
    still-inside cat stored bs c.args.t c.requires.table of c.get_mut.result.now at c.len-before.result count c.load.new.self (records_of c.args.block.now) c.in_ok-count.ensures.rows c.in_ok-count.ensures.lawful

pub grow-requires-clause-columns : goal.grow-requires-clause-columns
grow-requires-clause-columns g c =
    let cat = c.args.cat.now in
    let stored = c.self.inside.heaps in
    let bs = map built c.self.inside.indexes.items in
    let of = subst (IsStoreOf cat) (sym c.self.view_is) c.requires.store in
    let at = what-is-there cat stored bs c.args.t c.requires.table of c.get_mut.result.now c.get_mut.ensures.value in
    let count : c.len-before.result ≡ length c.get_mut.result.now.rows = c.len-before.ensures.len ∙ ap (λ (s : Stored). length s.rows) (what-is-there cat stored bs c.args.t c.requires.table of c.get.result.now c.get.ensures ∙ sym at) in
    same-columns cat stored bs c.args.t c.requires.table of c.get_mut.result.now at c.len-before.result count c.load.new.self (records_of c.args.block.now) c.in_ok-count.ensures.rows c.in_ok-count.ensures.lawful

pub grow-requires-clause-before : goal.grow-requires-clause-before
grow-requires-clause-before g c =
    let cat = c.args.cat.now in
    let stored = c.self.inside.heaps in
    let bs = map built c.self.inside.indexes.items in
    let of = subst (IsStoreOf cat) (sym c.self.view_is) c.requires.store in
    let at = what-is-there cat stored bs c.args.t c.requires.table of c.get_mut.result.now c.get_mut.ensures.value in
    let count : c.len-before.result ≡ length c.get_mut.result.now.rows = c.len-before.ensures.len ∙ ap (λ (s : Stored). length s.rows) (what-is-there cat stored bs c.args.t c.requires.table of c.get.result.now c.get.ensures ∙ sym at) in
    no-fewer cat stored bs c.args.t c.requires.table of c.get_mut.result.now at c.len-before.result count c.load.new.self (records_of c.args.block.now) c.in_ok-count.ensures.rows c.in_ok-count.ensures.lawful

pub grow-requires-clause-built : goal.grow-requires-clause-built
grow-requires-clause-built g c =
    let cat = c.args.cat.now in
    let stored = c.self.inside.heaps in
    let bs = map built c.self.inside.indexes.items in
    let of = subst (IsStoreOf cat) (sym c.self.view_is) c.requires.store in
    let at = what-is-there cat stored bs c.args.t c.requires.table of c.get_mut.result.now c.get_mut.ensures.value in
    let count : c.len-before.result ≡ length c.get_mut.result.now.rows = c.len-before.ensures.len ∙ ap (λ (s : Stored). length s.rows) (what-is-there cat stored bs c.args.t c.requires.table of c.get.result.now c.get.ensures ∙ sym at) in
    built-before cat stored bs c.args.t c.requires.table of c.get_mut.result.now at c.len-before.result count c.load.new.self (records_of c.args.block.now) c.in_ok-count.ensures.rows c.in_ok-count.ensures.lawful

pub get_mut-requires-then-is_err : goal.get_mut-requires-then-is_err
get_mut-requires-then-is_err g c =
    let cat = c.args.cat.now in
    let stored = c.self.inside.heaps in
    let bs = map built c.self.inside.indexes.items in
    let of = subst (IsStoreOf cat) (sym c.self.view_is) c.requires.store in
    let at = what-is-there cat stored bs c.args.t c.requires.table of c.get_mut.result.now c.get_mut.ensures.value in
    let count : c.len-before.result ≡ length c.get_mut.result.now.rows = c.len-before.ensures.len ∙ ap (λ (s : Stored). length s.rows) (what-is-there cat stored bs c.args.t c.requires.table of c.get.result.now c.get.ensures ∙ sym at) in
    still-inside cat stored bs c.args.t c.requires.table of c.get_mut.result.now at c.len-before.result count c.load.new.self (records_of c.args.block.now) c.in_ok-count.ensures.rows c.in_ok-count.ensures.lawful

pub cut-requires : goal.cut-requires
cut-requires g c =
    let cat = c.args.cat.now in
    let stored = c.self.inside.heaps in
    let bs = map built c.self.inside.indexes.items in
    let of = subst (IsStoreOf cat) (sym c.self.view_is) c.requires.store in
    let at = what-is-there cat stored bs c.args.t c.requires.table of c.get_mut.result.now c.get_mut.ensures.value in
    let count : c.len-before.result ≡ length c.get_mut.result.now.rows = c.len-before.ensures.len ∙ ap (λ (s : Stored). length s.rows) (what-is-there cat stored bs c.args.t c.requires.table of c.get.result.now c.get.ensures ∙ sym at) in
    subst (λ (s : Stored). c.len-before.result ≤ length s.rows) (get_or_from_slice_get (set stored c.args.t.0 c.load.new.self) c.args.t.0 c.get_mut-then-is_err.result.now nothing_stored c.get_mut-then-is_err.ensures.value)
    (no-fewer cat stored bs c.args.t c.requires.table of c.get_mut.result.now at c.len-before.result count c.load.new.self (records_of c.args.block.now) c.in_ok-count.ensures.rows c.in_ok-count.ensures.lawful)

pub returns-then-is_err-clause-others : goal.returns-then-is_err-clause-others
returns-then-is_err-clause-others g c =
    let cat = c.args.cat.now in
    let stored = c.self.inside.heaps in
    let bs = map built c.self.inside.indexes.items in
    let of = subst (IsStoreOf cat) (sym c.self.view_is) c.requires.store in
    let at = what-is-there cat stored bs c.args.t c.requires.table of c.get_mut.result.now c.get_mut.ensures.value in
    let count : c.len-before.result ≡ length c.get_mut.result.now.rows = c.len-before.ensures.len ∙ ap (λ (s : Stored). length s.rows) (what-is-there cat stored bs c.args.t c.requires.table of c.get.result.now c.get.ensures ∙ sym at) in
    let there-now = sym (get_or_from_slice_get (set stored c.args.t.0 c.load.new.self) c.args.t.0 c.get_mut-then-is_err.result.now nothing_stored c.get_mut-then-is_err.ensures.value) ∙ there cat stored bs c.args.t c.requires.table of c.get_mut.result.now at c.len-before.result count c.load.new.self (records_of c.args.block.now) c.in_ok-count.ensures.rows c.in_ok-count.ensures.lawful in
    let back = put-back cat stored bs c.args.t c.requires.table of c.get_mut.result.now at c.len-before.result count c.load.new.self (records_of c.args.block.now) c.in_ok-count.ensures.rows c.in_ok-count.ensures.lawful c.cut.new.self (c.cut.ensures.kept ∙ ap (λ (s : Stored). record { columns = s.columns; rows = take c.len-before.result s.rows }) there-now) in
    others-kept c.args.self.now stored (set (set stored c.args.t.0 c.load.new.self) c.args.t.0 c.cut.new.self) bs c.self.view_is c.args.t back

pub returns-then-is_err-clause-refused : goal.returns-then-is_err-clause-refused
returns-then-is_err-clause-refused g c =
    let cat = c.args.cat.now in
    let stored = c.self.inside.heaps in
    let bs = map built c.self.inside.indexes.items in
    let of = subst (IsStoreOf cat) (sym c.self.view_is) c.requires.store in
    let at = what-is-there cat stored bs c.args.t c.requires.table of c.get_mut.result.now c.get_mut.ensures.value in
    let count : c.len-before.result ≡ length c.get_mut.result.now.rows = c.len-before.ensures.len ∙ ap (λ (s : Stored). length s.rows) (what-is-there cat stored bs c.args.t c.requires.table of c.get.result.now c.get.ensures ∙ sym at) in
    let there-now = sym (get_or_from_slice_get (set stored c.args.t.0 c.load.new.self) c.args.t.0 c.get_mut-then-is_err.result.now nothing_stored c.get_mut-then-is_err.ensures.value) ∙ there cat stored bs c.args.t c.requires.table of c.get_mut.result.now at c.len-before.result count c.load.new.self (records_of c.args.block.now) c.in_ok-count.ensures.rows c.in_ok-count.ensures.lawful in
    let back = put-back cat stored bs c.args.t c.requires.table of c.get_mut.result.now at c.len-before.result count c.load.new.self (records_of c.args.block.now) c.in_ok-count.ensures.rows c.in_ok-count.ensures.lawful c.cut.new.self (c.cut.ensures.kept ∙ ap (λ (s : Stored). record { columns = s.columns; rows = take c.len-before.result s.rows }) there-now) in
    taken-back c.args.self.now stored (set (set stored c.args.t.0 c.load.new.self) c.args.t.0 c.cut.new.self) bs (map built c.grow.new.indexes.items) c.self.view_is back
    (at_err _ c.grow.result (sym c.is_err.ensures.value ∙ c.if-is_err.true) c.grow.ensures.refused)

pub returns-clause-rows : goal.returns-clause-rows
returns-clause-rows g c =
    let cat = c.args.cat.now in
    let stored = c.self.inside.heaps in
    let bs = map built c.self.inside.indexes.items in
    let of = subst (IsStoreOf cat) (sym c.self.view_is) c.requires.store in
    let at = what-is-there cat stored bs c.args.t c.requires.table of c.get_mut.result.now c.get_mut.ensures.value in
    let here : stored_of c.args.self.now c.args.t ≡ c.get_mut.result.now = sym (heap-is c.args.self.now stored bs c.self.view_is c.args.t c.args.t refl c.get_mut.result.now c.get_mut.ensures.value) in
    let count : c.len-before.result ≡ length c.get_mut.result.now.rows = c.len-before.ensures.len ∙ ap (λ (s : Stored). length s.rows) (what-is-there cat stored bs c.args.t c.requires.table of c.get.result.now c.get.ensures ∙ sym at) in
    ap (λ (s : Stored). loaded s (records_of c.args.block.now)) here ∙ c.in_ok-count.ensures.rows ∙ ap Ok (sym (there cat stored bs c.args.t c.requires.table of c.get_mut.result.now at c.len-before.result count c.load.new.self (records_of c.args.block.now) c.in_ok-count.ensures.rows c.in_ok-count.ensures.lawful))

pub returns-clause-count : goal.returns-clause-count
returns-clause-count g c =
    let cat = c.args.cat.now in
    let stored = c.self.inside.heaps in
    let bs = map built c.self.inside.indexes.items in
    let of = subst (IsStoreOf cat) (sym c.self.view_is) c.requires.store in
    let at = what-is-there cat stored bs c.args.t c.requires.table of c.get_mut.result.now c.get_mut.ensures.value in
    let here : stored_of c.args.self.now c.args.t ≡ c.get_mut.result.now = sym (heap-is c.args.self.now stored bs c.self.view_is c.args.t c.args.t refl c.get_mut.result.now c.get_mut.ensures.value) in
    let count : c.len-before.result ≡ length c.get_mut.result.now.rows = c.len-before.ensures.len ∙ ap (λ (s : Stored). length s.rows) (what-is-there cat stored bs c.args.t c.requires.table of c.get.result.now c.get.ensures ∙ sym at) in
    ap (λ (s : Stored). length s.rows) (there cat stored bs c.args.t c.requires.table of c.get_mut.result.now at c.len-before.result count c.load.new.self (records_of c.args.block.now) c.in_ok-count.ensures.rows c.in_ok-count.ensures.lawful) ∙ c.in_ok-count.ensures.count ∙ ap (λ (s : Stored). length s.rows + c.in_ok-count.count) (sym here)

pub returns-clause-store : goal.returns-clause-store
returns-clause-store g c =
    let cat = c.args.cat.now in
    let stored = c.self.inside.heaps in
    let bs = map built c.self.inside.indexes.items in
    let of = subst (IsStoreOf cat) (sym c.self.view_is) c.requires.store in
    let at = what-is-there cat stored bs c.args.t c.requires.table of c.get_mut.result.now c.get_mut.ensures.value in
    let count : c.len-before.result ≡ length c.get_mut.result.now.rows = c.len-before.ensures.len ∙ ap (λ (s : Stored). length s.rows) (what-is-there cat stored bs c.args.t c.requires.table of c.get.result.now c.get.ensures ∙ sym at) in
    store-after cat stored bs c.args.t c.requires.table of c.get_mut.result.now at c.len-before.result count c.load.new.self (records_of c.args.block.now) c.in_ok-count.ensures.rows c.in_ok-count.ensures.lawful (map built c.grow.new.indexes.items) (at_ok _ c.grow.result (sym c.is_err.ensures.value ∙ c.if-is_err.false) c.grow.ensures.built)

pub returns-clause-looks : goal.returns-clause-looks
returns-clause-looks g c =
    let cat = c.args.cat.now in
    let stored = c.self.inside.heaps in
    let bs = map built c.self.inside.indexes.items in
    let of = subst (IsStoreOf cat) (sym c.self.view_is) c.requires.store in
    let at = what-is-there cat stored bs c.args.t c.requires.table of c.get_mut.result.now c.get_mut.ensures.value in
    let count : c.len-before.result ≡ length c.get_mut.result.now.rows = c.len-before.ensures.len ∙ ap (λ (s : Stored). length s.rows) (what-is-there cat stored bs c.args.t c.requires.table of c.get.result.now c.get.ensures ∙ sym at) in
    let long = ap (λ (s : Stored). length s.rows) (there cat stored bs c.args.t c.requires.table of c.get_mut.result.now at c.len-before.result count c.load.new.self (records_of c.args.block.now) c.in_ok-count.ensures.rows c.in_ok-count.ensures.lawful) in
    let more : length (get_or (set stored c.args.t.0 c.load.new.self) c.args.t.0 nothing_stored).rows - c.len-before.result ≡ c.in_ok-count.count = omega (arith, long, count, c.in_ok-count.ensures.count) in
    at_ok _ c.grow.result (sym c.is_err.ensures.value ∙ c.if-is_err.false) c.grow.ensures.looks ∙ ap (λ (m : ℕ). c.args.looks.now + length (indexes_of cat c.args.t) * m) more
