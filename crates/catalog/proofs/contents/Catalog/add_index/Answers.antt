use Rattle.std.proofs.Common.{◌∙◌, ◌++◌, ◌∷◌, [], ap, arith, length, map, refl, subst, sym}
use Rattle.std.proofs.lemmas.List.{length-map}
use Rattle.pg_base.specs.Names.{IsName}
use Rattle.catalog.specs.Contents.{Contents, IsIndexOf, with_index}
use Rattle.catalog.specs.work.Entries.{contents_of, index_of, named_index}
use Rattle.catalog.specs.Tables.{IsAcceptableIndex, IsUnused}
use Rattle.catalog.specs.work.Tables.{Fits}
use Rattle.catalog.proofs.LawfulLemmas.{few_indexes}
use Rattle.catalog.proofs.WriteLemmas.{index-added, index-kept, listed-old}
use Rattle.catalog.proofs.contents.Catalog.add_index.Goals as goal

pub overflow_cast-number : goal.overflow_cast-number
overflow_cast-number c =
    let few = few_indexes (contents_of c.self.inside.tables.entries c.self.inside.indexes.entries) c.self.invariant.0 in
    let len = length-map c.self.inside.indexes.entries named_index in
    omega (arith, few, len, c.len.ensures.len)

pub push-requires : goal.push-requires
push-requires c =
    let a = subst (λ (l : Contents). IsAcceptableIndex l c.items.result.now (index_of c.args.def)) (sym c.self.view_is) c.in_ok-judge_index.ensures.accepted in
    let len = ap length (listed-old (map named_index c.self.inside.indexes.entries) c.self.inside.tables.entries c.args.def.table c.index_mut.result.now c.self.invariant.1 c.index_mut.ensures.value) in
    (omega arith, omega (arith, len, a.room))

pub invariant_of-self-2 : goal.invariant_of-self-2
invariant_of-self-2 c =
    let es = c.self.inside.tables.entries in
    let is = c.self.inside.indexes.entries in
    let old = c.index_mut.result.now in
    let named = c.in_ok-key.ensures.items ∙ c.items-2.ensures in
    let told = subst (λ n. IsAcceptableIndex c.args.self.now n (index_of c.args.def)) c.items.ensures c.in_ok-judge_index.ensures.accepted in
    let a = subst (λ (l : Contents). IsAcceptableIndex l c.args.name (index_of c.args.def)) (sym c.self.view_is) told in
    let fits = subst (λ (l : Contents). Fits l (index_of c.args.def)) (sym c.self.view_is) c.requires.fits in
    let free = subst (IsUnused (contents_of es is)) (sym named) a.free in
    let lawful : IsIndexOf (contents_of es is) (named_index (c.in_ok-key.key, c.args.def)) = record {
      name = subst IsName (sym named) c.requires.name;
      table = fits.table;
      index = record { fits = fits.columns; distinct = a.distinct; form = a.form };
    } in
    index-kept es is c.put.new.map.entries c.in_ok-key.key c.args.def c.in_ok-put.ensures.entries free old (record old { indexes = c.push.new.self }) c.index_mut.ensures.value (λ n. refl) lawful a.room
    (c.push.ensures.items ∙ ap (λ n. old.indexes.items ++ record { 0 = n } ∷ []) c.len.ensures.len) c.self.invariant

pub returns-clause-added : goal.returns-clause-added
returns-clause-added c =
    let es = c.self.inside.tables.entries in
    let is = c.self.inside.indexes.entries in
    let old = c.index_mut.result.now in
    let named = c.in_ok-key.ensures.items ∙ c.items-2.ensures in
    let told = subst (λ n. IsAcceptableIndex c.args.self.now n (index_of c.args.def)) c.items.ensures c.in_ok-judge_index.ensures.accepted in
    let a = subst (λ (l : Contents). IsAcceptableIndex l c.args.name (index_of c.args.def)) (sym c.self.view_is) told in
    let free = subst (IsUnused (contents_of es is)) (sym named) a.free in
    index-added es is c.put.new.map.entries c.in_ok-key.key c.args.def c.in_ok-put.ensures.entries free old (record old { indexes = c.push.new.self }) c.index_mut.ensures.value (λ n. refl)
    ∙ ap (λ n. with_index (contents_of es is) n (index_of c.args.def)) named
    ∙ ap (λ (l : Contents). with_index l c.args.name (index_of c.args.def)) c.self.view_is
