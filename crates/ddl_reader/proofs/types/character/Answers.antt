use Rattle.std.proofs.Common.{None, Some, refl, ◌∙◌}
use Rattle.ddl_reader.specs.declared.types.TypeWord.TheVariants.{Length}
use Rattle.ddl_reader.proofs.TypeLemmas.{character-next, read-as, type-end}
use Rattle.ddl_reader.proofs.types.character.Goals as goal

pub modifiers-numbers-requires : goal.modifiers-numbers-requires
modifiers-numbers-requires c =
    let (t, rest, ends, is) = c.requires in
    let n = character-next t rest c.args.from.now c.args.token ends is in
    let (k, took) = c.if-takes_free.ensures.took refl in
    (n.sizes, rest, type-end rest ends, (n.varying k c.takes_free.new.self took).0)

pub returns-then-takes_free : goal.returns-then-takes_free
returns-then-takes_free c = λ t rest ends is.
    let n = character-next t rest c.args.from.now c.args.token ends is in
    let (k, took) = c.if-takes_free.ensures.took refl in
    let told = n.varying k c.takes_free.new.self took in
    let read = c.modifiers-numbers.ensures n.sizes rest (type-end rest ends) told.0 in
    (read-as t (Some Length) c.args.token n.sizes c.modifiers-numbers.result told.1 read.0, read.1)

pub modifiers-numbers-requires-2 : goal.modifiers-numbers-requires-2
modifiers-numbers-requires-2 c =
    let (t, rest, ends, is) = c.requires in
    let n = character-next t rest c.args.from.now c.args.token ends is in
    (n.sizes, rest, type-end rest ends, c.if-takes_free.ensures.left refl ∙ (n.plain (c.if-takes_free.ensures.other refl)).0)

pub returns : goal.returns
returns c = λ t rest ends is.
    let n = character-next t rest c.args.from.now c.args.token ends is in
    let told = n.plain (c.if-takes_free.ensures.other refl) in
    let read = c.modifiers-numbers-2.ensures n.sizes rest (type-end rest ends) (c.if-takes_free.ensures.left refl ∙ told.0) in
    (read-as t None c.args.token n.sizes c.modifiers-numbers-2.result told.1 read.0, read.1)
