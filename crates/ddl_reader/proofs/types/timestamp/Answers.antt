use Rattle.std.proofs.Common.{Some, refl, sym, ◌∙◌}
use Rattle.pg_value.specs.declared.value.SqlType.TheVariants as types
use Rattle.ddl_reader.specs.declared.types.TypeWord.TheVariants.{Fraction}
use Rattle.ddl_reader.proofs.TypeLemmas.{read-as, unzoned-told, zone-next}
use Rattle.ddl_reader.proofs.types.timestamp.Goals as goal

pub modifiers-numbers-requires : goal.modifiers-numbers-requires
modifiers-numbers-requires c =
    let (t, rest, ends, is) = c.requires in
    let z = zone-next t rest c.args.from.now c.args.token ends is in
    (z.sizes, z.behind, z.ends, z.words)

pub returns-then-zone : goal.returns-then-zone
returns-then-zone c = λ t rest ends is.
    let z = zone-next t rest c.args.from.now c.args.token ends is in
    let n = c.modifiers-numbers.ensures z.sizes z.behind z.ends z.words in
    let (k, left, first, after) = c.if-zone.ensures.zoned refl in
    let told = z.zoned k left (sym n.1 ∙ first) in
    (read-as t (Some (Fraction types.TimestampTz)) c.args.token z.sizes c.modifiers-numbers.result told.1 n.0, after ∙ told.0)

pub returns : goal.returns
returns c = λ t rest ends is.
    let z = zone-next t rest c.args.from.now c.args.token ends is in
    let n = c.modifiers-numbers.ensures z.sizes z.behind z.ends z.words in
    let told = unzoned-told t rest c.args.from.now c.args.token z c.modifiers-numbers.new.from c.zone.new.from n.1 (c.if-zone.ensures.unzoned refl) in
    (read-as t (Some (Fraction types.Timestamp)) c.args.token z.sizes c.modifiers-numbers.result told.0 n.0, told.1)
