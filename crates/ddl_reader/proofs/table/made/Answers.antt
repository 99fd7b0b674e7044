use Rattle.std.proofs.Common.{◌≡◌, ◌∙◌, rules, arith, subst, map}
use Rattle.std.proofs.lemmas.Grind.{common_steps}
use Rattle.ddl_reader.specs.work.AsMeant.{seen}
use Rattle.ddl_reader.specs.Tables.{table, table_reading}
use Rattle.ddl_reader.proofs.Made.{made-reading}
use Rattle.ddl_reader.proofs.table.made.Goals as goal

pub returns : goal.returns
returns c =
    let all : c.loop-def.yielded ≡ c.args.defs.items = first_of (search rules, grind (arith, common_steps)) in
    subst (λ ds. record { definition = table c.args.name.bytes c.loop-def.names.items c.from_vec.result; at = c.loop-def.at.items } ≡ table_reading c.args.name.bytes c.args.name.token (map seen ds)) all
    (made-reading c.args.name.bytes c.args.name.token c.loop-def.yielded c.loop-def.names.items c.from_vec.result c.loop-def.at.items
    c.loop-def.invariant.0 (c.from_vec.ensures ∙ c.loop-def.invariant.1) c.loop-def.invariant.2)
