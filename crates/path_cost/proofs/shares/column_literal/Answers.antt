use Rattle.std.proofs.Common.{◌≤◌, sym, subst}
use Rattle.pg_value.specs.declared.operators.Op.TheVariants.{Lt, Le, Eq, Ge, Gt}
use Rattle.path_cost.proofs.ShareLemmas.{column_share}
use Rattle.path_cost.proofs.shares.column_literal.Goals as goal

pub returns-in-Eq-clause-part : goal.returns-in-Eq-clause-part
returns-in-Eq-clause-part c = subst (λ n. n ≤ 1000000000) (sym c.equal_to.ensures) (column_share c.args.k.now Eq c.args.v.now c.requires.lawful)

pub returns-in-Lt-clause-part : goal.returns-in-Lt-clause-part
returns-in-Lt-clause-part c = subst (λ n. n ≤ 1000000000) (sym c.inequality.ensures) (column_share c.args.k.now Lt c.args.v.now c.requires.lawful)

pub returns-in-Le-clause-part : goal.returns-in-Le-clause-part
returns-in-Le-clause-part c = subst (λ n. n ≤ 1000000000) (sym c.inequality-in-Le.ensures) (column_share c.args.k.now Le c.args.v.now c.requires.lawful)

pub returns-in-Ge-clause-part : goal.returns-in-Ge-clause-part
returns-in-Ge-clause-part c = subst (λ n. n ≤ 1000000000) (sym c.inequality-in-Ge.ensures) (column_share c.args.k.now Ge c.args.v.now c.requires.lawful)

pub returns-in-Gt-clause-part : goal.returns-in-Gt-clause-part
returns-in-Gt-clause-part c = subst (λ n. n ≤ 1000000000) (sym c.inequality-in-Gt.ensures) (column_share c.args.k.now Gt c.args.v.now c.requires.lawful)
