use Rattle.std.proofs.Common.{refl, subst}
use Rattle.sql_grammar.specs.Terminals.{t_key}
use Rattle.sql_grammar.specs.declared.class.Word.TheVariants.{Select}
use Rattle.expr_reader.specs.work.Reading.{Begins, BeginsNot}
use Rattle.query_reader.proofs.PlaceLemmas.{begins-so, by-fault, by-groups, no-select}
use Rattle.query_reader.proofs.select.select_fault.Goals as goal

pub returns-then-not-takes : goal.returns-then-not-takes
returns-then-not-takes c =
    no-select c.args.text.now c.args.tokens.now c.args.first c.items.result.now _ _ c.requires.within (subst (BeginsNot (t_key Select)) c.new-from.ensures (c.if-not-takes.ensures.other refl)) c.items.ensures c.fault_at.ensures

pub groups-requires-clause-begins : goal.groups-requires-clause-begins
groups-requires-clause-begins c = begins-so _ c.takes.new.self (subst (λ ts. Begins (t_key Select) ts c.takes.new.self) c.new-from.ensures (c.if-not-takes.ensures.took refl))

pub returns-in-Some : goal.returns-in-Some
returns-in-Some c =
    by-fault c.args.text.now c.args.tokens.now c.args.first c.in-Some.fault (begins-so _ c.takes.new.self (subst (λ ts. Begins (t_key Select) ts c.takes.new.self) c.new-from.ensures (c.if-not-takes.ensures.took refl))) c.in-Some.ensures

pub returns-then-groups : goal.returns-then-groups
returns-then-groups c =
    by-groups c.args.text.now c.args.tokens.now c.args.first _ _ _ c.requires.within
    (begins-so _ c.takes.new.self (subst (λ ts. Begins (t_key Select) ts c.takes.new.self) c.new-from.ensures (c.if-not-takes.ensures.took refl))) (c.if-groups.ensures.grouped refl) c.items-then-groups.ensures c.fault_at-then-groups.ensures
