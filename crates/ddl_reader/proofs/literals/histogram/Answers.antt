use Rattle.std.proofs.Common.{◌∙◌, refl, sym, ap, subst, List, Ok, Vec}
use Rattle.std.specs.declared.alloc.Global.{Global}
use Rattle.sql_grammar.specs.Syntax.{Lit}
use Rattle.expr_reader.specs.declared.value.Placed.{Placed}
use Rattle.expr_reader.specs.Lists.{bound_each}
use Rattle.ddl_reader.specs.work.AsMeant.{IsAsMeant, placed}
use Rattle.ddl_reader.proofs.LiteralListLemmas.{has-bounds, no-bounds}
use Rattle.ddl_reader.proofs.literals.histogram.Goals as goal

pub returns-then-not-takes_free : goal.returns-then-not-takes_free
returns-then-not-takes_free c = λ h rest ends is.
    ap (bound_each (placed c.args.t)) (no-bounds h rest c.args.from.now (c.if-not-takes_free.ensures.other refl) is).0 ∙ ap Ok (sym c.new.ensures.items)

pub bounds-requires : goal.bounds-requires
bounds-requires c =
    let (h, rest, ends, is) = c.requires in
    let (token, took) = c.if-not-takes_free.ensures.took refl in
    let o = has-bounds h rest c.args.from.now c.takes_free.new.self token ends took is in
    (o.first, o.further, o.close, rest, c.skip.ensures ∙ o.words)

pub returns : goal.returns
returns c = λ h rest ends is.
    let (token, took) = c.if-not-takes_free.ensures.took refl in
    let o = has-bounds h rest c.args.from.now c.takes_free.new.self token ends took is in
    subst (λ (ls : List Lit). IsAsMeant (Vec Placed Global) (List Placed) (λ v. v.items) c.bounds.result (bound_each (placed c.args.t) ls)) (sym o.is)
    (c.bounds.ensures.read o.first o.further o.close rest (c.skip.ensures ∙ o.words))
