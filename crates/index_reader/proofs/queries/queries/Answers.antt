use Rattle.std.proofs.Common.{List, refl, subst, sym, arith}
use Rattle.sql_grammar.specs.Terminals.{Terminal, t_mark}
use Rattle.sql_grammar.specs.declared.class.Symbol.TheVariants.{Open}
use Rattle.expr_reader.specs.work.Reading.{Begins, BeginsNot}
use Rattle.sql_query.specs.Queries.{Query}
use Rattle.index_reader.specs.work.Walk.{ArePlannable}
use Rattle.index_reader.proofs.QueryLemmas.{Going, none-left, one-left, one-meant, one-wrong, ongoing, plannable-more, room-for, stopped}
use Rattle.index_reader.proofs.queries.queries.Goals as goal

pub returns-then-not-takes_mark-clause-told : goal.returns-then-not-takes_mark-clause-told
returns-then-not-takes_mark-clause-told c = λ w start later whole there.
    none-left c.args.cat.now start c.args.text.now c.args.tokens.now c.each.queries.items c.each.at w (c.each.invariant.0 w start later whole there)
    (subst (BeginsNot (t_mark Open)) c.new-from.ensures (c.if-not-takes_mark.ensures.other refl))

pub one-requires-clause-there : goal.one-requires-clause-there
one-requires-clause-there c =
    let o = ongoing c.args.cat.now c.args.text.now c.args.tokens.now c.args.first c.each.queries.items c.each.at c.requires.there c.each.invariant.0 in
    let begins = subst (λ (ts : List Terminal). Begins (t_mark Open) ts c.takes_mark.new.self) c.new-from.ensures (c.if-not-takes_mark.ensures.took refl) in
    let l = one-left c.args.cat.now o.start c.args.text.now c.args.tokens.now c.each.queries.items c.each.at o.row o.going _ begins in
    (l.query, l.next, l.rest, l.stands, l.low)

pub returns-in_err-query-clause-told : goal.returns-in_err-query-clause-told
returns-in_err-query-clause-told c = λ w start later whole there.
    let begins = subst (λ (ts : List Terminal). Begins (t_mark Open) ts c.takes_mark.new.self) c.new-from.ensures (c.if-not-takes_mark.ensures.took refl) in
    let l = one-left c.args.cat.now start c.args.text.now c.args.tokens.now c.each.queries.items c.each.at w (c.each.invariant.0 w start later whole there) _ begins in
    stopped c.args.cat.now start w _ c.from_residual.result
    (λ f is. l.wrong f (one-wrong c.args.cat.now start c.deref.result.now c.each.queries.items c.each.at l.query _ f c.deref.ensures.value is (c.in_err-query.ensures.told l.query l.next l.rest start later whole l.stands l.low)))
    c.from_residual.ensures.1

pub each-preserved : goal.each-preserved
each-preserved c =
    let begins = subst (λ (ts : List Terminal). Begins (t_mark Open) ts c.takes_mark.new.self) c.new-from.ensures (c.if-not-takes_mark.ensures.took refl) in
    let ahead = c.in_ok-query.ensures.ahead in
    let q = c.in_ok-query.field-0.query in (
      λ w start later whole there.
          let l = one-left c.args.cat.now start c.args.text.now c.args.tokens.now c.each.queries.items c.each.at w (c.each.invariant.0 w start later whole there) _ begins in
          let told = c.in_ok-query.ensures.told l.query l.next l.rest start later whole l.stands l.low in
          subst (λ (found : List Query). Going c.args.cat.now start c.args.text.now c.args.tokens.now found c.in_ok-query.field-0.end w) (sym c.in_ok-push.ensures.items)
          (l.on q c.in_ok-query.field-0.end (one-meant c.args.cat.now start c.deref.result.now c.each.queries.items l.query q c.deref.ensures.value told.0) told.1),
      subst (ArePlannable c.args.cat.now) (sym c.in_ok-push.ensures.items)
          (plannable-more c.args.cat.now c.each.queries.items q c.each.invariant.1 (room-for c.deref.result.now c.each.queries.items c.deref.ensures.value c.in_ok-query.ensures.room) c.in_ok-query.ensures.well_bound c.in_ok-query.ensures.classes),
      omega (arith, ahead.1),
    )
