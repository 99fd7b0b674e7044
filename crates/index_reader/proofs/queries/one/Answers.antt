use Rattle.std.proofs.Common.{refl, arith}
use Rattle.sql_grammar.specs.Terminals.{t_mark}
use Rattle.sql_grammar.specs.declared.class.Symbol.TheVariants.{Close}
use Rattle.sql_grammar.specs.Words.{words_of_advised}
use Rattle.index_reader.specs.Parts.{select_in}
use Rattle.index_reader.proofs.StandLemmas.{few-tokens, stands-within}
use Rattle.index_reader.proofs.QueryLemmas.{bound-refused, inner, low-inside, part-at, query-ahead, query-ends, query-read, query-stopped, query-wrong, seventeenth-at}
use Rattle.index_reader.proofs.queries.one.Goals as goal

pub returns-then-earlier-eq-MOST_QUERIES-clause-told : goal.returns-then-earlier-eq-MOST_QUERIES-clause-told
returns-then-earlier-eq-MOST_QUERIES-clause-told c = λ x next rest start later whole s low.
    seventeenth-at c.args.cat.now start c.args.earlier.now x c.args.text.now c.args.tokens.now c.args.first c.items.result.now _ c.fault_at.result next rest s c.items.ensures c.fault_at.ensures c.if-earlier-eq-MOST_QUERIES.true

pub overflow_add-first : goal.overflow_add-first
overflow_add-first c =
    let (x, next, rest, s, low) = c.requires.there in
    let lt = stands-within c.args.text.now c.args.tokens.now c.args.first (words_of_advised x) next rest s in
    let few = few-tokens c.args.text.now c.args.tokens.now c.requires.words c.requires.short in
    omega (arith, lt, few)

pub end_of_select-end-requires-clause-there : goal.end_of_select-end-requires-clause-there
end_of_select-end-requires-clause-there c =
    let (x, next, rest, s, low) = c.requires.there in
    let i = inner c.args.text.now c.args.tokens.now c.args.first x next rest s in
    (select_in x, t_mark Close i.close, i.rest, i.stands, refl, low-inside x low)

pub overflow_add-first-2 : goal.overflow_add-first-2
overflow_add-first-2 c =
    let (x, next, rest, s, low) = c.requires.there in
    let lt = stands-within c.args.text.now c.args.tokens.now c.args.first (words_of_advised x) next rest s in
    let few = few-tokens c.args.text.now c.args.tokens.now c.requires.words c.requires.short in
    omega (arith, lt, few)

pub read_part-requires-clause-part : goal.read_part-requires-clause-part
read_part-requires-clause-part c =
    let (x, next, rest, s, low) = c.requires.there in
    let i = inner c.args.text.now c.args.tokens.now c.args.first x next rest s in
    (select_in x, part-at c.args.text.now c.args.tokens.now _ c.end_of_select-end.result (select_in x) (t_mark Close i.close) i.rest i.stands (c.end_of_select-end.ensures (select_in x) (t_mark Close i.close) i.rest i.stands refl (low-inside x low)))

pub returns-in_err-query-clause-told : goal.returns-in_err-query-clause-told
returns-in_err-query-clause-told c = λ x next rest start later whole s low.
    let i = inner c.args.text.now c.args.tokens.now c.args.first x next rest s in
    let at = c.end_of_select-end.ensures (select_in x) (t_mark Close i.close) i.rest i.stands refl (low-inside x low) in
    let part = part-at c.args.text.now c.args.tokens.now _ c.end_of_select-end.result (select_in x) (t_mark Close i.close) i.rest i.stands at in
    query-stopped c.args.cat.now start c.args.earlier.now c.args.first x _ c.from_residual.result
    (λ f is. query-wrong c.args.cat.now start c.args.earlier.now x f (omega (arith, c.requires.few, c.if-earlier-eq-MOST_QUERIES.false)) (bound-refused _ _ f is (c.in_err-query.ensures.binding (select_in x) start later whole part)))
    c.from_residual.ensures.1

pub overflow_add-result : goal.overflow_add-result
overflow_add-result c =
    let (x, next, rest, s, low) = c.requires.there in
    let i = inner c.args.text.now c.args.tokens.now c.args.first x next rest s in
    let at = c.end_of_select-end.ensures (select_in x) (t_mark Close i.close) i.rest i.stands refl (low-inside x low) in
    let ahead = query-ahead c.args.text.now c.args.tokens.now c.args.first c.end_of_select-end.result x next rest s at in
    let few = few-tokens c.args.text.now c.args.tokens.now c.requires.words c.requires.short in
    omega (arith, ahead.1, few)

pub returns-clause-told : goal.returns-clause-told
returns-clause-told c = λ x next rest start later whole s low.
    let i = inner c.args.text.now c.args.tokens.now c.args.first x next rest s in
    let at = c.end_of_select-end.ensures (select_in x) (t_mark Close i.close) i.rest i.stands refl (low-inside x low) in
    let part = part-at c.args.text.now c.args.tokens.now _ c.end_of_select-end.result (select_in x) (t_mark Close i.close) i.rest i.stands at in (
      query-read c.args.cat.now start c.args.earlier.now x _ (omega (arith, c.requires.few, c.if-earlier-eq-MOST_QUERIES.false)) (c.in_ok-query.ensures.binding (select_in x) start later whole part),
      query-ends c.args.text.now c.args.tokens.now c.args.first c.end_of_select-end.result x next rest s at,
    )

pub returns-clause-ahead : goal.returns-clause-ahead
returns-clause-ahead c =
    let (x, next, rest, s, low) = c.requires.there in
    let i = inner c.args.text.now c.args.tokens.now c.args.first x next rest s in
    let at = c.end_of_select-end.ensures (select_in x) (t_mark Close i.close) i.rest i.stands refl (low-inside x low) in
    query-ahead c.args.text.now c.args.tokens.now c.args.first c.end_of_select-end.result x next rest s at
