use Rattle.std.proofs.Common.{refl}
use Rattle.sql_grammar.specs.Syntax.{grouped as grouped_tree, query}
use Rattle.query_reader.proofs.GrammarLemmas.{excluded, forms-apart, whole-query}
use Rattle.group_reader.proofs.FormLemmas.{grouped-form, plain-form, whole-there}
use Rattle.group_reader.proofs.selected.read_any.Goals as goal

pub returns-in-Some-clause-plain : goal.returns-in-Some-clause-plain
returns-in-Some-clause-plain c = λ x start later split w. absurd (excluded c.args.text.now c.args.tokens.now c.in-Some.fault (query x) c.in-Some.ensures w)

pub returns-in-Some-clause-grouped : goal.returns-in-Some-clause-grouped
returns-in-Some-clause-grouped c = λ p e k x start later split w. absurd (excluded c.args.text.now c.args.tokens.now c.in-Some.fault (grouped_tree p e k x) c.in-Some.ensures w)

pub groups-requires-clause-whole : goal.groups-requires-clause-whole
groups-requires-clause-whole c =
    let whole = c.in_default.ensures in
    let form = whole-query c.args.text.now c.args.tokens.now whole c.requires.kind in
    (whole-there c.args.text.now c.args.tokens.now c.args.first form (c.requires.place form)).0

pub groups-requires-clause-begins : goal.groups-requires-clause-begins
groups-requires-clause-begins c =
    let whole = c.in_default.ensures in
    let form = whole-query c.args.text.now c.args.tokens.now whole c.requires.kind in
    (whole-there c.args.text.now c.args.tokens.now c.args.first form (c.requires.place form)).1

pub grouped-requires-clause-select : goal.grouped-requires-clause-select
grouped-requires-clause-select c =
    let whole = c.in_default.ensures in
    let form = whole-query c.args.text.now c.args.tokens.now whole c.requires.kind in
    grouped-form c.args.text.now c.args.tokens.now c.args.first form (c.requires.place form) (c.if-groups.ensures.grouped refl)

pub grouped-requires-clause-place : goal.grouped-requires-clause-place
grouped-requires-clause-place c =
    let whole = c.in_default.ensures in
    let form = whole-query c.args.text.now c.args.tokens.now whole c.requires.kind in
    c.requires.place form

pub plain-requires-clause-select : goal.plain-requires-clause-select
plain-requires-clause-select c =
    let whole = c.in_default.ensures in
    let form = whole-query c.args.text.now c.args.tokens.now whole c.requires.kind in
    plain-form c.args.text.now c.args.tokens.now c.args.first form (c.requires.place form) (c.if-groups.ensures.plain refl)

pub plain-requires-clause-place : goal.plain-requires-clause-place
plain-requires-clause-place c =
    let whole = c.in_default.ensures in
    let form = whole-query c.args.text.now c.args.tokens.now whole c.requires.kind in
    c.requires.place form

pub returns-then-groups-clause-plain : goal.returns-then-groups-clause-plain
returns-then-groups-clause-plain c = λ x start later split w.
    let whole = c.in_default.ensures in
    let form = whole-query c.args.text.now c.args.tokens.now whole c.requires.kind in
    absurd (forms-apart c.args.text.now c.args.tokens.now (x, w) (grouped-form c.args.text.now c.args.tokens.now c.args.first form (c.requires.place form) (c.if-groups.ensures.grouped refl)))

pub returns-else-groups-clause-grouped : goal.returns-else-groups-clause-grouped
returns-else-groups-clause-grouped c = λ p e k x start later split w.
    let whole = c.in_default.ensures in
    let form = whole-query c.args.text.now c.args.tokens.now whole c.requires.kind in
    absurd (forms-apart c.args.text.now c.args.tokens.now (plain-form c.args.text.now c.args.tokens.now c.args.first form (c.requires.place form) (c.if-groups.ensures.plain refl)) (record { offered = p; explaining = e; word = k; select = x; spelled = w }))
