use Rattle.std.proofs.Common.{refl, ap, sym, ◌∙◌}
use Rattle.catalog.specs.Range.{type_in}
use Rattle.query_reader.specs.work.Scope.{visible_in}
use Rattle.query_reader.proofs.WhereLemmas.{there, no-condition, where-read}
use Rattle.query_reader.proofs.conditions.written_conjuncts.Goals as goal

pub returns-then-not-takes-clause-read : goal.returns-then-not-takes-clause-read
returns-then-not-takes-clause-read c = λ w rest ends is.
    let s = c.args.relations.now in
    no-condition (visible_in s) (type_in s.contents s.range) w rest c.args.from.now c.takes.new.self c.from_vec.result
    (ap (λ v. v.items) c.from_vec.ensures ∙ c.new.ensures.items) (c.if-not-takes.ensures.left refl) (c.if-not-takes.ensures.other refl) is

pub conjuncts_next-requires : goal.conjuncts_next-requires
conjuncts_next-requires c =
    let (w, rest, ends, is) = c.requires in
    let (key, took) = c.if-not-takes.ensures.took refl in
    let at = there w rest c.takes.new.self key ends (sym took ∙ is) in
    (at.condition, rest, at.ends, at.words)

pub returns-clause-read : goal.returns-clause-read
returns-clause-read c = λ w rest ends is.
    let s = c.args.relations.now in
    let (key, took) = c.if-not-takes.ensures.took refl in
    where-read (visible_in s) (type_in s.contents s.range) w rest c.takes.new.self _ c.conjuncts_next.result (there w rest c.takes.new.self key ends (sym took ∙ is)) c.conjuncts_next.ensures.read
