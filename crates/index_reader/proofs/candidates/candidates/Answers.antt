use Rattle.std.proofs.Common.{List, arith, ap, length, ◌∙◌, refl, subst, sym}
use Rattle.sql_grammar.specs.Terminals.{Terminal, t_mark}
use Rattle.sql_grammar.specs.declared.class.Symbol.TheVariants.{Comma}
use Rattle.expr_reader.specs.work.Reading.{Begins, BeginsNot}
use Rattle.index_reader.proofs.StandLemmas.{few-tokens}
use Rattle.index_reader.proofs.CandidateLemmas.{apart-none, apart-then, as-many, first-stands, going-from, goes-wrong, more-on, more-out, one-more, one-wrong, ongoing, stopped}
use Rattle.index_reader.proofs.candidates.candidates.Goals as goal

pub each-init : goal.each-init
each-init c = (
  λ w start later whole there. going-from c.args.cat.now start c.args.text.now c.args.tokens.now c.args.first w c.new-candidates.result.items c.new-names.result.items c.new-candidates.ensures.items c.new-names.ensures.items there,
  apart-none c.args.cat.now c.new-candidates.result.items c.new-candidates.ensures.items,
  ap length c.new-names.ensures.items ∙ sym (ap length c.new-candidates.ensures.items),
)

pub bounds-items-at : goal.bounds-items-at
bounds-items-at c =
    let o = ongoing c.args.cat.now c.args.text.now c.args.tokens.now c.args.first c.each.candidates.items c.each.names.items c.each.at c.requires.there c.each.invariant.0 in
    let lt = o.inside in
    let many = ap length c.items.ensures in
    omega (arith, lt, many)

pub one-requires-clause-there : goal.one-requires-clause-there
one-requires-clause-there c =
    let o = ongoing c.args.cat.now c.args.text.now c.args.tokens.now c.args.first c.each.candidates.items c.each.names.items c.each.at c.requires.there c.each.invariant.0 in
    let (next, left, s, ends, low) = first-stands c.args.text.now c.args.tokens.now c.each.at o.going.left o.going.there in
    (o.going.left.first, next, left, s, ends, low)

pub returns-in_err-candidate-clause-told : goal.returns-in_err-candidate-clause-told
returns-in_err-candidate-clause-told c = λ w start later whole there.
    let g = c.each.invariant.0 w start later whole there in
    let (next, left, s, ends, low) = first-stands c.args.text.now c.args.tokens.now c.each.at g.left g.there in
    stopped c.args.cat.now start c.args.text.now c.args.tokens.now w _ c.from_residual.result
    (λ f is. goes-wrong c.args.cat.now start c.args.text.now c.args.tokens.now c.each.candidates.items c.each.names.items c.each.at w g f
    (one-wrong c.args.cat.now start c.args.tokens.now c.deref.result.now c.each.candidates.items c.each.at g.left.first _ f c.deref.ensures.value is (c.in_err-candidate.ensures.told g.left.first next left start later whole s ends low)))
    c.from_residual.ensures.1

pub returns-then-not-takes_mark-clause-told : goal.returns-then-not-takes_mark-clause-told
returns-then-not-takes_mark-clause-told c = λ w start later whole there.
    let g = c.each.invariant.0 w start later whole there in
    let (next, left, s, ends, low) = first-stands c.args.text.now c.args.tokens.now c.each.at g.left g.there in
    let m = one-more c.args.cat.now start c.args.text.now c.args.tokens.now c.each.candidates.items c.each.names.items c.each.at w g c.deref.result.now c.in_ok-candidate.field-0 c.items.result.now _ c.push-in-each.new.self.items c.push.new.self.items c.deref.ensures.value c.items.ensures
    (c.in_ok-candidate.ensures.told g.left.first next left start later whole s ends low) c.in_ok-push-2.ensures.items c.in_ok-push.ensures.items in
    more-out c.args.cat.now start c.args.text.now c.args.tokens.now c.each.candidates.items c.each.names.items c.each.at w g c.in_ok-candidate.field-0.end c.push-in-each.new.self.items c.push.new.self.items m (subst (BeginsNot (t_mark Comma)) c.new-behind.ensures (c.if-not-takes_mark.ensures.other refl))

pub returns-then-not-takes_mark-clause-as_many : goal.returns-then-not-takes_mark-clause-as_many
returns-then-not-takes_mark-clause-as_many c = as-many c.each.candidates.items c.push-in-each.new.self.items c.each.names.items c.push.new.self.items _ _ c.each.invariant.2 c.in_ok-push-2.ensures.items c.in_ok-push.ensures.items

pub returns-then-not-takes_mark-clause-sound : goal.returns-then-not-takes_mark-clause-sound
returns-then-not-takes_mark-clause-sound c =
    apart-then c.args.cat.now c.deref.result.now c.each.candidates.items c.push-in-each.new.self.items c.in_ok-candidate.field-0.candidate c.deref.ensures.value c.each.invariant.1 c.in_ok-candidate.ensures.room c.in_ok-candidate.ensures.sound c.in_ok-push-2.ensures.items

pub overflow_add-at : goal.overflow_add-at
overflow_add-at c =
    let ahead = c.in_ok-candidate.ensures.ahead in
    let few = few-tokens c.args.text.now c.args.tokens.now c.requires.words c.requires.short in
    omega (arith, ahead.1, few)

pub each-preserved : goal.each-preserved
each-preserved c = (
  λ w start later whole there.
      let g = c.each.invariant.0 w start later whole there in
      let (next, left, s, ends, low) = first-stands c.args.text.now c.args.tokens.now c.each.at g.left g.there in
      let m = one-more c.args.cat.now start c.args.text.now c.args.tokens.now c.each.candidates.items c.each.names.items c.each.at w g c.deref.result.now c.in_ok-candidate.field-0 c.items.result.now _ c.push-in-each.new.self.items c.push.new.self.items c.deref.ensures.value c.items.ensures
      (c.in_ok-candidate.ensures.told g.left.first next left start later whole s ends low) c.in_ok-push-2.ensures.items c.in_ok-push.ensures.items in
      more-on c.args.cat.now start c.args.text.now c.args.tokens.now c.each.candidates.items c.each.names.items c.each.at w g c.in_ok-candidate.field-0.end c.push-in-each.new.self.items c.push.new.self.items c.takes_mark.new.self m (subst (λ (ts : List Terminal). Begins (t_mark Comma) ts c.takes_mark.new.self) c.new-behind.ensures (c.if-not-takes_mark.ensures.took refl)),
  apart-then c.args.cat.now c.deref.result.now c.each.candidates.items c.push-in-each.new.self.items c.in_ok-candidate.field-0.candidate c.deref.ensures.value c.each.invariant.1 c.in_ok-candidate.ensures.room c.in_ok-candidate.ensures.sound c.in_ok-push-2.ensures.items,
  as-many c.each.candidates.items c.push-in-each.new.self.items c.each.names.items c.push.new.self.items _ _ c.each.invariant.2 c.in_ok-push-2.ensures.items c.in_ok-push.ensures.items,
)
