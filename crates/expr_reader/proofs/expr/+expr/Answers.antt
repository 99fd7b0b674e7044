use Rattle.std.proofs.Common.{◌≡◌, ◌++◌, ◌∷◌, Ok, arith, length, refl, sym, ap, ◌∙◌}
use Rattle.pg_expr.specs.Cond.{Cond, negation}
use Rattle.pg_expr.specs.work.View.{cond, conds}
use Rattle.pg_expr.specs.declared.expr.Expr.{Expr, Not as NotOf}
use Rattle.sql_grammar.specs.declared.class.Symbol.TheVariants.{Open, Close}
use Rattle.sql_grammar.specs.declared.class.Word.TheVariants.{And, Not, Or}
use Rattle.sql_grammar.specs.Terminals.{t_key, t_mark}
use Rattle.sql_grammar.specs.work.Unique.{front, tail}
use Rattle.sql_grammar.specs.Words.{words_of_ands, words_of_ors}
use Rattle.sql_grammar.proofs.ExprTrees.{parted, tail-dotless}
use Rattle.expr_reader.specs.declared.written.Side.{Side}
use Rattle.expr_reader.specs.Conditions.{next, meaning_of_expr, meaning_of_conj, meaning_of_neg, meaning_of_atom}
use Rattle.expr_reader.specs.work.Written.{side_meant}
use Rattle.expr_reader.proofs.AtomLemmas.{in-parens, no-parens, after-not, not-absent, front-fault}
use Rattle.expr_reader.proofs.OperandLemmas.{side-fault, side-found}
use Rattle.expr_reader.proofs.PartLemmas.{cond-not, first-and, first-and-fault, first-and-read, next-and, next-and-fault, next-and-read, last-and, first-or, first-or-fault, first-or-read, next-or, next-or-fault, next-or-read, last-or, some-parts, first-parts, more-parts, fewer}
use Rattle.expr_reader.proofs.ReadsLemmas.{read-ok, read-refused, was-read}
use Rattle.expr_reader.proofs.expr.+expr.Goals as goal

pub disjunction-conjunction-requires : goal.disjunction-conjunction-requires
disjunction-conjunction-requires g t c =
    let (e, rest, ends, is) = c.requires in
    let a = first-or (g.S.Scope.visible c.args.scope.now) (g.S.Scope.type_of c.args.scope.now) e rest c.args.from.now ends is in
    λ κs o. (omega (arith, c.decreases), (o, (a.part, words_of_ors a.more ++ rest, a.ends, a.words)))

pub disjunction-returns-in_err-conjunction-clause-read : goal.disjunction-returns-in_err-conjunction-clause-read
disjunction-returns-in_err-conjunction-clause-read g t c = λ e rest ends is.
    let scope = g.S.Scope.visible c.args.scope.now in
    let types = g.S.Scope.type_of c.args.scope.now in
    let a = first-or scope types e rest c.args.from.now ends is in
    read-refused Expr Expr Cond Cond cond cond (meaning_of_conj scope types a.part) (meaning_of_expr scope types e) c.in_err-conjunction.field-0.0 c.from_residual.result (words_of_ors a.more ++ rest) rest c.conjunction.new.from c.conjunction.new.from
    (c.in_err-conjunction.ensures.read a.part (words_of_ors a.more ++ rest) a.ends a.words) (λ f m. first-or-fault scope types e rest c.args.from.now f a m) c.from_residual.ensures.1

pub disjunction-more-init : goal.disjunction-more-init
disjunction-more-init g t c = record {
  left = λ e rest ends is. (
      let scope = g.S.Scope.visible c.args.scope.now in
      let types = g.S.Scope.type_of c.args.scope.now in
      let a = first-or scope types e rest c.args.from.now ends is in
      let x = c.in_ok-conjunction.field-0 in
      let read = was-read Expr Cond cond (meaning_of_conj scope types a.part) x (words_of_ors a.more ++ rest) c.conjunction.new.from (c.in_ok-conjunction.ensures.read a.part (words_of_ors a.more ++ rest) a.ends a.words) in
      first-or-read scope types e rest c.args.from.now c.conjunction.new.from (conds c.push.new.self.items) (cond x) a read.meant read.words
      (first-parts c.new-parts.result.items c.push.new.self.items x c.new-parts.ensures.items c.in_ok-push.ensures.items)
      );
  some = some-parts c.new-parts.result.items c.push.new.self.items c.in_ok-conjunction.field-0 c.in_ok-push.ensures.items;
  ahead = c.in_ok-conjunction.ensures.ahead;
}

pub disjunction-conjunction-requires-in-more : goal.disjunction-conjunction-requires-in-more
disjunction-conjunction-requires-in-more g t c =
    let (e, rest, ends, is) = c.requires in
    let (k, took) = c.more-test.ensures.took refl in
    let a = next-or (g.S.Scope.visible c.args.scope.now) (g.S.Scope.type_of c.args.scope.now) e rest (conds c.more.parts.items) c.more.from c.takes.new.self k ends took (c.more.invariant.left e rest ends is) in
    λ κs o. (omega (arith, c.decreases, fewer c.more.from c.takes.new.self (t_key Or k) took, c.more.invariant.ahead), (o, (a.part, words_of_ors a.more ++ rest, a.ends, a.words)))

pub disjunction-returns-in_err-conjunction-2-clause-read : goal.disjunction-returns-in_err-conjunction-2-clause-read
disjunction-returns-in_err-conjunction-2-clause-read g t c = λ e rest ends is.
    let scope = g.S.Scope.visible c.args.scope.now in
    let types = g.S.Scope.type_of c.args.scope.now in
    let (k, took) = c.more-test.ensures.took refl in
    let a = next-or scope types e rest (conds c.more.parts.items) c.more.from c.takes.new.self k ends took (c.more.invariant.left e rest ends is) in
    read-refused Expr Expr Cond Cond cond cond (meaning_of_conj scope types a.part) (meaning_of_expr scope types e) c.in_err-conjunction-2.field-0.0 c.from_residual-in_err-conjunction-2.result (words_of_ors a.more ++ rest) rest c.conjunction-in-more.new.from c.conjunction-in-more.new.from
    (c.in_err-conjunction-2.ensures.read a.part (words_of_ors a.more ++ rest) a.ends a.words) (λ f m. next-or-fault scope types e rest (conds c.more.parts.items) c.takes.new.self f a m) c.from_residual-in_err-conjunction-2.ensures.1

pub disjunction-more-preserved : goal.disjunction-more-preserved
disjunction-more-preserved g t c = record {
  left = λ e rest ends is. (
      let scope = g.S.Scope.visible c.args.scope.now in
      let types = g.S.Scope.type_of c.args.scope.now in
      let (k, took) = c.more-test.ensures.took refl in
      let a = next-or scope types e rest (conds c.more.parts.items) c.more.from c.takes.new.self k ends took (c.more.invariant.left e rest ends is) in
      let x = c.in_ok-conjunction-2.field-0 in
      let read = was-read Expr Cond cond (meaning_of_conj scope types a.part) x (words_of_ors a.more ++ rest) c.conjunction-in-more.new.from (c.in_ok-conjunction-2.ensures.read a.part (words_of_ors a.more ++ rest) a.ends a.words) in
      next-or-read scope types e rest (conds c.more.parts.items) (conds c.push-in-more.new.self.items) c.takes.new.self c.conjunction-in-more.new.from (cond x) a read.meant read.words
      (more-parts c.more.parts.items c.push-in-more.new.self.items x c.in_ok-push-2.ensures.items)
      );
  some = some-parts c.more.parts.items c.push-in-more.new.self.items c.in_ok-conjunction-2.field-0 c.in_ok-push-2.ensures.items;
  ahead = (
      let (k, took) = c.more-test.ensures.took refl in
      omega (arith, fewer c.more.from c.takes.new.self (t_key Or k) took, c.more.invariant.ahead, c.in_ok-conjunction-2.ensures.ahead)
      );
}

pub disjunction-returns-clause-read : goal.disjunction-returns-clause-read
disjunction-returns-clause-read g t c = λ e rest ends is.
    let scope = g.S.Scope.visible c.args.scope.now in
    let types = g.S.Scope.type_of c.args.scope.now in
    let last = last-or scope types e rest (conds c.more.parts.items) c.more.from (c.more-test.ensures.other refl) (c.more.invariant.left e rest ends is) in
    read-ok Expr Cond cond (meaning_of_expr scope types e) c.or_of.result rest c.takes.new.self (ap (λ m. Ok m) c.or_of.ensures ∙ sym last.0) (c.more-test.ensures.left refl ∙ last.1)

pub conjunction-negation-requires : goal.conjunction-negation-requires
conjunction-negation-requires g t c =
    let (e, rest, ends, is) = c.requires in
    let a = first-and (g.S.Scope.visible c.args.scope.now) (g.S.Scope.type_of c.args.scope.now) e rest c.args.from.now ends is in
    λ κs o. (omega (arith, c.decreases), (o, (a.part, words_of_ands a.more ++ rest, a.ends, a.words)))

pub conjunction-returns-in_err-negation-clause-read : goal.conjunction-returns-in_err-negation-clause-read
conjunction-returns-in_err-negation-clause-read g t c = λ e rest ends is.
    let scope = g.S.Scope.visible c.args.scope.now in
    let types = g.S.Scope.type_of c.args.scope.now in
    let a = first-and scope types e rest c.args.from.now ends is in
    read-refused Expr Expr Cond Cond cond cond (meaning_of_neg scope types a.part) (meaning_of_conj scope types e) c.in_err-negation.field-0.0 c.from_residual.result (words_of_ands a.more ++ rest) rest c.negation.new.from c.negation.new.from
    (c.in_err-negation.ensures.read a.part (words_of_ands a.more ++ rest) a.ends a.words) (λ f m. first-and-fault scope types e rest c.args.from.now f a m) c.from_residual.ensures.1

pub conjunction-more-init : goal.conjunction-more-init
conjunction-more-init g t c = record {
  left = λ e rest ends is. (
      let scope = g.S.Scope.visible c.args.scope.now in
      let types = g.S.Scope.type_of c.args.scope.now in
      let a = first-and scope types e rest c.args.from.now ends is in
      let x = c.in_ok-negation.field-0 in
      let read = was-read Expr Cond cond (meaning_of_neg scope types a.part) x (words_of_ands a.more ++ rest) c.negation.new.from (c.in_ok-negation.ensures.read a.part (words_of_ands a.more ++ rest) a.ends a.words) in
      first-and-read scope types e rest c.args.from.now c.negation.new.from (conds c.push.new.self.items) (cond x) a read.meant read.words
      (first-parts c.new-parts.result.items c.push.new.self.items x c.new-parts.ensures.items c.in_ok-push.ensures.items)
      );
  some = some-parts c.new-parts.result.items c.push.new.self.items c.in_ok-negation.field-0 c.in_ok-push.ensures.items;
  ahead = c.in_ok-negation.ensures.ahead;
}

pub conjunction-negation-requires-in-more : goal.conjunction-negation-requires-in-more
conjunction-negation-requires-in-more g t c =
    let (e, rest, ends, is) = c.requires in
    let (k, took) = c.more-test.ensures.took refl in
    let a = next-and (g.S.Scope.visible c.args.scope.now) (g.S.Scope.type_of c.args.scope.now) e rest (conds c.more.parts.items) c.more.from c.takes.new.self k ends took (c.more.invariant.left e rest ends is) in
    λ κs o. (omega (arith, c.decreases, fewer c.more.from c.takes.new.self (t_key And k) took, c.more.invariant.ahead), (o, (a.part, words_of_ands a.more ++ rest, a.ends, a.words)))

pub conjunction-returns-in_err-negation-2-clause-read : goal.conjunction-returns-in_err-negation-2-clause-read
conjunction-returns-in_err-negation-2-clause-read g t c = λ e rest ends is.
    let scope = g.S.Scope.visible c.args.scope.now in
    let types = g.S.Scope.type_of c.args.scope.now in
    let (k, took) = c.more-test.ensures.took refl in
    let a = next-and scope types e rest (conds c.more.parts.items) c.more.from c.takes.new.self k ends took (c.more.invariant.left e rest ends is) in
    read-refused Expr Expr Cond Cond cond cond (meaning_of_neg scope types a.part) (meaning_of_conj scope types e) c.in_err-negation-2.field-0.0 c.from_residual-in_err-negation-2.result (words_of_ands a.more ++ rest) rest c.negation-in-more.new.from c.negation-in-more.new.from
    (c.in_err-negation-2.ensures.read a.part (words_of_ands a.more ++ rest) a.ends a.words) (λ f m. next-and-fault scope types e rest (conds c.more.parts.items) c.takes.new.self f a m) c.from_residual-in_err-negation-2.ensures.1

pub conjunction-more-preserved : goal.conjunction-more-preserved
conjunction-more-preserved g t c = record {
  left = λ e rest ends is. (
      let scope = g.S.Scope.visible c.args.scope.now in
      let types = g.S.Scope.type_of c.args.scope.now in
      let (k, took) = c.more-test.ensures.took refl in
      let a = next-and scope types e rest (conds c.more.parts.items) c.more.from c.takes.new.self k ends took (c.more.invariant.left e rest ends is) in
      let x = c.in_ok-negation-2.field-0 in
      let read = was-read Expr Cond cond (meaning_of_neg scope types a.part) x (words_of_ands a.more ++ rest) c.negation-in-more.new.from (c.in_ok-negation-2.ensures.read a.part (words_of_ands a.more ++ rest) a.ends a.words) in
      next-and-read scope types e rest (conds c.more.parts.items) (conds c.push-in-more.new.self.items) c.takes.new.self c.negation-in-more.new.from (cond x) a read.meant read.words
      (more-parts c.more.parts.items c.push-in-more.new.self.items x c.in_ok-push-2.ensures.items)
      );
  some = some-parts c.more.parts.items c.push-in-more.new.self.items c.in_ok-negation-2.field-0 c.in_ok-push-2.ensures.items;
  ahead = (
      let (k, took) = c.more-test.ensures.took refl in
      omega (arith, fewer c.more.from c.takes.new.self (t_key And k) took, c.more.invariant.ahead, c.in_ok-negation-2.ensures.ahead)
      );
}

pub conjunction-returns-clause-read : goal.conjunction-returns-clause-read
conjunction-returns-clause-read g t c = λ e rest ends is.
    let scope = g.S.Scope.visible c.args.scope.now in
    let types = g.S.Scope.type_of c.args.scope.now in
    let last = last-and scope types e rest (conds c.more.parts.items) c.more.from (c.more-test.ensures.other refl) (c.more.invariant.left e rest ends is) in
    read-ok Expr Cond cond (meaning_of_conj scope types e) c.and_of.result rest c.takes.new.self (ap (λ m. Ok m) c.and_of.ensures ∙ sym last.0) (c.more-test.ensures.left refl ∙ last.1)

pub negation-negation-requires : goal.negation-negation-requires
negation-negation-requires g t c =
    let (n, rest, ends, is) = c.requires in
    let (k, took) = c.if-takes.ensures.took refl in
    let a = after-not n rest c.args.from.now c.takes.new.self k took is in
    λ κs o. (omega (arith, c.decreases, fewer c.args.from.now c.takes.new.self (t_key Not k) took), (o, (a.inner, rest, ends, a.words)))

pub negation-returns-in_err-negation-clause-read : goal.negation-returns-in_err-negation-clause-read
negation-returns-in_err-negation-clause-read g t c = λ n rest ends is.
    let scope = g.S.Scope.visible c.args.scope.now in
    let types = g.S.Scope.type_of c.args.scope.now in
    let (k, took) = c.if-takes.ensures.took refl in
    let a = after-not n rest c.args.from.now c.takes.new.self k took is in
    read-refused Expr Expr Cond Cond cond cond (meaning_of_neg scope types a.inner) (meaning_of_neg scope types n) c.in_err-negation.field-0.0 c.from_residual.result rest rest c.negation.new.from c.negation.new.from
    (c.in_err-negation.ensures.read a.inner rest ends a.words) (λ f m. ap (meaning_of_neg scope types) a.neg ∙ ap (λ r. next r (λ x. Ok (negation x))) m) c.from_residual.ensures.1

pub negation-returns-then-takes-clause-read : goal.negation-returns-then-takes-clause-read
negation-returns-then-takes-clause-read g t c = λ n rest ends is.
    let scope = g.S.Scope.visible c.args.scope.now in
    let types = g.S.Scope.type_of c.args.scope.now in
    let (k, took) = c.if-takes.ensures.took refl in
    let a = after-not n rest c.args.from.now c.takes.new.self k took is in
    let read = was-read Expr Cond cond (meaning_of_neg scope types a.inner) c.in_ok-negation.field-0 rest c.negation.new.from (c.in_ok-negation.ensures.read a.inner rest ends a.words) in
    let inner : cond (NotOf c.in_ok-inner.inner) ≡ negation (cond c.in_ok-negation.field-0) = cond-not c.in_ok-inner.inner ∙ ap (λ e. negation (cond e)) c.in_ok-inner.ensures.ok in
    read-ok Expr Cond cond (meaning_of_neg scope types n) (NotOf c.in_ok-inner.inner) rest c.negation.new.from
    (ap (λ x. Ok x) inner ∙ sym (ap (meaning_of_neg scope types) a.neg ∙ ap (λ r. next r (λ x. Ok (negation x))) read.meant)) read.words

pub negation-atom-requires : goal.negation-atom-requires
negation-atom-requires g t c =
    let (n, rest, ends, is) = c.requires in
    let a = not-absent n rest c.args.from.now (c.if-takes.ensures.other refl) is in
    λ κs o. (omega (arith, c.decreases, ap length (c.if-takes.ensures.left refl)), (o, (a.atom, rest, ends, c.if-takes.ensures.left refl ∙ a.words)))

pub negation-returns-clause-read : goal.negation-returns-clause-read
negation-returns-clause-read g t c = λ n rest ends is.
    let a = not-absent n rest c.args.from.now (c.if-takes.ensures.other refl) is in
    rw a.neg (c.atom.ensures.read a.atom rest ends (c.if-takes.ensures.left refl ∙ a.words))

pub atom-disjunction-requires : goal.atom-disjunction-requires
atom-disjunction-requires g t c =
    let (n, rest, ends, is) = c.requires in
    let (k, took) = c.if-takes_mark.ensures.took refl in
    let a = in-parens n rest c.args.from.now c.takes_mark.new.self k took is in
    λ κs o. (omega (arith, c.decreases, fewer c.args.from.now c.takes_mark.new.self (t_mark Open k) took), (o, (a.inner, t_mark Close a.close_at ∷ rest, refl, a.words)))

pub atom-returns-in_err-inner-clause-read : goal.atom-returns-in_err-inner-clause-read
atom-returns-in_err-inner-clause-read g t c = λ n rest ends is.
    let scope = g.S.Scope.visible c.args.scope.now in
    let types = g.S.Scope.type_of c.args.scope.now in
    let (k, took) = c.if-takes_mark.ensures.took refl in
    let a = in-parens n rest c.args.from.now c.takes_mark.new.self k took is in
    read-refused Expr Expr Cond Cond cond cond (meaning_of_expr scope types a.inner) (meaning_of_atom scope types n) c.in_err-inner.field-0.0 c.from_residual.result (t_mark Close a.close_at ∷ rest) rest c.disjunction.new.from c.disjunction.new.from
    (c.in_err-inner.ensures.read a.inner (t_mark Close a.close_at ∷ rest) refl a.words) (λ f m. ap (meaning_of_atom scope types) a.atom ∙ m) c.from_residual.ensures.1

pub atom-unreachable-requires : goal.atom-unreachable-requires
atom-unreachable-requires g t c =
    let (n, rest, ends, is) = c.requires in
    let scope = g.S.Scope.visible c.args.scope.now in
    let types = g.S.Scope.type_of c.args.scope.now in
    let (k, took) = c.if-takes_mark.ensures.took refl in
    let a = in-parens n rest c.args.from.now c.takes_mark.new.self k took is in
    let read = was-read Expr Cond cond (meaning_of_expr scope types a.inner) c.in_ok-inner.inner (t_mark Close a.close_at ∷ rest) c.disjunction.new.from (c.in_ok-inner.ensures.read a.inner (t_mark Close a.close_at ∷ rest) refl a.words) in
    c.if-not-takes_mark.ensures.other refl rest (a.close_at, read.words)

pub atom-returns-then-takes_mark-clause-read : goal.atom-returns-then-takes_mark-clause-read
atom-returns-then-takes_mark-clause-read g t c = λ n rest ends is.
    let scope = g.S.Scope.visible c.args.scope.now in
    let types = g.S.Scope.type_of c.args.scope.now in
    let (k, took) = c.if-takes_mark.ensures.took refl in
    let a = in-parens n rest c.args.from.now c.takes_mark.new.self k took is in
    let read = was-read Expr Cond cond (meaning_of_expr scope types a.inner) c.in_ok-inner.inner (t_mark Close a.close_at ∷ rest) c.disjunction.new.from (c.in_ok-inner.ensures.read a.inner (t_mark Close a.close_at ∷ rest) refl a.words) in
    let (j, closed) = c.if-not-takes_mark.ensures.took refl in
    let same : t_mark Close j ∷ c.takes_mark-then-takes_mark.new.self ≡ t_mark Close a.close_at ∷ rest = sym closed ∙ read.words in
    read-ok Expr Cond cond (meaning_of_atom scope types n) c.in_ok-inner.inner rest c.takes_mark-then-takes_mark.new.self (sym (ap (meaning_of_atom scope types) a.atom ∙ read.meant)) (cc (same))

pub atom-operand-requires : goal.atom-operand-requires
atom-operand-requires g t c =
    let (n, rest, ends, is) = c.requires in
    let flat = no-parens n rest c.args.from.now (c.if-takes_mark.ensures.other refl) is in
    (front n, tail n rest, tail-dotless n rest ends, c.if-takes_mark.ensures.left refl ∙ (is ∙ parted n rest flat))

pub atom-returns-in_err-left-clause-read : goal.atom-returns-in_err-left-clause-read
atom-returns-in_err-left-clause-read g t c = λ n rest ends is.
    let scope = g.S.Scope.visible c.args.scope.now in
    let types = g.S.Scope.type_of c.args.scope.now in
    let flat = no-parens n rest c.args.from.now (c.if-takes_mark.ensures.other refl) is in
    read-refused Side Expr Side Cond (λ x. x) cond (side_meant scope types (front n)) (meaning_of_atom scope types n) c.in_err-left.field-0.0 c.from_residual-in_err-left.result (tail n rest) rest c.operand.new.from c.operand.new.from
    (c.in_err-left.ensures.read (front n) (tail n rest) (tail-dotless n rest ends) (c.if-takes_mark.ensures.left refl ∙ (is ∙ parted n rest flat)))
    (λ f m. front-fault scope types n f flat (side-fault scope types (front n) f m)) c.from_residual-in_err-left.ensures.1

pub atom-after_operand-requires : goal.atom-after_operand-requires
atom-after_operand-requires g t c =
    let (n, rest, ends, is) = c.requires in
    let scope = g.S.Scope.visible c.args.scope.now in
    let types = g.S.Scope.type_of c.args.scope.now in
    let flat = no-parens n rest c.args.from.now (c.if-takes_mark.ensures.other refl) is in
    let read = was-read Side Side (λ x. x) (side_meant scope types (front n)) c.in_ok-left.left (tail n rest) c.operand.new.from
    (c.in_ok-left.ensures.read (front n) (tail n rest) (tail-dotless n rest ends) (c.if-takes_mark.ensures.left refl ∙ (is ∙ parted n rest flat))) in
    let found = side-found scope types (front n) c.in_ok-left.left read.meant in
    (n, found.side, rest, flat, ends, found.found, found.read, read.words)

pub atom-returns-clause-read : goal.atom-returns-clause-read
atom-returns-clause-read g t c = λ n rest ends is.
    let scope = g.S.Scope.visible c.args.scope.now in
    let types = g.S.Scope.type_of c.args.scope.now in
    let flat = no-parens n rest c.args.from.now (c.if-takes_mark.ensures.other refl) is in
    let read = was-read Side Side (λ x. x) (side_meant scope types (front n)) c.in_ok-left.left (tail n rest) c.operand.new.from
    (c.in_ok-left.ensures.read (front n) (tail n rest) (tail-dotless n rest ends) (c.if-takes_mark.ensures.left refl ∙ (is ∙ parted n rest flat))) in
    let found = side-found scope types (front n) c.in_ok-left.left read.meant in
    c.after_operand.ensures.read n found.side rest flat ends found.found found.read read.words
