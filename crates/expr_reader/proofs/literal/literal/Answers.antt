use Rattle.std.proofs.Common.{true, false, refl, sym, ap, ap₂, ◌∙◌}
use Rattle.sql_grammar.specs.Terminals.{t_key, t_mark, t_number}
use Rattle.sql_grammar.specs.Words.{constant_word}
use Rattle.expr_reader.specs.declared.written.Literal.TheVariants.{Constant as ConstantOf}
use Rattle.sql_grammar.specs.declared.class.Symbol.TheVariants.{Minus}
use Rattle.expr_reader.specs.work.Written.{literal_of, whole}
use Rattle.expr_reader.proofs.LiteralLemmas.{after-minus, constant-lit, number-left, no-text}
use Rattle.expr_reader.proofs.literal.literal.Goals as goal

pub whole-requires : goal.whole-requires
whole-requires c =
    let (l, rest, is) = c.requires in
    let (t, took) = c.if-takes_mark.ensures.took refl in
    let a = after-minus l rest c.args.from.now c.takes_mark.new.self t took is in
    (a.said, rest, a.words)

pub returns-then-takes_mark-clause-read : goal.returns-then-takes_mark-clause-read
returns-then-takes_mark-clause-read c = λ l rest is.
    let (t, took) = c.if-takes_mark.ensures.took refl in
    let a = after-minus l rest c.args.from.now c.takes_mark.new.self t took is in
    let read = c.whole.ensures.read a.said rest a.words in
    (read.0 ∙ (ap (λ k. whole true k a.said) (c.token-token.ensures (t_mark Minus t) c.takes_mark.new.self took) ∙ sym (ap literal_of a.literal)), read.1)

pub returns-in-Some-constant-clause-read : goal.returns-in-Some-constant-clause-read
returns-in-Some-constant-clause-read c = λ l rest is.
    let text = no-text c.in_ok-text.field-0 c.takes_mark.new.self c.quoted.new.self c.in_default.not-Some c.in_ok-text.ensures in
    let (k, t, truth, took) = c.in-Some-constant.ensures in
    let whole_words = sym (text.0 ∙ c.if-takes_mark.ensures.left refl) ∙ took in
    let found = constant-lit l rest c.args.from.now c.constant.new.from k t whole_words is in
    (ap₂ ConstantOf truth (c.token-token.ensures (t_key (constant_word k) t) c.constant.new.from whole_words) ∙ sym (ap literal_of found.0), found.1)

pub whole-requires-2 : goal.whole-requires-2
whole-requires-2 c =
    let (l, rest, is) = c.requires in
    let text = no-text c.in_ok-text.field-0 c.takes_mark.new.self c.quoted.new.self c.in_default.not-Some c.in_ok-text.ensures in
    let a = number-left l rest c.args.from.now c.takes_mark.new.self c.quoted.new.self (c.if-takes_mark.ensures.left refl) (c.if-takes_mark.ensures.other refl) text c.in_default-constant.ensures.1 is in
    (a.said, rest, c.in_default-constant.ensures.0 ∙ (text.0 ∙ (c.if-takes_mark.ensures.left refl ∙ a.words)))

pub returns-clause-read : goal.returns-clause-read
returns-clause-read c = λ l rest is.
    let text = no-text c.in_ok-text.field-0 c.takes_mark.new.self c.quoted.new.self c.in_default.not-Some c.in_ok-text.ensures in
    let a = number-left l rest c.args.from.now c.takes_mark.new.self c.quoted.new.self (c.if-takes_mark.ensures.left refl) (c.if-takes_mark.ensures.other refl) text c.in_default-constant.ensures.1 is in
    let read = c.whole-2.ensures.read a.said rest (c.in_default-constant.ensures.0 ∙ (text.0 ∙ (c.if-takes_mark.ensures.left refl ∙ a.words))) in
    (read.0 ∙ (ap (λ k. whole false k a.said) (c.token-token.ensures (t_number a.said) rest a.words) ∙ sym (ap literal_of a.literal)), read.1)
