use Rattle.std.proofs.Common.{◌∙◌, ℕ, List, ◌++◌, Some, ap, sym, subst}
use Rattle.std.proofs.lemmas.Bool.{true≢false}
use Rattle.pg_base.specs.Sets.{has as member}
use Rattle.certificate_entries.proofs.KeyLemmas.{AreRead, class-no, class-some, direction-is, named, words-read}
use Rattle.certificate_entries.proofs.line_keys.read_key.Goals as goal

pub returns-in_err-words-clause-only : goal.returns-in_err-words-clause-only
returns-in_err-words-clause-only c = λ n rest has ends e.
    let r = words-read c.args.cat.now c.args.q.now c.requires.bound c.lawful.ensures (member c.args.set.0) n rest c.args.at.now c.read_words.new.at c.read_words.result has ends c.read_words.ensures.only e in
    let none = subst (λ o. AreRead c.args.cat.now c.args.q.now c.requires.bound (member c.args.set.0) n o c.read_words.new.at rest) c.in_err-words.was r in
    absurd none.words

pub returns-in_err-class-clause-only : goal.returns-in_err-class-clause-only
returns-in_err-class-clause-only c = λ n rest has ends e.
    let q = c.args.q.now in
    let r = words-read c.args.cat.now q c.requires.bound c.lawful.ensures (member c.args.set.0) n rest c.args.at.now c.read_words.new.at c.read_words.result has ends c.read_words.ensures.only e in
    let some = subst (λ o. AreRead c.args.cat.now q c.requires.bound (member c.args.set.0) n o c.read_words.new.at rest) c.in_ok-words.was r in
    absurd (class-no c.class_by.result n c.in_err-class.was (c.class_by.ensures.only n some.column has some.first (named c.args.cat.now q c.requires.bound (member c.args.set.0) n c.in_ok-words.words c.read_words.new.at rest some) (sym some.words.2)))

pub returns-then-eat-clause-only : goal.returns-then-eat-clause-only
returns-then-eat-clause-only c = λ n rest has ends e.
    let q = c.args.q.now in
    let r = words-read c.args.cat.now q c.requires.bound c.lawful.ensures (member c.args.set.0) n rest c.args.at.now c.read_words.new.at c.read_words.result has ends c.read_words.ensures.only e in
    let some = subst (λ o. AreRead c.args.cat.now q c.requires.bound (member c.args.set.0) n o c.read_words.new.at rest) c.in_ok-words.was r in
    let class = class-some c.class_by.result c.in_ok-class.class n c.in_ok-class.was (c.class_by.ensures.only n some.column has some.first (named c.args.cat.now q c.requires.bound (member c.args.set.0) n c.in_ok-words.words c.read_words.new.at rest some) (sym some.words.2)) in
    let bytes = direction-is q c.classes_of.result.now c.in_ok-class.class.0 n c.direction.result c.direction_bytes.result.now c.classes_of.ensures class c.direction.ensures c.direction_bytes.ensures in
    let took = c.if-eat.ensures.took rest (some.left ∙ ap (λ (l : List ℕ). l ++ rest) (sym bytes)) in
    (ap (λ (m : ℕ). Some m) class, took.1)

pub returns-else-eat-clause-only : goal.returns-else-eat-clause-only
returns-else-eat-clause-only c = λ n rest has ends e.
    let q = c.args.q.now in
    let r = words-read c.args.cat.now q c.requires.bound c.lawful.ensures (member c.args.set.0) n rest c.args.at.now c.read_words.new.at c.read_words.result has ends c.read_words.ensures.only e in
    let some = subst (λ o. AreRead c.args.cat.now q c.requires.bound (member c.args.set.0) n o c.read_words.new.at rest) c.in_ok-words.was r in
    let class = class-some c.class_by.result c.in_ok-class.class n c.in_ok-class.was (c.class_by.ensures.only n some.column has some.first (named c.args.cat.now q c.requires.bound (member c.args.set.0) n c.in_ok-words.words c.read_words.new.at rest some) (sym some.words.2)) in
    let bytes = direction-is q c.classes_of.result.now c.in_ok-class.class.0 n c.direction.result c.direction_bytes.result.now c.classes_of.ensures class c.direction.ensures c.direction_bytes.ensures in
    let took = c.if-eat.ensures.took rest (some.left ∙ ap (λ (l : List ℕ). l ++ rest) (sym bytes)) in
    absurd (true≢false (sym took.0))
