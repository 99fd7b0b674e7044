use Rattle.std.proofs.Common.{◌≡◌, ◌≢◌, ℕ, ◌+◌, ◌<◌, ◌≤◌, false, List, length, get_or, Some, sym, ap, ◌∙◌, add-zero, drop_of_length-le}
use Rattle.std.specs.List.{slice_get}
use Rattle.std.proofs.lemmas.List.Sums.{prefix_len-drop_no}
use Rattle.std.proofs.lemmas.Option.{slice_get-get_or, slice_get_past, same_Some}
use Rattle.pg_base.specs.Faults.{syntax_fault}
use Rattle.sql_grammar.specs.CopyLine.{is_blank, after_blanks}
use Rattle.sql_grammar.proofs.copy_line.data_start.Goals as goal

-- a byte that is no blank is the first such one
stays : (text : List ℕ) (at : ℕ) → at < length text → is_blank (get_or text at 0) ≡ false → after_blanks text at ≡ at
stays text at lt solid = rw (prefix_len-drop_no is_blank text at 0 lt solid) (add-zero at)

at-end : (text : List ℕ) (at : ℕ) → length text ≤ at → after_blanks text at ≡ at
at-end text at le = rw (drop_of_length-le text le) (add-zero at)

pub returns-then-byte-eq10 : goal.returns-then-byte-eq10
returns-then-byte-eq10 c =
    let byte : get_or c.args.text.now c.loop-at.at 0 ≡ 10 = c.if-byte-eq10.true in
    let here = sym (stays c.args.text.now c.loop-at.at c.loop-at-test.true (ap is_blank byte)) ∙ c.loop-at.invariant.same in (
      ap (slice_get c.args.text.now) (sym here) ∙ (slice_get-get_or c.args.text.now c.loop-at.at 0 c.loop-at-test.true ∙ ap Some byte),
      ap (λ n. n + 1) here,
    )

pub returns-then-not-is_blank : goal.returns-then-not-is_blank
returns-then-not-is_blank c =
    let solid : is_blank (get_or c.args.text.now c.loop-at.at 0) ≡ false = sym c.if-not-is_blank.ensures in
    let here = sym (stays c.args.text.now c.loop-at.at c.loop-at-test.true solid) ∙ c.loop-at.invariant.same in
    let differs : get_or c.args.text.now c.loop-at.at 0 ≢ 10 = c.if-byte-eq10.false in (
      λ e. differs (same_Some _ _ (sym (slice_get-get_or c.args.text.now c.loop-at.at 0 c.loop-at-test.true) ∙ (ap (slice_get c.args.text.now) here ∙ e))),
      c.syntax.ensures ∙ ap syntax_fault here,
    )

pub returns : goal.returns
returns c =
    let here = sym (at-end c.args.text.now c.loop-at.at c.loop-at-test.false) ∙ c.loop-at.invariant.same in (
      λ e. let past = slice_get_past c.args.text.now c.loop-at.at c.loop-at-test.false in absurd (cc (past, e, ap (slice_get c.args.text.now) here)),
      c.syntax-2.ensures ∙ ap syntax_fault here,
    )
