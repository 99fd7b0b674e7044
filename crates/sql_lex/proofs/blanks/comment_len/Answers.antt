use Rattle.std.proofs.Common.{◌+◌, arith, sym, ◌∙◌, refl}
use Rattle.sql_lex.proofs.CommentLaws.{passes_opening, passes_closing, passes_byte, closed_at, not_closed}
use Rattle.sql_lex.proofs.blanks.comment_len.Goals as goal

pub marks-preserved-then-stands_at : goal.marks-preserved-then-stands_at
marks-preserved-then-stands_at c = record {
  same = passes_opening c.marks.open c.args.bytes.now c.marks.at c.marks.invariant.some (sym c.if-stands_at.ensures.value) ∙ c.marks.invariant.same;
  some = omega arith;
  few = omega arith;
  within = c.if-stands_at.ensures.within refl;
}

pub returns-then-open-eq0 : goal.returns-then-open-eq0
returns-then-open-eq0 c =
    let past = passes_closing c.marks.open c.args.bytes.now c.marks.at c.marks.invariant.some (sym c.if-stands_at.ensures.value) (sym c.if-stands_at-2.ensures.value) ∙ c.marks.invariant.same in
    closed_at c.args.bytes.now (c.marks.at + 2) (c.if-stands_at-2.ensures.within refl) (rw c.if-open-eq0.true at past)

pub marks-preserved-else-open-eq0 : goal.marks-preserved-else-open-eq0
marks-preserved-else-open-eq0 c = record {
  same = passes_closing c.marks.open c.args.bytes.now c.marks.at c.marks.invariant.some (sym c.if-stands_at.ensures.value) (sym c.if-stands_at-2.ensures.value) ∙ c.marks.invariant.same;
  some = omega arith;
  few = omega arith;
  within = c.if-stands_at-2.ensures.within refl;
}

pub marks-preserved : goal.marks-preserved
marks-preserved c = record {
  same = passes_byte c.marks.open c.args.bytes.now c.marks.at c.marks.invariant.some (sym c.if-stands_at.ensures.value) (sym c.if-stands_at-2.ensures.value) ∙ c.marks.invariant.same;
  some = omega arith;
  few = omega arith;
  within = omega arith;
}

pub returns : goal.returns
returns c = not_closed c.args.bytes.now c.marks.at c.marks.open (omega arith) c.marks.invariant.some c.marks.invariant.same
