use Rattle.std.proofs.Common.{◌+◌, arith, sym, refl, ◌∙◌}
use Rattle.sql_lex.proofs.QuoteLaws.{passes_pair, passes_close, past_end}
use Rattle.sql_lex.proofs.FormLaws.{quote_cut, no_quoted}
use Rattle.sql_lex.proofs.forms.quoted_len.Goals as goal

pub inside-preserved-then-stands_at : goal.inside-preserved-then-stands_at
inside-preserved-then-stands_at c = record {
  same = passes_pair c.args.bytes.now c.inside.at (sym c.if-stands_at.ensures.value) ∙ c.inside.invariant.same;
  within = c.if-stands_at.ensures.within refl;
}

pub returns-then-bytes-at-eq39 : goal.returns-then-bytes-at-eq39
returns-then-bytes-at-eq39 c =
    quote_cut c.args.bytes.now (c.inside.at + 1) (omega arith) c.requires.some c.requires.quote
    (sym c.inside.invariant.same ∙ passes_close c.args.bytes.now c.inside.at c.inside-test.true (sym c.if-stands_at.ensures.value) c.if-bytes-at-eq39.true)

pub returns : goal.returns
returns c =
    no_quoted c.args.bytes.now c.requires.some c.requires.quote
    (sym c.inside.invariant.same ∙ past_end c.args.bytes.now c.inside.at c.inside-test.false)
