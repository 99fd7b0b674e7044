use Rattle.std.proofs.Common.{◌≡◌, ℕ, ◌+◌, length, take, drop, List, ◌∷◌, sym, ap, ◌∙◌, arith, length-drop}
use Rattle.std.proofs.lemmas.List.{length-take-le, drop-drop}
use Rattle.ddl_reader.specs.Block.{lines_of}
use Rattle.ddl_reader.proofs.Lines.{one-passed, found}
use Rattle.ddl_reader.proofs.block.block_end.Goals as goal

-- the first line of what is left
cut-at : (text rest : List ℕ) (at n : ℕ) → rest ≡ drop at text → lines_of rest ≡ take n rest ∷ lines_of (drop n rest) → lines_of (drop at text) ≡ take n rest ∷ lines_of (drop (at + n) text)
cut-at text rest at n is cut = ap lines_of (sym is) ∙ (cut ∙ ap (λ l. take n rest ∷ lines_of l) (ap (drop n) is ∙ drop-drop n at text))

pub loop-at-preserved : goal.loop-at-preserved
loop-at-preserved c =
    let at = c.loop-at.at in
    let text = c.args.text.now in
    let n = c.line_len-len.result in
    let rest = c.rest-lines.result.now in
    let fits = ap length c.rest-lines.ensures ∙ length-drop at text in (
      omega (arith, c.line_len-len.ensures.within, fits, c.loop-at-test.true),
      one-passed text c.args.start at n (take n rest) c.loop-at.invariant.1 (cut-at text rest at n c.rest-lines.ensures c.line_len-len.ensures.cut)
          (length-take-le n rest c.line_len-len.ensures.within) (sym c.is_mark.ensures ∙ c.if-is_mark.false),
    )

pub returns-then-is_mark : goal.returns-then-is_mark
returns-then-is_mark c =
    let at = c.loop-at.at in
    let text = c.args.text.now in
    let n = c.line_len-len.result in
    let rest = c.rest-lines.result.now in
    found text c.args.start at n (take n rest) c.loop-at.invariant.1 (cut-at text rest at n c.rest-lines.ensures c.line_len-len.ensures.cut)
    (length-take-le n rest c.line_len-len.ensures.within) (sym c.is_mark.ensures ∙ c.if-is_mark.true)
