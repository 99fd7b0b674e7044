use Rattle.std.proofs.Common.{◌≡◌, ℕ, ◌+◌, ◌<◌, Bool, true, false, List, length, drop, get_or, sym, ap, ◌∙◌, arith, nat_eq}
use Rattle.std.proofs.lemmas.List.{drop_more}
use Rattle.sql_grammar.specs.Reading.{unquoted}
use Rattle.sql_grammar.proofs.limits.text_len.Goals as goal
use Rattle.sql_grammar.proofs.limits.text_len.Goals.{then-second, else-second}

-- the second quote of two
passed : (xs : List ℕ) (k len all : ℕ) (second : Bool) → k < length xs → second ≡ true → len + length (unquoted second (drop k xs)) ≡ all →
    len + length (unquoted false (drop (k + 1) xs)) ≡ all
passed xs k len all second lt is e =
    ap (λ l. len + length (unquoted true l)) (sym (drop_more xs k 0 lt)) ∙ (ap (λ b. len + length (unquoted b (drop k xs))) (sym is) ∙ e)

-- a byte of the value
counted : (xs : List ℕ) (k len all : ℕ) (second : Bool) → k < length xs → second ≡ false → len + length (unquoted second (drop k xs)) ≡ all →
    (len + 1) + length (unquoted (nat_eq (get_or xs k 0) 39) (drop (k + 1) xs)) ≡ all
counted xs k len all second lt is e =
    let more = ap (λ l. length (unquoted false l)) (drop_more xs k 0 lt) in
    let same = ap (λ b. length (unquoted b (drop k xs))) is in
    omega (arith, more, same, e)

pub loop-byte-preserved : goal.loop-byte-preserved
loop-byte-preserved c = elim c.if-second.branch [
  | then-second w ↦ rw (w.len-is, w.second-is) (record {
    few = omega (arith, c.loop-byte.invariant.few);
    same = passed _ c.loop-byte.byte-index c.loop-byte.len _ c.loop-byte.second c.loop-byte-test.true w.if-second.true c.loop-byte.invariant.same;
  })
  | else-second w ↦ rw (w.len-is, w.second-is) (record {
    few = omega (arith, c.loop-byte.invariant.few);
    same = counted _ c.loop-byte.byte-index c.loop-byte.len _ c.loop-byte.second c.loop-byte-test.true w.if-second.false c.loop-byte.invariant.same;
  })
]
