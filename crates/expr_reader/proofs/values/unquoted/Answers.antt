use Rattle.std.proofs.Common.{◌≡◌, ℕ, ◌+◌, ◌<◌, Bool, true, false, List, [], ◌∷◌, ◌++◌, length, drop, get_or, sym, ap, ◌∙◌, append_assoc, nat_eq}
use Rattle.std.proofs.lemmas.List.{drop_more}
use Rattle.sql_grammar.specs.Reading.{unquoted}
use Rattle.expr_reader.proofs.values.unquoted.Goals as goal
use Rattle.expr_reader.proofs.values.unquoted.Goals.{then-second, else-second+in_ok-push}

-- the second quote of two
passed : (so xs all : List ℕ) (k : ℕ) (second : Bool) → k < length xs → second ≡ true → so ++ unquoted second (drop k xs) ≡ all → so ++ unquoted false (drop (k + 1) xs) ≡ all
passed so xs all k second lt is e =
    ap (λ l. so ++ unquoted true l) (sym (drop_more xs k 0 lt)) ∙ (ap (λ b. so ++ unquoted b (drop k xs)) (sym is) ∙ e)

-- a byte of the value
kept : (so now xs all : List ℕ) (k : ℕ) (second : Bool) → k < length xs → second ≡ false → now ≡ so ++ get_or xs k 0 ∷ [] → so ++ unquoted second (drop k xs) ≡ all →
    now ++ unquoted (nat_eq (get_or xs k 0) 39) (drop (k + 1) xs) ≡ all
kept so now xs all k second lt is grown e =
    let rest = unquoted (nat_eq (get_or xs k 0) 39) (drop (k + 1) xs) in
    ap (λ l. l ++ rest) grown ∙ (append_assoc so (get_or xs k 0 ∷ []) rest ∙
    (ap (λ l. so ++ unquoted false l) (sym (drop_more xs k 0 lt)) ∙ (ap (λ b. so ++ unquoted b (drop k xs)) (sym is) ∙ e)))

pub loop-byte-preserved : goal.loop-byte-preserved
loop-byte-preserved c = elim c.if-second.branch [
  | then-second w ↦ rw (w.value-is, w.second-is) (passed _ _ _ c.loop-byte.byte-index c.loop-byte.second c.loop-byte-test.true w.if-second.true c.loop-byte.invariant)
  | else-second+in_ok-push w ↦ rw (w.value-is, w.second-is) (kept _ _ _ _ c.loop-byte.byte-index c.loop-byte.second c.loop-byte-test.true w.if-second.false w.in_ok-push.ensures.items c.loop-byte.invariant)
]
