-- A list of words is spelled by one LIMIT and OFFSET.
use Rattle.std.proofs.Common.{◌≡◌, Bool, true, false, List, ◌∷◌, ◌++◌, drop, refl, sym, ap, ◌∙◌}
use Rattle.std.proofs.lemmas.List.{append_assoc}
use Rattle.sql_grammar.specs.declared.class.Word.TheVariants.{Limit as LimitKey, Offset as OffsetKey}
use Rattle.sql_grammar.specs.declared.offered.TheConstants.{READS_WINDOW}
use Rattle.sql_grammar.specs.Terminals.{Terminal, t_key}
use Rattle.sql_grammar.specs.Syntax.{LimitTree, no_limit, most_rows, Offset, no_offset, skipped_rows, WindowTree, window}
use Rattle.sql_grammar.specs.Words.{words_of_limit, words_of_offset, words_of_window}
use Rattle.sql_grammar.specs.work.Unique.{ends_windowed}
use Rattle.sql_grammar.proofs.ExprTrees.{one_offered, tested}

-- a production is in the grammar in one way
-- no LIMIT is next, and no OFFSET
abbrev limitless : List Terminal → Bool
limitless (t_key LimitKey _ ∷ _) = false
limitless _ = true

abbrev offsetless : List Terminal → Bool
offsetless (t_key OffsetKey _ ∷ _) = false
offsetless _ = true

one_limit : (a b : LimitTree) (x y : List Terminal) → limitless x ≡ true → limitless y ≡ true → words_of_limit a ++ x ≡ words_of_limit b ++ y → (a ≡ b) × (x ≡ y)
one_limit no_limit no_limit x y h k e = (refl, e)
one_limit no_limit (most_rows q j m) x y h k e = absurd (tested limitless x (words_of_limit (most_rows q j m) ++ y) h refl e)
one_limit (most_rows p i n) no_limit x y h k e = absurd (tested limitless y (words_of_limit (most_rows p i n) ++ x) k refl (sym e))
one_limit (most_rows p i n) (most_rows q j m) x y h k e =
    let offered = one_offered READS_WINDOW p q in
    let word : i ≡ j = cc (e) in
    let number : n ≡ m = cc (e) in
    (cc (offered, word, number), ap (drop 2) e)

one_offset : (a b : Offset) (x y : List Terminal) → offsetless x ≡ true → offsetless y ≡ true → words_of_offset a ++ x ≡ words_of_offset b ++ y → (a ≡ b) × (x ≡ y)
one_offset no_offset no_offset x y h k e = (refl, e)
one_offset no_offset (skipped_rows q j m) x y h k e = absurd (tested offsetless x (words_of_offset (skipped_rows q j m) ++ y) h refl e)
one_offset (skipped_rows p i n) no_offset x y h k e = absurd (tested offsetless y (words_of_offset (skipped_rows p i n) ++ x) k refl (sym e))
one_offset (skipped_rows p i n) (skipped_rows q j m) x y h k e =
    let offered = one_offered READS_WINDOW p q in
    let word : i ≡ j = cc (e) in
    let number : n ≡ m = cc (e) in
    (cc (offered, word, number), ap (drop 2) e)

windowed-offset : (x : List Terminal) → ends_windowed x ≡ true → offsetless x ≡ true
windowed-offset (t_key OffsetKey _ ∷ _) h = absurd (cc)
windowed-offset _ h = refl

windowed-limit : (o : Offset) (x : List Terminal) → ends_windowed x ≡ true → limitless (words_of_offset o ++ x) ≡ true
windowed-limit no_offset (t_key LimitKey _ ∷ _) h = absurd (cc)
windowed-limit no_offset _ h = refl
windowed-limit (skipped_rows p k n) x h = refl

pub one_window : (v w : WindowTree) (x y : List Terminal) → ends_windowed x ≡ true → ends_windowed y ≡ true → words_of_window v ++ x ≡ words_of_window w ++ y → (v ≡ w) × (x ≡ y)
one_window (window l o) (window m u) x y h k e =
    let (most, more) = one_limit l m (words_of_offset o ++ x) (words_of_offset u ++ y) (windowed-limit o x h) (windowed-limit u y k)
    (sym (append_assoc (words_of_limit l) (words_of_offset o) x) ∙ (e ∙ append_assoc (words_of_limit m) (words_of_offset u) y)) in
    let (skipped, rest) = one_offset o u x y (windowed-offset x h) (windowed-offset y k) more in
    (cc (most, skipped), rest)
