-- White space and comments at the front of a text.
use Rattle.std.proofs.Common.{◌≡◌, ◌<◌, ℕ, suc, ◌+◌, ◌&&◌, Bool, true, false, nat_eq, List, [], ◌∷◌, length, get_or, take, drop, refl, ap, sym, arith}
use Rattle.std.specs.List.{starts_with, prefix_len}
use Rattle.std.proofs.lemmas.Bool.{and_parts, eqb-true}
use Rattle.std.proofs.lemmas.List.Sums.{prefix_len-le-length}
use Rattle.sql_lex.specs.Letters.{is_space, is_in_line}
use Rattle.sql_lex.specs.Blanks.{space, line, comment, HasNoBlank}
use Rattle.sql_lex.specs.work.Cuts.{CutsBlank, CutsComment, IsNotClosed}
use Rattle.sql_lex.proofs.RunLaws.{run_passes, run_stops}
use Rattle.sql_lex.proofs.CommentLaws.{opens, opens_is}

-- two dashes stand at the front
abbrev pub dashes : List ℕ → Bool
dashes text = starts_with nat_eq text (45 ∷ 45 ∷ [])

dashes_is : (b c : ℕ) (bs : List ℕ) → dashes (b ∷ c ∷ bs) ≡ true → (b ≡ 45) × (c ≡ 45)
dashes_is b c bs h =
    let first = and_parts (nat_eq 45 b) (nat_eq 45 c && true) h in
    let second = and_parts (nat_eq 45 c) true first.1 in
    (sym (eqb-true 45 b first.0), sym (eqb-true 45 c second.0))

two_more : (n : ℕ) → 2 + n ≡ suc (suc n)
two_more n = omega arith

pub space_cut : (text : List ℕ) → 0 < length text → is_space (get_or text 0 0) ≡ true → CutsBlank text 1
space_cut [] some h = absurd (omega arith)
space_cut (b ∷ bs) some h = record { some = omega arith; within = omega arith; blank = space b bs h }

pub line_cut : (text : List ℕ) → dashes text ≡ true → CutsBlank text (2 + prefix_len is_in_line (drop 2 text))
line_cut [] h = cc
line_cut (b ∷ []) h = let second = (and_parts (nat_eq 45 b) false h).1 in cc
line_cut (b ∷ c ∷ bs) h =
    let marks = dashes_is b c bs h in
    record {
      some = omega arith;
      within = omega (arith, prefix_len-le-length is_in_line bs);
      blank = rw (marks.0, marks.1, two_more (prefix_len is_in_line bs)) (line (take (prefix_len is_in_line bs) bs) (drop (prefix_len is_in_line bs) bs) (run_passes is_in_line bs) (run_stops is_in_line bs));
    }

pub comment_cut : (text : List ℕ) (n : ℕ) → opens text ≡ true → CutsComment (drop 2 text) n → CutsBlank text (2 + n)
comment_cut [] n h r = cc
comment_cut (b ∷ []) n h r = let second = (and_parts (nat_eq 47 b) false h).1 in cc
comment_cut (b ∷ c ∷ bs) n h r =
    let marks = opens_is b c bs h in
    record {
      some = omega arith;
      within = omega (arith, r.within);
      blank = rw (marks.0, marks.1, two_more n) (comment (take n bs) (drop n bs) r.closes);
    }

pub nothing_blank : (text : List ℕ) → length text ≡ 0 → HasNoBlank text
nothing_blank text none _ rest e (space b _ h) = omega (arith, ap length e)
nothing_blank text none _ rest e (line bs _ all next) = omega (arith, ap length e)
nothing_blank text none _ rest e (comment bs _ inside) = omega (arith, ap length e)

pub not_blank : (text : List ℕ) → is_space (get_or text 0 0) ≡ false → dashes text ≡ false → (opens text ≡ true → IsNotClosed (drop 2 text)) → HasNoBlank text
not_blank text solid no_line no_comment _ rest e (space b _ h) = let same = rw e at solid in cc
not_blank text solid no_line no_comment _ rest e (line bs _ all next) = let same = rw e at no_line in cc
not_blank text solid no_line no_comment _ rest e (comment bs _ inside) =
    let starts : opens text ≡ true = rw e refl in
    no_comment starts bs rest (ap (drop 2) e) inside
