-- What is read of a block so far, and what its next line makes of it.
use Rattle.std.proofs.Common.{◌≡◌, ◌<◌, ◌≤◌, ◌+◌, ◌^◌, ℕ, suc, true, false, List, [], ◌∷◌, ◌++◌, codes, length, drop, take, refl, sym, ap, ap₂, subst, ◌∙◌, arith, ◌⊎◌, inl, inr}
use Rattle.std.specs.Prelude.{All, Option, None, Some}
use Rattle.std.proofs.lemmas.Bool.{cases_lt}
use Rattle.std.proofs.lemmas.List.Elements.{All-head, All-push, All-tail}
use Rattle.std.proofs.lemmas.List.{append_assoc, append_cancel_left, append-nil, length-append, nil_from_length}
use Rattle.catalog.specs.Contents.{Contents}
use Rattle.sql_query.specs.Queries.{Query}
use Rattle.sql_query.specs.declared.window.Window.{Window}
use Rattle.plan_check.specs.Certificates.{Entry, Side}
use Rattle.plan_check.specs.Limit.{MOST_ENTRIES}
use Rattle.certificate_reader.specs.Faults.{BeginsText, IsFaultLine, IsCertificateText, StopsBehind, at_line, at_end, lines_joined}
use Rattle.certificate_entries.specs.certificate_text_HasText.{HasEntryLine}
use Rattle.certificate_reader.specs.work.Passed.{Passed}
use Rattle.certificate_reader.specs.Reading.{IsBlockRead}
use Rattle.certificate_reader.specs.work.Reading.{AreOnly, IsAtBest, IsReadSoFar, head_lines, line_end}
use Rattle.certificate_entries.specs.certificate_text_Texts.{best_line, certificate_text, ended, entries_text, entry_line, head_text, is_line}
use Rattle.certificate_entries.specs.work.Reading.{IsBad, IsBestRead, IsEntryRead}
use Rattle.certificate_reader.proofs.EndLemmas.{cut, whole-line}
use Rattle.certificate_reader.proofs.LineLemmas.{after, best-line, best-stops, entry-passed, line-stops, other-line, part-begins, part-ends, parted, piece-stops}

pub few-lines : (ls : List (List ℕ)) → length ls ≤ length (lines_joined ls)
few-lines [] = omega arith
few-lines (l ∷ ls) =
    let more = few-lines ls in
    let whole : length (ended l ++ lines_joined ls) ≡ (length l + 1) + length (lines_joined ls) = length-append (ended l) (lines_joined ls) ∙ ap (λ n. n + length (lines_joined ls)) (length-append l (codes "\n")) in
    omega (arith, more, whole)

pub joined-more : (ls : List (List ℕ)) (l : List ℕ) → lines_joined (ls ++ l ∷ []) ≡ lines_joined ls ++ ended l
joined-more [] l = append-nil (ended l)
joined-more (x ∷ ls) l = ap (λ (t : List ℕ). ended x ++ t) (joined-more ls l) ∙ sym (append_assoc (ended x) (lines_joined ls) (ended l))

-- the first line that tells of a window
abbrev head-line : List ℕ
head-line = codes "certificate 2"

abbrev heads : Option Window → List (List ℕ)
heads None = []
heads (Some w) = head-line ∷ []

heads-are : (w : Option Window) → lines_joined (heads w) ≡ head_text w
heads-are None = refl
heads-are (Some w) = refl

heads-count : (w : Option Window) → length (heads w) ≡ head_lines w + 0
heads-count None = refl
heads-count (Some w) = refl

heads-lines : (w : Option Window) → All (λ l. is_line l ≡ true) (heads w)
heads-lines None = λ k d lt. absurd (omega (arith, lt))
heads-lines (Some w) = All-push (λ l. is_line l ≡ true) [] head-line (λ k d lt. absurd (omega (arith, lt))) refl

pub few-heads : (w : Option Window) → head_lines w ≤ 1
few-heads None = omega arith
few-heads (Some w) = omega arith

module _ (c : Contents) (q : Query) where
  pub nothing-read : (block start : List ℕ) → block ≡ head_text q.window ++ start → IsReadSoFar c q block [] start
  nothing-read block start e = record {
    before = heads q.window;
    lines = heads-lines q.window;
    split = e ∙ ap (λ (l : List ℕ). l ++ start) (sym (heads-are q.window));
    count = heads-count q.window;
    passed = record { lines = λ k d lt. absurd (omega (arith, lt)); few = omega arith; is = heads-are q.window ∙ sym (append-nil (head_text q.window)) };
    only = tt;
  }

  -- there are no more entries than bytes
  pub few-entries : (block : List ℕ) (es : List Entry) (left : List ℕ) → IsReadSoFar c q block es left → length es + length left ≤ length block
  few-entries block es left r =
      let whole : length block ≡ length (lines_joined r.before) + length left = ap length r.split ∙ length-append (lines_joined r.before) left in
      let few = few-lines r.before in
      let count = r.count in
      omega (arith, whole, few, count)

  cut-again : (block part line rest left : List ℕ) → block ≡ part ++ left → left ≡ ended line ++ rest → block ≡ (part ++ ended line) ++ rest
  cut-again block part line rest left e f = e ∙ (ap (λ (l : List ℕ). part ++ l) f ∙ sym (append_assoc part (ended line) rest))

  only-more : (n : ℕ) (es : List Entry) (e : Entry) → AreOnly c q n es → ((o : Entry) → HasEntryLine c q o → entry_line c q (n + length es) e ≡ entry_line c q (n + length es) o → o ≡ e) → AreOnly c q n (es ++ e ∷ [])
  only-more n [] e a h = let zero : n + 0 ≡ n = omega arith in (subst (λ m. (o : Entry) → HasEntryLine c q o → entry_line c q m e ≡ entry_line c q m o → o ≡ e) zero h, tt)
  only-more n (x ∷ es) e a h =
      let one : n + suc (length es) ≡ (n + 1) + length es = omega arith in
      (a.0, only-more (n + 1) es e a.1 (subst (λ m. (o : Entry) → HasEntryLine c q o → entry_line c q m e ≡ entry_line c q m o → o ≡ e) one h))

  module _ (plain : (n : ℕ) (e : Entry) → HasEntryLine c q e → is_line (entry_line c q n e) ≡ true) where
    pub entry-read : (block : List ℕ) (es : List Entry) (left line rest : List ℕ) (e : Entry) → IsReadSoFar c q block es left → left ≡ ended line ++ rest → is_line line ≡ true →
        IsEntryRead c q (length es + 1) line e → length es + 1 ≤ MOST_ENTRIES → IsReadSoFar c q block (es ++ e ∷ []) rest
    entry-read block es left line rest e r f h read few =
        let one : length es + 1 ≡ 1 + length es = omega arith in
        let same : line ≡ entry_line c q (1 + length es) e = read.is ∙ ap (λ n. entry_line c q n e) one in
        let next = entry-passed c q plain es (lines_joined r.before) e r.passed read.has few in
        record {
          before = r.before ++ line ∷ [];
          lines = All-push (λ l. is_line l ≡ true) r.before line r.lines h;
          split = cut-again block (lines_joined r.before) line rest left r.split f ∙ ap (λ (l : List ℕ). l ++ rest) (sym (joined-more r.before line));
          count = let a = length-append r.before (line ∷ []) in let b = length-append es (e ∷ []) in let count = r.count in omega (arith, a, b, count);
          passed = subst (Passed c q (es ++ e ∷ [])) (ap (λ (l : List ℕ). lines_joined r.before ++ ended l) (sym same) ∙ sym (joined-more r.before line)) next;
          only = only-more 1 es e r.only (λ o has is. read.only o has (same ∙ (is ∙ ap (λ n. entry_line c q n o) (sym one))));
        }

    pub bad-line : (block : List ℕ) (es : List Entry) (left line rest : List ℕ) → IsReadSoFar c q block es left → left ≡ ended line ++ rest → is_line line ≡ true →
        IsBad c q (length es + 1) line → IsFaultLine c q block ((head_lines q.window + length es) + 1)
    bad-line block es left line rest r f h bad =
        let one : 1 + length es ≡ length es + 1 = omega arith in
        record {
          before = r.before;
          lines = r.lines;
          rest = left;
          split = r.split;
          is = ap (λ n. n + 1) (sym r.count);
          begins = part-begins c q plain es (lines_joined r.before) r.passed;
          stops = at_line line rest h f (line-stops c q plain es (lines_joined r.before) line r.passed h (λ e has same. bad.entry e has (same ∙ ap (λ n. entry_line c q n e) one)) bad.best);
        }

    pub no-line : (block : List ℕ) (es : List Entry) (left : List ℕ) → IsReadSoFar c q block es left → is_line left ≡ true → IsFaultLine c q block ((head_lines q.window + length es) + 1)
    no-line block es left r h = record {
      before = r.before;
      lines = r.lines;
      rest = left;
      split = r.split;
      is = ap (λ n. n + 1) (sym r.count);
      begins = part-begins c q plain es (lines_joined r.before) r.passed;
      stops = at_end h (piece-stops c q plain es (lines_joined r.before) left r.passed h);
    }

    behind : (es : List Entry) (part : List ℕ) (s : Side) (rest : List ℕ) → Passed c q es part → (0 < length rest) → (line_end rest < length rest) ⊎ (length rest ≤ line_end rest) → StopsBehind c q (part ++ ended (best_line s)) rest
    behind es part s [] p some h = absurd (omega (arith, some))
    behind es part s (b ∷ bs) p some (inl lt) =
        let x = cut (b ∷ bs) lt in
        at_line (take (line_end (b ∷ bs)) (b ∷ bs)) (drop (suc (line_end (b ∷ bs))) (b ∷ bs)) x.line x.is (no-more es part s (take (line_end (b ∷ bs)) (b ∷ bs)) p)
      where
        no-more : (es : List Entry) (part : List ℕ) (s : Side) (line : List ℕ) → Passed c q es part → ¬ BeginsText c q ((part ++ ended (best_line s)) ++ ended line)
        no-more es part s [] p t = best-stops c q plain es part s 10 [] p t
        no-more es part s (y ∷ ys) p t = best-stops c q plain es part s y (ys ++ codes "\n") p t
    behind es part s (b ∷ bs) p some (inr le) =
        at_end (whole-line (b ∷ bs) le) (λ t. best-stops c q plain es part s b bs p (record { rest = []; text = subst (IsCertificateText c q) (sym (append-nil ((part ++ ended (best_line s)) ++ b ∷ bs))) t }))

    pub best-behind : (block : List ℕ) (es : List Entry) (s : Side) (rest : List ℕ) → IsAtBest c q block es s rest → 0 < length rest → IsFaultLine c q block ((head_lines q.window + length es) + 2)
    best-behind block es s rest at some =
        let r = at.so_far in
        let line = at.line in
        let part : lines_joined (r.before ++ line ∷ []) ≡ lines_joined r.before ++ ended (best_line s) = joined-more r.before line ∙ ap (λ (l : List ℕ). lines_joined r.before ++ ended l) at.read.is in
        let count = r.count in
        let long = length-append r.before (line ∷ []) in
        record {
          before = r.before ++ line ∷ [];
          lines = All-push (λ l. is_line l ≡ true) r.before line r.lines at.whole;
          rest = rest;
          split = cut-again block (lines_joined r.before) line rest at.left r.split at.split ∙ ap (λ (l : List ℕ). l ++ rest) (sym (joined-more r.before line));
          is = omega (arith, count, long);
          begins = subst (BeginsText c q) (sym part) (record { rest = []; text = subst (IsCertificateText c q) (sym (append-nil (lines_joined r.before ++ ended (best_line s)))) (part-ends c q plain es (lines_joined r.before) s r.passed at.read.has) });
          stops = subst (λ (l : List ℕ). StopsBehind c q l rest) (sym part) (behind es (lines_joined r.before) s rest r.passed some (cases_lt (line_end rest) (length rest)));
        }

    -- lines that spell the same are of the same entries, where each is the only one with its line
    pub same-entries : (n : ℕ) (es fs : List Entry) (s o : Side) → n + length es < 2 ^ 64 → AreOnly c q n es → All (HasEntryLine c q) es → All (HasEntryLine c q) fs →
        entries_text c q n fs ++ ended (best_line o) ≡ entries_text c q n es ++ ended (best_line s) → (fs ≡ es) × (best_line s ≡ best_line o)
    same-entries n [] [] s o lt only he hf e = (refl, (parted (best_line s) (best_line o) [] [] (best-line s) (best-line o) (sym e)).0)
    same-entries n [] (f ∷ fs) s o lt only he hf e =
        absurd (other-line c q n f s (omega (arith, lt)) (parted (entry_line c q n f) (best_line s) (entries_text c q (n + 1) fs ++ ended (best_line o)) [] (plain n f (All-head (HasEntryLine c q) f fs hf)) (best-line s) (sym (after c q plain n f fs (ended (best_line o))) ∙ e)).0)
    same-entries n (x ∷ es) [] s o lt only he hf e =
        absurd (other-line c q n x o (omega (arith, lt)) (parted (entry_line c q n x) (best_line o) (entries_text c q (n + 1) es ++ ended (best_line s)) [] (plain n x (All-head (HasEntryLine c q) x es he)) (best-line o) (sym (after c q plain n x es (ended (best_line s))) ∙ sym e)).0)
    same-entries n (x ∷ es) (f ∷ fs) s o lt only he hf e =
        let hx = All-head (HasEntryLine c q) x es he in
        let hy = All-head (HasEntryLine c q) f fs hf in
        let same = parted (entry_line c q n x) (entry_line c q n f) (entries_text c q (n + 1) es ++ ended (best_line s)) (entries_text c q (n + 1) fs ++ ended (best_line o)) (plain n x hx) (plain n f hy)
        (sym (after c q plain n x es (ended (best_line s))) ∙ (sym e ∙ after c q plain n f fs (ended (best_line o)))) in
        let more = same-entries (n + 1) es fs s o (omega (arith, lt)) only.1 (All-tail (HasEntryLine c q) x es he) (All-tail (HasEntryLine c q) f fs hf) (sym same.1) in
        (ap₂ (λ (a : Entry) (l : List Entry). a ∷ l) (only.0 f hy same.0) more.0, more.1)

    -- the certificate, where nothing is left
    pub best-read : (block : List ℕ) (es : List Entry) (s : Side) (rest : List ℕ) → IsAtBest c q block es s rest → length rest ≡ 0 → IsBlockRead c q block (record { entries = es; best = s })
    best-read block es s rest at none =
        let r = at.so_far in
        let line = at.line in
        let empty : rest ≡ [] = nil_from_length rest none in
        let whole : block ≡ (lines_joined r.before ++ ended line) ++ rest = cut-again block (lines_joined r.before) line rest at.left r.split at.split in
        let all : block ≡ lines_joined r.before ++ ended (best_line s) = whole ∙ (ap (λ (l : List ℕ). (lines_joined r.before ++ ended line) ++ l) empty ∙ (append-nil (lines_joined r.before ++ ended line) ∙ ap (λ (l : List ℕ). lines_joined r.before ++ ended l) at.read.is)) in
        let is : certificate_text c q (record { entries = es; best = s }) ≡ block = sym (all ∙ (ap (λ (l : List ℕ). l ++ ended (best_line s)) r.passed.is ∙ append_assoc (head_text q.window) (entries_text c q 1 es) (ended (best_line s)))) in
        record {
          has = record { few = r.passed.few; lines = r.passed.lines; best = at.read.has };
          is = is;
          only = λ o has same.
              let few = r.passed.few in
              let cut = append_cancel_left (head_text q.window) (entries_text c q 1 o.entries ++ ended (best_line o.best)) (entries_text c q 1 es ++ ended (best_line s)) (same ∙ sym is) in
              let parts = same-entries 1 es o.entries s o.best (omega (arith, few)) r.only r.passed.lines has.lines cut in
              ap₂ (λ (l : List Entry) (b : Side). record { entries = l; best = b }) parts.0 (at.read.only o.best has.best (at.read.is ∙ parts.1));
        }

    -- a block that does not begin as every text does is wrong at its first line
    pub no-head : (block : List ℕ) → ((rest : List ℕ) → ¬ (block ≡ head_text q.window ++ rest)) → IsFaultLine c q block 1
    no-head block none = record {
      before = [];
      lines = λ k d lt. absurd (omega (arith, lt));
      rest = block;
      split = refl;
      is = refl;
      begins = record { rest = head_text q.window ++ ended (best_line first); text = part-ends c q plain [] (head_text q.window) first (record { lines = λ k d lt. absurd (omega (arith, lt)); few = omega arith; is = sym (append-nil (head_text q.window)) }) (omega arith) };
      stops = by-end (cases_lt (line_end block) (length block));
    }
      where
        first : Side
        first = record { sorted = false; entry = 1 }

        text-begins : (line more : List ℕ) (w : Option Window) (rest : List ℕ) → is_line line ≡ true → block ≡ ended line ++ more → ((rest : List ℕ) → ¬ (block ≡ head_text w ++ rest)) →
            (tail : List ℕ) → head_text w ++ tail ≡ ended line ++ rest → ⊥
        text-begins line more None rest h is other tail e = other block refl
        text-begins line more (Some w) rest h is other tail e =
            let same = parted head-line line tail rest refl h (e ∙ append_assoc line (codes "\n") rest) in
            other more (is ∙ ap (λ (l : List ℕ). ended l ++ more) (sym same.0))

        by-end : (line_end block < length block) ⊎ (length block ≤ line_end block) → StopsBehind c q [] block
        by-end (inl lt) =
            let x = cut block lt in
            at_line (take (line_end block) block) (drop (suc (line_end block)) block) x.line x.is
            (λ b. text-begins (take (line_end block) block) (drop (suc (line_end block)) block) q.window b.rest x.line x.is none (entries_text c q 1 b.text.certificate.entries ++ ended (best_line b.text.certificate.best)) b.text.is)
        by-end (inr le) = at_end (whole-line block le) (λ t. none (entries_text c q 1 t.certificate.entries ++ ended (best_line t.certificate.best)) (sym t.is))

  -- a block with a wrong line is no text
  pub fault-is-none : (block : List ℕ) (number : ℕ) → IsFaultLine c q block number → ¬ IsCertificateText c q block
  fault-is-none block number f t = by (lines_joined f.before) f.rest f.split f.stops where
    by : (part rest : List ℕ) → block ≡ part ++ rest → StopsBehind c q part rest → ⊥
    by part rest is (at_line line more h split none) = none (record { rest = more; text = subst (IsCertificateText c q) (is ∙ (ap (λ (l : List ℕ). part ++ l) split ∙ sym (append_assoc part (ended line) more))) t })
    by part rest is (at_end h none) = none (subst (IsCertificateText c q) is t)
