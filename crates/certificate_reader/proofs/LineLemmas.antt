-- Which lines a certificate text goes on with.
use Rattle.std.proofs.Common.{◌≡◌, ◌<◌, ◌≤◌, ◌+◌, ◌^◌, ◌==◌, ℕ, suc, Bool, true, false, not, List, [], ◌∷◌, ◌++◌, codes, length, get_or, drop, refl, sym, ap, ap₂, subst, ◌∙◌, arith, true≢false}
use Rattle.std.specs.Prelude.{All, cond}
use Rattle.std.specs.Char.{is_ascii_digit}
use Rattle.std.specs.Fmt.{decimal}
use Rattle.std.specs.List.{list_all}
use Rattle.std.proofs.lemmas.Bool.{and_from, and_parts}
use Rattle.std.proofs.lemmas.Bool.Decides.{nat_tests}
use Rattle.std.proofs.lemmas.Fmt.{decimal_is_IsNumeral}
use Rattle.std.proofs.lemmas.List.Elements.{All-head, All-tail, All-push}
use Rattle.std.proofs.lemmas.List.{append_assoc, append-nil, append_cancel_left, length-append}
use Rattle.catalog.specs.Contents.{Contents}
use Rattle.pg_base.proofs.NameLemmas.{decimal-digits}
use Rattle.sql_query.specs.Queries.{Query}
use Rattle.plan_check.specs.Certificates.{Entry, Side}
use Rattle.plan_check.specs.Limit.{MOST_ENTRIES}
use Rattle.certificate_reader.specs.Faults.{BeginsText, IsCertificateText}
use Rattle.certificate_entries.specs.certificate_text_HasText.{HasEntryLine, IsEntryNumber}
use Rattle.certificate_reader.specs.work.Passed.{Passed}
use Rattle.certificate_entries.specs.certificate_text_Texts.{best_line, ended, entries_text, entry_line, entry_text, head_text, is_line}
use Rattle.pg_base.proofs.ListLemmas.{digit-first}

not-lf : (b : ℕ) → not (b == 10) ≡ true → b ≡ 10 → ⊥
not-lf b h e = true≢false (sym (subst (λ (n : ℕ). not (n == 10) ≡ true) e h))

-- two lines that are ended and go on alike are the same, and so is what follows
pub parted : (v w x y : List ℕ) → is_line v ≡ true → is_line w ≡ true → v ++ 10 ∷ x ≡ w ++ 10 ∷ y → (v ≡ w) × (x ≡ y)
parted [] [] x y hv hw e = (refl, ap (λ (l : List ℕ). drop 1 l) e)
parted [] (b ∷ bs) x y hv hw e = absurd (not-lf b (and_parts (not (b == 10)) (is_line bs) hw).0 (sym (ap (λ (l : List ℕ). get_or l 0 0) e)))
parted (a ∷ us) [] x y hv hw e = absurd (not-lf a (and_parts (not (a == 10)) (is_line us) hv).0 (ap (λ (l : List ℕ). get_or l 0 0) e))
parted (a ∷ us) (b ∷ bs) x y hv hw e =
    let more = parted us bs x y (and_parts (not (a == 10)) (is_line us) hv).1 (and_parts (not (b == 10)) (is_line bs) hw).1 (ap (λ (l : List ℕ). drop 1 l) e) in
    (ap₂ (λ (c : ℕ) (l : List ℕ). c ∷ l) (ap (λ (l : List ℕ). get_or l 0 0) e) more.0, more.1)

abbrev has_some : List ℕ → Bool
has_some [] = false
has_some (b ∷ bs) = true

-- a line has no LF
pub no-end : (v w x : List ℕ) → is_line v ≡ true → v ≡ w ++ 10 ∷ x → ⊥
no-end [] [] x h e = true≢false (sym (ap has_some e))
no-end [] (b ∷ bs) x h e = true≢false (sym (ap has_some e))
no-end (a ∷ us) [] x h e = not-lf a (and_parts (not (a == 10)) (is_line us) h).0 (ap (λ (l : List ℕ). get_or l 0 0) e)
no-end (a ∷ us) (b ∷ bs) x h e = no-end us bs x (and_parts (not (a == 10)) (is_line us) h).1 (ap (λ (l : List ℕ). drop 1 l) e)

digit-line : (d : ℕ) → is_ascii_digit d ≡ true → not (d == 10) ≡ true
digit-line d h = grind (arith, nat_tests, h)

digits-line : (ds : List ℕ) → list_all is_ascii_digit ds ≡ true → is_line ds ≡ true
digits-line [] h = refl
digits-line (d ∷ ds) h =
    let p = and_parts (is_ascii_digit d) (list_all is_ascii_digit ds) h in
    and_from (not (d == 10)) (is_line ds) (digit-line d p.0) (digits-line ds p.1)

side-line : (b : Bool) (n : ℕ) → is_line (codes "best " ++ (cond b (codes "sort ") [] ++ decimal n)) ≡ true
side-line true n = digits-line (decimal n) (decimal-digits n)
side-line false n = digits-line (decimal n) (decimal-digits n)

pub best-line : (s : Side) → is_line (best_line s) ≡ true
best-line s = side-line s.sorted s.entry

-- the line of an entry is no line of a best plan: it begins with a digit
pub other-line : (c : Contents) (q : Query) (n : ℕ) (e : Entry) (s : Side) → n < 2 ^ 64 → entry_line c q n e ≡ best_line s → ⊥
other-line c q n e s lt same =
    let is = decimal_is_IsNumeral n lt in
    let first = digit-first (decimal n) (codes " " ++ entry_text c q e) is.0.0 (decimal-digits n) in
    true≢false (sym first ∙ ap (λ (l : List ℕ). is_ascii_digit (get_or l 0 0)) same)

module _ (c : Contents) (q : Query) (plain : (n : ℕ) (e : Entry) → HasEntryLine c q e → is_line (entry_line c q n e) ≡ true) where
  -- a text that begins with the lines of some entries goes on with lines of further entries and with a best plan
  pub record GoesOn (n : ℕ) (s : Side) (tail : List ℕ) : Type 0 where
    pub more : List Entry
    pub lines : All (HasEntryLine c q) more
    pub is : tail ≡ entries_text c q n more ++ ended (best_line s)

  front : (line rest : List ℕ) → ended line ++ rest ≡ line ++ 10 ∷ rest
  front line rest = append_assoc line (codes "\n") rest

  pub after : (n : ℕ) (e : Entry) (es : List Entry) (tail : List ℕ) → entries_text c q n (e ∷ es) ++ tail ≡ entry_line c q n e ++ 10 ∷ (entries_text c q (n + 1) es ++ tail)
  after n e es tail = append_assoc (ended (entry_line c q n e)) (entries_text c q (n + 1) es) tail ∙ front (entry_line c q n e) (entries_text c q (n + 1) es ++ tail)

  pub goes-on : (n : ℕ) (es fs : List Entry) (s : Side) (tail : List ℕ) → n + length es < 2 ^ 64 → All (HasEntryLine c q) es → All (HasEntryLine c q) fs →
      entries_text c q n es ++ tail ≡ entries_text c q n fs ++ ended (best_line s) → GoesOn (n + length es) s tail
  goes-on n [] fs s tail lt he hf e = record { more = fs; lines = hf; is = subst (λ m. tail ≡ entries_text c q m fs ++ ended (best_line s)) (omega arith) e }
  goes-on n (x ∷ es) [] s tail lt he hf e =
      let same = parted (entry_line c q n x) (best_line s) (entries_text c q (n + 1) es ++ tail) [] (plain n x (All-head (HasEntryLine c q) x es he)) (best-line s) (sym (after n x es tail) ∙ e) in
      absurd (other-line c q n x s (omega (arith, lt)) same.0)
  goes-on n (x ∷ es) (y ∷ fs) s tail lt he hf e =
      let same = parted (entry_line c q n x) (entry_line c q n y) (entries_text c q (n + 1) es ++ tail) (entries_text c q (n + 1) fs ++ ended (best_line s)) (plain n x (All-head (HasEntryLine c q) x es he)) (plain n y (All-head (HasEntryLine c q) y fs hf))
      (sym (after n x es tail) ∙ (e ∙ after n y fs (ended (best_line s)))) in
      let one : (n + 1) + length es ≡ n + suc (length es) = omega arith in
      subst (λ m. GoesOn m s tail) one (goes-on (n + 1) es fs s tail (omega (arith, lt)) (All-tail (HasEntryLine c q) x es he) (All-tail (HasEntryLine c q) y fs hf) same.1)

  -- the text of a certificate that begins with a part goes on so
  pub from-part : (es : List Entry) (part tail : List ℕ) → Passed c q es part → IsCertificateText c q (part ++ tail) → (s : Side) × IsEntryNumber s.entry × GoesOn (1 + length es) s tail
  from-part es part tail p t =
      let x = t.certificate in
      let whole : head_text q.window ++ (entries_text c q 1 x.entries ++ ended (best_line x.best)) ≡ head_text q.window ++ (entries_text c q 1 es ++ tail) =
      t.is ∙ (ap (λ (l : List ℕ). l ++ tail) p.is ∙ append_assoc (head_text q.window) (entries_text c q 1 es) tail) in
      let same = append_cancel_left (head_text q.window) _ _ whole in
      (x.best, t.has.best, goes-on 1 es x.entries x.best tail (omega (arith, p.few)) p.lines t.has.lines (sym same))

  -- each part that was passed begins a text: one more line ends it
  pub part-begins : (es : List Entry) (part : List ℕ) → Passed c q es part → BeginsText c q part
  part-begins es part p =
      let s : Side = record { sorted = false; entry = 1 } in
      record {
        rest = ended (best_line s);
        text = record {
          certificate = record { entries = es; best = s };
          has = record { few = p.few; lines = p.lines; best = omega arith };
          is = sym (ap (λ (l : List ℕ). l ++ ended (best_line s)) p.is ∙ append_assoc (head_text q.window) (entries_text c q 1 es) (ended (best_line s)));
        };
      }

  -- with a best plan it is one
  pub part-ends : (es : List Entry) (part : List ℕ) (s : Side) → Passed c q es part → IsEntryNumber s.entry → IsCertificateText c q (part ++ ended (best_line s))
  part-ends es part s p n = record {
    certificate = record { entries = es; best = s };
    has = record { few = p.few; lines = p.lines; best = n };
    is = sym (ap (λ (l : List ℕ). l ++ ended (best_line s)) p.is ∙ append_assoc (head_text q.window) (entries_text c q 1 es) (ended (best_line s)));
  }

  -- what a text goes on with begins with a line of a next entry or of a best plan
  line-is : (m : ℕ) (s : Side) (line rest : List ℕ) → is_line line ≡ true → ((e : Entry) → HasEntryLine c q e → ¬ (line ≡ entry_line c q m e)) → ¬ (line ≡ best_line s) →
      (more : List Entry) → All (HasEntryLine c q) more → line ++ 10 ∷ rest ≡ entries_text c q m more ++ ended (best_line s) → ⊥
  line-is m s line rest h no-entry no-best [] hs e = no-best (parted line (best_line s) rest [] h (best-line s) e).0
  line-is m s line rest h no-entry no-best (x ∷ xs) hs e =
      let first = All-head (HasEntryLine c q) x xs hs in
      no-entry x first (parted line (entry_line c q m x) rest (entries_text c q (m + 1) xs ++ ended (best_line s)) h (plain m x first) (e ∙ after m x xs (ended (best_line s)))).0

  -- a line that is neither that of a next entry nor that of a best plan is in no text behind the part
  pub line-stops : (es : List Entry) (part line : List ℕ) → Passed c q es part → is_line line ≡ true →
      ((e : Entry) → HasEntryLine c q e → ¬ (line ≡ entry_line c q (1 + length es) e)) → ((s : Side) → IsEntryNumber s.entry → ¬ (line ≡ best_line s)) → ¬ BeginsText c q (part ++ ended line)
  line-stops es part line p h no-entry no-best b =
      let t = subst (IsCertificateText c q) (append_assoc part (ended line) b.rest) b.text in
      let g = from-part es part (ended line ++ b.rest) p t in
      line-is (1 + length es) (g.0) line b.rest h no-entry (no-best (g.0) g.1) (g.2).more (g.2).lines (sym (front line b.rest) ∙ (g.2).is)

  best-alone : (m : ℕ) (s o : Side) (b : ℕ) (rest : List ℕ) → m < 2 ^ 64 → (more : List Entry) → All (HasEntryLine c q) more → best_line s ++ 10 ∷ (b ∷ rest) ≡ entries_text c q m more ++ ended (best_line o) → ⊥
  best-alone m s o b rest lt [] hs e = true≢false (ap has_some (parted (best_line s) (best_line o) (b ∷ rest) [] (best-line s) (best-line o) e).1)
  best-alone m s o b rest lt (x ∷ xs) hs e =
      let first = All-head (HasEntryLine c q) x xs hs in
      other-line c q m x s lt (sym (parted (best_line s) (entry_line c q m x) (b ∷ rest) (entries_text c q (m + 1) xs ++ ended (best_line o)) (best-line s) (plain m x first) (e ∙ after m x xs (ended (best_line o)))).0)

  -- behind a best plan a text has nothing
  pub best-stops : (es : List Entry) (part : List ℕ) (s : Side) (b : ℕ) (bs : List ℕ) → Passed c q es part → ¬ BeginsText c q ((part ++ ended (best_line s)) ++ b ∷ bs)
  best-stops es part s b bs p t =
      let whole = subst (IsCertificateText c q) (append_assoc (part ++ ended (best_line s)) (b ∷ bs) t.rest ∙ append_assoc part (ended (best_line s)) (b ∷ (bs ++ t.rest))) t.text in
      let g = from-part es part (ended (best_line s) ++ b ∷ (bs ++ t.rest)) p whole in
      best-alone (1 + length es) s (g.0) b (bs ++ t.rest) (omega (arith, p.few)) (g.2).more (g.2).lines (sym (front (best_line s) (b ∷ (bs ++ t.rest))) ∙ (g.2).is)

  piece-alone : (m : ℕ) (s : Side) (piece : List ℕ) → is_line piece ≡ true → (more : List Entry) → piece ≡ entries_text c q m more ++ ended (best_line s) → ⊥
  piece-alone m s piece h [] e = no-end piece (best_line s) [] h e
  piece-alone m s piece h (x ∷ xs) e = no-end piece (entry_line c q m x) (entries_text c q (m + 1) xs ++ ended (best_line s)) h (e ∙ after m x xs (ended (best_line s)))

  -- a piece without LF behind the part is no end of a text, nor is no piece
  pub piece-stops : (es : List Entry) (part piece : List ℕ) → Passed c q es part → is_line piece ≡ true → ¬ IsCertificateText c q (part ++ piece)
  piece-stops es part piece p h t =
      let g = from-part es part piece p t in
      piece-alone (1 + length es) (g.0) piece h (g.2).more (g.2).is

  more-text : (n : ℕ) (es : List Entry) (e : Entry) → entries_text c q n (es ++ e ∷ []) ≡ entries_text c q n es ++ ended (entry_line c q (n + length es) e)
  more-text n [] e = append-nil (ended (entry_line c q n e)) ∙ (let same : n ≡ n + 0 = omega arith in ap (λ (m : ℕ). ended (entry_line c q m e)) same)
  more-text n (x ∷ es) e =
      let same : (n + 1) + length es ≡ n + suc (length es) = omega arith in
      ap (λ (l : List ℕ). ended (entry_line c q n x) ++ l) (more-text (n + 1) es e) ∙
      (sym (append_assoc (ended (entry_line c q n x)) (entries_text c q (n + 1) es) (ended (entry_line c q ((n + 1) + length es) e))) ∙
      ap (λ (m : ℕ). (ended (entry_line c q n x) ++ entries_text c q (n + 1) es) ++ ended (entry_line c q m e)) same)

  -- one more entry
  pub entry-passed : (es : List Entry) (part : List ℕ) (e : Entry) → Passed c q es part → HasEntryLine c q e → length es + 1 ≤ MOST_ENTRIES → Passed c q (es ++ e ∷ []) (part ++ ended (entry_line c q (1 + length es) e))
  entry-passed es part e p h few = record {
    lines = All-push (HasEntryLine c q) es e p.lines h;
    few = subst (λ n. n ≤ MOST_ENTRIES) (sym (length-append es (e ∷ []))) few;
    is = ap (λ (l : List ℕ). l ++ ended (entry_line c q (1 + length es) e)) p.is ∙ (append_assoc (head_text q.window) (entries_text c q 1 es) (ended (entry_line c q (1 + length es) e)) ∙ ap (λ (l : List ℕ). head_text q.window ++ l) (sym (more-text 1 es e)));
  }
