-- A certificate has one verdict, but for which plan is named where one is uncovered; and a block one wrong line.
use Rattle.std.proofs.Common.{◌≡◌, ◌+◌, ◌⊎◌, inl, inr, ℕ, zero, suc, true, List, [], ◌∷◌, ◌++◌, length, append_assoc, All, Option, Some, slice_get, refl, sym, ap, subst, ◌∙◌, arith}
use Rattle.std.proofs.lemmas.Bool.{cases_lt}
use Rattle.std.proofs.lemmas.List.Elements.{All-head, All-tail}
use Rattle.catalog.specs.Contents.{Contents}
use Rattle.cost_rules.specs.declared.pair.Pair.{Pair}
use Rattle.cost_rules.specs.declared.parameters.TheConstants.{MOST_COST}
use Rattle.sql_query.specs.Queries.{Query}
use Rattle.sql_query.specs.declared.window.Window.{Window}
use Rattle.plan_tree.specs.Costs.{cost, estimate, price}
use Rattle.plan_tree.specs.Least.{IsAdmissible}
use Rattle.plan_tree.specs.Plans.{Plan}
use Rattle.plan_check.specs.Certificates.{Certificate, Entry, finish_at, unfold_at}
use Rattle.plan_check.specs.Reasons.{AllRight, AreCovered, AreRight, AreUndominated, HasBest, IsBadNode, IsBadNumber, IsDifference, IsDominatedBy, IsFirstDominated, IsNotBest, in_rows, in_startup, in_total}
use Rattle.plan_check.specs.Tables.{HasItsPlan, IsEntryAt, IsLeastAmong, IsOver, IsPlanTable, IsStartup}
use Rattle.plan_check.specs.Verdicts.{IsVerdict}
use Rattle.plan_check.specs.declared.verdict.Number.{Number}
use Rattle.plan_check.specs.declared.verdict.Verdict.{Verdict}
use Rattle.plan_check.specs.declared.verdict.Reason.TheVariants as reasons
use Rattle.plan_check.specs.declared.verdict.Verdict.TheVariants as verdicts
use Rattle.reply_text.specs.Texts.{invalid_line}
use Rattle.certificate_text.specs.Texts.{ended, is_line}
use Rattle.statements.specs.certificate_reader_Faults.{BeginsText, IsFaultLine, IsCertificateText, StopsBehind, at_end, at_line, lines_joined}
use Rattle.statements.specs.certificate_reader_LineLemmas.{no-end, parted}
use Rattle.statements.specs.check_reply_Checked.{IsCheckedText, IsVerdictLine, bad_node_text, bad_number_text, dominated_text, wrong_line_text, faulty, judged, not_best_text, valid_line}
use Rattle.script_laws.specs.OneReply.{AreOneLine, NamesUncovered}

held-once : {A : Type 0} (o : Option A) (x y : A) → o ≡ Some x → o ≡ Some y → x ≡ y
held-once o x y a b = let both : Some x ≡ Some y = sym a ∙ b in cc

-- what differs is one number
no-difference : (w : Option Window) (e : Entry) (own : Pair) (rows : ℕ) (what : Number) (printed is : ℕ) → IsDifference w e own rows what printed is → IsStartup w e.startup own.startup → e.cost ≡ own.total → e.rows ≡ rows → ⊥
no-difference w e own rows what printed is (in_startup v at differs) s t r = differs (subst (λ (o : Option Window). IsStartup o e.startup own.startup) at s)
no-difference w e own rows what printed is (in_total a differs) s t r = differs t
no-difference w e own rows what printed is (in_rows a b differs) s t r = differs r

abbrev Number3 : Type 0
Number3 = Number × ℕ × ℕ

difference-one : (w : Option Window) (e : Entry) (own : Pair) (rows : ℕ) (a b : Number) (x y u v : ℕ) → IsDifference w e own rows a x u → IsDifference w e own rows b y v → ◌≡◌ {A = Number3} (a, x, u) (b, y, v)
difference-one w e own rows a b x y u v (in_startup i at d) (in_startup j to f) = refl
difference-one w e own rows a b x y u v (in_startup i at d) (in_total s f) = absurd (d (subst (λ (o : Option Window). IsStartup o e.startup own.startup) at s))
difference-one w e own rows a b x y u v (in_startup i at d) (in_rows s t f) = absurd (d (subst (λ (o : Option Window). IsStartup o e.startup own.startup) at s))
difference-one w e own rows a b x y u v (in_total s d) (in_startup j to f) = absurd (f (subst (λ (o : Option Window). IsStartup o e.startup own.startup) to s))
difference-one w e own rows a b x y u v (in_total s d) (in_total t f) = refl
difference-one w e own rows a b x y u v (in_total s d) (in_rows t k f) = absurd (d k)
difference-one w e own rows a b x y u v (in_rows s k d) (in_startup j to f) = absurd (f (subst (λ (o : Option Window). IsStartup o e.startup own.startup) to s))
difference-one w e own rows a b x y u v (in_rows s k d) (in_total t f) = absurd (f k)
difference-one w e own rows a b x y u v (in_rows s k d) (in_rows t l f) = refl

module _ (c : Contents) (q : Query) (t : Certificate) where
  -- an entry that is not right, behind right ones
  record IsWrongAt (n : ℕ) : Type 0 where
    before : AreRight c q t n
    entry : Entry
    stands : slice_get t.entries n ≡ Some entry
    wrong : ¬ IsEntryAt c q t n entry

  node-wrong : (n : ℕ) → IsBadNode c q t n → IsWrongAt n
  node-wrong n h = record { before = h.before; entry = h.entry; stands = h.stands; wrong = λ at. h.wrong at.plan at.unfolds at.has }

  number-wrong : (n : ℕ) (what : Number) (printed own : ℕ) → IsBadNumber c q t n what printed own → IsWrongAt n
  number-wrong n what printed own h = record {
    before = h.before;
    entry = h.entry;
    stands = h.stands;
    wrong = λ at.
        let same = held-once (unfold_at q t (suc n)) h.plan at.plan h.unfolds at.unfolds in
        let differs = subst (λ (p : Plan). IsDifference q.window h.entry (cost c q p) (estimate c q p) what printed own) same h.differs in
        no-difference q.window h.entry (cost c q at.plan) (estimate c q at.plan) what printed own differs at.numbers.startup at.numbers.total at.numbers.rows;
  }

  not-right : (n : ℕ) → IsWrongAt n → AllRight c q t → ⊥
  not-right n h right = h.wrong (right n h.entry h.stands)

  one-place : (n m : ℕ) → IsWrongAt n → IsWrongAt m → n ≡ m
  one-place n m h k = elim (cases_lt n m) [
    | inl lt ↦ absurd (h.wrong (k.before n h.entry lt h.stands))
    | inr le ↦ elim (cases_lt m n) [
      | inl lt ↦ absurd (k.wrong (h.before m k.entry lt k.stands))
      | inr ge ↦ omega (arith, le, ge)
    ]
  ]

  -- the line of a wrong entry
  abbrev NodeLine : ℕ → List ℕ → Type 0
  NodeLine n bytes = IsBadNode c q t n × (bytes ≡ invalid_line (bad_node_text (suc n)))

  record NumberLine (n : ℕ) (bytes : List ℕ) : Type 0 where
    what : Number
    printed : ℕ
    own : ℕ
    bad : IsBadNumber c q t n what printed own
    is : bytes ≡ invalid_line (bad_number_text (suc n) what printed own)

  abbrev EntryLine : ℕ → List ℕ → Type 0
  EntryLine n bytes = NodeLine n bytes ⊎ NumberLine n bytes

  both-bad : (n : ℕ) (what : Number) (printed own : ℕ) → IsBadNode c q t n → IsBadNumber c q t n what printed own → ⊥
  both-bad n what printed own h k =
      let same = held-once (slice_get t.entries n) k.entry h.entry k.stands h.stands in
      h.wrong k.plan k.unfolds (subst (λ (e : Entry). HasItsPlan c q e k.plan) same k.has)

  numbers-one : (n : ℕ) (a b : List ℕ) → NumberLine n a → NumberLine n b → a ≡ b
  numbers-one n a b h k =
      let entries = held-once (slice_get t.entries n) k.bad.entry h.bad.entry k.bad.stands h.bad.stands in
      let plans = held-once (unfold_at q t (suc n)) k.bad.plan h.bad.plan k.bad.unfolds h.bad.unfolds in
      let moved = subst (λ (e : Entry). IsDifference q.window e (cost c q h.bad.plan) (estimate c q h.bad.plan) k.what k.printed k.own) entries
      (subst (λ (p : Plan). IsDifference q.window k.bad.entry (cost c q p) (estimate c q p) k.what k.printed k.own) plans k.bad.differs) in
      let same = difference-one q.window h.bad.entry (cost c q h.bad.plan) (estimate c q h.bad.plan) h.what k.what h.printed k.printed h.own k.own h.bad.differs moved in
      h.is ∙ ap (λ (x : Number3). invalid_line (bad_number_text (suc n) x.0 x.1 x.2)) same ∙ sym k.is

  entry-one : (n : ℕ) (a b : List ℕ) → EntryLine n a → EntryLine n b → a ≡ b
  entry-one n a b (inl h) (inl k) = h.1 ∙ sym k.1
  entry-one n a b (inl h) (inr k) = absurd (both-bad n k.what k.printed k.own h.0 k.bad)
  entry-one n a b (inr h) (inl k) = absurd (both-bad n h.what h.printed h.own k.0 h.bad)
  entry-one n a b (inr h) (inr k) = numbers-one n a b h k

  abbrev IsLeastBest : Type 0
  IsLeastBest = (best : HasBest c q t) → IsLeastAmong c q (IsOver c q t) best.plan

  record DominatedLine (bytes : List ℕ) : Type 0 where
    n : ℕ
    m : ℕ
    first : IsFirstDominated c q t n m
    is : bytes ≡ invalid_line (dominated_text n m)

  record CheaperLine (bytes : List ℕ) : Type 0 where
    printed : ℕ
    own : ℕ
    bad : IsNotBest c q t printed own
    is : bytes ≡ invalid_line (not_best_text printed own)

  dominated-one : (a b : List ℕ) → DominatedLine a → DominatedLine b → a ≡ b
  dominated-one a b h k =
      let low = h.first.first k.n k.m k.first.is in
      let high = k.first.first h.n h.m h.first.is in
      let same : k.n ≡ h.n = omega (arith, low, high) in
      let less = h.first.by_first k.m (subst (λ n. IsDominatedBy c q t n k.m) same k.first.is) in
      let more = k.first.by_first h.m (subst (λ n. IsDominatedBy c q t n h.m) (sym same) h.first.is) in
      let also : k.m ≡ h.m = omega (arith, less, more) in
      h.is ∙ (ap (λ n. invalid_line (dominated_text n h.m)) (sym same) ∙ ap (λ m. invalid_line (dominated_text k.n m)) (sym also)) ∙ sym k.is

  -- two plans that are the least have one price
  two-least : (p o : Plan) → IsOver c q t p → IsOver c q t o → IsLeastAmong c q (IsOver c q t) p → IsLeastAmong c q (IsOver c q t) o → price c q p ≡ price c q o
  two-least p o op oo lp lo = elim (cases_lt (cost c q p).total MOST_COST) [
    | inl low ↦
        let there = lo.admissible p op low in
        let back = lp.admissible o oo there.0 in
        let less = there.1 in
        let more = back.1 in
        omega (arith, less, more)
    | inr high ↦
        let none : (z : Plan) → IsOver c q t z → ¬ IsAdmissible c q z = λ z oz az. let low = (lp.admissible z oz az).0 in omega (arith, low, high) in
        let less = lp.dearer none o oo in
        let more = lo.dearer none p op in
        omega (arith, less, more)
  ]

  cheaper-one : (a b : List ℕ) → CheaperLine a → CheaperLine b → a ≡ b
  cheaper-one a b h k =
      let plans = held-once (finish_at q t t.best) h.bad.best.plan k.bad.best.plan h.bad.best.is k.bad.best.is in
      let printed : h.printed ≡ k.printed = h.bad.printed_is ∙ (ap (price c q) plans ∙ sym k.bad.printed_is) in
      let own : h.own ≡ k.own = h.bad.own_is ∙ (two-least h.bad.other k.bad.other h.bad.over k.bad.over h.bad.least k.bad.least ∙ sym k.bad.own_is) in
      h.is ∙ (ap (λ n. invalid_line (not_best_text n h.own)) printed ∙ ap (λ n. invalid_line (not_best_text k.printed n)) own) ∙ sym k.is

  -- how far a certificate is a table, and the line that says so
  data IsCase (bytes : List ℕ) : Type 0 where
    wrong : (n : ℕ) → IsWrongAt n → EntryLine n bytes → IsCase bytes
    headless : AllRight c q t → ¬ HasBest c q t → bytes ≡ invalid_line (bad_node_text 0) → IsCase bytes
    twice : AllRight c q t → HasBest c q t → ¬ AreUndominated c q t → DominatedLine bytes → IsCase bytes
    uncovered : AllRight c q t → HasBest c q t → AreUndominated c q t → ¬ AreCovered c q t → NamesUncovered c q bytes → IsCase bytes
    dear : AllRight c q t → HasBest c q t → AreUndominated c q t → AreCovered c q t → ¬ IsLeastBest → CheaperLine bytes → IsCase bytes
    whole : AllRight c q t → HasBest c q t → AreUndominated c q t → AreCovered c q t → IsLeastBest → bytes ≡ valid_line → IsCase bytes

  one-line : (a b : List ℕ) → IsCase a → IsCase b → AreOneLine c q a b
  one-line a b (wrong n1 h1 l1) (wrong n2 h2 l2) = inl (let same = one-place n2 n1 h2 h1 in entry-one n1 a b l1 (subst (λ k. EntryLine k b) same l2))
  one-line a b (wrong n1 h1 l1) (headless r2 x2 e2) = absurd (not-right n1 h1 r2)
  one-line a b (wrong n1 h1 l1) (twice r2 b2 x2 l2) = absurd (not-right n1 h1 r2)
  one-line a b (wrong n1 h1 l1) (uncovered r2 b2 u2 x2 l2) = absurd (not-right n1 h1 r2)
  one-line a b (wrong n1 h1 l1) (dear r2 b2 u2 v2 x2 l2) = absurd (not-right n1 h1 r2)
  one-line a b (wrong n1 h1 l1) (whole r2 b2 u2 v2 p2 e2) = absurd (not-right n1 h1 r2)
  one-line a b (headless r1 x1 e1) (wrong n2 h2 l2) = absurd (not-right n2 h2 r1)
  one-line a b (headless r1 x1 e1) (headless r2 x2 e2) = inl (e1 ∙ sym e2)
  one-line a b (headless r1 x1 e1) (twice r2 b2 x2 l2) = absurd (x1 b2)
  one-line a b (headless r1 x1 e1) (uncovered r2 b2 u2 x2 l2) = absurd (x1 b2)
  one-line a b (headless r1 x1 e1) (dear r2 b2 u2 v2 x2 l2) = absurd (x1 b2)
  one-line a b (headless r1 x1 e1) (whole r2 b2 u2 v2 p2 e2) = absurd (x1 b2)
  one-line a b (twice r1 b1 x1 l1) (wrong n2 h2 l2) = absurd (not-right n2 h2 r1)
  one-line a b (twice r1 b1 x1 l1) (headless r2 x2 e2) = absurd (x2 b1)
  one-line a b (twice r1 b1 x1 l1) (twice r2 b2 x2 l2) = inl (dominated-one a b l1 l2)
  one-line a b (twice r1 b1 x1 l1) (uncovered r2 b2 u2 x2 l2) = absurd (x1 u2)
  one-line a b (twice r1 b1 x1 l1) (dear r2 b2 u2 v2 x2 l2) = absurd (x1 u2)
  one-line a b (twice r1 b1 x1 l1) (whole r2 b2 u2 v2 p2 e2) = absurd (x1 u2)
  one-line a b (uncovered r1 b1 u1 x1 l1) (wrong n2 h2 l2) = absurd (not-right n2 h2 r1)
  one-line a b (uncovered r1 b1 u1 x1 l1) (headless r2 x2 e2) = absurd (x2 b1)
  one-line a b (uncovered r1 b1 u1 x1 l1) (twice r2 b2 x2 l2) = absurd (x2 u1)
  one-line a b (uncovered r1 b1 u1 x1 l1) (uncovered r2 b2 u2 x2 l2) = inr (l1, l2)
  one-line a b (uncovered r1 b1 u1 x1 l1) (dear r2 b2 u2 v2 x2 l2) = absurd (x1 v2)
  one-line a b (uncovered r1 b1 u1 x1 l1) (whole r2 b2 u2 v2 p2 e2) = absurd (x1 v2)
  one-line a b (dear r1 b1 u1 v1 x1 l1) (wrong n2 h2 l2) = absurd (not-right n2 h2 r1)
  one-line a b (dear r1 b1 u1 v1 x1 l1) (headless r2 x2 e2) = absurd (x2 b1)
  one-line a b (dear r1 b1 u1 v1 x1 l1) (twice r2 b2 x2 l2) = absurd (x2 u1)
  one-line a b (dear r1 b1 u1 v1 x1 l1) (uncovered r2 b2 u2 x2 l2) = absurd (x2 v1)
  one-line a b (dear r1 b1 u1 v1 x1 l1) (dear r2 b2 u2 v2 x2 l2) = inl (cheaper-one a b l1 l2)
  one-line a b (dear r1 b1 u1 v1 x1 l1) (whole r2 b2 u2 v2 p2 e2) = absurd (x1 p2)
  one-line a b (whole r1 b1 u1 v1 p1 e1) (wrong n2 h2 l2) = absurd (not-right n2 h2 r1)
  one-line a b (whole r1 b1 u1 v1 p1 e1) (headless r2 x2 e2) = absurd (x2 b1)
  one-line a b (whole r1 b1 u1 v1 p1 e1) (twice r2 b2 x2 l2) = absurd (x2 u1)
  one-line a b (whole r1 b1 u1 v1 p1 e1) (uncovered r2 b2 u2 x2 l2) = absurd (x2 v1)
  one-line a b (whole r1 b1 u1 v1 p1 e1) (dear r2 b2 u2 v2 x2 l2) = absurd (x2 p1)
  one-line a b (whole r1 b1 u1 v1 p1 e1) (whole r2 b2 u2 v2 p2 e2) = inl (e1 ∙ sym e2)

  table-undominated : IsPlanTable c q t → AreUndominated c q t
  table-undominated table n m d = table.apart m n d.other d.plan d.other_unfolds d.unfolds d.differ d.dominates

  table-covered : IsPlanTable c q t → AreCovered c q t
  table-covered table p k = elim k.made [
    | inl scan ↦ table.scans p scan k.built k.admissible
    | inr sides ↦ table.joins p sides k.built k.admissible
  ]

  table-least : IsPlanTable c q t → IsLeastBest
  table-least table best =
      let same = held-once (finish_at q t t.best) table.best.plan best.plan table.best.is best.is in
      subst (IsLeastAmong c q (IsOver c q t)) same table.best.least

  case-of : (v : Verdict) (bytes : List ℕ) → IsVerdict c q t v → IsVerdictLine c q t v bytes → IsCase bytes
  case-of verdicts.Valid bytes table line =
      whole table.entries (record { plan = table.best.plan; is = table.best.is; finished = table.best.finished }) (table-undominated table) (table-covered table) (table-least table) line
  case-of (verdicts.No (reasons.BadNode zero)) bytes h line = headless h.right h.none (line.2 ∙ ap invalid_line line.1)
  case-of (verdicts.No (reasons.BadNode (suc n))) bytes h line = wrong n (node-wrong n h) (inl (h, line.2 ∙ ap invalid_line line.1))
  case-of (verdicts.No (reasons.BadNumber zero what printed own)) bytes h line = absurd h
  case-of (verdicts.No (reasons.BadNumber (suc n) what printed own)) bytes h line =
      wrong n (number-wrong n what printed own h) (inr (record { what = what; printed = printed; own = own; bad = h; is = line.2 ∙ ap invalid_line line.1 }))
  case-of (verdicts.No (reasons.Dominated n m)) bytes h line =
      twice h.0.right h.0.best (λ none. none n m h.1.is) (record { n = n; m = m; first = h.1; is = line.2 ∙ ap invalid_line line.1 })
  case-of (verdicts.No (reasons.Uncovered node startup total rows)) bytes h line =
      uncovered h.0.right h.0.best h.1 (λ covered. h.2.none (covered h.2.plan h.2.candidate)) (line.1.0, line.2 ∙ ap invalid_line line.1.3)
  case-of (verdicts.No (reasons.NotBest printed own)) bytes h line =
      dear h.0 h.3.best h.1 h.2 (λ least. h.3.less (least h.3.best)) (record { printed = printed; own = own; bad = h.3; is = line.2 ∙ ap invalid_line line.1 })

-- lines in a row, and one more behind them
record Longer (a : List (List ℕ)) (ra : List ℕ) (b : List (List ℕ)) (rb : List ℕ) : Type 0 where
  line : List ℕ
  more : List (List ℕ)
  is : lines_joined a ++ (ended line ++ lines_joined more) ≡ lines_joined b
  left : ra ≡ ended line ++ (lines_joined more ++ rb)
  whole : is_line line ≡ true

abbrev IsLine : List ℕ → Type 0
IsLine l = is_line l ≡ true

behind : (x j r : List ℕ) → (ended x ++ j) ++ r ≡ x ++ 10 ∷ (j ++ r)
behind x j r = append_assoc (ended x) j r ∙ append_assoc x (10 ∷ []) (j ++ r)

longer-more : (x y : List ℕ) (a : List (List ℕ)) (ra : List ℕ) (b : List (List ℕ)) (rb : List ℕ) → x ≡ y → Longer a ra b rb → Longer (x ∷ a) ra (y ∷ b) rb
longer-more x y a ra b rb same l = record {
  line = l.line;
  more = l.more;
  is = append_assoc (ended x) (lines_joined a) (ended l.line ++ lines_joined l.more) ∙ (ap (λ s. ended x ++ s) l.is ∙ ap (λ s. ended s ++ lines_joined b) same);
  left = l.left;
  whole = l.whole;
}

lines-split : (a b : List (List ℕ)) (ra rb : List ℕ) → All IsLine a → All IsLine b → lines_joined a ++ ra ≡ lines_joined b ++ rb → (length a ≡ length b) ⊎ (Longer a ra b rb ⊎ Longer b rb a ra)
lines-split [] [] ra rb ha hb e = inl refl
lines-split [] (l ∷ ls) ra rb ha hb e = inr (inl (record { line = l; more = ls; is = refl; left = e ∙ append_assoc (ended l) (lines_joined ls) rb; whole = All-head IsLine l ls hb }))
lines-split (l ∷ ls) [] ra rb ha hb e = inr (inr (record { line = l; more = ls; is = refl; left = sym e ∙ append_assoc (ended l) (lines_joined ls) ra; whole = All-head IsLine l ls ha }))
lines-split (x ∷ xs) (y ∷ ys) ra rb ha hb e =
    let p = parted x y (lines_joined xs ++ ra) (lines_joined ys ++ rb) (All-head IsLine x xs ha) (All-head IsLine y ys hb) (sym (behind x (lines_joined xs) ra) ∙ e ∙ behind y (lines_joined ys) rb) in
    elim (lines-split xs ys ra rb (All-tail IsLine x xs ha) (All-tail IsLine y ys hb) p.1) [
      | inl same ↦ inl (ap suc same)
      | inr (inl l) ↦ inr (inl (longer-more x y xs ra ys rb p.0 l))
      | inr (inr l) ↦ inr (inr (longer-more y x ys rb xs ra (sym p.0) l))
    ]

module _ (c : Contents) (q : Query) where
  regroup : (a l m r : List ℕ) → (a ++ (l ++ m)) ++ r ≡ (a ++ l) ++ (m ++ r)
  regroup a l m r = append_assoc a (l ++ m) r ∙ ap (λ s. a ++ s) (append_assoc l m r) ∙ sym (append_assoc a l (m ++ r))

  begins-with : (a l m : List ℕ) → BeginsText c q (a ++ (l ++ m)) → BeginsText c q (a ++ l)
  begins-with a l m h = record { rest = m ++ h.rest; text = subst (IsCertificateText c q) (regroup a l m h.rest) h.text }

  no-longer : (a : List (List ℕ)) (ra : List ℕ) (b : List (List ℕ)) (rb : List ℕ) → StopsBehind c q (lines_joined a) ra → BeginsText c q (lines_joined b) → Longer a ra b rb → ⊥
  no-longer a ra b rb (at_line line more plain is none) begins l =
      let p = parted line l.line more (lines_joined l.more ++ rb) plain l.whole (sym (append_assoc line (10 ∷ []) more) ∙ (sym is ∙ l.left) ∙ append_assoc l.line (10 ∷ []) (lines_joined l.more ++ rb)) in
      let all = subst (BeginsText c q) (sym l.is) begins in
      none (subst (λ s. BeginsText c q (lines_joined a ++ ended s)) (sym p.0) (begins-with (lines_joined a) (ended l.line) (lines_joined l.more) all))
  no-longer a ra b rb (at_end plain none) begins l = no-end ra l.line (lines_joined l.more ++ rb) plain (l.left ∙ append_assoc l.line (10 ∷ []) (lines_joined l.more ++ rb))

  -- a block has one wrong line
  pub fault-one : (block : List ℕ) (n m : ℕ) → IsFaultLine c q block n → IsFaultLine c q block m → n ≡ m
  fault-one block n m f g = elim (lines-split f.before g.before f.rest g.rest f.lines g.lines (sym f.split ∙ g.split)) [
    | inl same ↦ f.is ∙ ap (λ k. k + 1) same ∙ sym g.is
    | inr (inl l) ↦ absurd (no-longer f.before f.rest g.before g.rest f.stops g.begins l)
    | inr (inr l) ↦ absurd (no-longer g.before g.rest f.before f.rest g.stops f.begins l)
  ]

  -- CHECK of a block prints one line, or each time that a plan is uncovered
  pub checked-one : (block a b : List ℕ) → IsCheckedText c q block a → IsCheckedText c q block b → AreOneLine c q a b
  checked-one block a b (faulty f) (faulty g) = inl (f.told ∙ ap (λ n. invalid_line (wrong_line_text n)) (fault-one block f.line g.line f.at g.at) ∙ sym g.told)
  checked-one block a b (faulty f) (judged k) = absurd (f.none (record { certificate = k.certificate; has = k.read.has; is = k.read.is }))
  checked-one block a b (judged j) (faulty g) = absurd (g.none (record { certificate = j.certificate; has = j.read.has; is = j.read.is }))
  checked-one block a b (judged j) (judged k) =
      let same = j.read.only k.certificate k.read.has k.read.is in
      one-line c q j.certificate a b (case-of c q j.certificate j.verdict a j.holds j.told) (subst (λ (t : Certificate). IsCase c q t b) same (case-of c q k.certificate k.verdict b k.holds k.told))
