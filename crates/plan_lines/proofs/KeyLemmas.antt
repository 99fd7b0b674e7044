-- Key lists one by one, what stands behind some bytes, and indexes of the tables of a query.
use Prim.Native.Nat.{suc}
use Rattle.std.proofs.Common.{◌≡◌, ◌≢◌, ◌≤◌, ◌<◌, ◌+◌, ◌⊎◌, inl, inr, Bor, ℕ, Bool, true, false, cond, nat_eq, List, [], ◌∷◌, ◌++◌, codes, length, map, drop, get_or, refl, sym, ap, ◌∙◌, subst, append_assoc, length-append, arith, drop-cons}
use Rattle.std.specs.Prelude.{Option, Some, None, option_map, IfSome, MatchOption}
use Rattle.std.proofs.lemmas.Bool.{cases_lt, true≢false, ne_eqb}
use Rattle.std.proofs.lemmas.Bool.Decides.{Decides-eqb, nat_tests}
use Rattle.std.proofs.lemmas.List.{append_cancel_left, get_or_default}
use Rattle.std.proofs.lemmas.List.Elements.{All-head}
use Rattle.pg_base.specs.declared.numbers.RelNo.{RelNo}
use Rattle.pg_base.specs.declared.numbers.TableNo.{TableNo}
use Rattle.pg_expr.specs.declared.operand.ColRef.{ColRef}
use Rattle.catalog.specs.Contents.{Contents, name_at}
use Rattle.catalog.specs.Range.{Range, relation_at, table_of}
use Rattle.eq_classes.specs.Clauses.{Set, first_in}
use Rattle.eq_classes.specs.Listing.{class_at}
use Rattle.eq_classes.specs.declared.classes.ClassNo.{ClassNo}
use Rattle.pathkeys.specs.work.Finding.{class_numbers}
use Rattle.pathkeys.specs.Keys.{Keys}
use Rattle.sql_query.specs.Queries.{Query, width}
use Rattle.sql_query.specs.WellBound.{IsWellBound}
use Rattle.plan_tree.specs.Plans.{Plan, seq, index, index_only, bitmap, sort, nest, merge}
use Rattle.plan_tree.specs.work.Reads.{ReadsBelow}
use Rattle.plan_tree.proofs.EstimateLemmas.{below-more}
use Rattle.certificate_entries.specs.plan_laws_WellBoundLemmas.{bound-over}
use Rattle.certificate_entries.specs.explain_Texts.{column_text, direction_text, family_text, key_text, keys_text, member_text, title, with_commas}
use Rattle.certificate_entries.specs.certificate_text_HasText.{HasKeysText}
use Rattle.plan_lines.specs.work.Kinds.{words}
use Rattle.plan_lines.specs.HasText.{IsTableOfQuery, IsText}
use Rattle.plan_lines.specs.work.TitleKinds.{behind_words, kind_of}

module _ (c : Contents) (q : Query) where
  column-some : (x : ColRef) → 1 ≤ length (column_text c q x)
  column-some x = let long = length-append (relation_at q.range x.rel).1 (codes "." ++ name_at c (table_of q.range x) x.col) in omega (arith, long)

  member-some : (o : Option ColRef) → ¬ (o ≡ None) → 1 ≤ length (member_text c q o)
  member-some None h = absurd (h refl)
  member-some (Some x) h = column-some x

  key-some : (s : Set) (n : ℕ) → ¬ (first_in (class_at q.classes.classes n) s ≡ None) → 1 ≤ length (key_text c q s n)
  key-some s n h =
      let k = class_at q.classes.classes n in
      let some = member-some (first_in k s) h in
      let long = length-append (member_text c q (first_in k s)) (family_text k.family ++ direction_text k.descending k.nulls_first) in
      omega (arith, some, long)

  -- an empty text is that of no keys
  pub no-keys : (s : Set) (keys : Keys) (text : List ℕ) → HasKeysText q s keys → text ≡ keys_text c q s keys → length text ≡ 0 → keys ≡ []
  no-keys s [] text h e none = refl
  no-keys s (n ∷ ns) text h e none =
      let some = key-some s n (All-head (λ m. ¬ (first_in (class_at q.classes.classes m) s ≡ None)) n ns h.members) in
      let long = length-append (key_text c q s n) (with_commas (codes ", ") (map (key_text c q s) ns)) in
      let same : length text ≡ length (key_text c q s n ++ with_commas (codes ", ") (map (key_text c q s) ns)) = ap (λ (l : List ℕ). length l) e in
      absurd (omega (arith, some, long, same, none))

  pub some-keys : (s : Set) (keys : Keys) (text : List ℕ) → text ≡ keys_text c q s keys → ¬ (length text ≡ 0) → 1 ≤ length keys
  some-keys s [] text e some = absurd (some (ap (λ (l : List ℕ). length l) e))
  some-keys s (n ∷ ns) text e some = omega arith

  -- a tree that has a text reads relations of the query alone
  reads-below : (p : Plan) → IsText c q p → ReadsBelow (width q) p
  reads-below (seq r) h = h
  reads-below (index r i b p) h = h.0.relation
  reads-below (index_only r i b p) h = h.0.relation
  reads-below (bitmap r p t) h = h.0.relation
  reads-below (sort k x) h = reads-below x h.0
  reads-below (nest x y) h = (reads-below x h.0, reads-below y h.1)
  reads-below (merge k x y) h = (reads-below x h.0, reads-below y h.1)

  pub reads-few : (p : Plan) → IsWellBound c q → IsText c q p → ReadsBelow 16 p
  reads-few p bound h = below-more (width q) 16 p (bound-over c q bound).few (reads-below p h)

-- the key of a place, what stands before it, and the later keys
module _ (c : Contents) (q : Query) (s : Set) (ks : List ClassNo) (n : ℕ) (d : ClassNo) (lt : n < length ks) where
  pub key-rest : with_commas (cond (nat_eq n 0) [] (codes ", ")) (map (key_text c q s) (class_numbers (drop n ks)))
      ≡ (cond (nat_eq n 0) [] (codes ", ") ++ key_text c q s (get_or ks n d).0) ++ with_commas (cond (nat_eq (n + 1) 0) [] (codes ", ")) (map (key_text c q s) (class_numbers (drop (n + 1) ks)))
  key-rest =
      let key = key_text c q s (get_or ks n d).0 in
      let before = cond (nat_eq n 0) [] (codes ", ") in
      let rest = map (key_text c q s) (class_numbers (drop (n + 1) ks)) in
      let same : drop n ks ≡ get_or ks n d ∷ drop (n + 1) ks = drop-cons ks n d lt ∙ ap (λ (m : ℕ). get_or ks n d ∷ drop m ks) (let e : suc n ≡ n + 1 = omega arith in e) in
      ap (λ (l : List ClassNo). with_commas before (map (key_text c q s) (class_numbers l))) same
      ∙ (sym (append_assoc before key (with_commas (codes ", ") rest)) ∙ sym (ap (λ (b : Bool). (before ++ key) ++ with_commas (cond b [] (codes ", ")) rest) (ne_eqb (n + 1) 0 (λ e. omega (arith, e)))))

  -- where no such key comes next, no text of keys does
  pub no-key : (text left : List ℕ) (res : Option (List ℕ)) →
      ((rest : List ℕ) → text ≡ keys_text c q s (class_numbers ks) ++ rest → left ≡ with_commas (cond (nat_eq n 0) [] (codes ", ")) (map (key_text c q s) (class_numbers (drop n ks))) ++ rest) →
      ((rest : List ℕ) → left ≡ (cond (nat_eq n 0) [] (codes ", ") ++ key_text c q s (get_or ks n d).0) ++ rest → res ≡ Some rest) → res ≡ None →
      (rest : List ℕ) → text ≡ keys_text c q s (class_numbers ks) ++ rest → ⊥
  no-key text left res before only none rest e =
      let before' = cond (nat_eq n 0) [] (codes ", ") ++ key_text c q s (get_or ks n d).0 in
      let more = with_commas (cond (nat_eq (n + 1) 0) [] (codes ", ")) (map (key_text c q s) (class_numbers (drop (n + 1) ks))) in
      wrong (more ++ rest) (only (more ++ rest) (before rest e ∙ (ap (λ (l : List ℕ). l ++ rest) key-rest ∙ append_assoc before' more rest)))
    where
      wrong : (l : List ℕ) → res ≡ Some l → ⊥
      wrong l f = cc

  -- one key more
  pub key-is : (text left next : List ℕ) → ((rest : List ℕ) → left ≡ with_commas (cond (nat_eq n 0) [] (codes ", ")) (map (key_text c q s) (class_numbers (drop n ks))) ++ rest → text ≡ keys_text c q s (class_numbers ks) ++ rest) →
      left ≡ (cond (nat_eq n 0) [] (codes ", ") ++ key_text c q s (get_or ks n d).0) ++ next →
      (rest : List ℕ) → next ≡ with_commas (cond (nat_eq (n + 1) 0) [] (codes ", ")) (map (key_text c q s) (class_numbers (drop (n + 1) ks))) ++ rest → text ≡ keys_text c q s (class_numbers ks) ++ rest
  key-is text left next is e rest f =
      let before' = cond (nat_eq n 0) [] (codes ", ") ++ key_text c q s (get_or ks n d).0 in
      let more = with_commas (cond (nat_eq (n + 1) 0) [] (codes ", ")) (map (key_text c q s) (class_numbers (drop (n + 1) ks))) in
      is rest (e ∙ (ap (λ (l : List ℕ). before' ++ l) f ∙ (sym (append_assoc before' more rest) ∙ ap (λ (l : List ℕ). l ++ rest) (sym key-rest))))

  pub key-only : (text left next : List ℕ) → ((rest : List ℕ) → text ≡ keys_text c q s (class_numbers ks) ++ rest → left ≡ with_commas (cond (nat_eq n 0) [] (codes ", ")) (map (key_text c q s) (class_numbers (drop n ks))) ++ rest) →
      left ≡ (cond (nat_eq n 0) [] (codes ", ") ++ key_text c q s (get_or ks n d).0) ++ next →
      (rest : List ℕ) → text ≡ keys_text c q s (class_numbers ks) ++ rest → next ≡ with_commas (cond (nat_eq (n + 1) 0) [] (codes ", ")) (map (key_text c q s) (class_numbers (drop (n + 1) ks))) ++ rest
  key-only text left next only e rest f =
      let before' = cond (nat_eq n 0) [] (codes ", ") ++ key_text c q s (get_or ks n d).0 in
      let more = with_commas (cond (nat_eq (n + 1) 0) [] (codes ", ")) (map (key_text c q s) (class_numbers (drop (n + 1) ks))) in
      append_cancel_left before' next (more ++ rest) (sym e ∙ (only rest f ∙ (ap (λ (l : List ℕ). l ++ rest) key-rest ∙ append_assoc before' more rest)))

-- what stands behind some bytes
pub strip-is : (s p : List ℕ) (r : Option (Bor (List ℕ))) → MatchOption r ((rest : List ℕ) → s ≢ p ++ rest) (λ x. s ≡ p ++ x.now) → IfSome r (λ l. s ≡ p ++ l.now)
strip-is s p None h = tt
strip-is s p (Some l) h = h

pub strip-only : (s p : List ℕ) (r : Option (Bor (List ℕ))) → MatchOption r ((rest : List ℕ) → s ≢ p ++ rest) (λ x. s ≡ p ++ x.now) → (rest : List ℕ) → s ≡ p ++ rest → option_map (λ (l : Bor (List ℕ)). l.now) r ≡ Some rest
strip-only s p None h rest e = absurd (h rest e)
strip-only s p (Some l) h rest e = ap (λ (x : List ℕ). Some x) (append_cancel_left p l.now rest (sym h ∙ e))

module _ (c : Contents) (q : Query) where
  pub title-is : (p : Plan) → title c q p ≡ words (kind_of p) ++ behind_words c q p
  title-is (seq r) = refl
  title-is (index r i backward p) = refl
  title-is (index_only r i backward p) = refl
  title-is (bitmap r p bits) = refl
  title-is (sort keys input) = refl
  title-is (nest outer inner) = refl
  title-is (merge keys outer inner) = refl

  pub whole-is : (p : Plan) (s : List ℕ) (r : Option (Bor (List ℕ))) → IfSome r (λ l. s ≡ (words (kind_of p) ++ behind_words c q p) ++ l.now) → IfSome r (λ l. s ≡ title c q p ++ l.now)
  whole-is p s None h = tt
  whole-is p s (Some l) h = h ∙ sym (ap (λ (t : List ℕ). t ++ l.now) (title-is p))

module _ (q : Query) where
  -- the table of a relation
  pub table-found : (items : Range) (n : ℕ) (x : TableNo × List ℕ) (t : TableNo) → items ≡ q.range → n < length items → x ≡ get_or items n x → nat_eq x.0.0 t.0 ≡ true → IsTableOfQuery q t
  table-found items n x t same lt at e =
      let here : n < length q.range = subst (λ (l : Range). n < length l) same lt in
      let found : x ≡ get_or q.range n x = at ∙ ap (λ (l : Range). get_or l n x) same in
      let nowhere : TableNo × List ℕ = (record { 0 = 0 }, []) in
      let number : x.0.0 ≡ t.0 = (Decides-eqb x.0.0 t.0).0 e in
      let table : x.0 ≡ t = ap (λ (m : ℕ). let y : TableNo = record { 0 = m } in y) number in
      record {
        relation = record { 0 = n };
        within = here;
        is = sym table ∙ ap (λ (y : TableNo × List ℕ). y.0) (found ∙ get_or_default q.range n x nowhere here);
      }

  -- no relation before a place has a table
  abbrev pub IsBefore : TableNo → ℕ → Type 0
  IsBefore t n = (r : RelNo) → r.0 < n → t ≢ (relation_at q.range r).0

  pub before-none : (t : TableNo) → IsBefore t 0
  before-none t r lt = absurd (omega (arith, lt))

  pub before-more : (items : Range) (n : ℕ) (x : TableNo × List ℕ) (t : TableNo) → items ≡ q.range → n < length items → x ≡ get_or items n x → nat_eq x.0.0 t.0 ≡ false → IsBefore t n → IsBefore t (n + 1)
  before-more items n x t same lt at e before r low = by (cases_lt r.0 n)
    where
      here : n < length q.range
      here = subst (λ (l : Range). n < length l) same lt

      found : x ≡ get_or q.range n (record { 0 = 0 }, [])
      found = (at ∙ ap (λ (l : Range). get_or l n x) same) ∙ get_or_default q.range n x (record { 0 = 0 }, []) here

      by : (r.0 < n) ⊎ (n ≤ r.0) → t ≢ (relation_at q.range r).0
      by (inl lower) = before r lower
      by (inr le) = λ f.
          let at-n : r.0 ≡ n = omega (arith, le, low) in
          let one : (relation_at q.range r).0 ≡ x.0 = ap (λ (m : ℕ). (get_or {A = TableNo × List ℕ} q.range m (record { 0 = 0 }, [])).0) at-n ∙ sym (ap (λ (y : TableNo × List ℕ). y.0) found) in
          let two : x.0 ≡ t = sym (f ∙ one) in
          true≢false (sym ((Decides-eqb x.0.0 t.0).1 (ap (λ (y : TableNo). y.0) two)) ∙ e)

  pub none-before : (items : Range) (n : ℕ) (t : TableNo) → items ≡ q.range → length items ≤ n → IsBefore t n → IsTableOfQuery q t → ⊥
  none-before items n t same le before h =
      let long : length items ≡ length q.range = ap (λ (l : Range). length l) same in
      let low = h.within in
      before h.relation (omega (arith, long, le, low)) h.is

-- what a test for an empty slice found
pub is-none : (n : ℕ) (b : Bool) → b ≡ nat_eq n 0 → b ≡ true → n ≡ 0
is-none n b e h = let t : nat_eq n 0 ≡ true = sym e ∙ h in grind (arith, nat_tests, t)

pub is-some : (n : ℕ) (b : Bool) → b ≡ nat_eq n 0 → b ≡ false → ¬ (n ≡ 0)
is-some n b e h = λ none. let t : nat_eq n 0 ≡ false = sym e ∙ h in absurd (grind (arith, nat_tests, t, none))
