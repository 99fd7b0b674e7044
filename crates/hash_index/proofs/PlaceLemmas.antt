-- Rows put in one by one: all of them in order, and how they are taken out again.
use Rattle.std.proofs.Common.{◌≡◌, ℕ, suc, true, ◌+◌, ◌<◌, ◌≤◌, List, [], ◌∷◌, ◌++◌, length, map, refl, sym, subst, ap, ◌∙◌, arith}
use Rattle.std.specs.Prelude.{All, is_some}
use Rattle.std.specs.List.{AllByRecursion}
use Rattle.std.proofs.lemmas.List.{append_assoc, append-nil, length-append, get_or-append-add, get_or_append_left, get_or_at}
use Rattle.std.proofs.lemmas.List.Elements.{All-head, All-tail, All-append, All-push, All-weaker, All-from_recursion}
use Rattle.pg_base.specs.declared.numbers.Tid.{Tid}
use Rattle.pg_value.specs.declared.operators.Op.TheVariants.{Eq}
use Rattle.pg_value.specs.declared.value.Value.{Value}
use Rattle.pg_value.specs.work.Order.{IsOfFamily}
use Rattle.pg_value.specs.Sorting.{in_order}
use Rattle.pg_value.proofs.SortingLemmas.{in_order_again}
use Rattle.opfamily.specs.declared.classes.IndexKey.{IndexKey}
use Rattle.opfamily.specs.declared.classes.Method.TheVariants.{Hash}
use Rattle.opfamily.specs.Answers.{number_in}
use Rattle.opfamily.specs.KeyOrder.{key_family}
use Rattle.hash_index.specs.declared.chains.Place.{Place}
use Rattle.hash_index.specs.work.Held.{Held, HashTable, held_order}
use Rattle.hash_index.specs.work.Groups.{RowsOf, HasPut, held_by, held_in, held_of, value_at, without_at}
use Rattle.hash_index.specs.work.Chains.{IsWider, taken_back}
use Rattle.hash_index.proofs.ChainLemmas.{sorted_moved}
use Rattle.hash_index.proofs.HeldLemmas.{held_total}
use Rattle.hash_index.proofs.TieLemmas.{same_held}
use Rattle.hash_index.proofs.GroupLemmas.{held, without_append, without_many, without_value, wider_held, wider_many}

abbrev pub Fits : IndexKey → Held → Type 0
Fits k h = IsOfFamily (key_family k) h.value

of_fit : (k : IndexKey) (v : Value) → IsOfFamily (key_family k) v → (ts : List Tid) → AllByRecursion (Fits k) (map (held v) ts)
of_fit k v fits [] = tt
of_fit k v fits (t ∷ ts) = (fits, of_fit k v fits ts)

pub held_fit : (k : IndexKey) (gs : List RowsOf) → ((s : ℕ) → IsOfFamily (key_family k) (value_at gs s)) → All (Fits k) (held_by gs)
held_fit k [] fits = λ i d lt. absurd (omega arith)
held_fit k (g ∷ gs) fits = All-append (Fits k) (held_of g) (held_by gs) (All-from_recursion (Fits k) (held_of g) (of_fit k g.value (fits 0) g.tids)) (held_fit k gs (λ s. fits (suc s)))

-- one more row stands in order wherever it was put
pub put_sorted : (k : IndexKey) → is_some (number_in (key_family k) Hash Eq) ≡ true → (h : Held) (old new : List Held) → HasPut h old new → Fits k h → All (Fits k) old → in_order (held_order k) new ≡ in_order (held_order k) (old ++ h ∷ [])
put_sorted k hashes h old new put fits all =
    let behind : All (Fits k) put.back = λ i d lt. subst (Fits k) (get_or-append-add put.front put.back i d) (subst (λ l. All (Fits k) l) put.was all (length put.front + i) d (omega (arith, length-append put.front put.back))) in
    ap (in_order (held_order k)) put.is
    ∙ sorted_moved (held_order k) (held_total k) (Fits k) (same_held k hashes) put.front put.back h fits behind
    ∙ ap (λ l. in_order (held_order k) (l ++ h ∷ [])) (sym put.was)

pub put_before : (k : IndexKey) → is_some (number_in (key_family k) Hash Eq) ≡ true → (h : Held) (old new rest : List Held) → HasPut h old new → Fits k h → All (Fits k) old → in_order (held_order k) (new ++ rest) ≡ in_order (held_order k) (old ++ h ∷ rest)
put_before k hashes h old new rest put fits all =
    sym (in_order_again (held_order k) (held_total k) new rest)
    ∙ ap (λ l. in_order (held_order k) (l ++ rest)) (put_sorted k hashes h old new put fits all)
    ∙ in_order_again (held_order k) (held_total k) (old ++ h ∷ []) rest
    ∙ ap (in_order (held_order k)) (append_assoc old (h ∷ []) rest)

-- more rows than contracts see
pub table_more : (k : IndexKey) (gs new : List RowsOf) (added : List Held) → in_order (held_order k) (held_by new) ≡ in_order (held_order k) (held_by gs ++ added) → held_in k new ≡ in_order (held_order k) (held_in k gs ++ added)
table_more k gs new added e = e ∙ sym (in_order_again (held_order k) (held_total k) (held_by gs) added)

-- rows taken out
pub taken_many : (gs : List RowsOf) (ps : List Place) → length (taken_back ps gs) ≡ length gs
taken_many gs [] = refl
taken_many gs (p ∷ ps) = without_many (taken_back ps gs) p.slot p.at ∙ taken_many gs ps

pub taken_value : (gs : List RowsOf) (ps : List Place) (i : ℕ) → value_at (taken_back ps gs) i ≡ value_at gs i
taken_value gs [] i = refl
taken_value gs (p ∷ ps) i = without_value (taken_back ps gs) p.slot p.at i ∙ taken_value gs ps i

-- the last of some places, and the others
pub last_in : (P : Place → Type 0) (all ps : List Place) (p : Place) → all ≡ ps ++ p ∷ [] → All P all → P p × All P ps
last_in P all ps p e h =
    let each : All P (ps ++ p ∷ []) = subst (λ l. All P l) e h in
    let many : length (ps ++ p ∷ []) ≡ length ps + 1 = length-append ps (p ∷ []) in (
      subst P (get_or_at ps p [] p (length ps) refl) (each (length ps) p (omega (arith, many))),
      λ i d lt. subst P (get_or_append_left ps (p ∷ []) d i lt) (each i d (omega (arith, lt, many))),
    )

taken_append : (gs more : List RowsOf) (ps : List Place) → All (λ (p : Place). p.slot < length gs) ps → taken_back ps (gs ++ more) ≡ taken_back ps gs ++ more
taken_append gs more [] within = refl
taken_append gs more (p ∷ ps) within =
    ap (without_at p.slot p.at) (taken_append gs more ps (All-tail (λ (q : Place). q.slot < length gs) p ps within))
    ∙ without_append (taken_back ps gs) more p.slot p.at (omega (arith, taken_many gs ps, All-head (λ (q : Place). q.slot < length gs) p ps within))

pub taken_push : (gs : List RowsOf) (ps : List Place) (p : Place) → taken_back (ps ++ p ∷ []) gs ≡ taken_back ps (without_at p.slot p.at gs)
taken_push gs [] p = refl
taken_push gs (q ∷ ps) p = ap (without_at q.slot q.at) (taken_push gs ps p)

taken_wider : (gs new : List RowsOf) (ps : List Place) → All (λ (p : Place). p.slot < length gs) ps → IsWider gs new → held_by (taken_back ps new) ≡ held_by (taken_back ps gs)
taken_wider gs new ps within w =
    wider_held (taken_back ps gs) (taken_back ps new) (record { more = w.more; is = ap (taken_back ps) w.is ∙ taken_append gs w.more ps within; empty = w.empty })

pub within_more : (gs new : List RowsOf) (ps : List Place) → length gs ≤ length new → All (λ (p : Place). p.slot < length gs) ps → All (λ (p : Place). p.slot < length new) ps
within_more gs new ps le within = All-weaker (λ (p : Place). p.slot < length gs) (λ (p : Place). p.slot < length new) (λ p lt. omega arith) ps within

-- the rows put in so far, where `rest` are left
pub record AreAdded (k : IndexKey) (old : List RowsOf) (added rest : List Held) (ps : List Place) (now : List RowsOf) : Type 0 where
  pub within : All (λ (p : Place). p.slot < length now) ps
  pub back : held_by (taken_back ps now) ≡ held_by old
  pub all : in_order (held_order k) (held_by now ++ rest) ≡ in_order (held_order k) (held_by old ++ added)
  pub fits : All (Fits k) rest

pub none_added : (k : IndexKey) (old : List RowsOf) (added : List Held) (ps : List Place) → ps ≡ [] → All (Fits k) added → AreAdded k old added added ps old
none_added k old added ps e fits = record {
  within = subst (λ l. All (λ (p : Place). p.slot < length old) l) (sym e) (λ i d lt. absurd (omega arith));
  back = ap (λ l. held_by (taken_back l old)) e;
  all = refl;
  fits = fits;
}

pub one_added : (k : IndexKey) → is_some (number_in (key_family k) Hash Eq) ≡ true → (old : List RowsOf) (added rest left : List Held) (ps more : List Place) (now new : List RowsOf) (h : Held) (p : Place) → AreAdded k old added rest ps now
    → rest ≡ h ∷ left → ((s : ℕ) → IsOfFamily (key_family k) (value_at now s)) → HasPut h (held_by now) (held_by new) → IsWider now (without_at p.slot p.at new) → p.slot < length new → more ≡ ps ++ p ∷ [] → AreAdded k old added left more new
one_added k hashes old added rest left ps more now new h p inv is values put w lt e =
    let fits : All (Fits k) (h ∷ left) = subst (λ l. All (Fits k) l) is inv.fits in
    let le : length now ≤ length new = omega (arith, wider_many now (without_at p.slot p.at new) w, without_many new p.slot p.at) in
    record {
      within = subst (λ l. All (λ (q : Place). q.slot < length new) l) (sym e) (All-push (λ (q : Place). q.slot < length new) ps p (within_more now new ps le inv.within) lt);
      back = ap (λ l. held_by (taken_back l new)) e ∙ ap held_by (taken_push new ps p) ∙ taken_wider now (without_at p.slot p.at new) ps inv.within w ∙ inv.back;
      all = put_before k hashes h (held_by now) (held_by new) left put (All-head (Fits k) h left fits) (held_fit k now values) ∙ ap (λ l. in_order (held_order k) (held_by now ++ l)) (sym is) ∙ inv.all;
      fits = All-tail (Fits k) h left fits;
    }

pub all_added : (k : IndexKey) (old : List RowsOf) (added rest : List Held) (ps : List Place) (now : List RowsOf) → AreAdded k old added rest ps now → rest ≡ [] → in_order (held_order k) (held_by now) ≡ in_order (held_order k) (held_by old ++ added)
all_added k old added rest ps now inv e = ap (in_order (held_order k)) (sym (append-nil (held_by now)) ∙ ap (λ l. held_by now ++ l) (sym e)) ∙ inv.all

-- a refusal, which may leave more slots
pub refused_within : (k : IndexKey) (old : List RowsOf) (added rest : List Held) (ps : List Place) (now new : List RowsOf) → AreAdded k old added rest ps now → IsWider now new → All (λ (p : Place). p.slot < length new) ps
refused_within k old added rest ps now new inv w = within_more now new ps (wider_many now new w) inv.within

pub refused_back : (k : IndexKey) (old : List RowsOf) (added rest : List Held) (ps : List Place) (now new : List RowsOf) → AreAdded k old added rest ps now → IsWider now new → held_by (taken_back ps new) ≡ held_by old
refused_back k old added rest ps now new inv w = taken_wider now new ps inv.within w ∙ inv.back

-- what contracts see
abbrev pub the_table : IndexKey → List Held → HashTable
the_table k hs = record { key = k; held = hs }

pub table_same : (k : IndexKey) (gs new : List RowsOf) → held_by new ≡ held_by gs → the_table k (held_in k new) ≡ the_table k (held_in k gs)
table_same k gs new e = ap (λ l. the_table k (in_order (held_order k) l)) e
