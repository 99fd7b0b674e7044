-- The lines of a plan tell the plan.
use Rattle.std.proofs.Common.{◌≡◌, ◌<◌, inl, inr, ℕ, ◌+◌, ◌*◌, Bool, true, false, cond, ◌||◌, List, [], ◌∷◌, ◌++◌, codes, drop, get_or, length, refl, sym, ◌∙◌, ap, ap₂, subst, append_assoc, arith}
use Rattle.std.specs.Prelude.{nat_lt, Option, Some, None}
use Rattle.std.proofs.lemmas.Bool.{true≢false}
use Rattle.std.proofs.lemmas.Bool.Decides.{nat_tests}
use Rattle.std.proofs.lemmas.List.{append_cancel_left}
use Rattle.pg_base.specs.Sets.{has}
use Rattle.pg_base.specs.declared.numbers.IndexNo.{IndexNo}
use Rattle.pg_base.specs.declared.numbers.RelNo.{RelNo}
use Rattle.pg_base.specs.declared.rel_set.RelSet.{RelSet}
use Rattle.catalog.specs.Contents.{Contents, IsIndex, IsLawful, index_name_at, table_at}
use Rattle.catalog.specs.Range.{relation_at}
use Rattle.eq_classes.specs.Clauses.{Set}
use Rattle.eq_classes.specs.Parts.{union}
use Rattle.eq_classes.proofs.ListLemmas.{IsIn, all_at}
use Rattle.sql_query.specs.Queries.{Query, all_of_query, width}
use Rattle.sql_query.specs.WellBound.{IsWellBound}
use Rattle.sql_query.specs.declared.window.Window.{Window}
use Rattle.pathkeys.specs.Keys.{Keys, order_keys}
use Rattle.cost_rules.specs.declared.pair.Pair.{Pair}
use Rattle.plan_tree.specs.Costs.{asked, cost, estimate, price, query_rows}
use Rattle.plan_tree.specs.Plans.{Plan, seq, index, index_only, bitmap, sort, nest, merge, is_sort, set_of}
use Rattle.plan_tree.specs.Space.{HasKeys, IsBuilt, IsSameSet, MeetsOrder}
use Rattle.plan_tree.proofs.CostableLemmas.{built-costable}
use Rattle.plan_laws.proofs.KeyLemmas.{AreKeys, list_keys, wider}
use Rattle.explain.specs.work.Lines.{IsShown}
use Rattle.plan_laws.proofs.JoiningLemmas.{joining_classes}
use Rattle.explain.specs.Texts.{aliases_in, bits_text, explained_text, first_depth, lead, line_by, numbers_text, plan_text, rows_behind, scanned_text, text_at, title, window_text}
use Rattle.explain_laws.proofs.BitLemmas.{IsShallow, IsTreeTold, bits-split, line-shallow, shallow-end, shallow-more, tree-told}
use Rattle.explain_laws.proofs.ClassLemmas.{AreShownKeys, keys-split, order-shown}
use Rattle.explain_laws.proofs.NameLemmas.{alias-name, alias-same, aliases-names, index-name, index-same, relation-table, table-name}
use Rattle.explain_laws.proofs.ParamLemmas.{IsOfQuery, bitmap-param, index-param, params-same}
use Rattle.explain_laws.proofs.SplitLemmas.{numbers-split, relation-split, split}
use Rattle.pg_base.proofs.NameLemmas.{name-word}

-- three bytes of a title tell the kind of a node
abbrev kind : Plan → ℕ
kind (seq r) = 83 + 256 * 101 + 65536 * 97
kind (index r i backward p) = 73 + 256 * 110 + 65536 * 83
kind (index_only r i backward p) = 73 + 256 * 110 + 65536 * 79
kind (bitmap r p bits) = 66 + 256 * 105 + 65536 * 32
kind (sort keys input) = 83 + 256 * 111 + 65536 * 121
kind (nest outer inner) = 78 + 256 * 101 + 65536 * 32
kind (merge keys outer inner) = 77 + 256 * 101 + 65536 * 74

abbrev three : List ℕ → ℕ
three l = get_or l 0 0 + 256 * get_or l 1 0 + 65536 * get_or l 6 0

module _ (c : Contents) (q : Query) where
  kind-is : (p : Plan) (z : List ℕ) → three (title c q p ++ z) ≡ kind p
  kind-is (seq r) z = refl
  kind-is (index r i backward p) z = refl
  kind-is (index_only r i backward p) z = refl
  kind-is (bitmap r p bits) z = refl
  kind-is (sort keys input) z = refl
  kind-is (nest outer inner) z = refl
  kind-is (merge keys outer inner) z = refl

  -- the numbers of a node, and the lines beneath it
  abbrev numbers_of : Plan → List ℕ
  numbers_of p = numbers_text q.window (cost c q p) (estimate c q p)

  abbrev below : ℕ → Plan → List ℕ
  below d (seq r) = []
  below d (index r i backward p) = []
  below d (index_only r i backward p) = []
  below d (bitmap r p bits) = bits_text c q (d + 1) bits
  below d (sort keys input) = text_at c q (d + 1) input
  below d (nest outer inner) = text_at c q (d + 1) outer ++ text_at c q (d + 1) inner
  below d (merge keys outer inner) = text_at c q (d + 1) outer ++ text_at c q (d + 1) inner

  flat-line : (l t n x : List ℕ) → (l ++ (t ++ n)) ++ x ≡ l ++ (t ++ (n ++ x))
  flat-line l t n x = append_assoc l (t ++ n) x ∙ ap (λ (z : List ℕ). l ++ z) (append_assoc t n x)

  flat-lines : (l t n b x : List ℕ) → ((l ++ (t ++ n)) ++ b) ++ x ≡ l ++ (t ++ (n ++ (b ++ x)))
  flat-lines l t n b x = append_assoc (l ++ (t ++ n)) b x ∙ flat-line l t n (b ++ x)

  text-is : (d : ℕ) (p : Plan) (x : List ℕ) → text_at c q d p ++ x ≡ lead d ++ (title c q p ++ (numbers_of p ++ (below d p ++ x)))
  text-is d (seq r) x = flat-line (lead d) (title c q (seq r)) (numbers_of (seq r)) x
  text-is d (index r i backward p) x = flat-line (lead d) (title c q (index r i backward p)) (numbers_of (index r i backward p)) x
  text-is d (index_only r i backward p) x = flat-line (lead d) (title c q (index_only r i backward p)) (numbers_of (index_only r i backward p)) x
  text-is d (bitmap r p bits) x = flat-lines (lead d) (title c q (bitmap r p bits)) (numbers_of (bitmap r p bits)) (bits_text c q (d + 1) bits) x
  text-is d (sort keys input) x = flat-lines (lead d) (title c q (sort keys input)) (numbers_of (sort keys input)) (text_at c q (d + 1) input) x
  text-is d (nest outer inner) x = flat-lines (lead d) (title c q (nest outer inner)) (numbers_of (nest outer inner)) (text_at c q (d + 1) outer ++ text_at c q (d + 1) inner) x
  text-is d (merge keys outer inner) x = flat-lines (lead d) (title c q (merge keys outer inner)) (numbers_of (merge keys outer inner)) (text_at c q (d + 1) outer ++ text_at c q (d + 1) inner) x

  -- what stands behind a title: two spaces, and the rest
  abbrev rest_of : ℕ → Plan → List ℕ → List ℕ
  rest_of d p x = numbers_of p ++ (below d p ++ x)

  titles : (d : ℕ) (a b : Plan) (x y : List ℕ) → text_at c q d a ++ x ≡ text_at c q d b ++ y → title c q a ++ rest_of d a x ≡ title c q b ++ rest_of d b y
  titles d a b x y e = append_cancel_left (lead d) (title c q a ++ rest_of d a x) (title c q b ++ rest_of d b y) (sym (text-is d a x) ∙ e ∙ text-is d b y)

  kinds : (d : ℕ) (a b : Plan) (x y : List ℕ) → text_at c q d a ++ x ≡ text_at c q d b ++ y → kind a ≡ kind b
  kinds d a b x y e = sym (kind-is a (rest_of d a x)) ∙ ap three (titles d a b x y e) ∙ kind-is b (rest_of d b y)

  beneath : (d : ℕ) (a b : Plan) (x y : List ℕ) → drop 2 (rest_of d a x) ≡ drop 2 (rest_of d b y) → below d a ++ x ≡ below d b ++ y
  beneath d a b x y e = numbers-split q.window (cost c q a) (cost c q b) (estimate c q a) (estimate c q b) (below d a ++ x) (below d b ++ y) (ap (λ (l : List ℕ). 32 ∷ 32 ∷ l) e)

  behind-line : (window : Option Window) (a b : Plan) (x y : List ℕ) → line_by c q window a ++ x ≡ line_by c q window b ++ y → x ≡ y
  behind-line None a b x y e = e
  behind-line (Some w) a b x y e =
      let rows = rows_behind w.offset (asked w (query_rows c q)) in
      let m : Pair = record { startup = 0; total = price c q a } in
      let n : Pair = record { startup = 0; total = price c q b } in
      let one : numbers_text None m rows ++ x ≡ numbers_text None n rows ++ y = append_cancel_left (window_text w) (numbers_text None m rows ++ x) (numbers_text None n rows ++ y) (sym (append_assoc (window_text w) (numbers_text None m rows) x) ∙ e ∙ append_assoc (window_text w) (numbers_text None n rows) y) in
      numbers-split None m n rows rows x y one

  -- a plan of which its lines tell all
  abbrev Tells : Plan → Type 0
  Tells (seq r) = r.0 < width q
  Tells (index r i backward p) = (r.0 < width q) × IsIndex c i × IsOfQuery q p
  Tells (index_only r i backward p) = (r.0 < width q) × IsIndex c i × IsOfQuery q p
  Tells (bitmap r p bits) = (r.0 < width q) × IsOfQuery q p × IsTreeTold c q bits
  Tells (sort keys input) = (0 < length keys) × AreShownKeys q (set_of input) keys × Tells input
  Tells (nest outer inner) = Tells outer × Tells inner
  Tells (merge keys outer inner) = (0 < length keys) × AreShownKeys q (union (set_of outer) (set_of inner)) keys × Tells outer × Tells inner

  module _ (lawful : IsLawful c) (bound : IsWellBound c q) where
    seq-split : (r s : RelNo) (x y : List ℕ) → r.0 < width q → s.0 < width q → title c q (seq r) ++ 32 ∷ 32 ∷ x ≡ title c q (seq s) ++ 32 ∷ 32 ∷ y → (r ≡ s) × (x ≡ y)
    seq-split r s x y hr hs e =
        let R = relation_at q.range r in
        let S = relation_at q.range s in
        let one = relation-split (table_at c R.0).name (table_at c S.0).name R.1 S.1 [] [] x y
        (table-name c lawful R.0 (relation-table c q.range bound.range r hr)) (table-name c lawful S.0 (relation-table c q.range bound.range s hs))
        (alias-name c q.range bound.range r hr) (alias-name c q.range bound.range s hs) tt tt (ap (λ (l : List ℕ). drop 12 l) e) in
        (alias-same c q.range bound.range r s hr hs one.0, one.2)

    scanned-split : (r s : RelNo) (p o : RelSet) (x y : List ℕ) → r.0 < width q → s.0 < width q → IsOfQuery q p → IsOfQuery q o →
        scanned_text c q r p ++ 32 ∷ 32 ∷ x ≡ scanned_text c q s o ++ 32 ∷ 32 ∷ y → (r ≡ s) × (p ≡ o) × (x ≡ y)
    scanned-split r s p o x y hr hs hp ho e =
        let R = relation_at q.range r in
        let S = relation_at q.range s in
        let P = aliases_in 0 (has p.0) q.range in
        let O = aliases_in 0 (has o.0) q.range in
        let one = relation-split (table_at c R.0).name (table_at c S.0).name R.1 S.1 P O x y
        (table-name c lawful R.0 (relation-table c q.range bound.range r hr)) (table-name c lawful S.0 (relation-table c q.range bound.range s hs))
        (alias-name c q.range bound.range r hr) (alias-name c q.range bound.range s hs)
        (aliases-names 0 (has p.0) q.range bound.range.names) (aliases-names 0 (has o.0) q.range bound.range.names)
        (sym (append_assoc _ _ (32 ∷ 32 ∷ x)) ∙ e ∙ append_assoc _ _ (32 ∷ 32 ∷ y)) in
        (alias-same c q.range bound.range r s hr hs one.0, params-same c q bound p o hp ho one.1, one.2)

    -- behind the kind of an index scan: its direction, its index and its relation
    abbrev by_index : RelNo → IndexNo → RelSet → List ℕ
    by_index r i p = codes " using " ++ (index_name_at c i ++ (codes " on " ++ scanned_text c q r p))

    by-index-split : (r s : RelNo) (i j : IndexNo) (p o : RelSet) (x y : List ℕ) → r.0 < width q → s.0 < width q → IsIndex c i → IsIndex c j → IsOfQuery q p → IsOfQuery q o →
        by_index r i p ++ 32 ∷ 32 ∷ x ≡ by_index s j o ++ 32 ∷ 32 ∷ y → (i ≡ j) × (r ≡ s) × (p ≡ o) × (x ≡ y)
    by-index-split r s i j p o x y hr hs hi hj hp ho e =
        let I = index_name_at c i in
        let J = index_name_at c j in
        let one : (I ++ (codes " on " ++ scanned_text c q r p)) ++ 32 ∷ 32 ∷ x ≡ (J ++ (codes " on " ++ scanned_text c q s o)) ++ 32 ∷ 32 ∷ y = ap (λ (l : List ℕ). drop 7 l) e in
        let two = split I J ((codes " on " ++ scanned_text c q r p) ++ 32 ∷ 32 ∷ x) ((codes " on " ++ scanned_text c q s o) ++ 32 ∷ 32 ∷ y) (name-word I (index-name c lawful i hi)) (name-word J (index-name c lawful j hj)) refl refl
        (sym (append_assoc I (codes " on " ++ scanned_text c q r p) (32 ∷ 32 ∷ x)) ∙ one ∙ append_assoc J (codes " on " ++ scanned_text c q s o) (32 ∷ 32 ∷ y)) in
        let rest = scanned-split r s p o x y hr hs hp ho (ap (λ (l : List ℕ). drop 4 l) two.1) in
        (index-same c lawful i j hi hj two.0, rest.0, rest.1, rest.2)

    direction-split : (a b : Bool) (u v : List ℕ) → cond a (codes " Backward") [] ++ (codes " using " ++ u) ≡ cond b (codes " Backward") [] ++ (codes " using " ++ v) → (a ≡ b) × (codes " using " ++ u ≡ codes " using " ++ v)
    direction-split true true u v e = (refl, ap (λ (l : List ℕ). drop 9 l) e)
    direction-split true false u v e = let bad : 66 ≡ 117 = ap (λ (l : List ℕ). get_or l 1 0) e in absurd (omega (arith, bad))
    direction-split false true u v e = let bad : 117 ≡ 66 = ap (λ (l : List ℕ). get_or l 1 0) e in absurd (omega (arith, bad))
    direction-split false false u v e = (refl, e)

    index-split : (r s : RelNo) (i j : IndexNo) (a b : Bool) (p o : RelSet) (x y : List ℕ) → r.0 < width q → s.0 < width q → IsIndex c i → IsIndex c j → IsOfQuery q p → IsOfQuery q o →
        (cond a (codes " Backward") [] ++ by_index r i p) ++ 32 ∷ 32 ∷ x ≡ (cond b (codes " Backward") [] ++ by_index s j o) ++ 32 ∷ 32 ∷ y → (a ≡ b) × (i ≡ j) × (r ≡ s) × (p ≡ o) × (x ≡ y)
    index-split r s i j a b p o x y hr hs hi hj hp ho e =
        let one = direction-split a b ((index_name_at c i ++ (codes " on " ++ scanned_text c q r p)) ++ 32 ∷ 32 ∷ x) ((index_name_at c j ++ (codes " on " ++ scanned_text c q s o)) ++ 32 ∷ 32 ∷ y)
        (sym (append_assoc (cond a (codes " Backward") []) (by_index r i p) (32 ∷ 32 ∷ x)) ∙ e ∙ append_assoc (cond b (codes " Backward") []) (by_index s j o) (32 ∷ 32 ∷ y)) in
        let two = by-index-split r s i j p o x y hr hs hi hj hp ho one.1 in
        (one.0, two.0, two.1, two.2, two.3)

    inner-shallow : (d : ℕ) (p : Plan) (x : List ℕ) → IsShallow (d + 1) (text_at c q (d + 1) p ++ x)
    inner-shallow d p x = subst (IsShallow (d + 1)) (sym (text-is (d + 1) p x)) (line-shallow d (title c q p ++ rest_of (d + 1) p x))

    plan-split : (a b : Plan) (d : ℕ) (x y : List ℕ) → Tells a → Tells b → IsShallow d x → IsShallow d y → text_at c q d a ++ x ≡ text_at c q d b ++ y → (a ≡ b) × (x ≡ y)
    plan-split (seq r) (seq s) d x y h g sx sy e =
        let one = seq-split r s (drop 2 (rest_of d (seq r) x)) (drop 2 (rest_of d (seq s) y)) h g (titles d (seq r) (seq s) x y e) in
        (ap seq one.0, beneath d (seq r) (seq s) x y one.1)
    plan-split (index r i m p) (index s j n o) d x y h g sx sy e =
        let A = index r i m p in
        let B = index s j n o in
        let one = index-split r s i j m n p o (drop 2 (rest_of d A x)) (drop 2 (rest_of d B y)) h.0 g.0 h.1 g.1 h.2 g.2 (ap (λ (l : List ℕ). drop 10 l) (titles d A B x y e)) in
        (λ t. index (one.2 t) (one.1 t) (one.0 t) (one.3 t), beneath d A B x y one.4)
    plan-split (index_only r i m p) (index_only s j n o) d x y h g sx sy e =
        let A = index_only r i m p in
        let B = index_only s j n o in
        let one = index-split r s i j m n p o (drop 2 (rest_of d A x)) (drop 2 (rest_of d B y)) h.0 g.0 h.1 g.1 h.2 g.2 (ap (λ (l : List ℕ). drop 15 l) (titles d A B x y e)) in
        (λ t. index_only (one.2 t) (one.1 t) (one.0 t) (one.3 t), beneath d A B x y one.4)
    plan-split (bitmap r p bits) (bitmap s o pits) d x y h g sx sy e =
        let A = bitmap r p bits in
        let B = bitmap s o pits in
        let one = scanned-split r s p o (drop 2 (rest_of d A x)) (drop 2 (rest_of d B y)) h.0 g.0 h.1 g.1 (ap (λ (l : List ℕ). drop 20 l) (titles d A B x y e)) in
        let two = bits-split c q lawful bound (d + 1) bits pits x y h.2 g.2 (shallow-more d x sx) (shallow-more d y sy) (beneath d A B x y one.2) in
        (λ t. bitmap (one.0 t) (one.1 t) (two.0 t), two.1)
    plan-split (sort ks input) (sort ls other) d x y h g sx sy e =
        let A = sort ks input in
        let B = sort ls other in
        let one = keys-split c q lawful bound (set_of input) (set_of other) ks ls (drop 2 (rest_of d A x)) (drop 2 (rest_of d B y)) h.0 g.0 h.1 g.1 (ap (λ (l : List ℕ). drop 8 l) (titles d A B x y e)) in
        let two = plan-split input other (d + 1) x y h.2 g.2 (shallow-more d x sx) (shallow-more d y sy) (beneath d A B x y one.1) in
        (ap₂ sort one.0 two.0, two.1)
    plan-split (nest a b) (nest m n) d x y h g sx sy e =
        let A = nest a b in
        let B = nest m n in
        let one = beneath d A B x y (ap (λ (l : List ℕ). drop 13 l) (titles d A B x y e)) in
        let b-text = text_at c q (d + 1) b in
        let n-text = text_at c q (d + 1) n in
        let two = plan-split a m (d + 1) (b-text ++ x) (n-text ++ y) h.0 g.0 (inner-shallow d b x) (inner-shallow d n y)
        (sym (append_assoc (text_at c q (d + 1) a) b-text x) ∙ one ∙ append_assoc (text_at c q (d + 1) m) n-text y) in
        let three = plan-split b n (d + 1) x y h.1 g.1 (shallow-more d x sx) (shallow-more d y sy) two.1 in
        (ap₂ nest two.0 three.0, three.1)
    plan-split (merge ks a b) (merge ls m n) d x y h g sx sy e =
        let A = merge ks a b in
        let B = merge ls m n in
        let keys = keys-split c q lawful bound (union (set_of a) (set_of b)) (union (set_of m) (set_of n)) ks ls (drop 2 (rest_of d A x)) (drop 2 (rest_of d B y)) h.0 g.0 h.1 g.1
        (ap (λ (l : List ℕ). drop 14 l) (titles d A B x y e)) in
        let one = beneath d A B x y keys.1 in
        let b-text = text_at c q (d + 1) b in
        let n-text = text_at c q (d + 1) n in
        let two = plan-split a m (d + 1) (b-text ++ x) (n-text ++ y) h.2 g.2 (inner-shallow d b x) (inner-shallow d n y)
        (sym (append_assoc (text_at c q (d + 1) a) b-text x) ∙ one ∙ append_assoc (text_at c q (d + 1) m) n-text y) in
        let three = plan-split b n (d + 1) x y h.3 g.3 (shallow-more d x sx) (shallow-more d y sy) two.1 in
        (λ t. merge (keys.0 t) (two.0 t) (three.0 t), three.1)
    plan-split (seq r) b d x y h g sx sy e = let k = kinds d (seq r) b x y e in absurd (omega (arith, k))
    plan-split (index r i m p) b d x y h g sx sy e = let k = kinds d (index r i m p) b x y e in absurd (omega (arith, k))
    plan-split (index_only r i m p) b d x y h g sx sy e = let k = kinds d (index_only r i m p) b x y e in absurd (omega (arith, k))
    plan-split (bitmap r p bits) b d x y h g sx sy e = let k = kinds d (bitmap r p bits) b x y e in absurd (omega (arith, k))
    plan-split (sort ks input) b d x y h g sx sy e = let k = kinds d (sort ks input) b x y e in absurd (omega (arith, k))
    plan-split (nest m n) b d x y h g sx sy e = let k = kinds d (nest m n) b x y e in absurd (omega (arith, k))
    plan-split (merge ks m n) b d x y h g sx sy e = let k = kinds d (merge ks m n) b x y e in absurd (omega (arith, k))

    -- the plans that are shown are such
    abbrev SortTells : Plan → Type 0
    SortTells (sort keys input) = (0 < length keys) × AreShownKeys q (set_of input) keys
    SortTells _ = Unit {0}

    plain-tells : (p : Plan) → is_sort p ≡ false → SortTells p
    plain-tells (seq r) h = tt
    plain-tells (index r i backward p) h = tt
    plain-tells (index_only r i backward p) h = tt
    plain-tells (bitmap r p bits) h = tt
    plain-tells (sort keys input) h = absurd (true≢false h)
    plain-tells (nest outer inner) h = tt
    plain-tells (merge keys outer inner) h = tt

    side-tells : (p : Plan) (keys : Keys) → HasKeys c q p keys → 0 < length keys → AreShownKeys q (set_of p) keys → SortTells p
    side-tells (seq r) keys h some k = tt
    side-tells (index r i backward p) keys h some k = tt
    side-tells (index_only r i backward p) keys h some k = tt
    side-tells (bitmap r p bits) keys h some k = tt
    side-tells (sort ks input) keys h some k = subst (λ (l : Keys). (0 < length l) × AreShownKeys q (set_of input) l) (sym h) (some, k)
    side-tells (nest outer inner) keys h some k = tt
    side-tells (merge ks outer inner) keys h some k = tt

    shown-keys : (a : Set) (keys : Keys) → ((n : ℕ) → IsIn n keys → n < length q.classes.classes) → AreKeys q.classes a keys → AreShownKeys q a keys
    shown-keys a [] low h = tt
    shown-keys a (n ∷ ns) low h = (record { low = low n (inl refl); member = h.0.member; first = h.0.first }, shown-keys a ns (λ m i. low m (inr i)) h.1)

    built-tells : (p : Plan) → IsBuilt c q p → SortTells p → Tells p
    built-tells (seq r) h k = h
    built-tells (index r i backward p) h k = (h.relation, h.index.made, index-param c q bound r i backward p h)
    built-tells (index_only r i backward p) h k = (h.scan.relation, h.scan.index.made, index-param c q bound r i backward p h.scan)
    built-tells (bitmap r p bits) h k = (h.relation, bitmap-param c q bound r p bits h, tree-told c q bound r.0 (has p.0) bits h.tree (built-costable c q (bitmap r p bits) h).1)
    built-tells (sort keys input) h k = (k.0, k.1, built-tells input h.0 (plain-tells input h.1))
    built-tells (nest outer inner) h k = (built-tells outer h.0 (plain-tells outer h.2.outer_plain), built-tells inner h.1 (plain-tells inner h.2.inner_plain))
    built-tells (merge keys outer inner) h k =
        let a = set_of outer in
        let b = set_of inner in
        let list = h.2.list in
        let some : 0 < length keys = list.some in
        let all = joining_classes a b q.classes.classes keys list.joining in
        let low : (n : ℕ) → IsIn n keys → n < length q.classes.classes = all_at (λ m. m < length q.classes.classes) keys all in
        let both = list_keys q.classes a b keys list.joining in
        let whole = wider q.classes a (union a b) (λ j in_a. ap (λ (v : Bool). v || b j) in_a) keys both.0 in (
          some,
          shown-keys (union a b) keys low whole,
          built-tells outer h.0 (side-tells outer keys h.2.outer_keys some (shown-keys a keys low both.0)),
          built-tells inner h.1 (side-tells inner keys h.2.inner_keys some (shown-keys b keys low both.1)),
        )

    top-tells : (p : Plan) → IsSameSet (set_of p) (all_of_query q) → MeetsOrder c q p (order_keys q.classes q.order) → SortTells p
    top-tells (seq r) all h = tt
    top-tells (index r i backward p) all h = tt
    top-tells (index_only r i backward p) all h = tt
    top-tells (bitmap r p bits) all h = tt
    top-tells (sort keys input) all h =
        let whole : all_of_query q ≡ set_of input = (λ i k. sym (all k) i) in
        let some : 0 < length (order_keys q.classes q.order) = from-test (length (order_keys q.classes q.order)) h.1 in
        subst (λ (l : Keys). (0 < length l) × AreShownKeys q (set_of input) l) (sym h.0)
        (some, subst (λ (s : Set). AreShownKeys q s (order_keys q.classes q.order)) whole (order-shown c q lawful bound))
      where
        from-test : (n : ℕ) → nat_lt 0 n ≡ true → 0 < n
        from-test n e = grind (arith, nat_tests, e)
    top-tells (nest outer inner) all h = tt
    top-tells (merge keys outer inner) all h = tt

    shown-tells : (p : Plan) → IsShown c q p → Tells p
    shown-tells p (inl of) = built-tells p of.built (plain-tells p of.plain)
    shown-tells p (inr done) = built-tells p done.built (top-tells p done.set_is done.ordered)

    -- plans of one text are one
    pub text-tells : (a b : Plan) → IsShown c q a → IsShown c q b → plan_text c q a ≡ plan_text c q b → a ≡ b
    text-tells a b h g e =
        let d = first_depth q.window in
        (plan-split a b d [] [] (shown-tells a h) (shown-tells b g) (shallow-end d) (shallow-end d) (ap (λ (l : List ℕ). l ++ []) e)).0

    -- plans of which the same is printed are one: the line of LIMIT and OFFSET tells at most their prices apart
    pub printed-tells : (a b : Plan) → IsShown c q a → IsShown c q b → explained_text c q a ≡ explained_text c q b → a ≡ b
    printed-tells a b h g e = text-tells a b h g (behind-line q.window a b (plan_text c q a) (plan_text c q b) e)

    -- what is printed of a plan tells it also where more stands behind that begins no line of a plan
    pub printed-split : (a b : Plan) (x y : List ℕ) → IsShown c q a → IsShown c q b → IsShallow (first_depth q.window) x → IsShallow (first_depth q.window) y → explained_text c q a ++ x ≡ explained_text c q b ++ y → (a ≡ b) × (x ≡ y)
    printed-split a b x y h g sx sy e =
        let A = line_by c q q.window a in
        let B = line_by c q q.window b in
        let behind = behind-line q.window a b (plan_text c q a ++ x) (plan_text c q b ++ y) (sym (append_assoc A (plan_text c q a) x) ∙ e ∙ append_assoc B (plan_text c q b) y) in
        plan-split a b (first_depth q.window) x y (shown-tells a h) (shown-tells b g) sx sy behind
