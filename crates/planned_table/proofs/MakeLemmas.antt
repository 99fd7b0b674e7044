-- Entries for the paths of a list.
use Prim.Native.Nat.{suc, zero}
use Rattle.std.proofs.Common.{◌≡◌, ◌<◌, ℕ, ◌+◌, Bool, true, false, not, cond, List, [], ◌∷◌, ◌++◌, get_or, length, map, take, refl, sym, ◌∙◌, ap, ap₂, subst, subst₂, arith, Bor, append_assoc}
use Rattle.std.specs.Prelude.{All, Option, Some, option_map}
use Rattle.std.proofs.lemmas.List.{append-nil, get_or-map, length-map, map_push, take_more}
use Rattle.pg_base.specs.declared.numbers.RelNo.{RelNo}
use Rattle.pg_base.specs.declared.rel_set.RelSet.{RelSet}
use Rattle.pathkeys.specs.Keys.{Keys, covers, order_keys}
use Rattle.catalog.specs.Contents.{Contents}
use Rattle.sql_query.specs.Queries.{Query, width}
use Rattle.plan_tree.specs.Keys.{keys_of}
use Rattle.plan_tree.specs.work.Paths.{Path}
use Rattle.plan_tree.specs.Plans.{Plan, merge, sort}
use Rattle.plan_tree.specs.work.Reads.{ReadsBelow}
use Rattle.plan_tree.specs.work.Views.{path, plan}
use Rattle.plan_tree.specs.declared.path.Path.{Path as Costed}
use Rattle.plan_tree.proofs.FrontLemmas.{contains-mapped}
use Rattle.std.proofs.lemmas.List.Elements.{All-contains}
use Rattle.certificate_laws.specs.planner_Finishing.{finished}
use Rattle.plan_check.specs.Certificates.{Certificate, Entry, Side, finish_at, join_by, plan_at, plans_of, side_at, sorted_if}
use Rattle.plan_check.specs.work.Views.{entry}
use Rattle.plan_check.specs.declared.entry.Entry.{Entry as Entered}
use Rattle.certificate_laws.specs.work.Kept.{AreEntriesOf, AreOf, IsEntryOf}
use Rattle.certificate_laws.proofs.KeptLemmas.{unfolded-are}
use Rattle.certificate_laws.specs.work.Made.{AreMadeInTurn, IsMadeAmong, IsSideAmong, tree_of}
use Rattle.planned_table.specs.work.Gathering.{shown}
use Rattle.planned_table.specs.work.Numbering.{present, trees}

abbrev pub one : Bor Costed → Path
one x = path x.now

abbrev pub tree_there : Path → Option Plan
tree_there x = Some x.tree

-- one entry more
pub entries-push : (w : ℕ) (before : List (Option Plan)) (es : List Entry) (xs : List Path) (e : Entry) (x : Path) → AreEntriesOf w before es xs → IsEntryOf w (before ++ map tree_there xs) e x → AreEntriesOf w before (es ++ e ∷ []) (xs ++ x ∷ [])
entries-push w before [] [] e x h g = (subst (λ (b : List (Option Plan)). IsEntryOf w b e x) (append-nil before) g, tt)
entries-push w before [] (y ∷ ys) e x h g = absurd h
entries-push w before (o ∷ es) [] e x h g = absurd h
entries-push w before (o ∷ es) (y ∷ ys) e x h g =
    (h.0, entries-push w (before ++ Some y.tree ∷ []) es ys e x h.1 (subst (λ (b : List (Option Plan)). IsEntryOf w b e x) (sym (append_assoc before (Some y.tree ∷ []) (map tree_there ys))) g))

-- the plans of the first paths
pub present-are : (xs : List (Bor Costed)) (n : ℕ) → present (take n (trees xs)) ≡ map tree_there (shown (take n xs))
present-are [] zero = refl
present-are [] (suc n) = refl
present-are (x ∷ xs) zero = refl
present-are (x ∷ xs) (suc n) = ap (λ (l : List (Option Plan)). Some (plan x.now.plan) ∷ l) (present-are xs n)

pub trees-are : (xs : List (Bor Costed)) → trees xs ≡ map tree_of (shown xs)
trees-are [] = refl
trees-are (x ∷ xs) = ap (λ (l : List Plan). plan x.now.plan ∷ l) (trees-are xs)

take-shown : (xs : List (Bor Costed)) (n : ℕ) → map tree_of (take n (shown xs)) ≡ take n (trees xs)
take-shown [] zero = refl
take-shown [] (suc n) = refl
take-shown (x ∷ xs) zero = refl
take-shown (x ∷ xs) (suc n) = ap (λ (l : List Plan). plan x.now.plan ∷ l) (take-shown xs n)

-- the path at a place is made of those before it
pub made-at : (w : ℕ) (xs : List (Bor Costed)) → AreMadeInTurn w (shown xs) → (n : ℕ) (x : Bor Costed) → n < length xs → x ≡ get_or xs n x → IsMadeAmong w (take n (trees xs)) (one x) (one x).tree
made-at w xs made n x lt e =
    let long = length-map xs one in
    let at : get_or (shown xs) n (one x) ≡ one x = get_or-map one xs n x (one x) lt ∙ ap one (sym e) in
    subst (λ (ts : List Plan). IsMadeAmong w ts (one x) (one x).tree) (take-shown xs n)
    (subst (λ (y : Path). IsMadeAmong w (map tree_of (take n (shown xs))) y y.tree) at (made n (one x) (omega (arith, long, lt))))

-- what an entry of a scan stands for
pub scan-plan : (f : RelSet → RelNo → Plan) (o : Option RelNo) (r : RelNo) (p q : RelSet) → o ≡ Some r → p ≡ q → option_map (f q) o ≡ Some (f p r)
scan-plan f o r p q e same = ap (option_map (f q)) e ∙ ap (λ (s : RelSet). Some (f s r)) (sym same)

-- the plans of a certificate's entries
pub plans-are : (q : Query) (t : Certificate) (xs : List (Bor Costed)) → AreOf q t (shown xs) → plans_of q t ≡ present (trees xs)
plans-are q t xs of = unfolded-are (width q) [] t.entries (shown xs) of ∙ all xs
  where
    all : (ys : List (Bor Costed)) → map tree_there (shown ys) ≡ present (trees ys)
    all [] = refl
    all (y ∷ ys) = ap (λ (l : List (Option Plan)). Some (plan y.now.plan) ∷ l) (all ys)

-- the best plan is that of its entry in the order asked for
by-order : (c : Contents) (q : Query) (t : Plan) (b : Bool) → covers (keys_of c q t) (order_keys q.classes q.order) ≡ b → sorted_if (not b) (order_keys q.classes q.order) t ≡ finished c q t
by-order c q t true e = sym (ap (λ (v : Bool). cond v t (sort (order_keys q.classes q.order) t)) e)
by-order c q t false e = sym (ap (λ (v : Bool). cond v t (sort (order_keys q.classes q.order) t)) e)

pub best-unfolds : (c : Contents) (q : Query) (t : Certificate) (xs : List (Bor Costed)) (x : Path) → AreOf q t (shown xs) → x.keys ≡ keys_of c q x.tree → t.best.sorted ≡ not (covers x.keys (order_keys q.classes q.order)) →
    plan_at (present (trees xs)) t.best.entry ≡ Some x.tree → finish_at q t t.best ≡ Some (finished c q x.tree)
best-unfolds c q t xs x of keys sorted at =
    let order = order_keys q.classes q.order in
    ap (λ (ps : List (Option Plan)). option_map (sorted_if t.best.sorted order) (plan_at ps t.best.entry)) (plans-are q t xs of)
    ∙ ap (option_map (sorted_if t.best.sorted order)) at
    ∙ ap (λ (b : Bool). Some (sorted_if b order x.tree)) (sorted ∙ ap (λ (ks : Keys). not (covers ks order)) keys)
    ∙ ap (λ (p : Plan). Some p) (by-order c q x.tree (covers (keys_of c q x.tree) order) refl)

-- a merge of two sides
pub merge-plan : (ts : List Plan) (made keys : Keys) (a b : Side) (o i : Plan) → made ≡ keys → ((by' : Keys) → IsSideAmong ts by' o → side_at (present ts) by' a ≡ Some o) → ((by' : Keys) → IsSideAmong ts by' i → side_at (present ts) by' b ≡ Some i) →
    IsSideAmong ts keys o → IsSideAmong ts keys i → join_by (merge made) (side_at (present ts) made a) (side_at (present ts) made b) ≡ Some (merge keys o i)
merge-plan ts made keys a b o i e first second h g =
    ap₂ (join_by (merge made)) (first made (subst (λ (ks : Keys). IsSideAmong ts ks o) (sym e) h)) (second made (subst (λ (ks : Keys). IsSideAmong ts ks i) (sym e) g))
    ∙ ap (λ (ks : Keys). Some (merge ks o i)) e

pub below-at : (xs : List (Bor Costed)) → All (ReadsBelow 16) (trees xs) → (n : ℕ) (x : Bor Costed) → n < length xs → x ≡ get_or xs n x → ReadsBelow 16 (plan x.now.plan)
below-at xs h n x lt e = All-contains (ReadsBelow 16) (trees xs) (plan x.now.plan) h (contains-mapped (λ (y : Bor Costed). plan y.now.plan) xs x (n, lt, sym e))

pub entries-more : (w : ℕ) (xs : List (Bor Costed)) (n : ℕ) (x : Bor Costed) → n < length xs → x ≡ get_or xs n x → (es new : List Entered) (e : Entered) → new ≡ es ++ e ∷ [] → AreEntriesOf w [] (map entry es) (shown (take n xs)) →
    IsEntryOf w (present (take n (trees xs))) (entry e) (one x) → AreEntriesOf w [] (map entry new) (shown (take (n + 1) xs))
entries-more w xs n x lt is es new e added before this =
    let entries : map entry new ≡ map entry es ++ entry e ∷ [] = ap (map entry) added ∙ map_push entry es e in
    let first : take (n + 1) xs ≡ take n xs ++ x ∷ [] = take_more xs n x lt ∙ ap (λ (y : Bor Costed). take n xs ++ y ∷ []) (sym is) in
    let paths : shown (take (n + 1) xs) ≡ shown (take n xs) ++ one x ∷ [] = ap shown first ∙ map_push one (take n xs) x in
    subst₂ (AreEntriesOf w []) (sym entries) (sym paths)
    (entries-push w [] (map entry es) (shown (take n xs)) (entry e) (one x) before (subst (λ (b : List (Option Plan)). IsEntryOf w b (entry e) (one x)) (present-are xs n) this))

entries-long : (w : ℕ) (before : List (Option Plan)) (es : List Entry) (xs : List Path) → AreEntriesOf w before es xs → length es ≡ length xs
entries-long w before [] [] h = refl
entries-long w before [] (x ∷ xs) h = absurd h
entries-long w before (e ∷ es) [] h = absurd h
entries-long w before (e ∷ es) (x ∷ xs) h = ap suc (entries-long w (before ++ Some x.tree ∷ []) es xs h.1)

pub as-many : (w : ℕ) (xs : List (Bor Costed)) (es : List Entered) → AreEntriesOf w [] (map entry es) (shown xs) → length es ≡ length xs
as-many w xs es h = sym (length-map es entry) ∙ entries-long w [] (map entry es) (shown xs) h ∙ length-map xs one
