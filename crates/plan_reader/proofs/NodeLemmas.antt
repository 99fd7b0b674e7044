-- What a plan of a kind is, and nodes read with what stands beneath them.
use Rattle.std.proofs.Common.{◌≡◌, ◌≤◌, ◌<◌, ◌+◌, ℕ, Bool, List, [], ◌∷◌, ◌++◌, length, take, drop, refl, sym, ap, ◌∙◌, subst, append_assoc, arith}
use Rattle.std.specs.Prelude.{All, Option, Some, None, IfSome, IsSomeAnd}
use Rattle.std.proofs.lemmas.List.{append-nil, length-drop, length-take-le, take-append-drop}
use Rattle.std.proofs.lemmas.List.Elements.{All-drop, All-head, All-tail, All-take}
use Rattle.std.proofs.lemmas.Option.{none-some, same_Some}
use Rattle.pg_base.specs.declared.numbers.IndexNo.{IndexNo}
use Rattle.pg_base.specs.declared.numbers.RelNo.{RelNo}
use Rattle.pg_base.specs.declared.rel_set.RelSet.{RelSet}
use Rattle.catalog.specs.Contents.{Contents}
use Rattle.eq_classes.specs.Clauses.{Set}
use Rattle.eq_classes.specs.Parts.{union}
use Rattle.pathkeys.specs.Keys.{Keys}
use Rattle.sql_query.specs.Queries.{Query, width}
use Rattle.plan_tree.specs.Plans.{Plan, seq, index, index_only, bitmap, sort, nest, merge, BitTree, set_of}
use Rattle.plan_lines.specs.explain_Texts.{bits_text, figures_text, keys_text, lead, rel_text, scanned_text, title}
use Rattle.std.specs.Fmt.{decimal}
use Rattle.plan_lines.specs.certificate_text_HasText.{HasKeysText}
use Rattle.plan_space.specs.Numbered.{CostAndRows, nodes}
use Rattle.plan_lines.specs.work.Parts.{IsShallow}
use Rattle.plan_lines.specs.declared.kinds.Kind.{Kind}
use Rattle.plan_lines.specs.declared.kinds.Kind.TheVariants as kinds
use Rattle.plan_lines.specs.HasText.{HasBits, IsScanned, IsText}
use Rattle.plan_lines.specs.work.TitleKinds.{behind_words, kind_of}
use Rattle.plan_lines.specs.work.Scans.{IsIndexScan, indexed_text}
use Rattle.plan_lines.specs.declared.indexes.IndexScan.{IndexScan}
use Rattle.plan_lines.specs.Stands.{Stands}
use Rattle.plan_lines.proofs.LineLemmas.{line-shallow, shallow-more}
use Rattle.plan_reader.specs.work.Beneath.{AreRead, IsLineOf, IsRead}
use Rattle.plan_reader.specs.Written.{Fits, StandsAt, first_pair, later_pairs, line_with, written_at, written_beneath}
use Rattle.plan_reader.specs.declared.lines.NodeLine.{NodeLine}

-- a number for each kind
code : Kind → ℕ
code kinds.Seq = 0
code kinds.Index = 1
code kinds.IndexOnly = 2
code kinds.Bitmap = 3
code kinds.Sort = 4
code kinds.Nest = 5
code kinds.Merge = 6

pub at-seq : (P : Plan → Type 0) → ((r : RelNo) → P (seq r)) → (x : Plan) → kind_of x ≡ kinds.Seq → P x
unfolding code
at-seq P h (seq r) e = h r
at-seq P h (index r i b p) e = let bad : 1 ≡ 0 = ap code e in absurd (omega (arith, bad))
at-seq P h (index_only r i b p) e = let bad : 2 ≡ 0 = ap code e in absurd (omega (arith, bad))
at-seq P h (bitmap r p t) e = let bad : 3 ≡ 0 = ap code e in absurd (omega (arith, bad))
at-seq P h (sort k x) e = let bad : 4 ≡ 0 = ap code e in absurd (omega (arith, bad))
at-seq P h (nest x y) e = let bad : 5 ≡ 0 = ap code e in absurd (omega (arith, bad))
at-seq P h (merge k x y) e = let bad : 6 ≡ 0 = ap code e in absurd (omega (arith, bad))

pub at-index : (P : Plan → Type 0) → ((r : RelNo) (i : IndexNo) (b : Bool) (p : RelSet) → P (index r i b p)) → (x : Plan) → kind_of x ≡ kinds.Index → P x
unfolding code
at-index P h (seq r) e = let bad : 0 ≡ 1 = ap code e in absurd (omega (arith, bad))
at-index P h (index r i b p) e = h r i b p
at-index P h (index_only r i b p) e = let bad : 2 ≡ 1 = ap code e in absurd (omega (arith, bad))
at-index P h (bitmap r p t) e = let bad : 3 ≡ 1 = ap code e in absurd (omega (arith, bad))
at-index P h (sort k x) e = let bad : 4 ≡ 1 = ap code e in absurd (omega (arith, bad))
at-index P h (nest x y) e = let bad : 5 ≡ 1 = ap code e in absurd (omega (arith, bad))
at-index P h (merge k x y) e = let bad : 6 ≡ 1 = ap code e in absurd (omega (arith, bad))

pub at-index-only : (P : Plan → Type 0) → ((r : RelNo) (i : IndexNo) (b : Bool) (p : RelSet) → P (index_only r i b p)) → (x : Plan) → kind_of x ≡ kinds.IndexOnly → P x
unfolding code
at-index-only P h (seq r) e = let bad : 0 ≡ 2 = ap code e in absurd (omega (arith, bad))
at-index-only P h (index r i b p) e = let bad : 1 ≡ 2 = ap code e in absurd (omega (arith, bad))
at-index-only P h (index_only r i b p) e = h r i b p
at-index-only P h (bitmap r p t) e = let bad : 3 ≡ 2 = ap code e in absurd (omega (arith, bad))
at-index-only P h (sort k x) e = let bad : 4 ≡ 2 = ap code e in absurd (omega (arith, bad))
at-index-only P h (nest x y) e = let bad : 5 ≡ 2 = ap code e in absurd (omega (arith, bad))
at-index-only P h (merge k x y) e = let bad : 6 ≡ 2 = ap code e in absurd (omega (arith, bad))

pub at-bitmap : (P : Plan → Type 0) → ((r : RelNo) (p : RelSet) (t : BitTree) → P (bitmap r p t)) → (x : Plan) → kind_of x ≡ kinds.Bitmap → P x
unfolding code
at-bitmap P h (seq r) e = let bad : 0 ≡ 3 = ap code e in absurd (omega (arith, bad))
at-bitmap P h (index r i b p) e = let bad : 1 ≡ 3 = ap code e in absurd (omega (arith, bad))
at-bitmap P h (index_only r i b p) e = let bad : 2 ≡ 3 = ap code e in absurd (omega (arith, bad))
at-bitmap P h (bitmap r p t) e = h r p t
at-bitmap P h (sort k x) e = let bad : 4 ≡ 3 = ap code e in absurd (omega (arith, bad))
at-bitmap P h (nest x y) e = let bad : 5 ≡ 3 = ap code e in absurd (omega (arith, bad))
at-bitmap P h (merge k x y) e = let bad : 6 ≡ 3 = ap code e in absurd (omega (arith, bad))

pub at-sort : (P : Plan → Type 0) → ((k : Keys) (x : Plan) → P (sort k x)) → (x : Plan) → kind_of x ≡ kinds.Sort → P x
unfolding code
at-sort P h (seq r) e = let bad : 0 ≡ 4 = ap code e in absurd (omega (arith, bad))
at-sort P h (index r i b p) e = let bad : 1 ≡ 4 = ap code e in absurd (omega (arith, bad))
at-sort P h (index_only r i b p) e = let bad : 2 ≡ 4 = ap code e in absurd (omega (arith, bad))
at-sort P h (bitmap r p t) e = let bad : 3 ≡ 4 = ap code e in absurd (omega (arith, bad))
at-sort P h (sort k x) e = h k x
at-sort P h (nest x y) e = let bad : 5 ≡ 4 = ap code e in absurd (omega (arith, bad))
at-sort P h (merge k x y) e = let bad : 6 ≡ 4 = ap code e in absurd (omega (arith, bad))

pub at-nest : (P : Plan → Type 0) → ((x y : Plan) → P (nest x y)) → (x : Plan) → kind_of x ≡ kinds.Nest → P x
unfolding code
at-nest P h (seq r) e = let bad : 0 ≡ 5 = ap code e in absurd (omega (arith, bad))
at-nest P h (index r i b p) e = let bad : 1 ≡ 5 = ap code e in absurd (omega (arith, bad))
at-nest P h (index_only r i b p) e = let bad : 2 ≡ 5 = ap code e in absurd (omega (arith, bad))
at-nest P h (bitmap r p t) e = let bad : 3 ≡ 5 = ap code e in absurd (omega (arith, bad))
at-nest P h (sort k x) e = let bad : 4 ≡ 5 = ap code e in absurd (omega (arith, bad))
at-nest P h (nest x y) e = h x y
at-nest P h (merge k x y) e = let bad : 6 ≡ 5 = ap code e in absurd (omega (arith, bad))

pub at-merge : (P : Plan → Type 0) → ((k : Keys) (x y : Plan) → P (merge k x y)) → (x : Plan) → kind_of x ≡ kinds.Merge → P x
unfolding code
at-merge P h (seq r) e = let bad : 0 ≡ 6 = ap code e in absurd (omega (arith, bad))
at-merge P h (index r i b p) e = let bad : 1 ≡ 6 = ap code e in absurd (omega (arith, bad))
at-merge P h (index_only r i b p) e = let bad : 2 ≡ 6 = ap code e in absurd (omega (arith, bad))
at-merge P h (bitmap r p t) e = let bad : 3 ≡ 6 = ap code e in absurd (omega (arith, bad))
at-merge P h (sort k x) e = let bad : 4 ≡ 6 = ap code e in absurd (omega (arith, bad))
at-merge P h (nest x y) e = let bad : 5 ≡ 6 = ap code e in absurd (omega (arith, bad))
at-merge P h (merge k x y) e = h k x y

-- each plan has a node
pub nodes-some : (p : Plan) → 1 ≤ nodes p
nodes-some (seq r) = omega arith
nodes-some (index r i b p) = omega arith
nodes-some (index_only r i b p) = omega arith
nodes-some (bitmap r p t) = omega arith
nodes-some (sort k x) = omega arith
nodes-some (nest x y) = omega arith
nodes-some (merge k x y) = omega arith

-- the first line of a plan stands no deeper than the greatest depth
pub stands-low : (d : ℕ) (p : Plan) → StandsAt d p → d ≤ 64
stands-low d (seq r) h = h
stands-low d (index r i b p) h = h
stands-low d (index_only r i b p) h = h
stands-low d (bitmap r p t) h = h.0
stands-low d (sort k x) h = h.0
stands-low d (nest x y) h = h.0
stands-low d (merge k x y) h = h.0

no-pairs : (ns : List CostAndRows) → length ns + 1 ≡ 1 → ns ≡ []
no-pairs [] h = refl
no-pairs (n ∷ ns) h = absurd (omega (arith, h))

module _ (c : Contents) (q : Query) where
  -- behind the first line of a plan
  abbrev pub IsBeneath : ℕ → List ℕ → List ℕ → List ℕ → List CostAndRows → List CostAndRows → Option Plan → Plan → Type 0
  IsBeneath d behind old new before after o p = (ns : List CostAndRows) (rest : List ℕ) → behind ≡ behind_words c q p → IsText c q p → StandsAt d p →
      length ns + 1 ≡ nodes p → All Fits ns → IsShallow d rest → old ≡ written_beneath c q d p ns ++ rest → (o ≡ Some p) × (after ≡ before ++ ns) × (new ≡ rest)

  abbrev pub AreBeneath : ℕ → Kind → List ℕ → List ℕ → List ℕ → List CostAndRows → List CostAndRows → Option Plan → Type 0
  AreBeneath d kind behind old new before after o = (p : Plan) → kind_of p ≡ kind → IsBeneath d behind old new before after o p

  abbrev pub IsFirst : ℕ → List ℕ → List ℕ → Option NodeLine → Type 0
  IsFirst d old mid res = (p : Plan) (n : CostAndRows) (rest : List ℕ) → IsText c q p → Fits n → old ≡ line_with c q d p n ++ rest → IsSomeAnd res (λ l. IsLineOf l (kind_of p) (behind_words c q p) n) × (mid ≡ rest)

  first-parts : (d : ℕ) (old mid : List ℕ) (res : Option NodeLine) (p : Plan) (n : CostAndRows) (ns : List CostAndRows) (rest : List ℕ) → IsFirst d old mid res → IsText c q p → All Fits (n ∷ ns) → old ≡ written_at c q d p (n ∷ ns) ++ rest →
      IsSomeAnd res (λ l. IsLineOf l (kind_of p) (behind_words c q p) n) × (mid ≡ written_beneath c q d p ns ++ rest)
  first-parts d old mid res p n ns rest first text fits e =
      first p n (written_beneath c q d p ns ++ rest) text (All-head Fits n ns fits) (e ∙ append_assoc (line_with c q d p n) (written_beneath c q d p ns) rest)

  -- no first line comes next
  pub no-first : (d : ℕ) (old mid : List ℕ) (before after : List CostAndRows) (res : Option NodeLine) → IsFirst d old mid res → res ≡ None → IsRead c q d old mid before after None
  no-first d old mid before after res first none p [] rest text stands count fits shallow e = let some = nodes-some p in absurd (omega (arith, some, count))
  no-first d old mid before after res first none p (n ∷ ns) rest text stands count fits shallow e =
      absurd (subst (λ (o : Option NodeLine). IsSomeAnd o (λ l. IsLineOf l (kind_of p) (behind_words c q p) n)) none (first-parts d old mid res p n ns rest first text fits e).0)

  -- a node stands too deep
  pub too-deep : (d : ℕ) (old new : List ℕ) (before after : List CostAndRows) → 64 < d → IsRead c q d old new before after None
  too-deep d old new before after deep p ns rest text stands count fits shallow e = let low = stands-low d p stands in absurd (omega (arith, low, deep))

  -- a first line, and what stands beneath it
  pub node-read : (d : ℕ) (old mid new : List ℕ) (before middle after : List CostAndRows) (res : Option NodeLine) (l : NodeLine) (o : Option Plan) → IsFirst d old mid res → res ≡ Some l → middle ≡ before ++ l.numbers ∷ [] →
      AreBeneath d l.kind l.behind.now mid new middle after o → IsRead c q d old new before after o
  node-read d old mid new before middle after res l o first found is beneath p [] rest text stands count fits shallow e = let some = nodes-some p in absurd (omega (arith, some, count))
  node-read d old mid new before middle after res l o first found is beneath p (n ∷ ns) rest text stands count fits shallow e =
      let f = first-parts d old mid res p n ns rest first text fits e in
      let line : IsLineOf l (kind_of p) (behind_words c q p) n = subst (λ (x : Option NodeLine). IsSomeAnd x (λ y. IsLineOf y (kind_of p) (behind_words c q p) n)) found f.0 in
      let r = beneath p (sym line.0) ns rest line.1 text stands (let k = count in omega (arith, k)) (All-tail Fits n ns fits) shallow f.1 in
      (r.0, r.1 ∙ (ap (λ (m : List CostAndRows). m ++ ns) is ∙ (append_assoc before (l.numbers ∷ []) ns ∙ ap (λ (x : CostAndRows). before ++ x ∷ ns) line.2)), r.2)

  -- what is read beneath the first lines of plans of each kind
  pub seq-beneath : (d : ℕ) (kind : Kind) (behind at : List ℕ) (numbers : List CostAndRows) (o : Option Plan) → kind ≡ kinds.Seq → ((r : RelNo) → r.0 < width q → behind ≡ rel_text c q r → o ≡ Some (seq r)) →
      AreBeneath d kind behind at at numbers numbers o
  seq-beneath d kind behind at numbers o is reads p k =
      at-seq (IsBeneath d behind at at numbers numbers o) (λ r ns rest b text stands count fits shallow e. (reads r text b, sym (ap (λ (l : List CostAndRows). numbers ++ l) (no-pairs ns count) ∙ append-nil numbers), e)) p (k ∙ is)

  pub index-beneath : (d : ℕ) (kind : Kind) (behind at : List ℕ) (numbers : List CostAndRows) (o : Option Plan) → kind ≡ kinds.Index →
      ((s : IndexScan) → IsIndexScan c q s → behind ≡ indexed_text c q s → o ≡ Some (index s.rel s.index s.backward s.param)) → AreBeneath d kind behind at at numbers numbers o
  index-beneath d kind behind at numbers o is reads p k =
      at-index (IsBeneath d behind at at numbers numbers o)
      (λ r i b s ns rest w text stands count fits shallow e. (reads (record { rel = r; index = i; backward = b; param = s }) text w, sym (ap (λ (l : List CostAndRows). numbers ++ l) (no-pairs ns count) ∙ append-nil numbers), e)) p (k ∙ is)

  pub index-only-beneath : (d : ℕ) (kind : Kind) (behind at : List ℕ) (numbers : List CostAndRows) (o : Option Plan) → kind ≡ kinds.IndexOnly →
      ((s : IndexScan) → IsIndexScan c q s → behind ≡ indexed_text c q s → o ≡ Some (index_only s.rel s.index s.backward s.param)) → AreBeneath d kind behind at at numbers numbers o
  index-only-beneath d kind behind at numbers o is reads p k =
      at-index-only (IsBeneath d behind at at numbers numbers o)
      (λ r i b s ns rest w text stands count fits shallow e. (reads (record { rel = r; index = i; backward = b; param = s }) text w, sym (ap (λ (l : List CostAndRows). numbers ++ l) (no-pairs ns count) ∙ append-nil numbers), e)) p (k ∙ is)

  pub bitmap-beneath : (d : ℕ) (kind : Kind) (behind at new : List ℕ) (numbers : List CostAndRows) (o : Option Plan) → kind ≡ kinds.Bitmap →
      ((r : RelNo) (p : RelSet) (b : BitTree) (rest : List ℕ) → IsScanned c q r p → HasBits c q b → Stands (d + 1) b → IsShallow (d + 1) rest → behind ≡ scanned_text c q r p → at ≡ bits_text c q (d + 1) b ++ rest →
      (o ≡ Some (bitmap r p b)) × (new ≡ rest)) → AreBeneath d kind behind at new numbers numbers o
  bitmap-beneath d kind behind at new numbers o is reads p k =
      at-bitmap (IsBeneath d behind at new numbers numbers o)
      (λ r s t ns rest w text stands count fits shallow e.
      let found = reads r s t rest text.0 text.1 stands.1 (shallow-more d rest shallow) w e in
      (found.0, sym (ap (λ (l : List CostAndRows). numbers ++ l) (no-pairs ns count) ∙ append-nil numbers), found.1)) p (k ∙ is)

  pub sort-beneath : (d : ℕ) (kind : Kind) (behind at new : List ℕ) (before after : List CostAndRows) (i : Option Plan) (input : Plan) (o : Option Plan) → kind ≡ kinds.Sort → IsRead c q (d + 1) at new before after i → i ≡ Some input →
      ((keys : Keys) → HasKeysText q (set_of input) keys → behind ≡ keys_text c q (set_of input) keys → o ≡ Some (sort keys input)) → AreBeneath d kind behind at new before after o
  sort-beneath d kind behind at new before after i input o is read found reads p k =
      at-sort (IsBeneath d behind at new before after o)
      (λ ks x ns rest w text stands count fits shallow e.
      let r = read x ns rest text.0 stands.1 (let n = count in omega (arith, n)) fits (shallow-more d rest shallow) e in
      let same : x ≡ input = same_Some x input (sym r.0 ∙ found) in
      let made : o ≡ Some (sort ks input) = reads ks (subst (λ (y : Plan). HasKeysText q (set_of y) ks) same text.1) (w ∙ ap (λ (y : Plan). keys_text c q (set_of y) ks) same) in
      (made ∙ ap (λ (y : Plan). Some (sort ks y)) (sym same), r.1, r.2)) p (k ∙ is)

  pub sort-none : (d : ℕ) (kind : Kind) (behind at new : List ℕ) (before after : List CostAndRows) (i : Option Plan) → kind ≡ kinds.Sort → IsRead c q (d + 1) at new before after i → i ≡ None →
      AreBeneath d kind behind at new before after None
  sort-none d kind behind at new before after i is read none p k =
      at-sort (IsBeneath d behind at new before after None)
      (λ ks x ns rest w text stands count fits shallow e.
      let r = read x ns rest text.0 stands.1 (let n = count in omega (arith, n)) fits (shallow-more d rest shallow) e in
      absurd (none-some x (sym none ∙ r.0))) p (k ∙ is)

  pub nest-beneath : (d : ℕ) (kind : Kind) (behind at new : List ℕ) (before after : List CostAndRows) (i : Option (Plan × Plan)) (outer inner : Plan) (o : Option Plan) → kind ≡ kinds.Nest → AreRead c q d at new before after i → i ≡ Some (outer, inner) →
      o ≡ Some (nest outer inner) → AreBeneath d kind behind at new before after o
  nest-beneath d kind behind at new before after i outer inner o is read found made p k =
      at-nest (IsBeneath d behind at new before after o)
      (λ x y ns rest w text stands count fits shallow e.
      let r = read x y ns rest text.0 text.1 stands.1 stands.2 (let n = count in omega (arith, n)) fits shallow e in
      let same : (x, y) ≡ (outer, inner) = same_Some {A = Plan × Plan} (x, y) (outer, inner) (sym r.0 ∙ found) in
      (made ∙ sym (ap (λ (s : Plan × Plan). Some (nest s.0 s.1)) same), r.1, r.2)) p (k ∙ is)

  pub nest-none : (d : ℕ) (kind : Kind) (behind at new : List ℕ) (before after : List CostAndRows) (i : Option (Plan × Plan)) → kind ≡ kinds.Nest → AreRead c q d at new before after i → i ≡ None → AreBeneath d kind behind at new before after None
  nest-none d kind behind at new before after i is read none p k =
      at-nest (IsBeneath d behind at new before after None)
      (λ x y ns rest w text stands count fits shallow e.
      let r = read x y ns rest text.0 text.1 stands.1 stands.2 (let n = count in omega (arith, n)) fits shallow e in
      absurd (none-some {A = Plan × Plan} (x, y) (sym none ∙ r.0))) p (k ∙ is)

  pub merge-beneath : (d : ℕ) (kind : Kind) (behind at new : List ℕ) (before after : List CostAndRows) (i : Option (Plan × Plan)) (outer inner : Plan) (o : Option Plan) → kind ≡ kinds.Merge → AreRead c q d at new before after i → i ≡ Some (outer, inner) →
      ((keys : Keys) → HasKeysText q (union (set_of outer) (set_of inner)) keys → behind ≡ keys_text c q (union (set_of outer) (set_of inner)) keys → o ≡ Some (merge keys outer inner)) → AreBeneath d kind behind at new before after o
  merge-beneath d kind behind at new before after i outer inner o is read found reads p k =
      at-merge (IsBeneath d behind at new before after o)
      (λ ks x y ns rest w text stands count fits shallow e.
      let r = read x y ns rest text.0 text.1 stands.1 stands.2 (let n = count in omega (arith, n)) fits shallow e in
      let same : (x, y) ≡ (outer, inner) = same_Some {A = Plan × Plan} (x, y) (outer, inner) (sym r.0 ∙ found) in
      let made : o ≡ Some (merge ks outer inner) =
      reads ks (subst (λ (s : Plan × Plan). HasKeysText q (union (set_of s.0) (set_of s.1)) ks) same text.2) (w ∙ ap (λ (s : Plan × Plan). keys_text c q (union (set_of s.0) (set_of s.1)) ks) same) in
      (made ∙ sym (ap (λ (s : Plan × Plan). Some (merge ks s.0 s.1)) same), r.1, r.2)) p (k ∙ is)

  pub merge-none : (d : ℕ) (kind : Kind) (behind at new : List ℕ) (before after : List CostAndRows) (i : Option (Plan × Plan)) → kind ≡ kinds.Merge → AreRead c q d at new before after i → i ≡ None → AreBeneath d kind behind at new before after None
  merge-none d kind behind at new before after i is read none p k =
      at-merge (IsBeneath d behind at new before after None)
      (λ ks x y ns rest w text stands count fits shallow e.
      let r = read x y ns rest text.0 text.1 stands.1 stands.2 (let n = count in omega (arith, n)) fits shallow e in
      absurd (none-some {A = Plan × Plan} (x, y) (sym none ∙ r.0))) p (k ∙ is)

  -- the lines of a plan one deeper
  written-shallow : (d : ℕ) (p : Plan) (ns : List CostAndRows) (rest : List ℕ) → IsShallow (d + 1) (written_at c q (d + 1) p ns ++ rest)
  written-shallow d p ns rest = by (line_with c q (d + 1) p (first_pair ns)) (title c q p ++ figures_text (decimal (first_pair ns).0) (first_pair ns).1) (written_beneath c q (d + 1) p (later_pairs ns)) refl
    where
      by : (line t below : List ℕ) → line ≡ lead (d + 1) ++ t → IsShallow (d + 1) ((line ++ below) ++ rest)
      by line t below e = subst (IsShallow (d + 1)) (sym (append_assoc line below rest ∙ (ap (λ (l : List ℕ). l ++ (below ++ rest)) e ∙ append_assoc (lead (d + 1)) t (below ++ rest)))) (line-shallow d (t ++ (below ++ rest)))

  -- what is known behind an outer side
  outer-read : (d : ℕ) (old mid : List ℕ) (before middle : List CostAndRows) (o : Option Plan) (x y : Plan) (ns : List CostAndRows) (rest : List ℕ) → IsRead c q (d + 1) old mid before middle o → IsText c q x → StandsAt (d + 1) x →
      length ns ≡ nodes x + nodes y → All Fits ns → old ≡ written_beneath c q d (nest x y) ns ++ rest →
      (o ≡ Some x) × (middle ≡ before ++ take (nodes x) ns) × (mid ≡ written_at c q (d + 1) y (drop (nodes x) ns) ++ rest)
  outer-read d old mid before middle o x y ns rest read text stands count fits e =
      let second = written_at c q (d + 1) y (drop (nodes x) ns) in
      read x (take (nodes x) ns) (second ++ rest) text stands (length-take-le (nodes x) ns (omega (arith, count))) (All-take Fits (nodes x) ns fits) (written-shallow d y (drop (nodes x) ns) rest)
      (e ∙ append_assoc (written_at c q (d + 1) x (take (nodes x) ns)) second rest)

  pub pair-read : (d : ℕ) (old mid new : List ℕ) (before middle after : List CostAndRows) (a b : Option Plan) (outer inner : Plan) → IsRead c q (d + 1) old mid before middle a → a ≡ Some outer → IsRead c q (d + 1) mid new middle after b → b ≡ Some inner →
      AreRead c q d old new before after (Some (outer, inner))
  pair-read d old mid new before middle after a b outer inner first fa second fb x y ns rest tx ty sx sy count fits shallow e =
      let one = outer-read d old mid before middle a x y ns rest first tx sx count fits e in
      let long : length (drop (nodes x) ns) ≡ nodes y = let l = length-drop (nodes x) ns in omega (arith, l, count) in
      let two = second y (drop (nodes x) ns) rest ty sy long (All-drop Fits (nodes x) ns fits) (shallow-more d rest shallow) one.2 in
      let left : outer ≡ x = same_Some outer x (sym fa ∙ one.0) in
      let right : inner ≡ y = same_Some inner y (sym fb ∙ two.0) in
      (λ t. Some (left t, right t), two.1 ∙ (ap (λ (l : List CostAndRows). l ++ drop (nodes x) ns) one.1 ∙ (append_assoc before (take (nodes x) ns) (drop (nodes x) ns) ∙ ap (λ (l : List CostAndRows). before ++ l) (take-append-drop (nodes x) ns))), two.2)

  pub no-outer : (d : ℕ) (old mid : List ℕ) (before middle : List CostAndRows) (a : Option Plan) → IsRead c q (d + 1) old mid before middle a → a ≡ None → AreRead c q d old mid before middle None
  no-outer d old mid before middle a first none x y ns rest tx ty sx sy count fits shallow e =
      let one = outer-read d old mid before middle a x y ns rest first tx sx count fits e in
      absurd (none-some x (sym none ∙ one.0))

  pub no-inner : (d : ℕ) (old mid new : List ℕ) (before middle after : List CostAndRows) (a b : Option Plan) → IsRead c q (d + 1) old mid before middle a → IsRead c q (d + 1) mid new middle after b → b ≡ None → AreRead c q d old new before after None
  no-inner d old mid new before middle after a b first second none x y ns rest tx ty sx sy count fits shallow e =
      let one = outer-read d old mid before middle a x y ns rest first tx sx count fits e in
      let long : length (drop (nodes x) ns) ≡ nodes y = let l = length-drop (nodes x) ns in omega (arith, l, count) in
      let two = second y (drop (nodes x) ns) rest ty sy long (All-drop Fits (nodes x) ns fits) (shallow-more d rest shallow) one.2 in
      absurd (none-some y (sym none ∙ two.0))

pub both-if : {A : Type 0} (P Q : A → Type 0) (o : Option A) → IfSome o P → IfSome o Q → IfSome o (λ a. P a × Q a)
both-if P Q None h k = tt
both-if P Q (Some a) h k = (h, k)

-- keys read by a set are those of a plan with this set
pub keys-read : (c : Contents) (q : Query) (set s : Set) (behind : List ℕ) (o : Option Keys) → ((k : ℕ) → set k ≡ s k) → ((keys : Keys) → HasKeysText q set keys → behind ≡ keys_text c q set keys → o ≡ Some keys) →
    (keys : Keys) → HasKeysText q s keys → behind ≡ keys_text c q s keys → o ≡ Some keys
keys-read c q set s behind o same = let e : set ≡ s = λ t k. same k t in subst (λ (x : Set). ((keys : Keys) → HasKeysText q x keys → behind ≡ keys_text c q x keys → o ≡ Some keys)) e

pub keys-same : (o : Option Keys) (j k : Keys) → o ≡ Some j → o ≡ Some k → j ≡ k
keys-same o j k e f = same_Some j k (sym e ∙ f)

pub no-keys : (o : Option Keys) (k : Keys) → o ≡ None → o ≡ Some k → ⊥
no-keys o k e f = none-some k (sym e ∙ f)
