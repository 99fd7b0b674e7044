-- One thing alone is told of a block.
use Rattle.std.proofs.Common.{◌≡◌, ◌<◌, ◌+◌, ◌⊎◌, inl, inr, ℕ, Bool, true, false, List, get_or, take, refl, sym, ap, ◌∙◌, subst, arith}
use Rattle.std.proofs.lemmas.Bool.{cases_lt}
use Rattle.std.proofs.lemmas.List.{get_or-take}
use Rattle.catalog.specs.Contents.{Contents, IsLawful}
use Rattle.sql_query.specs.Queries.{Query}
use Rattle.sql_query.specs.WellBound.{IsWellBound}
use Rattle.plan_tree.specs.Plans.{Plan, seq, index, index_only, bitmap, sort, nest, merge}
use Rattle.plan_tree.specs.work.Views.{plan}
use Rattle.plan_tree.specs.Space.{IsBuilt, IsFinished}
use Rattle.plan_space.specs.Judging.{IsBadJoin, IsJudged, IsOutside, IsUnfinished, IsWrongNumber, IsWrongPair, unsorted}
use Rattle.plan_space.specs.Numbered.{CostAndRows, line_count, lines_from, own_numbers}
use Rattle.plan_space.specs.declared.judged.Judged.{Judged}
use Rattle.plan_space.specs.declared.judged.Judged.TheVariants.{Good, Outside, Limit, Number}
use Rattle.plan_reader.specs.Written.{IsWritten}
use Rattle.plan_reader.proofs.UniqueLemmas.{one-plan}
use Rattle.reply_text.specs.Texts.{invalid_line}
use Rattle.plan_reply.specs.Told.{IsNotGood, IsFaulted, IsGoodPlan, IsRefusedPlan, faulted, reason_text, unread}
use Rattle.plan_reply.specs.work.Told.{IsSameTold, IsTold}
use Rattle.plan_reply.specs.declared.told.Told.{Told}
use Rattle.plan_reply.specs.declared.told.Told.TheVariants as tellings

module _ (c : Contents) (q : Query) where
  -- a plan of the space is one without the sorts on its top
  built-unsorted : (p : Plan) → IsBuilt c q p → IsBuilt c q (unsorted p)
  built-unsorted (seq r) h = h
  built-unsorted (index r i backward p) h = h
  built-unsorted (index_only r i backward p) h = h
  built-unsorted (bitmap r p bits) h = h
  built-unsorted (sort keys input) h = built-unsorted input h.0
  built-unsorted (nest outer inner) h = h
  built-unsorted (merge keys outer inner) h = h

  -- what has a node outside is none of the space
  outside-unbuilt : (at line : ℕ) (p : Plan) → IsOutside c q at p line → IsBuilt c q (unsorted p) → ⊥
  outside-unbuilt at line (seq r) h b = h.0 b
  outside-unbuilt at line (index r i backward p) h b = h.0 b
  outside-unbuilt at line (index_only r i backward p) h b = h.0 b
  outside-unbuilt at line (bitmap r p bits) h b = h.0 b
  outside-unbuilt at line (sort keys input) h b = outside-unbuilt (at + 1) line input h b
  outside-unbuilt at line (nest outer inner) (inl h) b = outside-unbuilt (at + 1) line outer h (built-unsorted outer b.0)
  outside-unbuilt at line (nest outer inner) (inr (inl h)) b = outside-unbuilt (at + 1 + line_count outer) line inner h.1 (built-unsorted inner b.1)
  outside-unbuilt at line (nest outer inner) (inr (inr h)) b = h.0.bad b
  outside-unbuilt at line (merge keys outer inner) (inl h) b = outside-unbuilt (at + 1) line outer h (built-unsorted outer b.0)
  outside-unbuilt at line (merge keys outer inner) (inr (inl h)) b = outside-unbuilt (at + 1 + line_count outer) line inner h.1 (built-unsorted inner b.1)
  outside-unbuilt at line (merge keys outer inner) (inr (inr h)) b = h.0.bad b

  abbrev OfSides : ℕ → ℕ → Plan → Plan → Plan → Type 0
  OfSides at line join outer inner =
      IsOutside c q (at + 1) outer line ⊎ ((IsBuilt c q (unsorted outer) × IsOutside c q (at + 1 + line_count outer) inner line) ⊎ (IsBadJoin c q join outer inner × (line ≡ at)))

  sides-one : (at n m : ℕ) (join outer inner : Plan) → (IsOutside c q (at + 1) outer n → IsOutside c q (at + 1) outer m → n ≡ m)
      → (IsOutside c q (at + 1 + line_count outer) inner n → IsOutside c q (at + 1 + line_count outer) inner m → n ≡ m) → OfSides at n join outer inner → OfSides at m join outer inner → n ≡ m
  sides-one at n m join outer inner o i (inl h) (inl k) = o h k
  sides-one at n m join outer inner o i (inl h) (inr (inl k)) = absurd (outside-unbuilt (at + 1) n outer h k.0)
  sides-one at n m join outer inner o i (inl h) (inr (inr k)) = absurd (outside-unbuilt (at + 1) n outer h k.0.outer_built)
  sides-one at n m join outer inner o i (inr (inl h)) (inl k) = absurd (outside-unbuilt (at + 1) m outer k h.0)
  sides-one at n m join outer inner o i (inr (inl h)) (inr (inl k)) = i h.1 k.1
  sides-one at n m join outer inner o i (inr (inl h)) (inr (inr k)) = absurd (outside-unbuilt (at + 1 + line_count outer) n inner h.1 k.0.inner_built)
  sides-one at n m join outer inner o i (inr (inr h)) (inl k) = absurd (outside-unbuilt (at + 1) m outer k h.0.outer_built)
  sides-one at n m join outer inner o i (inr (inr h)) (inr (inl k)) = absurd (outside-unbuilt (at + 1 + line_count outer) m inner k.1 h.0.inner_built)
  sides-one at n m join outer inner o i (inr (inr h)) (inr (inr k)) = h.1 ∙ sym k.1

  -- the first node outside stands in one line
  outside-one : (at n m : ℕ) (p : Plan) → IsOutside c q at p n → IsOutside c q at p m → n ≡ m
  outside-one at n m (seq r) h k = h.1 ∙ sym k.1
  outside-one at n m (index r i backward p) h k = h.1 ∙ sym k.1
  outside-one at n m (index_only r i backward p) h k = h.1 ∙ sym k.1
  outside-one at n m (bitmap r p bits) h k = h.1 ∙ sym k.1
  outside-one at n m (sort keys input) h k = outside-one (at + 1) n m input h k
  outside-one at n m (nest outer inner) h k =
      sides-one at n m (nest outer inner) outer inner (λ a b. outside-one (at + 1) n m outer a b) (λ a b. outside-one (at + 1 + line_count outer) n m inner a b) h k
  outside-one at n m (merge keys outer inner) h k =
      sides-one at n m (merge keys outer inner) outer inner (λ a b. outside-one (at + 1) n m outer a b) (λ a b. outside-one (at + 1 + line_count outer) n m inner a b) h k

  unfinished-one : (p : Plan) (n m : ℕ) → IsUnfinished c q p n → IsUnfinished c q p m → n ≡ m
  unfinished-one p n m (inl h) (inl k) = outside-one 1 n m p h k
  unfinished-one p n m (inl h) (inr k) = absurd (outside-unbuilt 1 n p h k.0)
  unfinished-one p n m (inr h) (inl k) = absurd (outside-unbuilt 1 m p k h.0)
  unfinished-one p n m (inr h) (inr k) = h.2 ∙ sym k.2

  not-both : (p : Plan) (n : ℕ) → IsUnfinished c q p n → IsFinished c q p → ⊥
  not-both p n (inl h) f = outside-unbuilt 1 n p h (built-unsorted p f.built)
  not-both p n (inr h) f = h.1 f

-- what equal first parts have at a place
taken-same : (xs ys : List CostAndRows) (n k : ℕ) → take n xs ≡ take n ys → k < n → get_or xs k (0, 0) ≡ get_or ys k (0, 0)
taken-same xs ys n k same lt = sym (get_or-take n xs k (0, 0) lt) ∙ ap (λ (l : List CostAndRows). get_or l k (0, 0)) same ∙ get_or-take n ys k (0, 0) lt

wrong-differs : (b : Bool) (pair own : CostAndRows) (printed is : ℕ) → IsWrongPair b pair own printed is → pair ≡ own → ⊥
wrong-differs true pair own printed is h same = h.2 (h.0 ∙ (ap (λ (x : CostAndRows). x.0) same ∙ sym h.1))
wrong-differs false pair own printed is h same = h.3 (h.1 ∙ (ap (λ (x : CostAndRows). x.1) same ∙ sym h.2))

-- one wrong number of a pair
wrong-one : (a b : Bool) (pair own : CostAndRows) (x y u v : ℕ) (line : ℕ) → IsWrongPair a pair own x y → IsWrongPair b pair own u v → Number line a x y ≡ Number line b u v
wrong-one true true pair own x y u v line h k =
    let first : x ≡ u = h.0 ∙ sym k.0 in
    let second : y ≡ v = h.1 ∙ sym k.1 in
    cc (first, second)
wrong-one false false pair own x y u v line h k =
    let first : x ≡ u = h.1 ∙ sym k.1 in
    let second : y ≡ v = h.2 ∙ sym k.2 in
    cc (first, second)
wrong-one true false pair own x y u v line h k = absurd (h.2 (h.0 ∙ (k.0 ∙ sym h.1)))
wrong-one false true pair own x y u v line h k = absurd (k.2 (k.0 ∙ (h.0 ∙ sym k.1)))

module _ (c : Contents) (q : Query) (p : Plan) (ns : List CostAndRows) where
  -- the first wrong number stands at one node
  earlier : (n m : ℕ) (a b : Bool) (x y u v : ℕ) (h : IsWrongNumber c q p ns n a x y) (k : IsWrongNumber c q p ns m b u v) → h.node < k.node → ⊥
  earlier n m a b x y u v h k lt =
      wrong-differs a (get_or ns h.node (0, 0)) (get_or (own_numbers c q p) h.node (0, 0)) x y h.wrong (taken-same ns (own_numbers c q p) k.node h.node k.before lt)

  one-node : (n m : ℕ) (a b : Bool) (x y u v : ℕ) (h : IsWrongNumber c q p ns n a x y) (k : IsWrongNumber c q p ns m b u v) → h.node ≡ k.node
  one-node n m a b x y u v h k =
      let low : h.node < k.node → ⊥ = earlier n m a b x y u v h k in
      let high : k.node < h.node → ⊥ = earlier m n b a u v x y k h in
      elim (cases_lt h.node k.node) [ inl lt ↦ absurd (low lt) | inr le ↦ elim (cases_lt k.node h.node) [ inl lt ↦ absurd (high lt) | inr ge ↦ omega (arith, le, ge) ] ]

  number-one : (n m : ℕ) (a b : Bool) (x y u v : ℕ) → IsWrongNumber c q p ns n a x y → IsWrongNumber c q p ns m b u v → Number n a x y ≡ Number m b u v
  number-one n m a b x y u v h k =
      let same = one-node n m a b x y u v h k in
      let P : ℕ → Type 0 = λ z. IsWrongPair a (get_or ns z (0, 0)) (get_or (own_numbers c q p) z (0, 0)) x y in
      let line : n ≡ m = h.line_is ∙ (ap (λ (z : ℕ). get_or (lines_from 1 p) z 0) same ∙ sym k.line_is) in
      ap (λ (z : ℕ). Number z a x y) line ∙ wrong-one a b (get_or ns k.node (0, 0)) (get_or (own_numbers c q p) k.node (0, 0)) x y u v m (subst P same h.wrong) k.wrong

  unwrong : (n : ℕ) (a : Bool) (x y : ℕ) → IsWrongNumber c q p ns n a x y → ns ≡ own_numbers c q p → ⊥
  unwrong n a x y h same =
      wrong-differs a (get_or ns h.node (0, 0)) (get_or (own_numbers c q p) h.node (0, 0)) x y h.wrong (ap (λ (l : List CostAndRows). get_or l h.node (0, 0)) same)

  -- one thing is wrong
  judged-one : (j k : Judged) → IsJudged c q p ns j → IsJudged c q p ns k → j ≡ k
  judged-one Good Good h k = refl
  judged-one Good (Outside m) h k = absurd (not-both c q p m k h.finished)
  judged-one Good Limit h k = let low = h.admissible in let high = k.1 in absurd (omega (arith, low, high))
  judged-one Good (Number m b u v) h k = absurd (unwrong m b u v k.2 h.numbers)
  judged-one (Outside n) Good h k = absurd (not-both c q p n h k.finished)
  judged-one (Outside n) (Outside m) h k = ap (λ (z : ℕ). Outside z) (unfinished-one c q p n m h k)
  judged-one (Outside n) Limit h k = absurd (not-both c q p n h k.0)
  judged-one (Outside n) (Number m b u v) h k = absurd (not-both c q p n h k.0)
  judged-one Limit Good h k = let low = k.admissible in let high = h.1 in absurd (omega (arith, low, high))
  judged-one Limit (Outside m) h k = absurd (not-both c q p m k h.0)
  judged-one Limit Limit h k = refl
  judged-one Limit (Number m b u v) h k = let low = k.1 in let high = h.1 in absurd (omega (arith, low, high))
  judged-one (Number n a x y) Good h k = absurd (unwrong n a x y h.2 k.numbers)
  judged-one (Number n a x y) (Outside m) h k = absurd (not-both c q p m k h.0)
  judged-one (Number n a x y) Limit h k = let low = h.1 in let high = k.1 in absurd (omega (arith, low, high))
  judged-one (Number n a x y) (Number m b u v) h k = number-one n m a b x y u v h.2 k.2

module _ (c : Contents) (q : Query) (block : List ℕ) (lawful : IsLawful c) (bound : IsWellBound c q) where
  -- what is found of the plan of a block is found of it however it is read
  found-of : (p o : Plan) (ns ms : List CostAndRows) (j k : Judged) → IsWritten c q block p ns → IsWritten c q block o ms → IsJudged c q p ns j → IsJudged c q o ms k → j ≡ k
  found-of p o ns ms j k w v h g =
      let same = one-plan c q block p o ns ms lawful bound w v in
      let P : Plan → Type 0 = λ x. IsJudged c q x ns j in
      let Q : List CostAndRows → Type 0 = λ x. IsJudged c q o x j in
      judged-one c q o ms j k (subst Q same.1 (subst P same.0 h)) g

  faults-one : (x y : List ℕ) → IsFaulted c q block x → IsFaulted c q block y → x ≡ y
  faults-one x y f g = f.told ∙ (ap (λ (j : Judged). invalid_line (reason_text j)) (found-of f.plan g.plan f.numbers g.numbers f.judged g.judged f.read g.read f.holds g.holds) ∙ sym g.told)

  pub lines-one : (x y : List ℕ) → IsRefusedPlan c q block x → IsRefusedPlan c q block y → x ≡ y
  lines-one x y (unread a e) (unread b d) = e ∙ sym d
  lines-one x y (unread a e) (faulted g) = absurd (a g.plan g.numbers g.read)
  lines-one x y (faulted f) (unread b d) = absurd (b f.plan f.numbers f.read)
  lines-one x y (faulted f) (faulted g) = faults-one x y f g

  pub never-both : (x : List ℕ) (p : Plan) → IsRefusedPlan c q block x → IsGoodPlan c q block p → ⊥
  never-both x p (unread a e) g = a p g.numbers g.read
  never-both x p (faulted f) g = subst IsNotGood (found-of f.plan p f.numbers g.numbers f.judged Good f.read g.read f.holds g.good) f.fault

  pub plans-one : (p o : Plan) → IsGoodPlan c q block p → IsGoodPlan c q block o → p ≡ o
  plans-one p o h k = (one-plan c q block p o h.numbers k.numbers lawful bound h.read k.read).0

  pub told-one : (t u : Told) → IsTold c q block t → IsTold c q block u → IsSameTold t u
  told-one (tellings.Line a) (tellings.Line b) h k = lines-one a.items b.items h k
  told-one (tellings.Line a) (tellings.Plan p) h k = never-both a.items (plan p) h k
  told-one (tellings.Plan p) (tellings.Line b) h k = never-both b.items (plan p) k h
  told-one (tellings.Plan p) (tellings.Plan o) h k = plans-one (plan p) (plan o) h k
