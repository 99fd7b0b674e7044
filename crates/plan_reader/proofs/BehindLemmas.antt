-- Plans compared with what stands beneath their first lines.
use Rattle.std.proofs.Common.{Bor, ◌≡◌, ◌+◌, ℕ, List, [], ◌∷◌, ◌++◌, length, take, drop, refl, sym, ap, ap₂, ◌∙◌, subst, append_assoc, length-append, arith}
use Rattle.std.specs.Prelude.{All, Option, Some, None, IfSome}
use Rattle.std.proofs.Math.Seq.{drop-append_seam, take-append_seam}
use Rattle.std.proofs.lemmas.List.{length-drop, length-take-le, take-append-drop}
use Rattle.std.proofs.lemmas.List.Elements.{All-append, All-cons, All-drop, All-head, All-tail, All-take}
use Rattle.std.proofs.lemmas.Option.{same_Some}
use Rattle.pg_base.specs.declared.numbers.RelNo.{RelNo}
use Rattle.pg_base.specs.declared.rel_set.RelSet.{RelSet}
use Rattle.catalog.specs.Contents.{Contents}
use Rattle.pathkeys.specs.Keys.{Keys}
use Rattle.sql_query.specs.Queries.{Query}
use Rattle.plan_tree.specs.Plans.{Plan, bitmap, sort, nest, merge, BitTree}
use Rattle.plan_lines.specs.explain_Texts.{bits_text}
use Rattle.plan_space.specs.Numbered.{CostAndRows, nodes}
use Rattle.plan_reader.specs.work.Beneath.{IsBehind}
use Rattle.plan_reader.specs.Written.{Fits, line_with, written_at, written_beneath}
use Rattle.plan_reader.proofs.NodeLemmas.{nodes-some}

head-same : (x y : CostAndRows) (xs ys : List CostAndRows) → x ∷ xs ≡ y ∷ ys → x ≡ y
head-same x y xs ys e = cc

tail-same : (x y : CostAndRows) (xs ys : List CostAndRows) → x ∷ xs ≡ y ∷ ys → xs ≡ ys
tail-same x y xs ys e = ap (λ (l : List CostAndRows). drop 1 l) e

some-fit : (n : CostAndRows) (ns : List CostAndRows) → Fits n → All Fits ns → All Fits (n ∷ ns)
some-fit n ns h k = All-cons Fits n ns h k

module _ (c : Contents) (q : Query) (d : ℕ) where
  -- what is told of a text that begins with the first line of a plan, behind that line and its numbers
  pub record Begun (p : Plan) (others : List CostAndRows) (left : List ℕ) (more : List CostAndRows) (rest : List ℕ) : Type 0 where
    pub used : List CostAndRows
    pub pairs : others ≡ used ++ more
    pub count : length used + 1 ≡ nodes p
    pub fits : All Fits used
    pub spells : left ≡ written_beneath c q d p used ++ rest

  -- a text begins with the first line of a plan, and the numbers with that line's; the others and the rest of the text are left
  pub record Begins (p : Plan) (n : CostAndRows) (text : List ℕ) (numbers others : List CostAndRows) (left : List ℕ) : Type 0 where
    pub pairs : numbers ≡ n ∷ others
    pub fits : Fits n
    pub line : text ≡ line_with c q d p n ++ left

  -- the numbers and the lines beneath
  pub behind-more : (p : Plan) (n : CostAndRows) (text left last : List ℕ) (numbers others used more : List CostAndRows) → Begins p n text numbers others left → length used + 1 ≡ nodes p → All Fits used → others ≡ used ++ more →
      left ≡ written_beneath c q d p used ++ last → IsBehind c q d p text numbers last more
  behind-more p n text left last numbers others used more b count fits pairs spells = record {
    used = n ∷ used;
    count = let k = count in omega (arith, k);
    fits = some-fit n used b.fits fits;
    split = b.pairs ∙ ap (λ (l : List CostAndRows). n ∷ l) pairs;
    begins = b.line ∙ (ap (λ (l : List ℕ). line_with c q d p n ++ l) spells ∙ sym (append_assoc (line_with c q d p n) (written_beneath c q d p used) last));
  }

  pub leaf-behind : (p : Plan) (n : CostAndRows) (text left : List ℕ) (numbers others : List CostAndRows) → Begins p n text numbers others left → nodes p ≡ 1 → written_beneath c q d p [] ≡ [] → IsBehind c q d p text numbers left others
  leaf-behind p n text left numbers others b one none =
      behind-more p n text left left numbers others [] others b (sym one) (λ k x lt. absurd (omega (arith, lt))) refl (sym (ap (λ (l : List ℕ). l ++ left) none))

  pub bits-behind : (r : RelNo) (s : RelSet) (t : BitTree) (p : Plan) (n : CostAndRows) (text left last : List ℕ) (numbers others : List CostAndRows) → p ≡ bitmap r s t → Begins p n text numbers others left → left ≡ bits_text c q (d + 1) t ++ last →
      IsBehind c q d p text numbers last others
  bits-behind r s t p n text left last numbers others is b e =
      behind-more p n text left last numbers others [] others b (sym (ap nodes is)) (λ k x lt. absurd (omega (arith, lt))) refl (e ∙ sym (ap (λ (y : Plan). written_beneath c q d y [] ++ last) is))

  pub sort-behind : (ks : Keys) (x p : Plan) (n : CostAndRows) (text left last : List ℕ) (numbers others more : List CostAndRows) → p ≡ sort ks x → Begins p n text numbers others left → IsBehind c q (d + 1) x left others last more →
      IsBehind c q d p text numbers last more
  sort-behind ks x p n text left last numbers others more is b s =
      behind-more p n text left last numbers others s.used more b (ap (λ (k : ℕ). k + 1) s.count ∙ (let swap : nodes x + 1 ≡ 1 + nodes x = omega arith in swap) ∙ sym (ap nodes is)) s.fits s.split
      (s.begins ∙ sym (ap (λ (y : Plan). written_beneath c q d y s.used ++ last) is))

  -- two plans behind one another
  pub both-behind : (x y p : Plan) (n : CostAndRows) (text left mid last : List ℕ) (numbers others later more : List CostAndRows) → nodes p ≡ 1 + (nodes x + nodes y) →
      ((ns : List CostAndRows) → written_beneath c q d p ns ≡ written_beneath c q d (nest x y) ns) → Begins p n text numbers others left → IsBehind c q (d + 1) x left others mid later → IsBehind c q (d + 1) y mid later last more →
      IsBehind c q d p text numbers last more
  both-behind x y p n text left mid last numbers others later more size same b s t =
      behind-more p n text left last numbers others (s.used ++ t.used) more b count (All-append Fits s.used t.used s.fits t.fits) (s.split ∙ (ap (λ (l : List CostAndRows). s.used ++ l) t.split ∙ sym (append_assoc s.used t.used more)))
      (lines ∙ sym (ap (λ (l : List ℕ). l ++ last) (same (s.used ++ t.used))))
    where
      count : length (s.used ++ t.used) + 1 ≡ nodes p
      count = let l = length-append s.used t.used in let a = s.count in let b = t.count in omega (arith, l, a, b, size)

      front : take (nodes x) (s.used ++ t.used) ≡ s.used
      front = ap (λ (k : ℕ). take k (s.used ++ t.used)) (sym s.count) ∙ take-append_seam s.used t.used

      back : drop (nodes x) (s.used ++ t.used) ≡ t.used
      back = ap (λ (k : ℕ). drop k (s.used ++ t.used)) (sym s.count) ∙ drop-append_seam s.used t.used

      lines : left ≡ written_beneath c q d (nest x y) (s.used ++ t.used) ++ last
      lines =
          s.begins
          ∙ (ap (λ (l : List ℕ). written_at c q (d + 1) x s.used ++ l) t.begins
          ∙ (sym (append_assoc (written_at c q (d + 1) x s.used) (written_at c q (d + 1) y t.used) last)
          ∙ sym (ap₂ (λ (l m : List CostAndRows). (written_at c q (d + 1) x l ++ written_at c q (d + 1) y m) ++ last) front back)))

  pub nest-behind : (x y p : Plan) (n : CostAndRows) (text left mid last : List ℕ) (numbers others later more : List CostAndRows) → p ≡ nest x y → Begins p n text numbers others left → IsBehind c q (d + 1) x left others mid later →
      IsBehind c q (d + 1) y mid later last more → IsBehind c q d p text numbers last more
  nest-behind x y p n text left mid last numbers others later more is =
      both-behind x y p n text left mid last numbers others later more (ap nodes is) (λ ns. ap (λ (z : Plan). written_beneath c q d z ns) is)

  pub merge-behind : (ks : Keys) (x y p : Plan) (n : CostAndRows) (text left mid last : List ℕ) (numbers others later more : List CostAndRows) → p ≡ merge ks x y → Begins p n text numbers others left → IsBehind c q (d + 1) x left others mid later →
      IsBehind c q (d + 1) y mid later last more → IsBehind c q d p text numbers last more
  merge-behind ks x y p n text left mid last numbers others later more is =
      both-behind x y p n text left mid last numbers others later more (ap nodes is) (λ ns. ap (λ (z : Plan). written_beneath c q d z ns) is)

  -- a text that begins with the lines of a plan, and its numbers
  pub record IsAt (p : Plan) (text : List ℕ) (numbers : List CostAndRows) (ns more : List CostAndRows) (rest : List ℕ) : Type 0 where
    pub count : length ns ≡ nodes p
    pub fits : All Fits ns
    pub pairs : numbers ≡ ns ++ more
    pub spells : text ≡ written_at c q d p ns ++ rest

  pub no-numbers : (p : Plan) (text : List ℕ) (numbers ns more : List CostAndRows) (rest : List ℕ) → numbers ≡ [] → IsAt p text numbers ns more rest → ⊥
  no-numbers p text numbers ns more rest none h =
      let some = nodes-some p in
      let count = h.count in
      let long = length-append ns more in
      let same : length (ns ++ more) ≡ 0 = ap (λ (l : List CostAndRows). length l) (sym h.pairs ∙ none) in
      omega (arith, some, count, long, same)

  -- what is left behind the first line
  pub begun : (p : Plan) (n : CostAndRows) (text left : List ℕ) (numbers others ns more : List CostAndRows) (rest : List ℕ) (res : Option (List ℕ)) → numbers ≡ n ∷ others →
      ((r : List ℕ) → Fits n → text ≡ line_with c q d p n ++ r → res ≡ Some r) → res ≡ Some left → IsAt p text numbers ns more rest → Begun p others left more rest
  begun p n text left numbers others ns more rest res is step found h = by ns h.count h.fits h.pairs h.spells
    where
      by : (ns : List CostAndRows) → length ns ≡ nodes p → All Fits ns → numbers ≡ ns ++ more → text ≡ written_at c q d p ns ++ rest → Begun p others left more rest
      by [] count fits pairs e = let some = nodes-some p in absurd (omega (arith, some, count))
      by (m ∷ ms) count fits pairs e =
          let same : n ≡ m = head-same n m others (ms ++ more) (sym is ∙ pairs) in
          let line : text ≡ line_with c q d p n ++ (written_beneath c q d p ms ++ rest) =
          e ∙ (append_assoc (line_with c q d p m) (written_beneath c q d p ms) rest ∙ ap (λ (x : CostAndRows). line_with c q d p x ++ (written_beneath c q d p ms ++ rest)) (sym same)) in
          let r = step (written_beneath c q d p ms ++ rest) (subst Fits (sym same) (All-head Fits m ms fits)) line in
          record {
            used = ms;
            pairs = tail-same n m others (ms ++ more) (sym is ∙ pairs);
            count = let k = count in omega (arith, k);
            fits = All-tail Fits m ms fits;
            spells = same_Some left (written_beneath c q d p ms ++ rest) (sym found ∙ r);
          }

  pub no-line : (p : Plan) (n : CostAndRows) (text : List ℕ) (numbers others ns more : List CostAndRows) (rest : List ℕ) (res : Option (List ℕ)) → numbers ≡ n ∷ others →
      ((r : List ℕ) → Fits n → text ≡ line_with c q d p n ++ r → res ≡ Some r) → res ≡ None → IsAt p text numbers ns more rest → ⊥
  no-line p n text numbers others ns more rest res is step none h = by ns h.count h.fits h.pairs h.spells
    where
      wrong : (r : List ℕ) → res ≡ Some r → ⊥
      wrong r e = cc

      by : (ns : List CostAndRows) → length ns ≡ nodes p → All Fits ns → numbers ≡ ns ++ more → text ≡ written_at c q d p ns ++ rest → ⊥
      by [] count fits pairs e = let some = nodes-some p in omega (arith, some, count)
      by (m ∷ ms) count fits pairs e =
          let same : n ≡ m = head-same n m others (ms ++ more) (sym is ∙ pairs) in
          let line : text ≡ line_with c q d p n ++ (written_beneath c q d p ms ++ rest) =
          e ∙ (append_assoc (line_with c q d p m) (written_beneath c q d p ms) rest ∙ ap (λ (x : CostAndRows). line_with c q d p x ++ (written_beneath c q d p ms ++ rest)) (sym same)) in
          wrong (written_beneath c q d p ms ++ rest) (step (written_beneath c q d p ms ++ rest) (subst Fits (sym same) (All-head Fits m ms fits)) line)

  no-pairs : (p : Plan) (used : List CostAndRows) → nodes p ≡ 1 → length used + 1 ≡ nodes p → used ≡ []
  no-pairs p [] one h = refl
  no-pairs p (n ∷ ns) one h = absurd (omega (arith, one, h))

  pub leaf-only : (p : Plan) (others : List CostAndRows) (left : List ℕ) (more : List CostAndRows) (rest : List ℕ) → nodes p ≡ 1 → written_beneath c q d p [] ≡ [] → Begun p others left more rest → (left ≡ rest) × (others ≡ more)
  leaf-only p others left more rest one none b =
      let no = no-pairs p b.used one b.count in (
        b.spells ∙ (ap (λ (l : List CostAndRows). written_beneath c q d p l ++ rest) no ∙ ap (λ (l : List ℕ). l ++ rest) none),
        b.pairs ∙ ap (λ (l : List CostAndRows). l ++ more) no,
      )

  pub bits-only : (r : RelNo) (s : RelSet) (t : BitTree) (p : Plan) (others : List CostAndRows) (left : List ℕ) (more : List CostAndRows) (rest : List ℕ) → p ≡ bitmap r s t → Begun p others left more rest →
      (left ≡ bits_text c q (d + 1) t ++ rest) × (others ≡ more)
  bits-only r s t p others left more rest is b =
      let no = no-pairs p b.used (ap nodes is) b.count in
      (b.spells ∙ ap (λ (y : Plan). written_beneath c q d y b.used ++ rest) is, b.pairs ∙ ap (λ (l : List CostAndRows). l ++ more) no)

-- the input of a sort
pub sort-at : (c : Contents) (q : Query) (d : ℕ) (ks : Keys) (x p : Plan) (others : List CostAndRows) (left : List ℕ) (more : List CostAndRows) (rest : List ℕ) → p ≡ sort ks x → (b : Begun c q d p others left more rest) →
    IsAt c q (d + 1) x left others b.used more rest
sort-at c q d ks x p others left more rest is b = record {
  count = let k = b.count ∙ ap nodes is in omega (arith, k);
  fits = b.fits;
  pairs = b.pairs;
  spells = b.spells ∙ ap (λ (y : Plan). written_beneath c q d y b.used ++ rest) is;
}

-- the sides of a join
module _ (c : Contents) (q : Query) (d : ℕ) (x y p : Plan) (others : List CostAndRows) (left : List ℕ) (more : List CostAndRows) (rest : List ℕ) (size : nodes p ≡ 1 + (nodes x + nodes y))
    (same : (ns : List CostAndRows) → written_beneath c q d p ns ≡ written_beneath c q d (nest x y) ns) (b : Begun c q d p others left more rest) where
  pub outer-at : IsAt c q (d + 1) x left others (take (nodes x) b.used) (drop (nodes x) b.used ++ more) (written_at c q (d + 1) y (drop (nodes x) b.used) ++ rest)
  outer-at = record {
    count = length-take-le (nodes x) b.used (let k = b.count in omega (arith, k, size));
    fits = All-take Fits (nodes x) b.used b.fits;
    pairs = b.pairs ∙ (ap (λ (l : List CostAndRows). l ++ more) (sym (take-append-drop (nodes x) b.used)) ∙ append_assoc (take (nodes x) b.used) (drop (nodes x) b.used) more);
    spells = b.spells ∙ (ap (λ (l : List ℕ). l ++ rest) (same b.used) ∙ append_assoc (written_at c q (d + 1) x (take (nodes x) b.used)) (written_at c q (d + 1) y (drop (nodes x) b.used)) rest);
  }

  pub inner-at : (mid : List ℕ) (later : List CostAndRows) → mid ≡ written_at c q (d + 1) y (drop (nodes x) b.used) ++ rest → later ≡ drop (nodes x) b.used ++ more → IsAt c q (d + 1) y mid later (drop (nodes x) b.used) more rest
  inner-at mid later e f = record {
    count = let l = length-drop (nodes x) b.used in let k = b.count in omega (arith, l, k, size);
    fits = All-drop Fits (nodes x) b.used b.fits;
    pairs = f;
    spells = e;
  }

-- the clauses of the comparison, by the kinds of plans
module _ (c : Contents) (q : Query) (d : ℕ) (p : Plan) (n : CostAndRows) (text : List ℕ) (numbers others : List CostAndRows) where
  pub behind-begins : (left : List ℕ) → numbers ≡ n ∷ others → Fits n × (text ≡ line_with c q d p n ++ left) → Begins c q d p n text numbers others left
  behind-begins left is h = record { pairs = is; fits = h.0; line = h.1 }

  abbrev pub IsStep : Option (List ℕ) → Type 0
  IsStep res = (r : List ℕ) → Fits n → text ≡ line_with c q d p n ++ r → res ≡ Some r

  pub seen : (ns more : List CostAndRows) (rest : List ℕ) → length ns ≡ nodes p → All Fits ns → numbers ≡ ns ++ more → text ≡ written_at c q d p ns ++ rest → IsAt c q d p text numbers ns more rest
  seen ns more rest count fits pairs e = record { count = count; fits = fits; pairs = pairs; spells = e }

  pub leaf-same : (left : List ℕ) (res : Option (List ℕ)) → numbers ≡ n ∷ others → IsStep res → res ≡ Some left → nodes p ≡ 1 → written_beneath c q d p [] ≡ [] →
      (ns more : List CostAndRows) (rest : List ℕ) → length ns ≡ nodes p → All Fits ns → numbers ≡ ns ++ more → text ≡ written_at c q d p ns ++ rest → ◌≡◌ {A = Option (List ℕ × List CostAndRows)} (Some (left, others)) (Some (rest, more))
  leaf-same left res is step found one none ns more rest count fits pairs e =
      let b = begun c q d p n text left numbers others ns more rest res is step found (seen ns more rest count fits pairs e) in
      let r = leaf-only c q d p others left more rest one none b in
      λ t. Some (r.0 t, r.1 t)

  pub bits-same : (r : RelNo) (s : RelSet) (tree : BitTree) (left last : List ℕ) (res two : Option (List ℕ)) → p ≡ bitmap r s tree → numbers ≡ n ∷ others → IsStep res → res ≡ Some left →
      ((x : List ℕ) → left ≡ bits_text c q (d + 1) tree ++ x → two ≡ Some x) → two ≡ Some last →
      (ns more : List CostAndRows) (rest : List ℕ) → length ns ≡ nodes p → All Fits ns → numbers ≡ ns ++ more → text ≡ written_at c q d p ns ++ rest → ◌≡◌ {A = Option (List ℕ × List CostAndRows)} (Some (last, others)) (Some (rest, more))
  bits-same r s tree left last res two same is step found second ended ns more rest count fits pairs e =
      let b = begun c q d p n text left numbers others ns more rest res is step found (seen ns more rest count fits pairs e) in
      let at = bits-only c q d r s tree p others left more rest same b in
      let end : last ≡ rest = same_Some last rest (sym ended ∙ second rest at.0) in
      λ t. Some (end t, at.1 t)

  pub bits-none : (r : RelNo) (s : RelSet) (tree : BitTree) (left : List ℕ) (res two : Option (List ℕ)) → p ≡ bitmap r s tree → numbers ≡ n ∷ others → IsStep res → res ≡ Some left →
      ((x : List ℕ) → left ≡ bits_text c q (d + 1) tree ++ x → two ≡ Some x) → two ≡ None →
      (ns more : List CostAndRows) (rest : List ℕ) → length ns ≡ nodes p → All Fits ns → numbers ≡ ns ++ more → text ≡ written_at c q d p ns ++ rest → ⊥
  bits-none r s tree left res two same is step found second none ns more rest count fits pairs e =
      let b = begun c q d p n text left numbers others ns more rest res is step found (seen ns more rest count fits pairs e) in
      wrong (second rest (bits-only c q d r s tree p others left more rest same b).0)
    where
      wrong : two ≡ Some rest → ⊥
      wrong f = cc

  -- what the clause of a comparison says of a child
  abbrev pub IsChild : Plan → List ℕ → List CostAndRows → Option (List ℕ × List CostAndRows) → Type 0
  IsChild x left later o = (ns more : List CostAndRows) (rest : List ℕ) → length ns ≡ nodes x → All Fits ns → later ≡ ns ++ more → left ≡ written_at c q (d + 1) x ns ++ rest → o ≡ Some (rest, more)

  pub sort-same : (ks : Keys) (x : Plan) (left : List ℕ) (res : Option (List ℕ)) (o : Option (List ℕ × List CostAndRows)) → p ≡ sort ks x → numbers ≡ n ∷ others → IsStep res → res ≡ Some left → IsChild x left others o →
      (ns more : List CostAndRows) (rest : List ℕ) → length ns ≡ nodes p → All Fits ns → numbers ≡ ns ++ more → text ≡ written_at c q d p ns ++ rest → o ≡ Some (rest, more)
  sort-same ks x left res o same is step found child ns more rest count fits pairs e =
      let b = begun c q d p n text left numbers others ns more rest res is step found (seen ns more rest count fits pairs e) in
      let at = sort-at c q d ks x p others left more rest same b in
      child b.used more rest at.count at.fits at.pairs at.spells

  pub nest-join : (x y : Plan) → p ≡ nest x y → (nodes p ≡ 1 + (nodes x + nodes y)) × ((ns : List CostAndRows) → written_beneath c q d p ns ≡ written_beneath c q d (nest x y) ns)
  nest-join x y same = (ap nodes same, λ ns. ap (λ (z : Plan). written_beneath c q d z ns) same)

  pub merge-join : (ks : Keys) (x y : Plan) → p ≡ merge ks x y → (nodes p ≡ 1 + (nodes x + nodes y)) × ((ns : List CostAndRows) → written_beneath c q d p ns ≡ written_beneath c q d (nest x y) ns)
  merge-join ks x y same = (ap nodes same, λ ns. ap (λ (z : Plan). written_beneath c q d z ns) same)

  pub join-same : (x y : Plan) (left mid : List ℕ) (later : List CostAndRows) (res : Option (List ℕ)) (one two : Option (List ℕ × List CostAndRows)) → (nodes p ≡ 1 + (nodes x + nodes y)) × ((ns : List CostAndRows) → written_beneath c q d p ns ≡ written_beneath c q d (nest x y) ns) →
      numbers ≡ n ∷ others → IsStep res → res ≡ Some left → IsChild x left others one → one ≡ Some (mid, later) → IsChild y mid later two →
      (ns more : List CostAndRows) (rest : List ℕ) → length ns ≡ nodes p → All Fits ns → numbers ≡ ns ++ more → text ≡ written_at c q d p ns ++ rest → two ≡ Some (rest, more)
  join-same x y left mid later res one two join is step found first has second ns more rest count fits pairs e =
      let b = begun c q d p n text left numbers others ns more rest res is step found (seen ns more rest count fits pairs e) in
      let at = outer-at c q d x y p others left more rest join.0 join.1 b in
      let r : one ≡ Some (written_at c q (d + 1) y (drop (nodes x) b.used) ++ rest, drop (nodes x) b.used ++ more) = first (take (nodes x) b.used) (drop (nodes x) b.used ++ more) (written_at c q (d + 1) y (drop (nodes x) b.used) ++ rest) at.count at.fits at.pairs at.spells in
      let same = same_Some {A = List ℕ × List CostAndRows} (mid, later) (written_at c q (d + 1) y (drop (nodes x) b.used) ++ rest, drop (nodes x) b.used ++ more) (sym has ∙ r) in
      let in-at = inner-at c q d x y p others left more rest join.0 join.1 b mid later (ap (λ (s : List ℕ × List CostAndRows). s.0) same) (ap (λ (s : List ℕ × List CostAndRows). s.1) same) in
      second (drop (nodes x) b.used) more rest in-at.count in-at.fits in-at.pairs in-at.spells

  pub join-none : (x y : Plan) (left : List ℕ) (res : Option (List ℕ)) (one : Option (List ℕ × List CostAndRows)) → (nodes p ≡ 1 + (nodes x + nodes y)) × ((ns : List CostAndRows) → written_beneath c q d p ns ≡ written_beneath c q d (nest x y) ns) →
      numbers ≡ n ∷ others → IsStep res → res ≡ Some left → IsChild x left others one → one ≡ None →
      (ns more : List CostAndRows) (rest : List ℕ) → length ns ≡ nodes p → All Fits ns → numbers ≡ ns ++ more → text ≡ written_at c q d p ns ++ rest → ⊥
  join-none x y left res one join is step found first none ns more rest count fits pairs e =
      let b = begun c q d p n text left numbers others ns more rest res is step found (seen ns more rest count fits pairs e) in
      let at = outer-at c q d x y p others left more rest join.0 join.1 b in
      wrong (first (take (nodes x) b.used) (drop (nodes x) b.used ++ more) (written_at c q (d + 1) y (drop (nodes x) b.used) ++ rest) at.count at.fits at.pairs at.spells)
    where
      wrong : {s : List ℕ × List CostAndRows} → one ≡ Some s → ⊥
      wrong f = cc

  pub line-none : (res : Option (List ℕ)) → numbers ≡ n ∷ others → IsStep res → res ≡ None →
      (ns more : List CostAndRows) (rest : List ℕ) → length ns ≡ nodes p → All Fits ns → numbers ≡ ns ++ more → text ≡ written_at c q d p ns ++ rest → ⊥
  line-none res is step none ns more rest count fits pairs e = no-line c q d p n text numbers others ns more rest res is step none (seen ns more rest count fits pairs e)

-- what a comparison finds of a child, carried to its plan
pub if-some : {P Q : List ℕ → List CostAndRows → Type 0} (o : Option (Bor (List ℕ) × Bor (List CostAndRows))) → ((l : List ℕ) (m : List CostAndRows) → P l m → Q l m) → IfSome o (λ s. P s.0.now s.1.now) → IfSome o (λ s. Q s.0.now s.1.now)
if-some None f h = tt
if-some (Some s) f h = f s.0.now s.1.now h
