-- The groups that conjuncts make are the parts of the least equivalence.
use Rattle.std.proofs.Common.{◌≡◌, Bool, true, false, not, ◌||◌, ◌⊎◌, inl, inr, ⊎_elim, List, [], ◌∷◌, ◌++◌, filter, Option, Some, None, refl, sym, ap, ◌∙◌, subst, append_assoc, append-nil}
use Rattle.std.specs.List.{list_any}
use Rattle.std.proofs.lemmas.Bool.{cases_Bool, and_parts, and_from, or_cases, or_left, or_right, true≢false}
use Rattle.std.proofs.lemmas.Option.{same_Some}
use Rattle.std.proofs.Math.Bool.{or_assoc}
use Rattle.opfamily.specs.pg_value_operators_Family.{Family}
use Rattle.opfamily.specs.pg_value_value_Value.{Value}
use Rattle.pg_expr.specs.declared.operand.ColRef.{ColRef}
use Rattle.pg_expr.specs.declared.operand.Operand.{Operand}
use Rattle.pg_expr.specs.declared.operand.Operand.TheVariants.{Col, Lit}
use Rattle.pg_expr.specs.Cond.{Cond}
use Rattle.eq_classes.specs.Equality.{Equality, equal_in, equality_in, is_column, is_other, are_equal}
use Rattle.opfamily.specs.Answers.{is_family}
use Rattle.eq_classes.specs.Classes.{Premises, Linked, conjunct, constant, same, turned, chain}
use Rattle.eq_classes.specs.Grouping.{operand_columns}
use Rattle.eq_classes.specs.work.Grouping.{Part, has_side, literals_in, started, united, touches, gathered, added, grouped}
use Rattle.eq_classes.proofs.ListLemmas.{IsIn, Before, in_left, in_right, in_parts, in_filter, filter_in, before_filter, either_before, contains_from_in, in_from_contains, any_from, any_at}
use Rattle.eq_classes.proofs.EqualLemmas.{column_is, family_is, family_self, equal_sym, equal_trans}
use Rattle.eq_classes.proofs.ClassHoldLemmas.{column_self}
use Rattle.eq_classes.proofs.SideLemmas.{equality_is}
use Rattle.eq_classes.proofs.WhereLemmas.{literal_self}

abbrev pub unite : Part → List Part → Part
unite j [] = j
unite j (p ∷ ps) = unite (united j p) ps

pub any-append : {A : Type 0} → (test : A → Bool) (xs ys : List A) → list_any test (xs ++ ys) ≡ list_any test xs || list_any test ys
any-append test [] ys = refl
any-append test (z ∷ zs) ys = ap (λ (t : Bool). test z || t) (any-append test zs ys) ∙ sym (or_assoc (test z) (list_any test zs) (list_any test ys))

pub united_is : (p q : Part) (x : Operand) → p.family ≡ q.family → has_side (united p q) x ≡ has_side p x || has_side q x
united_is p q (Col c) e = any-append (is_column c) p.columns q.columns
united_is p q (Lit v) e = any-append (are_equal p.family v) p.literals q.literals ∙ ap (λ (f : Family). list_any (are_equal p.family v) p.literals || list_any (are_equal f v) q.literals) e

unite_family : (j : Part) (ps : List Part) → (unite j ps).family ≡ j.family
unite_family j [] = refl
unite_family j (p ∷ ps) = unite_family (united j p) ps

unite_has : (j : Part) (ps : List Part) (x : Operand) → ((p : Part) → IsIn p ps → j.family ≡ p.family) → has_side (unite j ps) x ≡ true → (has_side j x ≡ true) ⊎ ((p : Part) × IsIn p ps × (has_side p x ≡ true))
unite_has j [] x alike h = inl h
unite_has j (p ∷ ps) x alike h = ⊎_elim
    (λ (u : has_side (united j p) x ≡ true). ⊎_elim
    (λ (a : has_side j x ≡ true). inl a)
    (λ (a : has_side p x ≡ true). inr (p, inl refl, a))
    (or_cases (has_side j x) (has_side p x) (sym (united_is j p x (alike p (inl refl))) ∙ u)))
    (λ (w : (q : Part) × IsIn q ps × (has_side q x ≡ true)). inr (w.0, inr w.1, w.2))
    (unite_has (united j p) ps x (λ q i. alike q (inr i)) h)

pub has_unite : (j : Part) (ps : List Part) (x : Operand) → ((p : Part) → IsIn p ps → j.family ≡ p.family) → has_side j x ≡ true → has_side (unite j ps) x ≡ true
has_unite j [] x alike h = h
has_unite j (p ∷ ps) x alike h = has_unite (united j p) ps x (λ q i. alike q (inr i)) (united_is j p x (alike p (inl refl)) ∙ or_left (has_side j x) (has_side p x) h)

in_unite : (j : Part) (ps : List Part) (x : Operand) (p : Part) → ((q : Part) → IsIn q ps → j.family ≡ q.family) → IsIn p ps → has_side p x ≡ true → has_side (unite j ps) x ≡ true
in_unite j [] x p alike i h = absurd i
in_unite j (q ∷ ps) x p alike (inl e) h =
    has_unite (united j q) ps x (λ a i. alike a (inr i)) (united_is j q x (alike q (inl refl)) ∙ or_right (has_side j x) (has_side q x) (ap (λ (a : Part). has_side a x) (sym e) ∙ h))
in_unite j (q ∷ ps) x p alike (inr i) h = in_unite (united j q) ps x p (λ a k. alike a (inr k)) i h

pub before_end : {A : Type 0} → (xs : List A) (z x y : A) → Before x y (xs ++ z ∷ []) → Before x y xs ⊎ (IsIn x xs × (y ≡ z))
before_end [] z x y (inl h) = absurd h.1
before_end [] z x y (inr h) = absurd h
before_end (w ∷ ws) z x y (inl h) = ⊎_elim
    (λ (i : IsIn y ws). inl (inl (h.0, i)))
    (λ (i : IsIn y (z ∷ [])). ⊎_elim (λ (e : y ≡ z). inr (inl h.0, e)) (λ (no : ⊥). absurd no) i)
    (in_parts y ws (z ∷ []) h.1)
before_end (w ∷ ws) z x y (inr h) = ⊎_elim (λ (b : Before x y ws). inl (inr b)) (λ (k : IsIn x ws × (y ≡ z)). inr (inr k.0, k.1)) (before_end ws z x y h)

module _ (f : Family) (l : ColRef) (r : Operand) where
  abbrev pub untouched : List Part → List Part
  untouched ps = filter (λ p. not (touches f l r p)) ps

  abbrev pub touched : List Part → List Part
  touched ps = filter (touches f l r) ps

  pub gathered_is : (ps rest : List Part) (joined : Part) → gathered f l r ps rest joined ≡ (rest ++ untouched ps) ++ unite joined (touched ps) ∷ []
  gathered_is [] rest joined = ap (λ (xs : List Part). xs ++ joined ∷ []) (sym (append-nil rest))
  gathered_is (p ∷ ps) rest joined = ⊎_elim
      (λ (t : touches f l r p ≡ true). rw t (gathered_is ps rest (united joined p)))
      (λ (t : touches f l r p ≡ false). rw t (gathered_is ps (rest ++ p ∷ []) joined ∙ ap (λ (xs : List Part). xs ++ unite joined (touched ps) ∷ []) (append_assoc rest (p ∷ []) (untouched ps))))
      (cases_Bool (touches f l r p))

-- groups whose elements are linked, and that share none within a family
pub record IsPartition (g : Premises) (ps : List Part) : Type 0 where
  pub linked : (p : Part) → IsIn p ps → (x y : Operand) → has_side p x ≡ true → has_side p y ≡ true → Linked g p.family x y
  pub apart : (p q : Part) → Before p q ps → p.family ≡ q.family → (x : Operand) → has_side p x ≡ true → has_side q x ≡ true → ⊥

-- some group has both sides
pub record IsJoined (ps : List Part) (e : Equality) : Type 0 where
  pub part : Part
  pub inside : IsIn part ps
  pub family : part.family ≡ e.family
  pub left : has_side part (Col e.left) ≡ true
  pub right : has_side part e.right ≡ true

module _ (g : Premises) (k : Cond) (e : Equality) (ik : IsIn k g.conjuncts) (is : equality_in g.type_of k ≡ Some e) (ps : List Part) (old : IsPartition g ps) where
  abbrev f : Family
  f = e.family

  abbrev l : ColRef
  l = e.left

  abbrev r : Operand
  r = e.right

  edge : Linked g f (Col l) r
  edge = conjunct k l r (contains_from_in g.conjuncts k ik) is

  abbrev fresh : Part
  fresh = started f l r

  abbrev whole : Part
  whole = unite fresh (touched f l r ps)

  result : gathered f l r ps [] fresh ≡ untouched f l r ps ++ whole ∷ []
  result = gathered_is f l r ps [] fresh

  touched_family : (p : Part) → IsIn p (touched f l r ps) → f ≡ p.family
  touched_family p i =
      let t = in_filter (touches f l r) ps p i in
      family_is f p.family (and_parts (is_family f p.family) (has_side p (Col l) || has_side p r) t.1).0

  fresh_side : (o : Operand) → r ≡ o → (c : ColRef) → list_any (is_column c) (operand_columns o) ≡ true → r ≡ Col c
  fresh_side (Col d) e' c h = ⊎_elim (λ (t : is_column c d ≡ true). e' ∙ ap Col (sym (column_is c d t))) (λ (t : false ≡ true). absurd (true≢false (sym t))) (or_cases (is_column c d) false h)
  fresh_side (Lit v) e' c h = absurd (true≢false (sym h))

  fresh_literal : (o : Operand) → r ≡ o → (v : Value) → list_any (are_equal f v) (literals_in o) ≡ true → (w : Value) × (r ≡ Lit w) × (are_equal f v w ≡ true)
  fresh_literal (Col d) e' v h = absurd (true≢false (sym h))
  fresh_literal (Lit w) e' v h = ⊎_elim (λ (t : are_equal f v w ≡ true). (w, e', t)) (λ (t : false ≡ true). absurd (true≢false (sym t))) (or_cases (are_equal f v w) false h)

  -- a side of the new conjunct is linked to its left column
  fresh_linked : (x : Operand) → has_side fresh x ≡ true → Linked g f x (Col l)
  fresh_linked (Col c) h = ⊎_elim
      (λ (t : is_column c l ≡ true). subst (λ (d : ColRef). Linked g f (Col c) (Col d)) (column_is c l t) (same (Col c)))
      (λ (t : list_any (is_column c) (operand_columns r) ≡ true). turned (Col l) (Col c) (subst (λ (o : Operand). Linked g f (Col l) o) (fresh_side r refl c t) edge))
      (or_cases (is_column c l) (list_any (is_column c) (operand_columns r)) h)
  fresh_linked (Lit v) h =
      let w = fresh_literal r refl v h in
      chain (Lit v) (Lit w.0) (Col l) (constant v w.0 w.2) (turned (Col l) (Lit w.0) (subst (λ (o : Operand). Linked g f (Col l) o) w.1 edge))

  touched_linked : (p : Part) → IsIn p (touched f l r ps) → (x : Operand) → has_side p x ≡ true → Linked g f x (Col l)
  touched_linked p i x h =
      let t = in_filter (touches f l r) ps p i in
      let parts = and_parts (is_family f p.family) (has_side p (Col l) || has_side p r) t.1 in
      let family : p.family ≡ f = sym (family_is f p.family parts.0) in
      ⊎_elim
      (λ (a : has_side p (Col l) ≡ true). subst (λ (h' : Family). Linked g h' x (Col l)) family (old.linked p t.0 x (Col l) h a))
      (λ (a : has_side p r ≡ true). chain x r (Col l) (subst (λ (h' : Family). Linked g h' x r) family (old.linked p t.0 x r h a)) (turned (Col l) r edge))
      (or_cases (has_side p (Col l)) (has_side p r) parts.1)

  whole_linked : (x : Operand) → has_side whole x ≡ true → Linked g f x (Col l)
  whole_linked x h = ⊎_elim
      (λ (a : has_side fresh x ≡ true). fresh_linked x a)
      (λ (w : (p : Part) × IsIn p (touched f l r ps) × (has_side p x ≡ true)). touched_linked w.0 w.1 x w.2)
      (unite_has fresh (touched f l r ps) x touched_family h)

  -- a group that is not touched has neither side
  no_side : (q : Part) → IsIn q (untouched f l r ps) → f ≡ q.family → (has_side q (Col l) ≡ true → ⊥) × (has_side q r ≡ true → ⊥)
  no_side q i family =
      let t = in_filter (λ p. not (touches f l r p)) ps q i in
      let own : is_family f q.family ≡ true = ap (is_family f) (sym family) ∙ family_self f in
      let touch : has_side q (Col l) || has_side q r ≡ true → ⊥ = λ h. true≢false (sym t.1 ∙ ap not (and_from _ _ own h)) in
      (λ h. touch (or_left (has_side q (Col l)) (has_side q r) h), λ h. touch (or_right (has_side q (Col l)) (has_side q r) h))

  fresh_apart : (q : Part) → IsIn q (untouched f l r ps) → f ≡ q.family → (x : Operand) → has_side q x ≡ true → has_side fresh x ≡ true → ⊥
  fresh_apart q i family (Col c) h h' = ⊎_elim
      (λ (t : is_column c l ≡ true). (no_side q i family).0 (subst (λ (d : ColRef). has_side q (Col d) ≡ true) (column_is c l t) h))
      (λ (t : list_any (is_column c) (operand_columns r) ≡ true). (no_side q i family).1 (subst (λ (o : Operand). has_side q o ≡ true) (sym (fresh_side r refl c t)) h))
      (or_cases (is_column c l) (list_any (is_column c) (operand_columns r)) h')
  fresh_apart q i family (Lit v) h h' =
      let w = fresh_literal r refl v h' in
      let u = any_at (are_equal q.family v) q.literals h in
      let e' : are_equal q.family w.0 v ≡ true = equal_sym q.family v w.0 (subst (λ (a : Family). are_equal a v w.0 ≡ true) family w.2) in
      (no_side q i family).1 (subst (λ (o : Operand). has_side q o ≡ true) (sym w.1) (any_from (are_equal q.family w.0) q.literals u.0 u.1 (equal_trans q.family w.0 v u.0 e' u.2)))

  whole_apart : (q : Part) → IsIn q (untouched f l r ps) → f ≡ q.family → (x : Operand) → has_side q x ≡ true → has_side whole x ≡ true → ⊥
  whole_apart q i family x h h' = ⊎_elim
      (λ (a : has_side fresh x ≡ true). fresh_apart q i family x h a)
      (λ (w : (p : Part) × IsIn p (touched f l r ps) × (has_side p x ≡ true)).
      let t = in_filter (touches f l r) ps w.0 w.1 in
      let n = in_filter (λ p. not (touches f l r p)) ps q i in
      let fam : q.family ≡ (w.0).family = sym family ∙ touched_family w.0 w.1 in
      ⊎_elim
      (λ (s : q ≡ w.0). true≢false (sym n.1 ∙ ap (λ (a : Part). not (touches f l r a)) s ∙ ap not t.1))
      (λ (b : Before q w.0 ps ⊎ Before w.0 q ps). ⊎_elim
      (λ (c : Before q w.0 ps). old.apart q w.0 c fam x h w.2)
      (λ (c : Before w.0 q ps). old.apart w.0 q c (sym fam) x w.2 h)
      b)
      (either_before q w.0 ps n.0 t.0))
      (unite_has fresh (touched f l r ps) x touched_family h')

  whole_family : whole.family ≡ f
  whole_family = unite_family fresh (touched f l r ps)

  pub step_partition : IsPartition g (gathered f l r ps [] fresh)
  step_partition = subst (IsPartition g) (sym result) (record {
    linked = λ p i x y hx hy. ⊎_elim
        (λ (a : IsIn p (untouched f l r ps)). old.linked p (in_filter (λ q. not (touches f l r q)) ps p a).0 x y hx hy)
        (λ (a : IsIn p (whole ∷ [])). ⊎_elim
        (λ (s : p ≡ whole).
        let hx' : has_side whole x ≡ true = ap (λ (q : Part). has_side q x) (sym s) ∙ hx in
        let hy' : has_side whole y ≡ true = ap (λ (q : Part). has_side q y) (sym s) ∙ hy in
        subst (λ (h : Family). Linked g h x y) (sym (ap (λ (q : Part). q.family) s ∙ whole_family)) (chain x (Col l) y (whole_linked x hx') (turned y (Col l) (whole_linked y hy'))))
        (λ (no : ⊥). absurd no) a)
        (in_parts p (untouched f l r ps) (whole ∷ []) i);
    apart = λ p q b fam x hp hq. ⊎_elim
        (λ (c : Before p q (untouched f l r ps)). old.apart p q (before_filter (λ a. not (touches f l r a)) ps p q c) fam x hp hq)
        (λ (c : IsIn p (untouched f l r ps) × (q ≡ whole)).
        whole_apart p c.0 (sym (fam ∙ ap (λ (a : Part). a.family) c.1 ∙ whole_family)) x hp (ap (λ (a : Part). has_side a x) (sym c.1) ∙ hq))
        (before_end (untouched f l r ps) whole p q b);
  })

  right_self : (o : Operand) → r ≡ o → is_other l o ≡ true → has_side fresh o ≡ true
  right_self (Col d) e' other = or_right (is_column d l) (list_any (is_column d) (operand_columns r)) (subst (λ (o : Operand). list_any (is_column d) (operand_columns o) ≡ true) (sym e') (or_left (is_column d d) false (column_self d)))
  right_self (Lit v) e' other = subst (λ (o : Operand). list_any (are_equal f v) (literals_in o) ≡ true) (sym e') (or_left (are_equal f v v) false (literal_self f l v other))

  pub step_new : IsJoined (gathered f l r ps [] fresh) e
  step_new = subst (λ (qs : List Part). IsJoined qs e) (sym result) (record {
    part = whole;
    inside = in_right whole (untouched f l r ps) (whole ∷ []) (inl refl);
    family = whole_family;
    left = has_unite fresh (touched f l r ps) (Col l) touched_family (or_left (is_column l l) (list_any (is_column l) (operand_columns r)) (column_self l));
    right = has_unite fresh (touched f l r ps) r touched_family (right_self r refl (equality_is g.type_of k e is).other);
  })

  pub step_old : (d : Equality) → IsJoined ps d → IsJoined (gathered f l r ps [] fresh) d
  step_old d j = subst (λ (qs : List Part). IsJoined qs d) (sym result) (⊎_elim
      (λ (t : touches f l r j.part ≡ true).
      let i : IsIn j.part (touched f l r ps) = filter_in (touches f l r) ps j.part j.inside t in
      record {
        part = whole;
        inside = in_right whole (untouched f l r ps) (whole ∷ []) (inl refl);
        family = whole_family ∙ touched_family j.part i ∙ j.family;
        left = in_unite fresh (touched f l r ps) (Col d.left) j.part touched_family i j.left;
        right = in_unite fresh (touched f l r ps) d.right j.part touched_family i j.right;
      })
      (λ (t : touches f l r j.part ≡ false). record {
        part = j.part;
        inside = in_left j.part (untouched f l r ps) (whole ∷ []) (filter_in (λ p. not (touches f l r p)) ps j.part j.inside (ap not t));
        family = j.family;
        left = j.left;
        right = j.right;
      })
      (cases_Bool (touches f l r j.part)))

literal_moves : (p : Part) (f : Family) → p.family ≡ f → (v w : Value) → are_equal f v w ≡ true → has_side p (Lit v) ≡ true → has_side p (Lit w) ≡ true
literal_moves p f fam v w e h =
    let u = any_at (are_equal p.family v) p.literals h in
    let e' : are_equal p.family v w ≡ true = subst (λ (a : Family). are_equal a v w ≡ true) (sym fam) e in
    any_from (are_equal p.family w) p.literals u.0 u.1 (equal_trans p.family w v u.0 (equal_sym p.family v w e') u.2)

module _ (g : Premises) where
  -- the groups of all conjuncts
  added_partition : (k : Cond) (o : Option Equality) → IsIn k g.conjuncts → equality_in g.type_of k ≡ o → (ps : List Part) → IsPartition g ps → IsPartition g (added o ps)
  added_partition k None ik is ps old = old
  added_partition k (Some e) ik is ps old = step_partition g k e ik is ps old

  added_old : (k : Cond) (o : Option Equality) → IsIn k g.conjuncts → equality_in g.type_of k ≡ o → (ps : List Part) → IsPartition g ps → (d : Equality) → IsJoined ps d → IsJoined (added o ps) d
  added_old k None ik is ps old d j = j
  added_old k (Some e) ik is ps old d j = step_old g k e ik is ps old d j

  added_new : (k : Cond) (o : Option Equality) → IsIn k g.conjuncts → equality_in g.type_of k ≡ o → (ps : List Part) → IsPartition g ps → (d : Equality) → o ≡ Some d → IsJoined (added o ps) d
  added_new k None ik is ps old d h = cc
  added_new k (Some e) ik is ps old d h = subst (λ (a : Equality). IsJoined (added (Some e) ps) a) (same_Some e d h) (step_new g k e ik is ps old)

  pub grouped_partition : (ks : List Cond) → ((k : Cond) → IsIn k ks → IsIn k g.conjuncts) → (ps : List Part) → IsPartition g ps → IsPartition g (grouped g.type_of ks ps)
  grouped_partition [] inside ps old = old
  grouped_partition (k ∷ ks) inside ps old = grouped_partition ks (λ j i. inside j (inr i)) (added (equality_in g.type_of k) ps) (added_partition k (equality_in g.type_of k) (inside k (inl refl)) refl ps old)

  grouped_old : (ks : List Cond) → ((k : Cond) → IsIn k ks → IsIn k g.conjuncts) → (ps : List Part) → IsPartition g ps → (d : Equality) → IsJoined ps d → IsJoined (grouped g.type_of ks ps) d
  grouped_old [] inside ps old d j = j
  grouped_old (k ∷ ks) inside ps old d j = grouped_old ks (λ h i. inside h (inr i)) (added (equality_in g.type_of k) ps) (added_partition k (equality_in g.type_of k) (inside k (inl refl)) refl ps old) d (added_old k (equality_in g.type_of k) (inside k (inl refl)) refl ps old d j)

  pub grouped_joined : (ks : List Cond) → ((k : Cond) → IsIn k ks → IsIn k g.conjuncts) → (ps : List Part) → IsPartition g ps → (j : Cond) → IsIn j ks → (d : Equality) → equality_in g.type_of j ≡ Some d → IsJoined (grouped g.type_of ks ps) d
  grouped_joined [] inside ps old j i d h = absurd i
  grouped_joined (k ∷ ks) inside ps old j (inl e) d h =
      grouped_old ks (λ a i. inside a (inr i)) (added (equality_in g.type_of k) ps) (added_partition k (equality_in g.type_of k) (inside k (inl refl)) refl ps old) d
      (added_new k (equality_in g.type_of k) (inside k (inl refl)) refl ps old d (ap (equality_in g.type_of) (sym e) ∙ h))
  grouped_joined (k ∷ ks) inside ps old j (inr i) d h = grouped_joined ks (λ a b. inside a (inr b)) (added (equality_in g.type_of k) ps) (added_partition k (equality_in g.type_of k) (inside k (inl refl)) refl ps old) j i d h

  empty_partition : IsPartition g []
  empty_partition = record { linked = λ p i. absurd i; apart = λ p q b. absurd b }

  abbrev pub groups_of : List Part
  groups_of = grouped g.type_of g.conjuncts []

  pub are_partition : IsPartition g groups_of
  are_partition = grouped_partition g.conjuncts (λ k i. i) [] empty_partition

  pub are_joined : (k : Cond) → IsIn k g.conjuncts → (d : Equality) → equality_in g.type_of k ≡ Some d → IsJoined groups_of d
  are_joined k i d h = grouped_joined g.conjuncts (λ j a. a) [] empty_partition k i d h

  -- of two groups of a family that share an element, both are one
  pub one_group : (p q : Part) → IsIn p groups_of → IsIn q groups_of → p.family ≡ q.family → (x : Operand) → has_side p x ≡ true → has_side q x ≡ true → p ≡ q
  one_group p q ip iq fam x hp hq = ⊎_elim
      (λ (e : p ≡ q). e)
      (λ (b : Before p q groups_of ⊎ Before q p groups_of). ⊎_elim
      (λ (c : Before p q groups_of). absurd (are_partition.apart p q c fam x hp hq))
      (λ (c : Before q p groups_of). absurd (are_partition.apart q p c (sym fam) x hq hp))
      b)
      (either_before p q groups_of ip iq)

  -- a group holds what is linked to its elements
  pub closed : (p : Part) → IsIn p groups_of → (f : Family) → p.family ≡ f → (x y : Operand) → Linked g f x y → (has_side p x ≡ true → has_side p y ≡ true) × (has_side p y ≡ true → has_side p x ≡ true)
  closed p ip f fam x y (conjunct k c o i is) =
      let j = are_joined k (in_from_contains g.conjuncts k i) (equal_in c o f) is in
      let moved : (z : Operand) → has_side p z ≡ true → has_side j.part z ≡ true → j.part ≡ p = λ z hp hj. one_group j.part p j.inside ip (j.family ∙ sym fam) z hj hp in
      (λ h. ap (λ (q : Part). has_side q o) (sym (moved (Col c) h j.left)) ∙ j.right, λ h. ap (λ (q : Part). has_side q (Col c)) (sym (moved o h j.right)) ∙ j.left)
  closed p ip f fam x y (constant v w e) = (literal_moves p f fam v w e, literal_moves p f fam w v (equal_sym f v w e))
  closed p ip f fam x y (same z) = (λ h. h, λ h. h)
  closed p ip f fam x y (turned u v m) = let c = closed p ip f fam u v m in (c.1, c.0)
  closed p ip f fam x y (chain u v w m n) = let c = closed p ip f fam u v m in let d = closed p ip f fam v w n in (λ h. d.0 (c.0 h), λ h. c.1 (d.1 h))
