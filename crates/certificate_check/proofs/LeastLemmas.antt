-- The least of the finished plans over a certificate's entries.
use Rattle.std.proofs.Common.{◌≡◌, ◌<◌, ◌≤◌, ◌+◌, ℕ, suc, Bool, true, false, length, refl, sym, ap, ap₂, subst, ◌∙◌, true≢false, arith, ◌⊎◌, inl, inr}
use Rattle.std.specs.Prelude.{Option, Some, None, nat_lt, option_map}
use Rattle.std.proofs.lemmas.Bool.{cases_lt, lt-ltb, ltb-true}
use Rattle.std.proofs.lemmas.Option.{slice_get_within, same_Some}
use Rattle.catalog.specs.Contents.{Contents}
use Rattle.cost_rules.specs.declared.parameters.TheConstants.{MOST_COST}
use Rattle.sql_query.specs.Queries.{Query}
use Rattle.pathkeys.specs.Keys.{order_keys}
use Rattle.plan_tree.specs.Costs.{cost, price}
use Rattle.plan_tree.specs.Least.{IsAdmissible}
use Rattle.plan_tree.specs.Plans.{Plan}
use Rattle.plan_check.specs.Certificates.{Certificate, Side, sorted_if, unfold_at}
use Rattle.plan_check.specs.Tables.{IsLeastAmong, IsOver}
use Rattle.plan_check.proofs.UnfoldLemmas.{numbered}
use Rattle.entry_check.specs.plan_check_Reasons.{HasBest, IsNotBest}
use Rattle.certificate_check.specs.work.Pricing.{HasPrice, IsPriced, IsSomePrice}
use Rattle.cost_rules.specs.work.Worse.{IsNoWorse}
use Rattle.cost_rules.specs.declared.prices.Price.{Price}
use Rattle.cost_rules.proofs.WorseLemmas.{no-worse-trans}

some-input : (f : Plan → Plan) (o : Option Plan) (p : Plan) → option_map f o ≡ Some p → (i : Plan) × (o ≡ Some i)
some-input f None p e = absurd (none-some p e)
  where
    none-some : (x : Plan) → None ≡ Some x → ⊥
    none-some x e = cc
some-input f (Some i) p e = (i, refl)

module _ (c : Contents) (q : Query) (t : Certificate) where
  -- the price of a side is one
  same-plan : (s : Side) (x y : Price) (a : IsPriced c q t s x) (b : IsPriced c q t s y) → a.plan ≡ b.plan
  same-plan s x y a b = same_Some a.plan b.plan (sym a.is ∙ b.is)

  admissible-too : (p : Plan) (x y : Price) → HasPrice c q p x → HasPrice c q p y → x.admissible ≡ y.admissible
  admissible-too p x y a b = by x.admissible y.admissible refl refl
    where
      by : (m n : Bool) → x.admissible ≡ m → y.admissible ≡ n → x.admissible ≡ y.admissible
      by true true e f = e ∙ sym f
      by false false e f = e ∙ sym f
      by true false e f = absurd (b.no f (a.yes e))
      by false true e f = absurd (a.no e (b.yes f))

  same-price : (s : Side) (x y : Price) → IsPriced c q t s x → IsPriced c q t s y → x ≡ y
  same-price s x y a b =
      let h : HasPrice c q a.plan y = subst (λ (p : Plan). HasPrice c q p y) (sym (same-plan s x y a b)) b.has in
      ap₂ (λ (n : ℕ) (m : Bool). let z : Price = record { amount = n; admissible = m } in z) (a.has.amount_is ∙ sym h.amount_is) (admissible-too a.plan x y a.has h)

  pub this-side : (s : Side) (y result : Price) → IsPriced c q t s y → IsNoWorse result y → (x : Price) → IsPriced c q t s x → IsNoWorse result x
  this-side s y result a h x b = subst (IsNoWorse result) (same-price s y x a b) h

  pub some-better : (s : Side) (least x result : Price) → IsSomePrice c q t least → IsPriced c q t s x → (result ≡ least) ⊎ (result ≡ x) → IsSomePrice c q t result
  some-better s least x result h a (inl same) = subst (IsSomePrice c q t) (sym same) h
  some-better s least x result h a (inr same) = subst (IsSomePrice c q t) (sym same) (record { side = s; priced = a })

  -- no price of the entries before a place is better
  pub record IsLeastBefore (n : ℕ) (least : Price) : Type 0 where
    pub some : IsSomePrice c q t least
    pub each : (k : ℕ) → k < n → (sorted : Bool) (x : Price) → IsPriced c q t (record { sorted = sorted; entry = suc k }) x → IsNoWorse least x

  pub least-first : (x : Price) → IsSomePrice c q t x → IsLeastBefore 0 x
  least-first x h = record { some = h; each = λ k lt sorted y a. absurd (omega (arith, lt)) }

  pub least-next : (n : ℕ) (least plain result : Price) → IsLeastBefore n least → IsNoWorse plain least → ((x : Price) → IsPriced c q t (record { sorted = false; entry = n + 1 }) x → IsNoWorse plain x) →
      IsSomePrice c q t result → IsNoWorse result plain → ((x : Price) → IsPriced c q t (record { sorted = true; entry = n + 1 }) x → IsNoWorse result x) → IsLeastBefore (n + 1) result
  least-next n least plain result h a this some b that = record { some = some; each = λ k lt sorted x p. by k (cases_lt k n) lt sorted x p }
    where
      here : (sorted : Bool) (x : Price) → IsPriced c q t (record { sorted = sorted; entry = n + 1 }) x → IsNoWorse result x
      here false x p = no-worse-trans result plain x b (this x p)
      here true x p = that x p

      by : (k : ℕ) → (k < n) ⊎ (n ≤ k) → k < n + 1 → (sorted : Bool) (x : Price) → IsPriced c q t (record { sorted = sorted; entry = suc k }) x → IsNoWorse result x
      by k (inl less) lt sorted x p = no-worse-trans result plain x b (no-worse-trans plain least x a (h.each k less sorted x p))
      by k (inr most) lt sorted x p =
          let same : suc k ≡ n + 1 = omega (arith, most, lt) in
          here sorted x (subst (λ (m : ℕ). IsPriced c q t (record { sorted = sorted; entry = m }) x) same p)

  -- no price of any side is better
  pub least-all : (n : ℕ) (least : Price) → length t.entries ≤ n → IsLeastBefore n least → (s : Side) (x : Price) → IsPriced c q t s x → IsNoWorse least x
  least-all n least le h s x p =
      let i = some-input (sorted_if s.sorted (order_keys q.classes q.order)) (unfold_at q t s.entry) p.plan p.is in
      let at = numbered q t s.entry i.0 i.1 in
      let lt = slice_get_within t.entries at.place at.entry at.stands in
      h.each at.place (omega (arith, lt, le)) s.sorted x (subst (λ (m : ℕ). IsPriced c q t (record { sorted = s.sorted; entry = m }) x) at.number p)

  -- a finished plan over an entry has a price
  abbrev price-of : Plan → Price
  price-of o = record { amount = price c q o; admissible = nat_lt (cost c q o).total MOST_COST }

  over-priced : (o : Plan) (h : IsOver c q t o) → IsPriced c q t h.side (price-of o)
  over-priced o h = record {
    plan = o;
    is = h.is;
    finished = h.finished;
    has = record { amount_is = refl; yes = ltb-true (cost c q o).total MOST_COST; no = λ is lt. true≢false (sym (lt-ltb (cost c q o).total MOST_COST lt) ∙ is) };
  }

  priced-over : (s : Side) (x : Price) (p : IsPriced c q t s x) → IsOver c q t p.plan
  priced-over s x p = record { side = s; is = p.is; finished = p.finished }

  -- none is better: it is the least
  pub least-among : (s : Side) (x : Price) (p : IsPriced c q t s x) → ((r : Side) (y : Price) → IsPriced c q t r y → IsNoWorse x y) → IsLeastAmong c q (IsOver c q t) p.plan
  least-among s x p h = record { admissible = by; dearer = none }
    where
      by : (o : Plan) → IsOver c q t o → IsAdmissible c q o → IsAdmissible c q p.plan × (price c q p.plan ≤ price c q o)
      by o over less =
          let w = (h over.side (price-of o) (over-priced o over)).admissible (lt-ltb (cost c q o).total MOST_COST less) in
          let le = w.1 in
          let is = p.has.amount_is in
          (p.has.yes w.0, omega (arith, le, is))

      none : ((o : Plan) → IsOver c q t o → ¬ IsAdmissible c q o) → (o : Plan) → IsOver c q t o → price c q p.plan ≤ price c q o
      none all o over = at x.admissible refl
        where
          at : (b : Bool) → x.admissible ≡ b → price c q p.plan ≤ price c q o
          at true e = absurd (all p.plan (priced-over s x p) (p.has.yes e))
          at false e = let le = (h over.side (price-of o) (over-priced o over)).dearer e in let is = p.has.amount_is in omega (arith, le, is)

  -- the least price is no worse than any
  among-least : (s r : Side) (x y : Price) (p : IsPriced c q t s x) → IsLeastAmong c q (IsOver c q t) p.plan → IsPriced c q t r y → IsNoWorse x y
  among-least s r x y p least b = record { admissible = by; dearer = none }
    where
      less : price c q p.plan ≤ price c q b.plan → x.amount ≤ y.amount
      less le = let m = p.has.amount_is in let n = b.has.amount_is in omega (arith, le, m, n)

      is-yes : IsAdmissible c q p.plan → x.admissible ≡ true
      is-yes lt = at x.admissible refl
        where
          at : (m : Bool) → x.admissible ≡ m → x.admissible ≡ true
          at true e = e
          at false e = absurd (p.has.no e lt)

      by : y.admissible ≡ true → (x.admissible ≡ true) × (x.amount ≤ y.amount)
      by e = let h = least.admissible b.plan (priced-over r y b) (b.has.yes e) in (is-yes h.0, less h.1)

      none : x.admissible ≡ false → x.amount ≤ y.amount
      none e = less (least.dearer (λ o over lt. p.has.no e (least.admissible o over lt).0) b.plan (priced-over r y b))

  best-plan : (x : Price) (p : IsPriced c q t t.best x) (best : HasBest c q t) → p.plan ≡ best.plan
  best-plan x p best = same_Some p.plan best.plan (sym p.is ∙ best.is)

  pub best-least : (x least : Price) → IsPriced c q t t.best x → IsNoWorse x least → ((r : Side) (y : Price) → IsPriced c q t r y → IsNoWorse least y) → (best : HasBest c q t) → IsLeastAmong c q (IsOver c q t) best.plan
  best-least x least p h under best =
      subst (IsLeastAmong c q (IsOver c q t)) (best-plan x p best) (least-among t.best x p (λ r y b. no-worse-trans x least y h (under r y b)))

  pub not-best : (x least : Price) → HasBest c q t → IsPriced c q t t.best x → ¬ IsNoWorse x least → IsSomePrice c q t least → ((r : Side) (y : Price) → IsPriced c q t r y → IsNoWorse least y) → IsNotBest c q t x.amount least.amount
  not-best x least best p worse some under =
      let o = some.priced in
      let same = best-plan x p best in
      record {
        best = best;
        printed_is = p.has.amount_is ∙ ap (price c q) same;
        other = o.plan;
        over = priced-over some.side least o;
        least = least-among some.side least o under;
        own_is = o.has.amount_is;
        less = λ h. worse (among-least t.best some.side x least p (subst (IsLeastAmong c q (IsOver c q t)) (sym same) h) o);
      }
