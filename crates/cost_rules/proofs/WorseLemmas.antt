-- The better one of two prices.
use Rattle.std.proofs.Common.{◌≡◌, ◌≤◌, Bool, true, false, refl, sym, ◌∙◌, le_refl, le_trans, true≢false}
use Rattle.cost_rules.specs.work.Worse.{IsNoWorse}
use Rattle.cost_rules.specs.declared.prices.Price.{Price}

pub no-worse-self : (a : Price) → IsNoWorse a a
no-worse-self a = record { admissible = λ yes. (yes, le_refl a.amount); dearer = λ not. le_refl a.amount }

pub no-worse-trans : (a b d : Price) → IsNoWorse a b → IsNoWorse b d → IsNoWorse a d
no-worse-trans a b d h k = record {
  admissible = λ yes. let m = k.admissible yes in let n = h.admissible m.0 in (n.0, le_trans n.1 m.1);
  dearer = λ not. le_trans (h.dearer not) (by not b.admissible refl);
}
  where
    by : a.admissible ≡ false → (x : Bool) → b.admissible ≡ x → b.amount ≤ d.amount
    by not true e = absurd (true≢false (sym (h.admissible e).0 ∙ not))
    by not false e = k.dearer e
