-- One path is at most another where it is so in each of its numbers and its keys begin with the other's.
use Rattle.std.proofs.Common.{◌≡◌, ◌≤◌, ℕ, true, sym, ◌∙◌, ap, arith, subst₂}
use Rattle.std.specs.Prelude.{Option, Some, None}
use Rattle.pg_base.specs.Sets.{has}
use Rattle.pg_base.proofs.SetLaws.{same_set}
use Rattle.sql_query.specs.catalog_Contents.{Contents}
use Rattle.sql_query.specs.Queries.{Query}
use Rattle.sql_query.specs.declared.window.Window.{Window}
use Rattle.pathkeys.specs.Keys.{covers}
use Rattle.plan_tree.specs.Least.{Dominates, IsStartupAtMost}
use Rattle.plan_tree.specs.Paths.{startup_kept}
use Rattle.plan_tree.specs.work.Paths.{Path, HasItsNumbers, is_at_most}
use Rattle.plan_tree.specs.work.Ranks.{parts-of, from-parts}

startup-less : (w : Option Window) (a b m n : ℕ) → a ≡ startup_kept w m → b ≡ startup_kept w n → a ≤ b → IsStartupAtMost w m n
startup-less None a b m n e f h = tt
startup-less (Some w) a b m n e f h = subst₂ (λ x y. x ≤ y) e f h

less-startup : (w : Option Window) (a b m n : ℕ) → a ≡ startup_kept w m → b ≡ startup_kept w n → IsStartupAtMost w m n → a ≤ b
less-startup None a b m n e f h = subst₂ (λ x y. x ≤ y) (sym e) (sym f) (omega arith)
less-startup (Some w) a b m n e f h = subst₂ (λ x y. x ≤ y) (sym e) (sym f) h

module _ (c : Contents) (q : Query) where
  pub at-most-dominates : (a b : Path) → HasItsNumbers c q a → HasItsNumbers c q b → is_at_most a b ≡ true → Dominates c q a.tree b.tree
  at-most-dominates a b h k e =
      let p = parts-of a b e in
      record {
        like = record {
          set = λ x. sym (h.set x) ∙ ap (λ n. has n x) p.set ∙ k.set x;
          param = λ x. sym (h.param x) ∙ ap (λ n. has n x) p.param ∙ k.param x;
        };
        total = subst₂ (λ x y. x ≤ y) h.cost k.cost p.cost;
        startup = startup-less q.window a.startup b.startup _ _ h.startup k.startup p.startup;
        keys = subst₂ (λ x y. covers x y ≡ true) h.keys k.keys p.keys;
      }

  pub dominates-at-most : (a b : Path) → HasItsNumbers c q a → HasItsNumbers c q b → Dominates c q a.tree b.tree → is_at_most a b ≡ true
  dominates-at-most a b h k d =
      from-parts a b (record {
        set = same_set a.set.0 b.set.0 (λ x. h.set x ∙ d.like.set x ∙ sym (k.set x));
        param = same_set a.param.0 b.param.0 (λ x. h.param x ∙ d.like.param x ∙ sym (k.param x));
        startup = less-startup q.window a.startup b.startup _ _ h.startup k.startup d.startup;
        cost = subst₂ (λ x y. x ≤ y) (sym h.cost) (sym k.cost) d.total;
        keys = subst₂ (λ x y. covers x y ≡ true) (sym h.keys) (sym k.keys) d.keys;
      })
