-- Tuples drawn one after another, each of which joins the groups before the next one.
use Rattle.std.proofs.Common.{◌≡◌, ℕ, ◌+◌, ◌*◌, ◌≤◌, List, [], ◌∷◌, ◌++◌, length, map, refl, sym, ap, ◌∙◌, subst, arith, append_assoc, append-nil, length-append}
use Rattle.std.proofs.lemmas.List.{map-append}
use Rattle.sql_query.specs.Tuples.{Tuple}
use Rattle.plan_tree.specs.Counts.{MOST_READS}
use Rattle.executor.specs.work.Reading.{Reading}
use Rattle.group_values.specs.Groups.{Seen}
use Rattle.group_values.specs.work.Steps.{IsLastAlone}
use Rattle.group_values.specs.work.Grouping.{AreOf, Grouping, with_groups}
use Rattle.group_values.specs.work.Neighbours.{AreTogether}
use Rattle.group_values.specs.declared.form.Form.TheVariants.{Sorted}
use Rattle.group_values.proofs.NeighbourLemmas.{last-alone}

-- from one reading to a later one these tuples were drawn and joined the groups of none
pub record HasPushed (seen : Tuple → Seen) (first now : Reading) (before after : Grouping) (f f' l l' : ℕ) : Type 0 where
  pub drawn : List Tuple
  pub all : drawn ++ now.left ≡ first.left
  pub are : AreOf (map seen drawn) after
  pub kept : after ≡ with_groups after.groups before
  pub exact : f' + now.owed ≡ f + first.owed
  pub looked : l' + now.allowed ≤ l + (first.allowed + MOST_READS * length drawn)

module _ (seen : Tuple → Seen) where
  -- none yet
  pub pushed-none : (first : Reading) (g : Grouping) (f l : ℕ) → AreOf [] g → HasPushed seen first first g g f f l l
  pushed-none first g f l none = record { drawn = []; all = refl; are = none; kept = refl; exact = refl; looked = omega arith }

  module _ (first now : Reading) (before mid : Grouping) (f f' l l' : ℕ) (is : HasPushed seen first now before mid f f' l l') where
    -- what is shown of the groups is the same
    pub shape-kept : mid.shape ≡ before.shape
    shape-kept = ap (λ (g : Grouping). g.shape) is.kept

    long : length first.left ≡ length is.drawn + length now.left
    long = sym (ap (λ (ts : List Tuple). length ts) is.all) ∙ length-append is.drawn now.left

    -- no more was looked at than for all
    pub looked-for : l' + now.allowed ≤ l + (first.allowed + MOST_READS * length first.left)
    looked-for = omega (arith, is.looked, long)

    -- all of them
    pub pushed-all : now.left ≡ [] → AreOf (map seen first.left) mid
    pushed-all none =
        let P : List Tuple → Type 0 = λ ts. AreOf (map seen ts) mid in
        subst P (sym (append-nil is.drawn) ∙ ap (λ (ts : List Tuple). is.drawn ++ ts) (sym none) ∙ is.all) is.are

    module _ (later : Reading) (t : Tuple) (left : now.left ≡ t ∷ later.left) where
      abbrev here : List Seen
      here = map seen is.drawn ++ seen t ∷ map seen later.left

      seen-parts : map seen first.left ≡ here
      seen-parts = sym (ap (map seen) is.all) ∙ map-append seen is.drawn now.left ∙ ap (λ (ts : List Tuple). map seen is.drawn ++ map seen ts) left

      -- no group but the last has its keys
      pub next-alone : (before.form ≡ Sorted → AreTogether (map seen first.left)) → mid.form ≡ Sorted → IsLastAlone mid.groups (seen t).keys
      next-alone together sorted =
          let P : List Seen → Type 0 = λ ss. AreTogether ss in
          last-alone mid.shape (map seen is.drawn) (seen t) (map seen later.left) mid.groups is.are
          (subst P seen-parts (together (sym (ap (λ (g : Grouping). g.form) is.kept) ∙ sorted)))

      -- the tuple is one of those that are looked at
      pub looked-more : l' + now.allowed + MOST_READS ≤ l + (first.allowed + MOST_READS * length first.left)
      looked-more = omega (arith, is.looked, long, ap (λ (ts : List Tuple). length ts) left)

      -- one more
      pub pushed-more : (after : Grouping) (f'' l'' l''' : ℕ) → ((ss : List Seen) → AreOf ss mid → AreOf (ss ++ seen t ∷ []) after) → after ≡ with_groups after.groups mid
          → f'' + later.owed ≡ f' + now.owed → l'' + later.allowed ≤ l' + now.allowed → l''' ≤ l'' + MOST_READS → HasPushed seen first later before after f f'' l l'''
      pushed-more after f'' l'' l''' joins kept exact looked seen_at = record {
        drawn = is.drawn ++ t ∷ [];
        all = append_assoc is.drawn (t ∷ []) later.left ∙ ap (λ (ts : List Tuple). is.drawn ++ ts) (sym left) ∙ is.all;
        are = (let P : List Seen → Type 0 = λ ss. AreOf ss after in subst P (sym (map-append seen is.drawn (t ∷ []))) (joins (map seen is.drawn) is.are));
        kept = kept ∙ ap (with_groups after.groups) is.kept;
        exact = omega (arith, exact, is.exact);
        looked = omega (arith, looked, seen_at, is.looked, length-append is.drawn (t ∷ []));
      }
