-- The queries of a script, measured one statement after another.
use Rattle.std.proofs.Common.{◌≡◌, ◌<◌, ◌+◌, ℕ, List, [], ◌∷◌, ◌++◌, length, Option, Some, None, refl, sym, ap, subst, ◌∙◌, arith, append-nil}
use Rattle.std.proofs.lemmas.List.{length-append}
use Rattle.std.proofs.lemmas.List.Sums.{sum_by_push}
use Rattle.std.specs.List.{cons_option}
use Rattle.store.specs.Actions.{after}
use Rattle.statements.specs.reply_Measures.{IsBestPrice, rows_in}
use Rattle.statements.specs.reply_measuring_Measured.{Measured}
use Rattle.sql_query.specs.Worlds.{World, empty_world}
use Rattle.statements.specs.declared.end.End.{End}
use Rattle.statements.specs.declared.end.End.TheVariants as ends
use Rattle.statements.specs.Askings.{Asking, asked_in, askings}
use Rattle.statements.specs.work.Askings.{IsMeasuredOf}
use Rattle.statements.specs.Scripts.{AreFirst, Worked, place_after, world_after}
use Rattle.statements.specs.work.Steps.{StopsTally, Tallies}
use Rattle.pgplan.specs.Summaries.{AreLeastPrices, AreSummed, ComeTo}
use Rattle.pgplan.specs.work.Summaries.{EndsTally, cost_in, number_in, rows_told}
use Rattle.pgplan.proofs.ScriptLemmas.{AreWorked-more, place_after-more, world_after-more}

cons-append : {A : Type 0} (o : Option A) (xs ys : List A) → cons_option o (xs ++ ys) ≡ cons_option o xs ++ ys
cons-append None xs ys = refl
cons-append (Some x) xs ys = refl

-- what one more statement asks comes last
askings-more : (w : World) (ss : List Worked) (s : Worked) → askings w (ss ++ s ∷ []) ≡ askings w ss ++ cons_option (asked_in (world_after w ss) s.action) []
askings-more w [] s = refl
askings-more w (t ∷ ss) s =
    ap (λ (qs : List Asking). cons_option (asked_in w t.action) qs) (askings-more (after w t.action) ss s)
    ∙ cons-append (asked_in w t.action) (askings (after w t.action) ss) (cons_option (asked_in (world_after (after w t.action) ss) s.action) [])

least-more : (qs : List Asking) (prices : List ℕ) (a : Asking) (price : ℕ) → AreLeastPrices qs prices → IsBestPrice a.world.contents a.query price → AreLeastPrices (qs ++ a ∷ []) (prices ++ price ∷ [])
least-more [] [] a price are one = (one, tt)
least-more [] (p ∷ ps) a price are one = absurd are
least-more (b ∷ bs) [] a price are one = absurd are
least-more (b ∷ bs) (p ∷ ps) a price are one = (are.0, least-more bs ps a price are.1 one)

-- one more statement adds what was measured of it
come-more : (qs : List Asking) (o : Option Asking) (m : Option Measured) (q r c : ℕ) → ComeTo qs q r c → IsMeasuredOf o m → ComeTo (qs ++ cons_option o []) (q + number_in m) (r + rows_told m) (c + cost_in m)
come-more qs None None q r c are measured =
    subst (λ (xs : List Asking). ComeTo xs (q + 0) (r + 0) (c + 0)) (sym (append-nil qs))
    (record { counted = omega (arith, are.counted); shown = omega (arith, are.shown); prices = are.prices; least = are.least; priced = omega (arith, are.priced) })
come-more qs None (Some m) q r c are measured = absurd measured
come-more qs (Some a) None q r c are measured = absurd measured
come-more qs (Some a) (Some m) q r c are measured = record {
  counted = omega (arith, are.counted, length-append qs (a ∷ []));
  shown = omega (arith, are.shown, measured.counted, sum_by_push (λ (b : Asking). rows_in b.world b.query) qs a);
  prices = are.prices ++ m.cost ∷ [];
  least = least-more qs are.prices a m.cost are.least measured.priced;
  priced = omega (arith, are.priced, sum_by_push (λ (x : ℕ). x) are.prices m.cost);
}

-- the first statements were worked up to this place, left this world, and come to these numbers
pub record IsTalliedTo (text : List ℕ) (at : ℕ) (w : World) (q r c : ℕ) : Type 0 where
  pub statements : List Worked
  pub first : AreFirst text statements
  pub place : place_after 0 statements ≡ at
  pub world : world_after empty_world statements ≡ w
  pub come : ComeTo (askings empty_world statements) q r c

-- before the first statement
pub is_tallied : (text : List ℕ) (w : World) → w ≡ empty_world → IsTalliedTo text 0 w 0 0 0
is_tallied text w e = record { statements = []; first = tt; place = refl; world = sym e; come = record { counted = refl; shown = refl; prices = []; least = tt; priced = refl } }

-- a step further
pub tallied_further : (text : List ℕ) (at next : ℕ) (w w' : World) (q r c : ℕ) (m : Option Measured) → IsTalliedTo text at w q r c → at < length text → Tallies w w' text at next m →
    IsTalliedTo text next w' (q + number_in m) (r + rows_told m) (c + cost_in m)
tallied_further text at next w w' q r c m so more step =
    let s : Worked = record { action = step.action; next = next; reply = step.tallied.reply } in
    record {
      statements = so.statements ++ s ∷ [];
      first = AreWorked-more empty_world text 0 so.statements s so.first (rw so.place more) (rw (so.world, so.place) step.read) (rw so.world step.tallied.replies);
      place = place_after-more 0 so.statements s;
      world = world_after-more empty_world so.statements s ∙ ap (λ (v : World). after v step.action) so.world ∙ sym step.world;
      come =
          subst (λ (qs : List Asking). ComeTo qs (q + number_in m) (r + rows_told m) (c + cost_in m)) (sym (askings-more empty_world so.statements s))
          (come-more (askings empty_world so.statements) (asked_in (world_after empty_world so.statements) step.action) m q r c so.come (rw so.world step.tallied.measured));
    }

-- at the end of the text
pub all_tallied : (text : List ℕ) (at : ℕ) (w : World) (q r c : ℕ) → IsTalliedTo text at w q r c → at ≡ length text → AreSummed text q r c
all_tallied text at w q r c so e = record { statements = so.statements; all = record { first = so.first; ended = so.place ∙ e }; come = so.come }

-- a statement that was not worked
pub tally_stopped : (e : End) (text : List ℕ) (at : ℕ) (w w' : World) (q r c : ℕ) → IsTalliedTo text at w q r c → at < length text → w' ≡ w → StopsTally e w text at → EndsTally e text w'
tally_stopped (ends.Fault fault) text at w w' q r c so more same stop = (
  record {
    statements = so.statements;
    first = so.first;
    more = rw so.place more;
    fault = fault;
    is = rw (so.world, so.place) stop.0;
  },
  refl,
  same ∙ sym so.world,
  rw same stop.1,
)
tally_stopped ends.Write text at w w' q r c so more same stop = stop
tally_stopped ends.Memory text at w w' q r c so more same stop = tt
