-- The statistics of a column, from what is read of them.
use Rattle.std.proofs.Common.{◌≡◌, ℕ, ◌-◌, ◌^◌, min, List, [], ◌∷◌, map, refl, sym, ap, ◌∙◌, Result, Ok, Err, arith}
use Rattle.std.specs.List.{flat_map}
use Rattle.std.specs.Str.Parse.{digits_value}
use Rattle.std.proofs.lemmas.List.Folds.{flat_map-map}
use Rattle.pg_base.specs.declared.faults.Fault.{Fault}
use Rattle.pg_value.specs.declared.value.SqlType.{SqlType}
use Rattle.pg_value.specs.declared.value.Value.{Value}
use Rattle.sql_lex.specs.declared.tokens.Token.{Token}
use Rattle.sql_grammar.specs.Terminals.{Said}
use Rattle.sql_grammar.specs.Syntax.{Lit}
use Rattle.expr_reader.specs.work.Reading.{numbered}
use Rattle.expr_reader.specs.declared.value.Placed.{Placed}
use Rattle.expr_reader.specs.Literals.{typed_value, place_of_lit}
use Rattle.expr_reader.specs.Conditions.{next}
use Rattle.ddl_reader.specs.declared.literals.CommonRead.{CommonRead}
use Rattle.ddl_reader.specs.declared.statistics.Counted.{Counted}
use Rattle.expr_reader.specs.Lists.{bound_each}
use Rattle.ddl_reader.specs.Statistics.{CommonWords, common_value, number_of_32, start_of, start_of_lit, starts_of_common, statistics_reading}
use Rattle.ddl_reader.specs.work.AsMeant.{placed, common_placed, common_seen, starts_seen, value_seen, start_seen}
use Rattle.ddl_reader.specs.work.Readings.{statistics_read}
use Rattle.ddl_reader.proofs.ListLemmas.{each-ok, each-err, each-same}

-- the greatest number of the narrower field counts
narrowed : (n : ℕ) → min n (2 ^ 32 - 1) ≡ min (min n (2 ^ 64 - 1)) (2 ^ 32 - 1)
narrowed n = omega arith

-- a literal with its first token
placed-by : (m : Result Value Fault) (place : Token) (p : Placed) → next m (λ v. Ok (record { value = v; token = place })) ≡ Ok p → (m ≡ Ok (value_seen p)) × (place.start ≡ start_seen p)
placed-by (Ok v) place p is = let same : record { value = v; token = place } ≡ p = cc (is) in (ap (λ (q : Placed). Ok q.value) same, ap start_seen same)
placed-by (Err f) place p is = absurd (cc (is))

unplaced-by : (m : Result Value Fault) (place : Token) (f : Fault) → next {B = Placed} m (λ v. Ok (record { value = v; token = place })) ≡ Err f → m ≡ Err f
unplaced-by (Ok v) place f is = absurd (cc (is))
unplaced-by (Err g) place f is = let same : g ≡ f = cc (is) in ap Err same

-- a common value with its share
seen-so : (v : Value) (place : Token) (n : Said) →
    ◌≡◌ {A = Result (Value × ℕ) Fault} (Ok (v, number_of_32 n)) (Ok (common_seen (record { literal = record { value = v; token = place }; share = numbered n })))
seen-so v place n = rw (narrowed (digits_value 10 n.value)) refl

common-by : (m : Result Value Fault) (place : Token) (n : Said) (c : CommonRead) →
    next (next {B = Placed} m (λ v. Ok (record { value = v; token = place }))) (λ p. Ok (record { literal = p; share = numbered n })) ≡ Ok c →
    (next m (λ v. Ok (v, number_of_32 n)) ≡ Ok (common_seen c)) × (place.start ∷ start_of n ∷ [] ≡ starts_seen c)
common-by (Ok v) place n c is =
    let same : record { literal = record { value = v; token = place }; share = numbered n } ≡ c = cc (is) in
    (seen-so v place n ∙ ap (λ (d : CommonRead). Ok (common_seen d)) same, ap starts_seen same)
common-by (Err f) place n c is = absurd (cc (is))

uncommon-by : (m : Result Value Fault) (place : Token) (n : Said) (f : Fault) →
    next {B = CommonRead} (next {B = Placed} m (λ v. Ok (record { value = v; token = place }))) (λ p. Ok (record { literal = p; share = numbered n })) ≡ Err f →
    next {B = Value × ℕ} m (λ v. Ok (v, number_of_32 n)) ≡ Err f
uncommon-by (Ok v) place n f is = absurd (cc (is))
uncommon-by (Err g) place n f is = let same : g ≡ f = cc (is) in ap Err same

module _ (t : SqlType) where
  bounds-ok : (ls : List Lit) (ps : List Placed) → bound_each (placed t) ls ≡ Ok ps → bound_each (typed_value t) ls ≡ Ok (map value_seen ps)
  bounds-ok = each-ok (placed t) (typed_value t) value_seen (λ l p is. (placed-by (typed_value t l) (place_of_lit l) p is).0)

  bounds-err : (ls : List Lit) (f : Fault) → bound_each (placed t) ls ≡ Err f → bound_each (typed_value t) ls ≡ Err f
  bounds-err = each-err (placed t) (typed_value t) value_seen (λ l p is. (placed-by (typed_value t l) (place_of_lit l) p is).0) (λ l f is. unplaced-by (typed_value t l) (place_of_lit l) f is)

  bounds-placed : (ls : List Lit) (ps : List Placed) → bound_each (placed t) ls ≡ Ok ps → map start_of_lit ls ≡ map start_seen ps
  bounds-placed = each-same (placed t) start_of_lit start_seen (λ l p is. (placed-by (typed_value t l) (place_of_lit l) p is).1)

  shares-ok : (ws : List CommonWords) (cs : List CommonRead) → bound_each (common_placed t) ws ≡ Ok cs → bound_each (common_value t) ws ≡ Ok (map common_seen cs)
  shares-ok = each-ok (common_placed t) (common_value t) common_seen (λ w c is. (common-by (typed_value t w.0) (place_of_lit w.0) w.1 c is).0)

  shares-err : (ws : List CommonWords) (f : Fault) → bound_each (common_placed t) ws ≡ Err f → bound_each (common_value t) ws ≡ Err f
  shares-err =
      each-err (common_placed t) (common_value t) common_seen (λ w c is. (common-by (typed_value t w.0) (place_of_lit w.0) w.1 c is).0)
      (λ w f is. uncommon-by (typed_value t w.0) (place_of_lit w.0) w.1 f is)

  shares-placed : (ws : List CommonWords) (cs : List CommonRead) → bound_each (common_placed t) ws ≡ Ok cs → flat_map starts_of_common ws ≡ flat_map starts_seen cs
  shares-placed ws cs is =
      let same = each-same (common_placed t) starts_of_common starts_seen (λ w c e. (common-by (typed_value t w.0) (place_of_lit w.0) w.1 c e).1) ws cs is in
      sym (flat_map-map (λ l. l) starts_of_common ws) ∙ (ap (flat_map (λ l. l)) same ∙ flat_map-map (λ l. l) starts_seen cs)

  module _ (k : Counted) (d n : Said) (ws : List CommonWords) (ls : List Lit) where
    -- all literals are bound
    pub statistics-ok : (cs : List CommonRead) (ps : List Placed) → k.distinct ≡ numbered d → k.nulls ≡ numbered n → bound_each (common_placed t) ws ≡ Ok cs → bound_each (placed t) ls ≡ Ok ps →
        statistics_reading t k.table k.col d n ws ls ≡ Ok (statistics_read k cs ps)
    statistics-ok cs ps distinct nulls commons bounds =
        rw (shares-ok ws cs commons, bounds-ok ls ps bounds, shares-placed ws cs commons, bounds-placed ls ps bounds, distinct, nulls, narrowed (digits_value 10 n.value)) refl

    -- a common value is wrong, or a bound is
    pub common-err : (f : Fault) → bound_each (common_placed t) ws ≡ Err f → statistics_reading t k.table k.col d n ws ls ≡ Err f
    common-err f wrong = rw (shares-err ws f wrong) refl

    pub bound-err : (cs : List CommonRead) (f : Fault) → bound_each (common_placed t) ws ≡ Ok cs → bound_each (placed t) ls ≡ Err f → statistics_reading t k.table k.col d n ws ls ≡ Err f
    bound-err cs f commons wrong = rw (shares-ok ws cs commons, bounds-err ls f wrong) refl
