use Rattle.std.proofs.Common.{◌≤◌, ◌∙◌, ap, arith, refl, pos, ◌-ℤ◌, ℤ, w8, w16}
use Rattle.std.proofs.lemmas.Int.{to_z_pos}
use Rattle.civil.proofs.DayLemmas.{found, wrapped}
use Rattle.civil.proofs.dates.number_of.Goals as goal

pub returns-in-Ok : goal.returns-in-Ok
returns-in-Ok c =
    let some : 1 ≤ c.args.year = omega (arith, c.if-year-eq0.false) in
    found c.args.year c.args.month c.args.day _ _ _ c.in-Ok.date _ (to_z_pos w16 c.args.year (omega (arith, c.requires.year))) (to_z_pos w8 c.args.month (omega (arith, c.requires.month))) (to_z_pos w8 c.args.day (omega (arith, c.requires.day)))
    some (c.in-Ok.ensures.succeeds.0 refl) c.in-Ok.ensures.value
    (wrapped c.to_unix_epoch_day.result c.to_unix_epoch_day.ensures.bound ∙ ap (λ (n : ℤ). n -ℤ pos 10957) c.to_unix_epoch_day.ensures.value)
