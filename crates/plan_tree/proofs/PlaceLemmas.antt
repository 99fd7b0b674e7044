-- Numbers of classes by their places.
use Rattle.std.proofs.Common.{◌≡◌, ◌<◌, ℕ, List, length, get_or}
use Rattle.std.proofs.lemmas.List.{get_or-map}
use Rattle.eq_classes.specs.declared.classes.ClassNo.{ClassNo}
use Rattle.pathkeys.specs.work.Finding.{class_numbers}

pub number-at : (keys : List ClassNo) (i : ℕ) (d : ClassNo) → i < length keys → get_or (class_numbers keys) i 0 ≡ (get_or keys i d).0
number-at keys i d lt = get_or-map (λ (c : ClassNo). c.0) keys i d 0 lt
