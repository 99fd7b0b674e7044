-- The keys of a map by name, as their bytes.
use Rattle.std.specs.Prelude.{ℕ, List, map, Vec}
use Rattle.std.specs.declared.alloc.Global.{Global}

-- the bytes of each key
abbrev pub key_names : List (Vec ℕ Global) → List (List ℕ)
key_names keys = map (λ k. k.items) keys
