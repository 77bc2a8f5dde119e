-- Lines of the code, and those of plans one after another.
use Rattle.std.specs.Prelude.{ℕ, List, [], ◌∷◌, ◌++◌, map, Vec, string_bytes}
use Rattle.std.specs.declared.alloc.Global.{Global}
use Rattle.std.specs.declared.string.String.{String}
use Rattle.rs_planning.specs.Plan.{Plan}
use Rattle.rs_planning.specs.Explain.{lines_from}

-- each line is its bytes
abbrev pub lines_of : Vec (String Global) Global → List (List ℕ)
lines_of lines = map string_bytes lines.items

abbrev pub lines_from_each : ℕ → List Plan → List (List ℕ)
lines_from_each depth [] = []
lines_from_each depth (plan ∷ plans) = lines_from depth plan ++ lines_from_each depth plans
