-- Which folder holds the file at a path.
use Rattle.std.specs.Prelude.{ℕ, List, [], ◌∷◌}
use Rattle.std.specs.declared.option.Option.{Option}
use Rattle.std.specs.declared.option.Option.TheVariants.{Some, None}
use Rattle.std.specs.Path.{path_parent, cur_dir}

-- the folder that a path's parent names: the one of the program, `.`, where there is no parent or one without a name
abbrev pub named_folder : Option (List ℕ) → List ℕ
named_folder None = cur_dir
named_folder (Some []) = cur_dir
named_folder (Some (b ∷ bs)) = b ∷ bs

-- the path's parent, and `.` where it has none
abbrev pub folder_bytes : List ℕ → List ℕ
folder_bytes path = named_folder (path_parent path)
