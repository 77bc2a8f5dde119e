-- What waits in a window, and the room after it.
use Rattle.std.specs.Prelude.{ℕ, ◌-◌, List, slice_range}
use Rattle.rs_encodings.specs.declared.window.Window.{Window}

abbrev pub items : Window → List ℕ
items window = slice_range window.bytes window.start window.end

abbrev pub room : Window → ℕ
room window = 4096 - window.end
