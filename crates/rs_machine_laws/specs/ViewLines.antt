-- The shortest line that defines a view.
use Rattle.std.specs.Prelude.{◌≤◌, ℕ, IsTrue, List, ◌++◌, codes, length}
use Rattle.rs_machine.specs.Request.{is_text}
use Rattle.rs_machine.specs.declared.limits.TheConstants.{LINE_BYTES}

-- by session 0, with one blank between words
abbrev pub shortest_view_line : List ℕ → List ℕ → List ℕ
shortest_view_line name text = codes "0 DEFINE VIEW " ++ (name ++ (codes " AS " ++ text))

-- it is no longer than a line may be, and text
pub record IsReadable (line : List ℕ) : Type 0 where
  pub few : length line ≤ LINE_BYTES
  pub is_text : IsTrue (is_text line)
