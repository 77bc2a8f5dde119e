-- What reads leave.
use Rattle.std.specs.Prelude.{◌≡◌}
use Rattle.rs_dump.specs.Shown.{Many, Shown}
use Rattle.rs_dump.specs.declared.held.Held as held

module _ {H : Type 0} (h : held.Ghosts H) where
  -- the definitions, what is shown, and what each call keeps
  pub record Reads (old new : H) : Type 0 where
    pub catalog : h.catalog new ≡ h.catalog old
    pub referents : h.referents new ≡ h.referents old
    pub shows : (shown : Shown) → h.shows old shown → h.shows new shown
    pub passes : Many h.passes old new
