-- What the code computes on the way. No public clause cites this.
use Rattle.std.specs.Prelude.{◌≡◌, ℕ, List, ◌∷◌, ◌++◌, map, take, drop, slice_set, slice_index_or, Some, None}
use Rattle.std.specs.FinMap.{put}
use Rattle.rs_methods.specs.declared.referents.Referent.{Referent}
use Rattle.rs_methods.specs.Position.{measure_of}
use Rattle.rs_methods.specs.Referents.{key_cmp, entry_of, referents_of}

-- a key that stands at a place: its measure is there, and another is put there
pub record IsFound (key : ℕ × List ℕ) (items : List Referent) (place : ℕ) : Type 0 where
  pub puts : (d : Referent) (measure : ℕ) → put key_cmp key measure (map entry_of items) ≡ map entry_of (slice_set items place (record (slice_index_or items place d) { measure = measure }))
  pub stands : (d : Referent) → measure_of key.1 (referents_of key.0 (map entry_of items)) ≡ Some (slice_index_or items place d).measure

-- a key that stands nowhere and belongs to a place: it is put in there
pub record IsAbsent (key : ℕ × List ℕ) (items : List Referent) (place : ℕ) : Type 0 where
  pub puts : (measure : ℕ) → put key_cmp key measure (map entry_of items) ≡ map entry_of (take place items) ++ (key, measure) ∷ map entry_of (drop place items)
  pub missing : measure_of key.1 (referents_of key.0 (map entry_of items)) ≡ None
