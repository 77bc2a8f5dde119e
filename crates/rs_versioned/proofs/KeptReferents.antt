-- Referents are kept so that what becomes of their cells becomes of them.
use Rattle.std.proofs.Common.{◌≡◌, ◌<◌, ◌-◌, ◌^◌, ℕ, List, ◌++◌, length, replicate, arith}
use Rattle.std.specs.Int.{w32, to_be_bytes}
use Rattle.rs_cell_versions.specs.Version.{ended}
use Rattle.rs_versioned.specs.Records.{IsKept}
use Rattle.rs_versioned.specs.Referents.{ReferentRecord, SaysReferent, ended_referent, kept_referents}
use Rattle.rs_versioned.proofs.CellVersions.{IsVersioned, born_read, died_read, ended_read}
use Rattle.rs_versioned.proofs.ReferentCells.{referent_has_one_cell, referent_said_once, referent_wide}

-- what is before a referent's birth in its cell
abbrev referent_front : ReferentRecord → List ℕ
referent_front referent = to_be_bytes w32 referent.route ++ (referent.name ++ replicate (32 - length referent.name) 0)

referent_versioned : (cell : List ℕ) (referent : ReferentRecord) → SaysReferent cell referent → IsVersioned cell (referent_front referent) referent.born referent.measure referent.died
referent_versioned cell referent says = record { born_fits = says.born_fits; died_fits = says.died_fits; bytes = says.bytes }

referent_ends : (version : ℕ) (cell : List ℕ) (referent : ReferentRecord) → version < 2 ^ 64 → SaysReferent cell referent → SaysReferent (ended version cell) (ended_referent version referent)
referent_ends version cell referent fits says = record {
  route_fits = says.route_fits;
  name_fits = says.name_fits;
  no_zeros = says.no_zeros;
  born_fits = says.born_fits;
  measure_fits = says.measure_fits;
  died_fits = fits;
  bytes = ended_read version cell (referent_front referent) referent.born referent.measure referent.died (referent_versioned cell referent says);
}

pub referents_are_kept : IsKept kept_referents
referents_are_kept = record {
  one = referent_said_once;
  has_one = referent_has_one_cell;
  long = λ cell referent says. let wide : length cell ≡ 56 = referent_wide cell referent says in omega arith;
  born = λ cell referent says. born_read cell (referent_front referent) referent.born referent.measure referent.died (referent_versioned cell referent says);
  died = λ cell referent says. died_read cell (referent_front referent) referent.born referent.measure referent.died (referent_versioned cell referent says);
  ends = referent_ends;
}
