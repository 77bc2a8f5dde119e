use Rattle.rs_dump_laws.proofs.ListedParts.{listed_all}
use Rattle.rs_dump_laws.proofs.listing.listed_parts_are_all.Goals as goal

pub returns : goal.returns
returns c = listed_all
