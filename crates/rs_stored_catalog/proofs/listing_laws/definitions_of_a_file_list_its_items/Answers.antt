use Rattle.rs_stored_catalog.proofs.ListedBack.{listed_back}
use Rattle.rs_stored_catalog.proofs.listing_laws.definitions_of_a_file_list_its_items.Goals as goal

pub returns : goal.returns
returns c = λ version catalogue definitions meant born are. listed_back version catalogue definitions meant born are
