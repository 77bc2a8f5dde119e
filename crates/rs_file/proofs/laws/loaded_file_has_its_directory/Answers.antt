-- What a file has is what its directory is made of.
use Rattle.rs_catalog_pages.specs.Said.{said_catalogue}
use Rattle.rs_file.proofs.Slotted.{of_items}
use Rattle.rs_file.proofs.laws.loaded_file_has_its_directory.Goals as goal

pub returns-clause-given : goal.returns-clause-given
returns-clause-given c = λ file is. is.sound.numbered.given

pub returns-clause-tables : goal.returns-clause-tables
returns-clause-tables c = λ file is. of_items is.directory (said_catalogue file.definitions) (said_catalogue file.definitions).tables file.tables.items is.tables
