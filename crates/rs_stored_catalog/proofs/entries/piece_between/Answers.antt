use Rattle.std.proofs.Common.{map}
use Rattle.rs_catalog_pages.specs.Said.{said_piece, said_route}
use Rattle.rs_stored_catalog.proofs.Found.{piece_measures}
use Rattle.rs_stored_catalog.proofs.entries.piece_between.Goals as goal

pub from_thousandths-requires : goal.from_thousandths-requires
from_thousandths-requires c = (piece_measures (map said_route c.args.routes.now) (said_piece c.args.piece.now) c.requires.routes c.requires.piece).0

pub from_thousandths-requires-2 : goal.from_thousandths-requires-2
from_thousandths-requires-2 c = (piece_measures (map said_route c.args.routes.now) (said_piece c.args.piece.now) c.requires.routes c.requires.piece).1

pub from_thousandths-requires-3 : goal.from_thousandths-requires-3
from_thousandths-requires-3 c = (piece_measures (map said_route c.args.routes.now) (said_piece c.args.piece.now) c.requires.routes c.requires.piece).2
