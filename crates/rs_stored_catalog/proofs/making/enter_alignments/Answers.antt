use Rattle.std.proofs.Common.{◌≤◌, length, map, sym, ap, subst, ◌∙◌, arith}
use Rattle.std.specs.List.{AllByRecursion}
use Rattle.std.proofs.lemmas.List.{length-map}
use Rattle.rs_catalog.specs.Definitions as catalog
use Rattle.rs_catalog.specs.Definitions.{Definitions, IsColumnOf, IsFree}
use Rattle.rs_catalog_meaning.specs.Meaning as meaning
use Rattle.rs_catalog_meaning.specs.Meaning.{ends_of}
use Rattle.rs_catalog_meaning.specs.Stating.{table_with}
use Rattle.rs_catalog_pages.specs.Items.{AlignmentItem}
use Rattle.rs_catalog_pages.specs.Said.{said_alignment, said_piece, said_route}
use Rattle.rs_facts.specs.Fact.{Name, Names}
use Rattle.rs_grammar.specs.declared.kind.TheConstants.{NAME_BYTES}
use Rattle.rs_stored_catalog.proofs.Entering.{each_said, nothing, said_at, step, whole}
use Rattle.std.specs.Prelude.{List}
use Rattle.rs_catalog.specs.Changes.{with_alignment}
use Rattle.rs_catalog.specs.Definitions.{pieces_of}
use Rattle.rs_catalog_meaning.specs.Stating.{named_alignment}
use Rattle.rs_catalog_meaning.specs.Stating as stating
use Rattle.rs_catalog_pages.specs.declared.items.StoredPiece.{StoredPiece}
use Rattle.rs_facts.specs.Query.{Piece}
use Rattle.rs_facts.specs.WellFormed.{ArePiecesOn}
use Rattle.rs_stored_catalog.proofs.Found.{numbers_once}
use Rattle.rs_stored_catalog.proofs.making.enter_alignments.Goals as goal

abbrev name : AlignmentItem → Name
name x = x.name

pub loop-alignment-init : goal.loop-alignment-init
loop-alignment-init c = ap (λ (items : Names (List Piece)). record c.args.catalog.now { alignments = items }) (c.requires.none ∙ sym (nothing name (λ (x : AlignmentItem). (named_alignment (map said_route c.args.routes.now) x).1) (map said_alignment c.args.alignments.now)))

pub name_of-requires : goal.name_of-requires
name_of-requires c =
    let is = each_said said_alignment (meaning.IsAlignment (map said_route c.args.routes.now)) c.args.alignments.now c.loop-alignment.alignment-index c.alignment-item.result c.loop-alignment-test.true c.alignment-item.is c.requires.meant.each in
    subst (λ text. length text ≤ NAME_BYTES) (sym c.as_str.ensures.value) is.named.short

pub unreachable-requires : goal.unreachable-requires
unreachable-requires c = c.in_default.ensures.none (numbers_once c.args.routes.now c.requires.routes)

pub pieces-requires-clause-pieces : goal.pieces-requires-clause-pieces
pieces-requires-clause-pieces c =
    subst (λ (l : List StoredPiece). AllByRecursion (meaning.IsPiece (map said_route c.args.routes.now)) (map said_piece l)) (sym c.deref.ensures.value)
    (each_said said_alignment (meaning.IsAlignment (map said_route c.args.routes.now)) c.args.alignments.now c.loop-alignment.alignment-index c.alignment-item.result c.loop-alignment-test.true c.alignment-item.is c.requires.meant.each).lie

pub define_alignment-requires : goal.define_alignment-requires
define_alignment-requires c =
    let pieces = pieces_of c.in_ok-pieces.pieces.items in
    let same = c.in_ok-pieces.ensures ∙ ap (λ (l : List StoredPiece). map (stating.piece_of (map said_route c.args.routes.now)) (map said_piece l)) c.deref.ensures.value in
    let lie = each_said said_alignment (λ (a : AlignmentItem). ArePiecesOn (catalog.routes_of c.args.catalog.now) (named_alignment (map said_route c.args.routes.now) a).1)
    c.args.alignments.now c.loop-alignment.alignment-index c.alignment-item.result c.loop-alignment-test.true c.alignment-item.is c.requires.lie in
    subst (λ (d : Definitions). ArePiecesOn (catalog.routes_of d) pieces) (sym c.loop-alignment.invariant) (subst (ArePiecesOn (catalog.routes_of c.args.catalog.now)) (sym same) lie)

pub loop-alignment-preserved : goal.loop-alignment-preserved
loop-alignment-preserved c =
    let at = said_at said_alignment c.args.alignments.now c.loop-alignment.alignment-index c.alignment-item.result c.loop-alignment-test.true c.alignment-item.is in
    c.in_ok-define_alignment.ensures.ok
    ∙ ap (λ (d : Definitions). with_alignment d c.name_of.result.bytes (pieces_of c.in_ok-pieces.pieces.items)) c.loop-alignment.invariant
    ∙ ap (λ (items : Names (List Piece)). record c.args.catalog.now { alignments = items })
    (step name (λ (x : AlignmentItem). (named_alignment (map said_route c.args.routes.now) x).1) (map said_alignment c.args.alignments.now) c.loop-alignment.alignment-index (said_alignment c.alignment-item.result) c.requires.meant.in_order at.0 at.1 c.name_of.result.bytes (pieces_of c.in_ok-pieces.pieces.items)
    (c.name_of.ensures ∙ c.as_str.ensures.value) (c.in_ok-pieces.ensures ∙ ap (λ (l : List StoredPiece). map (stating.piece_of (map said_route c.args.routes.now)) (map said_piece l)) c.deref.ensures.value))

pub returns : goal.returns
returns c =
    c.loop-alignment.invariant
    ∙ ap (λ (items : Names (List Piece)). record c.args.catalog.now { alignments = items })
    (whole name (λ (x : AlignmentItem). (named_alignment (map said_route c.args.routes.now) x).1) (map said_alignment c.args.alignments.now) c.loop-alignment.alignment-index (omega (arith, c.loop-alignment-test.false, length-map c.args.alignments.now said_alignment)))
