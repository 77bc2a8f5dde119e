-- The event that the cell says, and the bytes of its row.
use Rattle.std.proofs.Common.{◌≡◌, ◌∙◌, [], ◌∷◌, ℕ, List, refl, sym, subst}
use Rattle.std.proofs.lemmas.Bool.{false≢true}
use Rattle.rs_attr.specs.Meant.{IsPlacedOn}
use Rattle.rs_attr.proofs.Placed.{one_said, placed_nowhere, placed_seen, placed_unseen, placed_with}
use Rattle.rs_facts.specs.Runs.{Stretch, stretch}
use Rattle.rs_value.specs.Encoding.{SaysRow}
use Rattle.rs_versioned.specs.Events.{span_of}
use Rattle.rs_versioned.proofs.EventCells.{event_row_at}
use Rattle.rs_attr.proofs.meant.placed_stretch.Goals as goal

pub returns-then-not-says_event-clause-refused : goal.returns-then-not-says_event-clause-refused
returns-then-not-says_event-clause-refused c spans so =
    false≢true (sym c.if-not-says_event.true ∙ c.says_event.ensures.1 (one_said c.args.told.now c.args.route c.args.cell.now spans so))

pub returns-then-not-sees-clause-placed : goal.returns-then-not-sees-clause-placed
returns-then-not-sees-clause-placed c =
    let said = c.says_event.ensures.0 c.if-not-says_event.false in
    record {
      spans = [];
      placed = placed_unseen c.args.told.now c.args.route c.args.cell.now said.0 said.1 (sym c.sees.ensures ∙ c.if-not-sees.true);
      are = tt;
    }

pub returns-then-not-lies_on-clause-refused : goal.returns-then-not-lies_on-clause-refused
returns-then-not-lies_on-clause-refused c =
    let said = c.says_event.ensures.0 c.if-not-says_event.false in
    let kind = c.args.told.now.kind in
    let place = c.place_of-lo.ensures c.args.told.now.schema.items said.0 said.1 in
    let span : stretch c.place_of-lo.result.0 c.place_of-lo.result.1 said.0.row ≡ span_of said.0 = λ i. stretch (place.0 i) (place.1 i) said.0.row in
    let number : c.route_of.result ≡ said.0.route = c.route_of.ensures c.args.told.now.schema.items said.0 said.1 in
    placed_nowhere c.args.told.now c.args.route c.args.cell.now said.0 said.1 (sym c.sees.ensures ∙ c.if-not-sees.false)
    (λ on. false≢true (sym c.if-not-lies_on.true
    ∙ c.lies_on.ensures.1 (placed_with kind c.args.route c.route_of.result c.place_of-lo.result.0 c.place_of-lo.result.1 said.0.row [] (subst (λ (n : ℕ). IsPlacedOn kind c.args.route n (stretch c.place_of-lo.result.0 c.place_of-lo.result.1 said.0.row)) (sym number)
    (subst (λ (s : Stretch). IsPlacedOn kind c.args.route said.0.route s) (sym span) on)))))

pub returns-clause-placed : goal.returns-clause-placed
returns-clause-placed c =
    let said = c.says_event.ensures.0 c.if-not-says_event.false in
    let kind = c.args.told.now.kind in
    let place = c.place_of-lo.ensures c.args.told.now.schema.items said.0 said.1 in
    let span : stretch c.place_of-lo.result.0 c.place_of-lo.result.1 said.0.row ≡ span_of said.0 = λ i. stretch (place.0 i) (place.1 i) said.0.row in
    let number : c.route_of.result ≡ said.0.route = c.route_of.ensures c.args.told.now.schema.items said.0 said.1 in
    record {
      spans = span_of said.0 ∷ [];
      placed = placed_seen c.args.told.now c.args.route c.args.cell.now said.0 said.1 (span_of said.0) (sym c.sees.ensures ∙ c.if-not-sees.false) refl
          (subst (λ (n : ℕ). IsPlacedOn kind c.args.route n (span_of said.0)) number
          (subst (λ (s : Stretch). IsPlacedOn kind c.args.route c.route_of.result s) span (placed_with kind c.args.route c.route_of.result c.place_of-lo.result.0 c.place_of-lo.result.1 [] said.0.row (c.lies_on.ensures.0 c.if-not-lies_on.false))));
      are = (
        record {
          lo = place.0;
          hi = place.1;
          bytes = c.row_bytes.result.now;
          row = refl;
          says = subst (λ (l : List ℕ). SaysRow c.args.told.now.schema.items l said.0.row) (sym c.row_bytes.ensures)
              (event_row_at c.args.told.now.schema.items c.args.cell.now said.0 said.1);
        },
        tt,
      );
    }
