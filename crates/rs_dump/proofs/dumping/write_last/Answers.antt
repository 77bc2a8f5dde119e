-- One section after the other, and what was left out.
use Rattle.std.proofs.Common.{◌≡◌, ◌∙◌, ◌++◌, List, [], ap, inl, inr, map, subst, sym}
use Rattle.std.specs.FinMap as names
use Rattle.arrayvec.specs.ArrayString.{ArrayString}
use Rattle.rs_catalog.specs.Definitions.{Definitions, ViewItem}
use Rattle.rs_dump.specs.Alignments.{fitting, too_long}
use Rattle.rs_dump.specs.Sections.{index_commands}
use Rattle.rs_dump.specs.Views.{AreInTurn, HasAllThatPass, HasAllViews, Known, LacksSome, names_of, view_of}
use Rattle.rs_dump_laws.specs.Dump.{alignment_command}
use Rattle.rs_facts.specs.Fact.{Name}
use Rattle.rs_facts.specs.Query.{Piece}
use Rattle.rs_dump.proofs.Puts.{nothing_seen}
use Rattle.rs_dump.proofs.Stops.{passed_on, stops_as, stops_first, stops_later}
use Rattle.rs_dump.proofs.Written.{all_written_as, joined}
use Rattle.rs_dump.proofs.dumping.write_last.Goals as goal

abbrev long_in : Definitions → List Name
long_in definitions = map (λ (entry : Name × List Piece). entry.0) (too_long (names.entries definitions.alignments))

pub returns-clause-quiet : goal.returns-clause-quiet
returns-clause-quiet g c = λ is.
    c.in_ok-lacks_views.ensures.quiet (c.lacks_some.ensures.views is) ∙ c.tell_left_out-lacks_alignments.ensures.quiet (c.lacks_some.ensures.alignments is)

pub returns-clause-last : goal.returns-clause-last
returns-clause-last g c =
    let definitions = g.H.Held.catalog c.args.held.now in
    let referents = g.H.Held.referents c.args.held.now in
    let wrote = c.in_ok-lacks_views.ensures.views in
    let sorted = wrote.sorted in
    let left : names_of c.deref-2.result.now ≡ long_in definitions = ap names_of c.deref-2.ensures.value ∙ c.in_ok-left_out.ensures.left ∙ ap long_in c.catalog.ensures in
    let known_is : record { definitions = c.catalog-2.result.now; referents = c.referents.result.now; left_out = names_of c.deref-2.result.now }
    ≡ record { definitions = definitions; referents = referents; left_out = long_in definitions } =
    λ i. record { definitions = c.catalog-2.ensures i; referents = c.referents.ensures i; left_out = left i } in
    record {
      views = sorted.views;
      in_turn = subst (λ (known : Known). AreInTurn known [] sorted.views) known_is sorted.in_turn;
      put = joined (map alignment_command (fitting (names.entries definitions.alignments))) _ _ _ _
          (all_written_as _ _ _ _ (ap (λ (d : Definitions). map alignment_command (fitting (names.entries d.alignments))) c.catalog.ensures) c.in_ok-left_out.ensures.lines)
          (joined (map view_of sorted.views) (index_commands definitions) _ _ _ sorted.put
          (all_written_as _ _ _ _ (ap index_commands c.catalog-3.ensures) c.in_ok-write_indexes.ensures));
      all_alignments = λ is.
          nothing_seen (λ (entry : Name × List Piece). entry.0) (too_long (names.entries definitions.alignments))
          (sym (c.in_ok-left_out.ensures.left ∙ ap long_in c.catalog.ensures) ∙ ap names_of (sym c.deref.ensures.value ∙ c.tell_left_out-lacks_alignments.ensures.none (c.lacks_some.ensures.alignments is)));
      all_views = λ is.
          subst (λ (d : Definitions). HasAllViews d (map (λ (view : Name × ViewItem). view.0) sorted.views)) c.catalog-2.ensures
          (subst (λ (those : List Name). HasAllViews c.catalog-2.result.now those) (sym sorted.named) (wrote.all (c.lacks_some.ensures.views is)));
      passing = subst (λ (known : Known). HasAllThatPass known (map (λ (view : Name × ViewItem). view.0) sorted.views)) known_is
          (subst (λ (those : List Name). HasAllThatPass record { definitions = c.catalog-2.result.now; referents = c.referents.result.now; left_out = names_of c.deref-2.result.now } those)
          (sym sorted.named) wrote.passing);
      lacking = λ is. elim (c.lacks_some.ensures.lacking is) [
        | inl long ↦ inl (λ none. c.tell_left_out-lacks_alignments.ensures.some long
            (c.deref.ensures.value ∙ nothing_seen (λ (name : ArrayString). name.bytes) c.in_ok-left_out.left_out.items
            (c.in_ok-left_out.ensures.left ∙ ap long_in c.catalog.ensures ∙ ap (map (λ (entry : Name × List Piece). entry.0)) none)))
        | inr missing ↦ inr (subst (λ (d : Definitions). LacksSome d (map (λ (view : Name × ViewItem). view.0) sorted.views)) c.catalog-2.ensures
            (subst (λ (those : List Name). LacksSome c.catalog-2.result.now those) (sym sorted.named) (wrote.lacking missing)))
      ];
    }

pub returns-in_err-left_out-clause-stops : goal.returns-in_err-left_out-clause-stops
returns-in_err-left_out-clause-stops g c =
    let definitions = g.H.Held.catalog c.args.held.now in
    let stop = c.in_err-left_out.field-0.0 in
    passed_on c.from_residual.result stop _ _ c.from_residual.ensures.1 (
      c.in_err-left_out.ensures.lines.0,
      record {
        views = [];
        in_turn = tt;
        front = stops_first stop (map alignment_command (fitting (names.entries definitions.alignments))) (index_commands definitions) _ _
            (stops_as stop _ _ _ _ (ap (λ (d : Definitions). map alignment_command (fitting (names.entries d.alignments))) c.catalog.ensures) c.in_err-left_out.ensures.lines.1);
      },
    )

pub returns-in_err-lacks_views-clause-stops : goal.returns-in_err-lacks_views-clause-stops
returns-in_err-lacks_views-clause-stops g c =
    let definitions = g.H.Held.catalog c.args.held.now in
    let referents = g.H.Held.referents c.args.held.now in
    let stop = c.in_err-lacks_views.field-0.0 in
    let sorted = c.in_err-lacks_views.ensures.stops.1 in
    let left : names_of c.deref-2.result.now ≡ long_in definitions = ap names_of c.deref-2.ensures.value ∙ c.in_ok-left_out.ensures.left ∙ ap long_in c.catalog.ensures in
    let known_is : record { definitions = c.catalog-2.result.now; referents = c.referents.result.now; left_out = names_of c.deref-2.result.now }
    ≡ record { definitions = definitions; referents = referents; left_out = long_in definitions } =
    λ i. record { definitions = c.catalog-2.ensures i; referents = c.referents.ensures i; left_out = left i } in
    passed_on c.from_residual-in_err-lacks_views.result stop _ _ c.from_residual-in_err-lacks_views.ensures.1 (
      c.in_err-lacks_views.ensures.stops.0,
      record {
        views = sorted.views;
        in_turn = subst (λ (known : Known). AreInTurn known [] sorted.views) known_is sorted.in_turn;
        front = stops_later stop (map alignment_command (fitting (names.entries definitions.alignments))) (map view_of sorted.views ++ index_commands definitions) _ _ _
            (all_written_as _ _ _ _ (ap (λ (d : Definitions). map alignment_command (fitting (names.entries d.alignments))) c.catalog.ensures) c.in_ok-left_out.ensures.lines)
            (stops_first stop (map view_of sorted.views) (index_commands definitions) _ _ sorted.front);
      },
    )

pub returns-in_err-write_indexes-clause-stops : goal.returns-in_err-write_indexes-clause-stops
returns-in_err-write_indexes-clause-stops g c =
    let definitions = g.H.Held.catalog c.args.held.now in
    let referents = g.H.Held.referents c.args.held.now in
    let stop = c.in_err-write_indexes.field-0.0 in
    let sorted = c.in_ok-lacks_views.ensures.views.sorted in
    let left : names_of c.deref-2.result.now ≡ long_in definitions = ap names_of c.deref-2.ensures.value ∙ c.in_ok-left_out.ensures.left ∙ ap long_in c.catalog.ensures in
    let known_is : record { definitions = c.catalog-2.result.now; referents = c.referents.result.now; left_out = names_of c.deref-2.result.now }
    ≡ record { definitions = definitions; referents = referents; left_out = long_in definitions } =
    λ i. record { definitions = c.catalog-2.ensures i; referents = c.referents.ensures i; left_out = left i } in
    passed_on c.from_residual-in_err-write_indexes.result stop _ _ c.from_residual-in_err-write_indexes.ensures.1 (
      c.in_err-write_indexes.ensures.0,
      record {
        views = sorted.views;
        in_turn = subst (λ (known : Known). AreInTurn known [] sorted.views) known_is sorted.in_turn;
        front = stops_later stop (map alignment_command (fitting (names.entries definitions.alignments))) (map view_of sorted.views ++ index_commands definitions) _ _ _
            (all_written_as _ _ _ _ (ap (λ (d : Definitions). map alignment_command (fitting (names.entries d.alignments))) c.catalog.ensures) c.in_ok-left_out.ensures.lines)
            (stops_later stop (map view_of sorted.views) (index_commands definitions) _ _ _ sorted.put (stops_as stop _ _ _ _ (ap index_commands c.catalog-3.ensures) c.in_err-write_indexes.ensures.1));
      },
    )
