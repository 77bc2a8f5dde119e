-- The view passes, and may come after those that were written; or it is refused.
use Rattle.std.proofs.Common.{ℕ, ◌≡◌, ◌∙◌, ◌∷◌, List, [], Err, ap, append-nil, inl, inr, refl, subst, sym}
use Rattle.std.specs.Io.KnownBytes.{Appends}
use Rattle.arrayvec.specs.ArrayString.{ArrayString}
use Rattle.rs_catalog.specs.Definitions.{Rest, state_from}
use Rattle.rs_catalog.specs.Referents.{referents_on}
use Rattle.rs_checker.specs.CheckedView.{query_of}
use Rattle.rs_dump.specs.Views.{AreRefused, IsRefused, IsSorted, PassesNow, StopsSorting, known_of, left_out_as, names_of}
use Rattle.rs_dump.specs.Written.{line_bytes}
use Rattle.rs_dump.specs.declared.stop.Stop.{Stop}
use Rattle.rs_dump.specs.declared.stop.Stop.TheVariants.{Refused}
use Rattle.rs_facts.specs.Runs.{Stretch}
use Rattle.rs_machine.specs.Checking.{checked}
use Rattle.rs_refusal.specs.declared.refusal.Refusal.TheVariants.{OutOfMemory}
use Rattle.rs_syntax.specs.QueryView.{query_tree}
use Rattle.rs_syntax.specs.Tree.{define_view}
use Rattle.rs_syntax.specs.declared.queries.Query.{Query}
use Rattle.rs_dump.proofs.Rounds.{grows_not, lacks_refused, refused_more}
use Rattle.rs_dump.proofs.Stops.{front_as, passed_on}
use Rattle.rs_dump.proofs.ViewStops.{stops_at_view, stops_here, stops_past_view}
use Rattle.rs_dump.proofs.Viewed.{sorted_more}
use Rattle.rs_dump.proofs.views.write_view.Goals as goal

pub returns-in_ok-push-in-Ok : goal.returns-in_ok-push-in-Ok
returns-in_ok-push-in-Ok g c =
    let defined = c.args.defined.now in
    let name = c.args.name.now in
    let item = c.args.view.now in
    let written = c.args.sorted.now.written.items in
    let passes : PassesNow defined.catalog.now defined.referents.now (query_tree item.query) =
    subst (λ (query : Query). PassesNow defined.catalog.now defined.referents.now (query_tree query)) c.query.ensures
    (record { each = λ spans_on rest. (query_of c.in-Ok._checked.query, (c.in-Ok.ensures.ok spans_on rest).is) }) in
    let put : Appends (g.W.Write.contents c.args.output.now) (g.W.Write.contents c.put_view.new.output) (line_bytes (define_view name.bytes (query_tree item.query) item.text)) =
    subst (λ (text : List ℕ). Appends (g.W.Write.contents c.args.output.now) (g.W.Write.contents c.put_view.new.output) (line_bytes (define_view name.bytes (query_tree item.query) text))) c.text.ensures
    (c.in_ok-put_view-in-Ok.ensures (query_tree item.query)) in record {
      goes = record {
        sorted = λ before sorted.
            subst (λ (items : List ArrayString). IsSorted (known_of defined) (names_of items) before (g.W.Write.contents c.put_view.new.output)) (sym c.in_ok-push-in-Ok.ensures.items)
            (sorted_more (known_of defined) written name item before (g.W.Write.contents c.args.output.now) (g.W.Write.contents c.put_view.new.output) sorted
            (record { there = c.requires.there; once = c.requires.once; ready = c.requires.ready; passes = passes }) put);
        grows = record { more = name ∷ []; is = c.in_ok-push-in-Ok.ensures.items };
        refusals = λ are. are;
      };
      lacks = λ same. absurd (grows_not written name (sym c.in_ok-push-in-Ok.ensures.items ∙ same));
      stops = tt;
    }

pub returns-in_ok-note_refusal-in-Err : goal.returns-in_ok-note_refusal-in-Err
returns-in_ok-note_refusal-in-Err g c =
    let defined = c.args.defined.now in
    let known = known_of defined in
    let name = c.args.name.now in
    let item = c.args.view.now in
    let written = c.args.sorted.now.written.items in
    let noted = c.in_ok-note_refusal-in-Err.ensures in
    let why = c.in-Err.refusal in
    let each : (spans_on : ℕ → ℕ → List Stretch) (rest : Rest)
    → checked (state_from defined.catalog.now (referents_on defined.referents.now) spans_on rest) (query_tree item.query) ≡ Err why =
    elim c.in-Err.ensures.refused [
      | inl want ↦ absurd (noted.known want)
      | inr each ↦ subst (λ (query : Query). (spans_on : ℕ → ℕ → List Stretch) (rest : Rest)
          → checked (state_from defined.catalog.now (referents_on defined.referents.now) spans_on rest) (query_tree query) ≡ Err why) c.query.ensures each
    ] in
    let is : IsRefused known name.bytes = record { view = item; there = c.requires.there; why = why; each = each } in record {
      goes = record {
        sorted = λ before sorted. subst (λ (items : List ArrayString). IsSorted known (names_of items) before (g.W.Write.contents c.args.output.now)) (sym noted.written) sorted;
        grows = record { more = []; is = noted.written ∙ sym (append-nil written) };
        refusals = λ are. subst (AreRefused known) (sym noted.refused) (refused_more known c.args.sorted.now.refused.items (left_out_as name why) is are);
      };
      lacks = λ same. lacks_refused known (names_of written) name.bytes item c.requires.there is;
      stops = tt;
    }

pub returns-in_err-put_view-in-Ok-clause-stops : goal.returns-in_err-put_view-in-Ok-clause-stops
returns-in_err-put_view-in-Ok-clause-stops g c =
    let defined = c.args.defined.now in
    let name = c.args.name.now in
    let item = c.args.view.now in
    let written = names_of c.args.sorted.now.written.items in
    let stop = c.in_err-put_view-in-Ok.field-0.0 in
    let passes : PassesNow defined.catalog.now defined.referents.now (query_tree item.query) =
    subst (λ (query : Query). PassesNow defined.catalog.now defined.referents.now (query_tree query)) c.query.ensures
    (record { each = λ spans_on rest. (query_of c.in-Ok._checked.query, (c.in-Ok.ensures.ok spans_on rest).is) }) in
    let so = c.in_err-put_view-in-Ok.ensures (query_tree item.query) in
    let front = front_as stop _ _ _ _ (ap (λ text. line_bytes (define_view name.bytes (query_tree item.query) text)) c.text.ensures) so.1 in
    passed_on c.from_residual.result stop _ _ c.from_residual.ensures.1 (
      so.0,
      λ before sorted. stops_at_view (known_of defined) written before (g.W.Write.contents c.args.output.now) sorted (name.bytes, item) stop (g.W.Write.contents c.put_view.new.output)
          (record { there = c.requires.there; once = c.requires.once; ready = c.requires.ready; passes = passes }) front,
    )

pub returns-in_err-push-in-Ok-clause-stops : goal.returns-in_err-push-in-Ok-clause-stops
returns-in_err-push-in-Ok-clause-stops g c =
    let defined = c.args.defined.now in
    let name = c.args.name.now in
    let item = c.args.view.now in
    let written = names_of c.args.sorted.now.written.items in
    let passes : PassesNow defined.catalog.now defined.referents.now (query_tree item.query) =
    subst (λ (query : Query). PassesNow defined.catalog.now defined.referents.now (query_tree query)) c.query.ensures
    (record { each = λ spans_on rest. (query_of c.in-Ok._checked.query, (c.in-Ok.ensures.ok spans_on rest).is) }) in
    let put : Appends (g.W.Write.contents c.args.output.now) (g.W.Write.contents c.put_view.new.output) (line_bytes (define_view name.bytes (query_tree item.query) item.text)) =
    subst (λ (text : List ℕ). Appends (g.W.Write.contents c.args.output.now) (g.W.Write.contents c.put_view.new.output) (line_bytes (define_view name.bytes (query_tree item.query) text))) c.text.ensures
    (c.in_ok-put_view-in-Ok.ensures (query_tree item.query)) in
    passed_on c.from_residual-in_err-push-in-Ok.result (Refused OutOfMemory) _ _ c.from_residual-in_err-push-in-Ok.ensures.1 (
      inl refl,
      λ before sorted. stops_past_view (known_of defined) written before (g.W.Write.contents c.args.output.now) sorted (name.bytes, item) OutOfMemory (g.W.Write.contents c.put_view.new.output)
          (record { there = c.requires.there; once = c.requires.once; ready = c.requires.ready; passes = passes }) put,
    )

pub returns-in_err-note_refusal-in-Err-clause-stops : goal.returns-in_err-note_refusal-in-Err-clause-stops
returns-in_err-note_refusal-in-Err-clause-stops g c =
    passed_on c.from_residual-in_err-note_refusal-in-Err.result c.in_err-note_refusal-in-Err.field-0.0 _ _ c.from_residual-in_err-note_refusal-in-Err.ensures.1
    (subst (λ (stop : Stop). StopsSorting c.args.defined.now c.args.sorted.now stop (g.W.Write.contents c.args.output.now) (g.W.Write.contents c.args.output.now)) (sym c.in_err-note_refusal-in-Err.ensures.stops) (
      inl refl,
      λ before sorted. stops_here (known_of c.args.defined.now) (names_of c.args.sorted.now.written.items) before (g.W.Write.contents c.args.output.now) sorted OutOfMemory,
    ))
