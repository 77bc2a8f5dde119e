-- One route after another.
use Rattle.std.proofs.Common.{◌≡◌, ◌∙◌, ℕ, List, ap, map}
use Rattle.std.specs.FinMap as names
use Rattle.std.specs.Prelude.{flat_map}
use Rattle.arrayvec.specs.ArrayString.{ArrayString}
use Rattle.rs_catalog.specs.Definitions.{Numbered, RouteItem}
use Rattle.rs_catalog.specs.Names.{entries_by_bytes}
use Rattle.rs_catalog.specs.Referents.{HeldReferents, referents_on}
use Rattle.rs_facts.specs.Fact.{Name}
use Rattle.rs_methods.specs.Referents.{mark_of}
use Rattle.rs_methods.specs.declared.referents.Referent.{Referent}
use Rattle.rs_dump.specs.Sections.{referent_commands, referents_beside, referents_of_route}
use Rattle.rs_syntax.specs.Tree.{CommandTree}
use Rattle.rs_dump.proofs.Stops.{passed_on, stops_as, stops_chunk}
use Rattle.rs_dump.proofs.Written.{all_written_as, wrote_all, wrote_chunk, wrote_first}
use Rattle.rs_dump.proofs.referents.write_referents.Goals as goal

abbrev commands_left : Numbered HeldReferents → List (ArrayString × RouteItem) → List CommandTree
commands_left held left = flat_map (referents_beside held) (entries_by_bytes (λ route. route) left)

-- those that are found under the route's number are those beside it
those_beside : (held : Numbered HeldReferents) (name : Name) (route : RouteItem) (number : ℕ) (found : List Referent) → number ≡ route.number
    → map mark_of found ≡ names.entries (referents_on held number) → referents_of_route name (map mark_of found) ≡ referents_beside held (name, route)
those_beside held name route number found same are = ap (referents_of_route name) (are ∙ ap (λ (n : ℕ). names.entries (referents_on held n)) same)

pub loop-name-init : goal.loop-name-init
loop-name-init g c =
    let held = c.args.referents.now in
    wrote_first (referent_commands c.args.catalog.now held) (commands_left held c.into_iter-name-iterator.result) (g.W.Write.contents c.args.output.now)
    (ap (flat_map (referents_beside held)) (ap (entries_by_bytes (λ route. route)) c.into_iter-name-iterator.ensures.into_iter_gives ∙ c.routes-name-items.ensures))

pub loop-name-preserved : goal.loop-name-preserved
loop-name-preserved g c =
    let held = c.args.referents.now in
    let name = c.in-Some.name.now.bytes in
    let route = c.in-Some.route.now in
    wrote_chunk (referent_commands c.args.catalog.now held) (commands_left held c.loop-name.name-iterator) (commands_left held c.next.new.self) (referents_beside held (name, route))
    (g.W.Write.contents c.args.output.now) (g.W.Write.contents c.loop-name.output) (g.W.Write.contents c.write_referents_of.new.output)
    (ap (commands_left held) c.in-Some.ensures.steps) c.loop-name.invariant
    (all_written_as _ _ _ _ (those_beside held name route c.number.result c.on_route.result.now c.number.ensures c.on_route.ensures) c.in_ok-write_referents_of.ensures)

pub returns : goal.returns
returns g c =
    let held = c.args.referents.now in
    wrote_all (referent_commands c.args.catalog.now held) (commands_left held c.loop-name.name-iterator) (g.W.Write.contents c.args.output.now) (g.W.Write.contents c.loop-name.output)
    c.loop-name.invariant (ap (commands_left held) c.in-None.ensures.steps.0)

pub returns-in_err-write_referents_of : goal.returns-in_err-write_referents_of
returns-in_err-write_referents_of g c =
    let held = c.args.referents.now in
    let name = c.in-Some.name.now.bytes in
    let route = c.in-Some.route.now in
    let stop = c.in_err-write_referents_of.field-0.0 in
    passed_on c.from_residual.result stop _ _ c.from_residual.ensures.1 (
      c.in_err-write_referents_of.ensures.0,
      stops_chunk stop (referent_commands c.args.catalog.now held) (commands_left held c.loop-name.name-iterator) (commands_left held c.next.new.self) (referents_beside held (name, route))
          (g.W.Write.contents c.args.output.now) (g.W.Write.contents c.loop-name.output) (g.W.Write.contents c.write_referents_of.new.output)
          (ap (commands_left held) c.in-Some.ensures.steps) c.loop-name.invariant
          (stops_as stop _ _ _ _ (those_beside held name route c.number.result c.on_route.result.now c.number.ensures c.on_route.ensures) c.in_err-write_referents_of.ensures.1),
    )
