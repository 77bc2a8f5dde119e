-- What was read is a leaf or an inner page; below that the cell is put, and the page above is written.
use Rattle.std.proofs.Common.{◌≡◌, ◌⊎◌, ◌<◌, ◌≤◌, ◌-◌, ◌*◌, ℕ, List, Some, Err, sym, ap, ◌∙◌, subst, arith, rules}
use Rattle.std.proofs.lemmas.Bool.{false≢true}
use Rattle.std.proofs.lemmas.Result.{err_from_is_err_and}
use Rattle.rs_refusal.specs.declared.refusal.Refusal.TheVariants as refusal
use Rattle.rs_page.specs.declared.header.PageKind.TheVariants as kind
use Rattle.rs_pages.proofs.Stores.{SamePages-trans}
use Rattle.rs_records.specs.Records.{records}
use Rattle.rs_records.proofs.RecordLists.{length-keys, length-records}
use Rattle.rs_tree.specs.Content.{content}
use Rattle.rs_tree.specs.Form.{Form, joined}
use Rattle.rs_tree.proofs.Lists.{has_inside}
use Rattle.rs_tree.specs.Layouts.{entry_bytes}
use Rattle.rs_tree.specs.Reading.{HasNoNode}
use Rattle.rs_tree.proofs.Entering.{records_fit}
use Rattle.rs_tree.specs.Forms.{form_in}
use Rattle.rs_page_owners.proofs.Working.{works_then, works_err, works_ok}
use Rattle.rs_tree_insert.specs.Finding.{HasCell, BelongsAt, BelongsUnder, IsSpot}
use Rattle.rs_tree_insert.specs.Inserting.{tops, PutsBelow, TellsBelow, HasNoShared, HasNoTops, WritesAbove}
use Rattle.rs_tree_insert.specs.Writing.{IsBroken, is_found}
use Rattle.rs_tree_insert.specs.declared.answer.Put.TheVariants.{Found, Kept}
use Rattle.rs_tree_insert.proofs.Halves.{if_ok}
use Rattle.rs_tree_insert.proofs.Here.{here_found, here_new, puts_before, tells_before, none_before, none_here}
use Rattle.rs_tree_insert.proofs.Levels.{works_damaged, no_node-no_shared, no_level-no_shared, not_found, if_ok_after}
use Rattle.rs_tree_insert.proofs.Under.{tells_above, none_below, puts_above, puts_kept, none_above, puts_found}
use Rattle.rs_tree_insert.proofs.path.+inserting.Goals as goal

pub insert_below-returns-in_err-spot-clause-works : goal.insert_below-returns-in_err-spot-clause-works
insert_below-returns-in_err-spot-clause-works g t c =
    let form : Form = form_in g.S.Summary c.args.layout in
    let old = (g.P.Pages.store c.args.pages.now).map in
    let p = err_from_is_err_and c.from_residual.result c.from_residual.ensures.1 in
    works_err (g.P.Pages.is_tied c.args.pages.now → HasNoNode old c.args.number c.args.layout) (g.P.Pages.is_tied c.args.pages.now → HasNoShared form old c.args.number c.args.levels) c.from_residual.result c.in_err-spot.field-0.0 (g.P.Pages.store c.args.pages.now) (g.P.Pages.store c.find_spot.new.pages)
    (λ none tied. no_node-no_shared (λ bytes cells. g.S.Summary.says bytes (joined g.S.Summary.unit g.S.Summary.join g.S.Summary.of cells)) c.args.layout old c.args.number c.args.levels (none tied)) (cc (p.1, p.2)) c.in_err-spot.ensures.works

pub insert_below-returns-in-Found-clause-works : goal.insert_below-returns-in-Found-clause-works
insert_below-returns-in-Found-clause-works g t c =
    let form : Form = form_in g.S.Summary c.args.layout in
    let old = (g.P.Pages.store c.args.pages.now).map in
    works_ok (g.P.Pages.is_tied c.args.pages.now → HasNoNode old c.args.number c.args.layout) (g.P.Pages.is_tied c.args.pages.now → HasNoShared form old c.args.number c.args.levels) c.in_ok-spot.spot Found (g.P.Pages.store c.args.pages.now) (g.P.Pages.store c.find_spot.new.pages) c.in_ok-spot.ensures.works

pub insert_below-returns-in-Found-clause-puts : goal.insert_below-returns-in-Found-clause-puts
insert_below-returns-in-Found-clause-puts g t c =
    λ tied.
    let form : Form = form_in g.S.Summary c.args.layout in
    let old = (g.P.Pages.store c.args.pages.now).map in
    let mid = (g.P.Pages.store c.find_spot.new.pages).map in
    let same = c.in_ok-spot.ensures.rests.rests.keeps.pages tied in
    let spot : HasCell c.in_ok-spot.ensures.found.page c.args.number c.args.layout c.args.cell.now =
    subst (IsSpot c.in_ok-spot.ensures.found.page c.args.number c.args.layout c.args.cell.now c.find_spot.new.entry) c.in-Found.is c.in_ok-spot.ensures.found.is in
    let tells = here_found (λ bytes cells. g.S.Summary.says bytes (joined g.S.Summary.unit g.S.Summary.join g.S.Summary.of cells)) c.args.layout old c.args.number spot.count spot.at c.in_ok-spot.ensures.found.page c.args.cell.now spot.node (c.in_ok-spot.ensures.found.bytes tied) spot.has in
    puts_found form old mid c.args.number c.args.cell.now same tells

pub insert_below-returns-in-Found-clause-found : goal.insert_below-returns-in-Found-clause-found
insert_below-returns-in-Found-clause-found g t c =
    λ tied.
    let old = (g.P.Pages.store c.args.pages.now).map in
    let spot : HasCell c.in_ok-spot.ensures.found.page c.args.number c.args.layout c.args.cell.now =
    subst (IsSpot c.in_ok-spot.ensures.found.page c.args.number c.args.layout c.args.cell.now c.find_spot.new.entry) c.in-Found.is c.in_ok-spot.ensures.found.is in
    here_found (λ bytes cells. g.S.Summary.says bytes (joined g.S.Summary.unit g.S.Summary.join g.S.Summary.of cells)) c.args.layout old c.args.number spot.count spot.at c.in_ok-spot.ensures.found.page c.args.cell.now spot.node (c.in_ok-spot.ensures.found.bytes tied) spot.has

pub insert_below-returns-in-Found-clause-same : goal.insert_below-returns-in-Found-clause-same
insert_below-returns-in-Found-clause-same g t c =
    λ tied told. c.in_ok-spot.ensures.rests.rests.keeps.pages tied

pub insert_below-returns-in-Leaf-clause-works : goal.insert_below-returns-in-Leaf-clause-works
insert_below-returns-in-Leaf-clause-works g t c =
    let form : Form = form_in g.S.Summary c.args.layout in
    let old = (g.P.Pages.store c.args.pages.now).map in
    let mid = (g.P.Pages.store c.find_spot.new.pages).map in
    let spot : BelongsAt c.in_ok-spot.ensures.found.page c.args.number c.args.layout c.args.cell.now c.in-Leaf.count c.in-Leaf.at =
    subst (IsSpot c.in_ok-spot.ensures.found.page c.args.number c.args.layout c.args.cell.now c.find_spot.new.entry) c.in-Leaf.is c.in_ok-spot.ensures.found.is in
    works_then (g.P.Pages.is_tied c.args.pages.now → HasNoNode old c.args.number c.args.layout) (g.P.Pages.is_tied c.args.pages.now → HasNoShared form old c.args.number c.args.levels) (g.P.Pages.is_tied c.find_spot.new.pages → IsBroken mid c.args.number) c.in_ok-spot.spot c.insert_here.result (g.P.Pages.store c.args.pages.now) (g.P.Pages.store c.find_spot.new.pages) (g.P.Pages.store c.insert_here.new.pages)
    (λ broken tied.
    let later = g.met.P.Pages.keeps_tied c.args.pages.now c.find_spot.new.pages c.in_ok-spot.ensures.rests.below tied in
    let same = c.in_ok-spot.ensures.rests.rests.keeps.pages tied in
    let there = same.pages c.args.number ∙ c.in_ok-spot.ensures.found.bytes tied in
    none_before form old mid same c.args.number c.args.levels (none_here (λ bytes cells. g.S.Summary.says bytes (joined g.S.Summary.unit g.S.Summary.join g.S.Summary.of cells)) c.args.layout mid c.args.number c.in-Leaf.count 0 c.in_ok-spot.ensures.found.page c.args.cell.now spot.node there c.args.levels (broken later)))
    c.in_ok-spot.ensures.works c.insert_here.ensures.works

pub insert_below-returns-in-Leaf-clause-puts : goal.insert_below-returns-in-Leaf-clause-puts
insert_below-returns-in-Leaf-clause-puts g t c =
    λ tied.
    let form : Form = form_in g.S.Summary c.args.layout in
    let old = (g.P.Pages.store c.args.pages.now).map in
    let mid = (g.P.Pages.store c.find_spot.new.pages).map in
    let later = g.met.P.Pages.keeps_tied c.args.pages.now c.find_spot.new.pages c.in_ok-spot.ensures.rests.below tied in
    let same = c.in_ok-spot.ensures.rests.rests.keeps.pages tied in
    let there = same.pages c.args.number ∙ c.in_ok-spot.ensures.found.bytes tied in
    let spot : BelongsAt c.in_ok-spot.ensures.found.page c.args.number c.args.layout c.args.cell.now c.in-Leaf.count c.in-Leaf.at =
    subst (IsSpot c.in_ok-spot.ensures.found.page c.args.number c.args.layout c.args.cell.now c.find_spot.new.entry) c.in-Leaf.is c.in_ok-spot.ensures.found.is in
    if_ok c.insert_here.result (c.insert_here.ensures.puts later c.in_ok-spot.ensures.found.page there spot) (λ answer puts. puts_before form old mid same c.args.number (g.P.Pages.store c.insert_here.new.pages).map c.args.cell.now answer puts)

pub insert_below-returns-in-Leaf-clause-found : goal.insert_below-returns-in-Leaf-clause-found
insert_below-returns-in-Leaf-clause-found g t c =
    λ tied.
    let old = (g.P.Pages.store c.args.pages.now).map in
    let spot : BelongsAt c.in_ok-spot.ensures.found.page c.args.number c.args.layout c.args.cell.now c.in-Leaf.count c.in-Leaf.at =
    subst (IsSpot c.in_ok-spot.ensures.found.page c.args.number c.args.layout c.args.cell.now c.find_spot.new.entry) c.in-Leaf.is c.in_ok-spot.ensures.found.is in
    if_ok c.insert_here.result c.insert_here.ensures.placed (here_new (λ bytes cells. g.S.Summary.says bytes (joined g.S.Summary.unit g.S.Summary.join g.S.Summary.of cells)) c.args.layout old c.args.number c.in-Leaf.count c.in-Leaf.at c.in_ok-spot.ensures.found.page c.args.cell.now spot.node (c.in_ok-spot.ensures.found.bytes tied) spot.place spot.none)

pub insert_below-returns-in-Leaf-clause-same : goal.insert_below-returns-in-Leaf-clause-same
insert_below-returns-in-Leaf-clause-same g t c =
    λ tied. if_ok c.insert_here.result c.insert_here.ensures.placed (λ answer isnt told. absurd (false≢true (sym isnt ∙ told)))

pub insert_below-insert_here-requires-clause-fit : goal.insert_below-insert_here-requires-clause-fit
insert_below-insert_here-requires-clause-fit g t c =
    let spot : BelongsAt c.in_ok-spot.ensures.found.page c.args.number c.args.layout c.args.cell.now c.in-Leaf.count c.in-Leaf.at =
    subst (IsSpot c.in_ok-spot.ensures.found.page c.args.number c.args.layout c.args.cell.now c.find_spot.new.entry) c.in-Leaf.is c.in_ok-spot.ensures.found.is in
    records_fit c.in_ok-spot.ensures.found.page kind.Leaf c.args.number c.in-Leaf.count c.args.layout.width spot.node.0

pub insert_below-insert_here-requires-clause-at : goal.insert_below-insert_here-requires-clause-at
insert_below-insert_here-requires-clause-at g t c =
    let spot : BelongsAt c.in_ok-spot.ensures.found.page c.args.number c.args.layout c.args.cell.now c.in-Leaf.count c.in-Leaf.at =
    subst (IsSpot c.in_ok-spot.ensures.found.page c.args.number c.args.layout c.args.cell.now c.find_spot.new.entry) c.in-Leaf.is c.in_ok-spot.ensures.found.is in
    omega (arith, spot.place.within, length-keys 0 c.in-Leaf.count c.args.layout.width (content c.in_ok-spot.ensures.found.page))

pub insert_below-returns-else-levels-eq0-clause-works : goal.insert_below-returns-else-levels-eq0-clause-works
insert_below-returns-else-levels-eq0-clause-works g t c =
    let form : Form = form_in g.S.Summary c.args.layout in
    let old = (g.P.Pages.store c.args.pages.now).map in
    let mid = (g.P.Pages.store c.find_spot.new.pages).map in
    let spot : BelongsUnder c.in_ok-spot.ensures.found.page c.args.number c.args.layout c.args.cell.now c.find_spot.new.entry c.in-Inner.count c.in-Inner.at =
    subst (IsSpot c.in_ok-spot.ensures.found.page c.args.number c.args.layout c.args.cell.now c.find_spot.new.entry) c.in-Inner.is c.in_ok-spot.ensures.found.is in
    works_then (g.P.Pages.is_tied c.args.pages.now → HasNoNode old c.args.number c.args.layout) (g.P.Pages.is_tied c.args.pages.now → HasNoShared form old c.args.number c.args.levels) (g.P.Pages.is_tied c.find_spot.new.pages → (page : List ℕ) → mid.page c.args.number ≡ Some page → BelongsUnder page c.args.number c.args.layout c.args.cell.now c.find_spot.new.entry c.in-Inner.count c.in-Inner.at → HasNoShared form mid c.args.number c.args.levels) c.in_ok-spot.spot c.insert_under.result (g.P.Pages.store c.args.pages.now) (g.P.Pages.store c.find_spot.new.pages) (g.P.Pages.store c.insert_under.new.pages)
    (λ broken tied.
    let later = g.met.P.Pages.keeps_tied c.args.pages.now c.find_spot.new.pages c.in_ok-spot.ensures.rests.below tied in
    let same = c.in_ok-spot.ensures.rests.rests.keeps.pages tied in
    let there = same.pages c.args.number ∙ c.in_ok-spot.ensures.found.bytes tied in
    none_before form old mid same c.args.number c.args.levels (broken later c.in_ok-spot.ensures.found.page there spot))
    c.in_ok-spot.ensures.works c.insert_under.ensures.works

pub insert_below-returns-else-levels-eq0-clause-puts : goal.insert_below-returns-else-levels-eq0-clause-puts
insert_below-returns-else-levels-eq0-clause-puts g t c =
    λ tied.
    let form : Form = form_in g.S.Summary c.args.layout in
    let old = (g.P.Pages.store c.args.pages.now).map in
    let mid = (g.P.Pages.store c.find_spot.new.pages).map in
    let later = g.met.P.Pages.keeps_tied c.args.pages.now c.find_spot.new.pages c.in_ok-spot.ensures.rests.below tied in
    let same = c.in_ok-spot.ensures.rests.rests.keeps.pages tied in
    let there = same.pages c.args.number ∙ c.in_ok-spot.ensures.found.bytes tied in
    let spot : BelongsUnder c.in_ok-spot.ensures.found.page c.args.number c.args.layout c.args.cell.now c.find_spot.new.entry c.in-Inner.count c.in-Inner.at =
    subst (IsSpot c.in_ok-spot.ensures.found.page c.args.number c.args.layout c.args.cell.now c.find_spot.new.entry) c.in-Inner.is c.in_ok-spot.ensures.found.is in
    if_ok c.insert_under.result (c.insert_under.ensures.puts later c.in_ok-spot.ensures.found.page there spot) (λ answer puts. puts_before form old mid same c.args.number (g.P.Pages.store c.insert_under.new.pages).map c.args.cell.now answer puts)

pub insert_below-returns-else-levels-eq0-clause-found : goal.insert_below-returns-else-levels-eq0-clause-found
insert_below-returns-else-levels-eq0-clause-found g t c =
    λ tied.
    let form : Form = form_in g.S.Summary c.args.layout in
    let old = (g.P.Pages.store c.args.pages.now).map in
    let mid = (g.P.Pages.store c.find_spot.new.pages).map in
    let later = g.met.P.Pages.keeps_tied c.args.pages.now c.find_spot.new.pages c.in_ok-spot.ensures.rests.below tied in
    let same = c.in_ok-spot.ensures.rests.rests.keeps.pages tied in
    let there = same.pages c.args.number ∙ c.in_ok-spot.ensures.found.bytes tied in
    let spot : BelongsUnder c.in_ok-spot.ensures.found.page c.args.number c.args.layout c.args.cell.now c.find_spot.new.entry c.in-Inner.count c.in-Inner.at =
    subst (IsSpot c.in_ok-spot.ensures.found.page c.args.number c.args.layout c.args.cell.now c.find_spot.new.entry) c.in-Inner.is c.in_ok-spot.ensures.found.is in
    if_ok c.insert_under.result (c.insert_under.ensures.found later c.in_ok-spot.ensures.found.page there spot) (λ answer tells. tells_before form old mid same c.args.number c.args.cell.now answer tells)

pub insert_below-returns-else-levels-eq0-clause-same : goal.insert_below-returns-else-levels-eq0-clause-same
insert_below-returns-else-levels-eq0-clause-same g t c =
    λ tied.
    let old = (g.P.Pages.store c.args.pages.now).map in
    let mid = (g.P.Pages.store c.find_spot.new.pages).map in
    let later = g.met.P.Pages.keeps_tied c.args.pages.now c.find_spot.new.pages c.in_ok-spot.ensures.rests.below tied in
    let same = c.in_ok-spot.ensures.rests.rests.keeps.pages tied in
    if_ok c.insert_under.result (c.insert_under.ensures.same later) (λ answer rests told. SamePages-trans (g.P.Pages.store c.insert_under.new.pages).map mid old (rests told) same)

pub insert_below-returns-then-levels-eq0-clause-works : goal.insert_below-returns-then-levels-eq0-clause-works
insert_below-returns-then-levels-eq0-clause-works g t c =
    let form : Form = form_in g.S.Summary c.args.layout in
    let old = (g.P.Pages.store c.args.pages.now).map in
    let spot : BelongsUnder c.in_ok-spot.ensures.found.page c.args.number c.args.layout c.args.cell.now c.find_spot.new.entry c.in-Inner.count c.in-Inner.at =
    subst (IsSpot c.in_ok-spot.ensures.found.page c.args.number c.args.layout c.args.cell.now c.find_spot.new.entry) c.in-Inner.is c.in_ok-spot.ensures.found.is in
    works_then (g.P.Pages.is_tied c.args.pages.now → HasNoNode old c.args.number c.args.layout) (g.P.Pages.is_tied c.args.pages.now → HasNoShared form old c.args.number c.args.levels) (g.P.Pages.is_tied c.args.pages.now → HasNoShared form old c.args.number c.args.levels) c.in_ok-spot.spot (Err refusal.DamagedFile) (g.P.Pages.store c.args.pages.now) (g.P.Pages.store c.find_spot.new.pages) (g.P.Pages.store c.find_spot.new.pages)
    (λ wrong. wrong) c.in_ok-spot.ensures.works
    (works_damaged (g.P.Pages.is_tied c.args.pages.now → HasNoShared form old c.args.number c.args.levels) (g.P.Pages.store c.find_spot.new.pages) (λ tied.
    no_level-no_shared (λ bytes cells. g.S.Summary.says bytes (joined g.S.Summary.unit g.S.Summary.join g.S.Summary.of cells)) c.args.layout old c.args.number c.args.levels c.in-Inner.count c.in_ok-spot.ensures.found.page spot.node (c.in_ok-spot.ensures.found.bytes tied) c.if-levels-eq0.true))

pub insert_below-insert_under-requires : goal.insert_below-insert_under-requires
insert_below-insert_under-requires g t c κs within =
    let spot : BelongsUnder c.in_ok-spot.ensures.found.page c.args.number c.args.layout c.args.cell.now c.find_spot.new.entry c.in-Inner.count c.in-Inner.at =
    subst (IsSpot c.in_ok-spot.ensures.found.page c.args.number c.args.layout c.args.cell.now c.find_spot.new.entry) c.in-Inner.is c.in_ok-spot.ensures.found.is in
    let fit : c.in-Inner.count * entry_bytes c.args.layout ≤ 4080 = records_fit c.in_ok-spot.ensures.found.page kind.Inner c.args.number c.in-Inner.count (entry_bytes c.args.layout) spot.node.0 in
    let inside : c.in-Inner.at < c.in-Inner.count =
    omega (arith, has_inside (records c.in-Inner.count (entry_bytes c.args.layout) (content c.in_ok-spot.ensures.found.page)) c.in-Inner.at c.find_spot.new.entry spot.found, length-records c.in-Inner.count (entry_bytes c.args.layout) (content c.in_ok-spot.ensures.found.page)) in
    search rules

pub insert_under-returns-in_err-put-clause-works : goal.insert_under-returns-in_err-put-clause-works
insert_under-returns-in_err-put-clause-works g t c =
    let form : Form = form_in g.S.Summary c.args.layout in
    let old = (g.P.Pages.store c.args.pages.now).map in
    let p = err_from_is_err_and c.from_residual.result c.from_residual.ensures.1 in
    works_err (g.P.Pages.is_tied c.args.pages.now → HasNoShared form old c.child-below.result (c.args.levels - 1)) (g.P.Pages.is_tied c.args.pages.now → (page : List ℕ) → old.page c.args.place.number ≡ Some page → BelongsUnder page c.args.place.number c.args.layout c.args.cell.now c.args.entry.now c.args.place.count c.args.place.at → HasNoShared form old c.args.place.number c.args.levels) c.from_residual.result c.in_err-put.field-0.0 (g.P.Pages.store c.args.pages.now) (g.P.Pages.store c.insert_below.new.pages)
    (λ none tied page there spot. none_below (λ bytes cells. g.S.Summary.says bytes (joined g.S.Summary.unit g.S.Summary.join g.S.Summary.of cells)) c.args.layout old c.args.place.number c.args.place.count c.args.place.at page c.args.entry.now c.args.cell.now spot.node there spot.chosen spot.found c.args.levels c.requires.levels (subst (λ n. HasNoShared form old n (c.args.levels - 1)) c.child-below.ensures (none tied))) (cc (p.1, p.2)) c.in_err-put.ensures.works

pub insert_under-returns-in-Found-clause-works : goal.insert_under-returns-in-Found-clause-works
insert_under-returns-in-Found-clause-works g t c =
    let form : Form = form_in g.S.Summary c.args.layout in
    let old = (g.P.Pages.store c.args.pages.now).map in
    works_ok (g.P.Pages.is_tied c.args.pages.now → HasNoShared form old c.child-below.result (c.args.levels - 1)) (g.P.Pages.is_tied c.args.pages.now → (page : List ℕ) → old.page c.args.place.number ≡ Some page → BelongsUnder page c.args.place.number c.args.layout c.args.cell.now c.args.entry.now c.args.place.count c.args.place.at → HasNoShared form old c.args.place.number c.args.levels) c.in_ok-put.put Found (g.P.Pages.store c.args.pages.now) (g.P.Pages.store c.insert_below.new.pages) c.in_ok-put.ensures.works

pub insert_under-returns-in-Found-clause-puts : goal.insert_under-returns-in-Found-clause-puts
insert_under-returns-in-Found-clause-puts g t c =
    λ tied page there spot.
    let form : Form = form_in g.S.Summary c.args.layout in
    let old = (g.P.Pages.store c.args.pages.now).map in
    let mid = (g.P.Pages.store c.insert_below.new.pages).map in
    let tells = subst (λ n. TellsBelow form old n c.args.cell.now c.in_ok-put.put) c.child-below.ensures (c.in_ok-put.ensures.found tied) in
    puts_found form old mid c.args.place.number c.args.cell.now (c.in_ok-put.ensures.same tied (ap is_found c.in-Found.is)) (tells_above (λ bytes cells. g.S.Summary.says bytes (joined g.S.Summary.unit g.S.Summary.join g.S.Summary.of cells)) c.args.layout old c.args.place.number c.args.place.count c.args.place.at page c.args.entry.now c.args.cell.now spot.node there spot.chosen spot.found c.in_ok-put.put Found (sym (ap is_found c.in-Found.is)) tells)

pub insert_under-returns-in-Found-clause-found : goal.insert_under-returns-in-Found-clause-found
insert_under-returns-in-Found-clause-found g t c =
    λ tied page there spot.
    let form : Form = form_in g.S.Summary c.args.layout in
    let old = (g.P.Pages.store c.args.pages.now).map in
    let tells = subst (λ n. TellsBelow form old n c.args.cell.now c.in_ok-put.put) c.child-below.ensures (c.in_ok-put.ensures.found tied) in
    tells_above (λ bytes cells. g.S.Summary.says bytes (joined g.S.Summary.unit g.S.Summary.join g.S.Summary.of cells)) c.args.layout old c.args.place.number c.args.place.count c.args.place.at page c.args.entry.now c.args.cell.now spot.node there spot.chosen spot.found c.in_ok-put.put Found (sym (ap is_found c.in-Found.is)) tells

pub insert_under-returns-in-Found-clause-same : goal.insert_under-returns-in-Found-clause-same
insert_under-returns-in-Found-clause-same g t c = λ tied told. c.in_ok-put.ensures.same tied (ap is_found c.in-Found.is)

pub insert_under-returns-in-Kept-clause-works : goal.insert_under-returns-in-Kept-clause-works
insert_under-returns-in-Kept-clause-works g t c =
    let form : Form = form_in g.S.Summary c.args.layout in
    let old = (g.P.Pages.store c.args.pages.now).map in
    works_ok (g.P.Pages.is_tied c.args.pages.now → HasNoShared form old c.child-below.result (c.args.levels - 1)) (g.P.Pages.is_tied c.args.pages.now → (page : List ℕ) → old.page c.args.place.number ≡ Some page → BelongsUnder page c.args.place.number c.args.layout c.args.cell.now c.args.entry.now c.args.place.count c.args.place.at → HasNoShared form old c.args.place.number c.args.levels) c.in_ok-put.put Kept (g.P.Pages.store c.args.pages.now) (g.P.Pages.store c.insert_below.new.pages) c.in_ok-put.ensures.works

pub insert_under-returns-in-Kept-clause-puts : goal.insert_under-returns-in-Kept-clause-puts
insert_under-returns-in-Kept-clause-puts g t c =
    λ tied page there spot.
    let form : Form = form_in g.S.Summary c.args.layout in
    let old = (g.P.Pages.store c.args.pages.now).map in
    let mid = (g.P.Pages.store c.insert_below.new.pages).map in
    let puts = subst (λ n. PutsBelow form old mid n c.args.cell.now c.in_ok-put.put) c.child-below.ensures (c.in_ok-put.ensures.puts tied) in
    puts_kept (λ bytes cells. g.S.Summary.says bytes (joined g.S.Summary.unit g.S.Summary.join g.S.Summary.of cells)) c.args.layout old c.args.place.number c.args.place.count c.args.place.at page c.args.entry.now c.args.cell.now spot.node there spot.chosen spot.found mid c.in_ok-put.put puts c.in-Kept.is

pub insert_under-returns-in-Kept-clause-found : goal.insert_under-returns-in-Kept-clause-found
insert_under-returns-in-Kept-clause-found g t c =
    λ tied page there spot.
    let form : Form = form_in g.S.Summary c.args.layout in
    let old = (g.P.Pages.store c.args.pages.now).map in
    let tells = subst (λ n. TellsBelow form old n c.args.cell.now c.in_ok-put.put) c.child-below.ensures (c.in_ok-put.ensures.found tied) in
    tells_above (λ bytes cells. g.S.Summary.says bytes (joined g.S.Summary.unit g.S.Summary.join g.S.Summary.of cells)) c.args.layout old c.args.place.number c.args.place.count c.args.place.at page c.args.entry.now c.args.cell.now spot.node there spot.chosen spot.found c.in_ok-put.put Kept (sym (ap is_found c.in-Kept.is)) tells

pub insert_under-returns-in-Kept-clause-same : goal.insert_under-returns-in-Kept-clause-same
insert_under-returns-in-Kept-clause-same g t c = λ tied told. absurd (false≢true told)

pub insert_under-returns-in_default-clause-works : goal.insert_under-returns-in_default-clause-works
insert_under-returns-in_default-clause-works g t c =
    let form : Form = form_in g.S.Summary c.args.layout in
    let old = (g.P.Pages.store c.args.pages.now).map in
    let mid = (g.P.Pages.store c.insert_below.new.pages).map in
    works_then (g.P.Pages.is_tied c.args.pages.now → HasNoShared form old c.child-below.result (c.args.levels - 1)) (g.P.Pages.is_tied c.args.pages.now → (page : List ℕ) → old.page c.args.place.number ≡ Some page → BelongsUnder page c.args.place.number c.args.layout c.args.cell.now c.args.entry.now c.args.place.count c.args.place.at → HasNoShared form old c.args.place.number c.args.levels) (g.P.Pages.is_tied c.insert_below.new.pages → HasNoTops form mid (tops c.child-below.result c.in_ok-put.put) ⊎ IsBroken mid c.args.place.number) c.in_ok-put.put c.write_above.result (g.P.Pages.store c.args.pages.now) (g.P.Pages.store c.insert_below.new.pages) (g.P.Pages.store c.write_above.new.pages)
    (λ broken tied page there spot.
    let later = g.met.P.Pages.keeps_tied c.args.pages.now c.insert_below.new.pages c.in_ok-put.ensures.keeps tied in
    let puts = subst (λ n. PutsBelow form old mid n c.args.cell.now c.in_ok-put.put) c.child-below.ensures (c.in_ok-put.ensures.puts tied) in
    none_above (λ bytes cells. g.S.Summary.says bytes (joined g.S.Summary.unit g.S.Summary.join g.S.Summary.of cells)) c.args.layout old c.args.place.number c.args.place.count c.args.place.at page c.args.entry.now c.args.cell.now spot.node there spot.chosen spot.found mid c.in_ok-put.put puts c.args.levels (subst (λ n. HasNoTops form mid (tops n c.in_ok-put.put) ⊎ IsBroken mid c.args.place.number) c.child-below.ensures (broken later)))
    c.in_ok-put.ensures.works c.write_above.ensures.works

pub insert_under-returns-in_default-clause-puts : goal.insert_under-returns-in_default-clause-puts
insert_under-returns-in_default-clause-puts g t c =
    λ tied page there spot.
    let form : Form = form_in g.S.Summary c.args.layout in
    let old = (g.P.Pages.store c.args.pages.now).map in
    let mid = (g.P.Pages.store c.insert_below.new.pages).map in
    let later = g.met.P.Pages.keeps_tied c.args.pages.now c.insert_below.new.pages c.in_ok-put.ensures.keeps tied in
    let puts = subst (λ n. PutsBelow form old mid n c.args.cell.now c.in_ok-put.put) c.child-below.ensures (c.in_ok-put.ensures.puts tied) in
    if_ok_after c.write_above.result (λ is. c.write_above.ensures.above later page is spot.found) (λ above writes.
    puts_above (λ bytes cells. g.S.Summary.says bytes (joined g.S.Summary.unit g.S.Summary.join g.S.Summary.of cells)) c.args.layout old c.args.place.number c.args.place.count c.args.place.at page c.args.entry.now c.args.cell.now spot.node there spot.chosen spot.found mid c.in_ok-put.put puts (g.P.Pages.store c.write_above.new.pages).map above
    (λ is. subst (λ n. WritesAbove form mid (g.P.Pages.store c.write_above.new.pages).map c.args.place.number page c.args.place.count c.args.place.at (tops n c.in_ok-put.put) above) c.child-below.ensures (writes is)))

pub insert_under-returns-in_default-clause-found : goal.insert_under-returns-in_default-clause-found
insert_under-returns-in_default-clause-found g t c =
    λ tied page there spot.
    let form : Form = form_in g.S.Summary c.args.layout in
    let old = (g.P.Pages.store c.args.pages.now).map in
    let tells = subst (λ n. TellsBelow form old n c.args.cell.now c.in_ok-put.put) c.child-below.ensures (c.in_ok-put.ensures.found tied) in
    let new = not_found c.in_ok-put.put c.in_default.not-Found in
    if_ok c.write_above.result c.write_above.ensures.placed (λ above isnt. tells_above (λ bytes cells. g.S.Summary.says bytes (joined g.S.Summary.unit g.S.Summary.join g.S.Summary.of cells)) c.args.layout old c.args.place.number c.args.place.count c.args.place.at page c.args.entry.now c.args.cell.now spot.node there spot.chosen spot.found c.in_ok-put.put above (isnt ∙ sym new) tells)

pub insert_under-returns-in_default-clause-same : goal.insert_under-returns-in_default-clause-same
insert_under-returns-in_default-clause-same g t c = λ tied. if_ok c.write_above.result c.write_above.ensures.placed (λ above isnt told. absurd (false≢true (sym isnt ∙ told)))
