-- What was committed is the file's, and says that there are no definitions.
use Rattle.std.proofs.Common.{◌∙◌, refl, subst, sym}
use Rattle.rs_file.specs.Contents.{HoldsAll}
use Rattle.rs_file.specs.Creating.{no_contents}
use Rattle.rs_file.proofs.Loaded.{same_map}
use Rattle.rs_pager.specs.Lasts.{KeepsMap}
use Rattle.rs_pager.specs.Maps.{committed, working}
use Rattle.rs_pages.specs.PageMap.{IsEmptyFile, PageMap}
use Rattle.rs_pages.proofs.Stores.{SamePages-trans}
use Rattle.rs_store.proofs.Keeping.{pages_back}
use Rattle.rs_store.proofs.Results.{ok_with}
use Rattle.rs_store.proofs.creating.write_nothing.Goals as goal

pub returns-clause-writes : goal.returns-clause-writes
returns-clause-writes g c = λ honest created.
    let d = g.D.Disk in
    let start = c.args.pager.now in
    let begun = c.begin.new.self in
    let stored = c.create.new.pages in
    let done = c.commit.new.self in
    let last = c.checkpoint.new.pager in
    let keeps = c.checkpoint.ensures.checkpoints.keeps in
    let tied = c.begin.ensures.keeps.tied created.tied in
    let empty : IsEmptyFile (working d begun) = subst IsEmptyFile
    (sym (same_map (working d begun) (committed d begun) c.begin.ensures.same ∙ same_map (committed d begun) (committed d start) (c.begin.ensures.keeps.committed created.tied))) created.empty in
    let done_tied = c.commit.ensures.tied (c.create.ensures.leaves.keeps.tied tied) in
    let at_last = same_map (committed d last) (committed d done) (keeps.committed done_tied) in
    let same = at_last ∙ same_map (committed d done) (working d stored) c.commit.ensures.committed in
    let holds = (c.in_default.ensures.creates tied empty).holds in
    ok_with c.checkpoint.result (λ (kept : KeepsMap d last (committed d done)). record {
      tied = keeps.tied done_tied;
      kept = subst (λ (map : PageMap). KeepsMap d last map) (sym at_last) kept;
      within = keeps.within;
      same = SamePages-trans _ _ _ (keeps.working done_tied) (SamePages-trans _ _ _ c.commit.ensures.working
          (SamePages-trans _ _ _ (pages_back _ _ c.commit.ensures.committed) (pages_back _ _ (keeps.committed done_tied))));
      contents = no_contents c.in_default.field-0.items;
      first = refl;
      stands = c.created_file_stands_for_the_fresh_state.ensures (committed d last) c.in_default.field-0.items
          (subst (λ m. HoldsAll m (no_contents c.in_default.field-0.items)) (sym same) holds);
    }) (c.checkpoint.ensures.checkpoints.kept done_tied.kept done_tied done_tied.is_kept)
