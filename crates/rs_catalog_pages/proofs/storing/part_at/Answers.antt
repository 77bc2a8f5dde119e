-- Past the last byte there is none; what is left may be short.
use Rattle.std.proofs.Common.{◌*◌, take, sym, ap, ◌∙◌}
use Rattle.std.proofs.lemmas.List.{take_all, drop_all}
use Rattle.rs_catalog_pages.specs.Places.{part_at}
use Rattle.rs_catalog_pages.proofs.storing.part_at.Goals as goal

pub returns-then-start-bytes : goal.returns-then-start-bytes
unfolding part_at
returns-then-start-bytes c = sym (ap (take 4080) (drop_all (c.args.index * 4080) c.args.bytes.now c.if-start-bytes.true))

pub returns-then-rest-le-PAGE_ROOM : goal.returns-then-rest-le-PAGE_ROOM
unfolding part_at
returns-then-rest-le-PAGE_ROOM c = sym (take_all 4080 c.split_at.result.1.now c.if-rest-le-PAGE_ROOM.true) ∙ ap (take 4080) c.split_at.ensures.back

pub returns : goal.returns
unfolding part_at
returns c = c.split_at-2.ensures.front ∙ ap (take 4080) c.split_at.ensures.back
