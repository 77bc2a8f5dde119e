-- Each part is written after the one before.
use Rattle.std.proofs.Common.{subst}
use Rattle.std.proofs.lemmas.Result.{on_ok_weaker}
use Rattle.rs_bytes.specs.Codes.{Writes, SaysBoth, SaysNumber}
use Rattle.rs_catalog_pages.specs.Directory.{SaysTree}
use Rattle.rs_catalog_pages.specs.Laws.{tree_parts}
use Rattle.rs_catalog_pages.specs.Said.{said_tree}
use Rattle.rs_catalog_pages.proofs.Pieces.{both_written, writes_as}
use Rattle.rs_catalog_pages.proofs.directory_items.StoredTreeItem.write.Goals as goal

pub returns : goal.returns
returns c = record {
  written = on_ok_weaker c.write-3.result (λ last. writes_as (SaysBoth (SaysNumber 4) (SaysBoth (SaysNumber 8) (SaysNumber 8))) SaysTree (tree_parts (said_tree c.args.self.now)) (said_tree c.args.self.now) (λ f h. h) c.args.bytes.now.items c.write-3.new.bytes.items
      (both_written (SaysNumber 4) (SaysBoth (SaysNumber 8) (SaysNumber 8)) c.args.bytes.now.items c.write.new.bytes.items c.write-3.new.bytes.items _ _ (subst (λ root. Writes (SaysNumber 4) c.args.bytes.now.items root c.write.new.bytes.items) c.number.ensures c.in_ok-write.ensures.written) (both_written (SaysNumber 8) (SaysNumber 8) c.write.new.bytes.items c.write-2.new.bytes.items c.write-3.new.bytes.items _ _ c.in_ok-write-2.ensures.written last))) c.write-3.ensures.written;
}
