-- Each part is written after the one before.
use Rattle.std.proofs.lemmas.Result.{on_ok_weaker}
use Rattle.rs_bytes.specs.Codes.{SaysBoth, SaysEach, SaysMany, SaysNumber}
use Rattle.rs_catalog_pages.specs.Directory.{SaysDirectory, SaysTree}
use Rattle.rs_catalog_pages.specs.Laws.{directory_parts}
use Rattle.rs_catalog_pages.specs.Said.{said_directory}
use Rattle.rs_catalog_pages.proofs.Pieces.{both_written, writes_as}
use Rattle.rs_catalog_pages.proofs.directory_items.StoredDirectoryItem.write.Goals as goal

pub returns : goal.returns
returns c = record {
  written = on_ok_weaker c.write-4.result (λ last. writes_as (SaysBoth (SaysMany 128 (SaysEach SaysTree)) (SaysBoth (SaysMany 64 (SaysEach (SaysNumber 4))) (SaysBoth SaysTree (SaysNumber 8)))) SaysDirectory (directory_parts (said_directory c.args.self.now)) (said_directory c.args.self.now) (λ f h. h) c.args.bytes.now.items c.write-4.new.bytes.items
      (both_written (SaysMany 128 (SaysEach SaysTree)) (SaysBoth (SaysMany 64 (SaysEach (SaysNumber 4))) (SaysBoth SaysTree (SaysNumber 8))) c.args.bytes.now.items c.write.new.bytes.items c.write-4.new.bytes.items _ _ c.in_ok-write.ensures.written (both_written (SaysMany 64 (SaysEach (SaysNumber 4))) (SaysBoth SaysTree (SaysNumber 8)) c.write.new.bytes.items c.write-2.new.bytes.items c.write-4.new.bytes.items _ _ c.in_ok-write-2.ensures.written (both_written SaysTree (SaysNumber 8) c.write-2.new.bytes.items c.write-3.new.bytes.items c.write-4.new.bytes.items _ _ c.in_ok-write-3.ensures.written last)))) c.write-4.ensures.written;
}
