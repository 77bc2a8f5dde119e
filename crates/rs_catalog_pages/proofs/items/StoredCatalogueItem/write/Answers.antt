-- Each part is written after the one before.
use Rattle.std.proofs.lemmas.Result.{on_ok_weaker}
use Rattle.rs_bytes.specs.Codes.{SaysBoth, SaysCounted, SaysEach}
use Rattle.rs_catalog_pages.specs.Items.{SaysAlignment, SaysCatalogue, SaysIndex, SaysRoute, SaysTable, SaysView}
use Rattle.rs_catalog_pages.specs.Laws.{catalogue_parts}
use Rattle.rs_catalog_pages.specs.Said.{said_catalogue}
use Rattle.rs_catalog_pages.proofs.Pieces.{both_written, writes_as}
use Rattle.rs_catalog_pages.proofs.items.StoredCatalogueItem.write.Goals as goal

pub returns : goal.returns
returns c = record {
  written = on_ok_weaker c.write-5.result (λ last. writes_as (SaysBoth (SaysCounted 4 (SaysEach SaysRoute)) (SaysBoth (SaysCounted 4 (SaysEach SaysTable)) (SaysBoth (SaysCounted 4 (SaysEach SaysIndex)) (SaysBoth (SaysCounted 4 (SaysEach SaysView)) (SaysCounted 4 (SaysEach SaysAlignment)))))) SaysCatalogue (catalogue_parts (said_catalogue c.args.self.now)) (said_catalogue c.args.self.now) (λ f h. h) c.args.bytes.now.items c.write-5.new.bytes.items
      (both_written (SaysCounted 4 (SaysEach SaysRoute)) (SaysBoth (SaysCounted 4 (SaysEach SaysTable)) (SaysBoth (SaysCounted 4 (SaysEach SaysIndex)) (SaysBoth (SaysCounted 4 (SaysEach SaysView)) (SaysCounted 4 (SaysEach SaysAlignment))))) c.args.bytes.now.items c.write.new.bytes.items c.write-5.new.bytes.items _ _ c.in_ok-write.ensures.written (both_written (SaysCounted 4 (SaysEach SaysTable)) (SaysBoth (SaysCounted 4 (SaysEach SaysIndex)) (SaysBoth (SaysCounted 4 (SaysEach SaysView)) (SaysCounted 4 (SaysEach SaysAlignment)))) c.write.new.bytes.items c.write-2.new.bytes.items c.write-5.new.bytes.items _ _ c.in_ok-write-2.ensures.written (both_written (SaysCounted 4 (SaysEach SaysIndex)) (SaysBoth (SaysCounted 4 (SaysEach SaysView)) (SaysCounted 4 (SaysEach SaysAlignment))) c.write-2.new.bytes.items c.write-3.new.bytes.items c.write-5.new.bytes.items _ _ c.in_ok-write-3.ensures.written (both_written (SaysCounted 4 (SaysEach SaysView)) (SaysCounted 4 (SaysEach SaysAlignment)) c.write-3.new.bytes.items c.write-4.new.bytes.items c.write-5.new.bytes.items _ _ c.in_ok-write-4.ensures.written last))))) c.write-5.ensures.written;
}
