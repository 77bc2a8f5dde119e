-- Each part is written after the one before.
use Rattle.std.proofs.lemmas.Result.{on_ok_weaker}
use Rattle.rs_bytes.specs.Codes.{SaysBoth, SaysCounted, SaysEach, SaysNumber}
use Rattle.rs_catalog_pages.specs.Items.{SaysColumn, SaysName, SaysTable}
use Rattle.rs_catalog_pages.specs.Laws.{table_parts}
use Rattle.rs_catalog_pages.specs.Said.{said_table}
use Rattle.rs_catalog_pages.proofs.Pieces.{both_written, writes_as}
use Rattle.rs_catalog_pages.proofs.items.StoredTableItem.write.Goals as goal

pub returns : goal.returns
returns c = record {
  written = on_ok_weaker c.write-4.result (λ last. writes_as (SaysBoth SaysName (SaysBoth (SaysNumber 4) (SaysBoth (SaysNumber 1) (SaysCounted 1 (SaysEach SaysColumn))))) SaysTable (table_parts (said_table c.args.self.now)) (said_table c.args.self.now) (λ f h. h) c.args.bytes.now.items c.write-4.new.bytes.items
      (both_written SaysName (SaysBoth (SaysNumber 4) (SaysBoth (SaysNumber 1) (SaysCounted 1 (SaysEach SaysColumn)))) c.args.bytes.now.items c.write.new.bytes.items c.write-4.new.bytes.items _ _ c.in_ok-write.ensures.written (both_written (SaysNumber 4) (SaysBoth (SaysNumber 1) (SaysCounted 1 (SaysEach SaysColumn))) c.write.new.bytes.items c.write-2.new.bytes.items c.write-4.new.bytes.items _ _ c.in_ok-write-2.ensures.written (both_written (SaysNumber 1) (SaysCounted 1 (SaysEach SaysColumn)) c.write-2.new.bytes.items c.write-3.new.bytes.items c.write-4.new.bytes.items _ _ c.in_ok-write-3.ensures.written last)))) c.write-4.ensures.written;
}
