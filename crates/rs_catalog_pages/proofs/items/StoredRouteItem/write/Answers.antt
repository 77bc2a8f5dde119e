-- Each part is written after the one before.
use Rattle.std.proofs.Common.{◌≡◌, ℕ, List, ap, string_bytes, subst}
use Rattle.std.proofs.lemmas.Result.{on_ok_weaker}
use Rattle.rs_bytes.specs.Codes.{SaysBoth, SaysNumber, Writes}
use Rattle.rs_catalog_pages.specs.Items.{SaysName, SaysRoute}
use Rattle.rs_catalog_pages.specs.Laws.{route_parts}
use Rattle.rs_catalog_pages.specs.Said.{said_route}
use Rattle.rs_catalog_pages.proofs.Pieces.{both_written, fourth_after, writes_as}
use Rattle.rs_catalog_pages.proofs.items.StoredRouteItem.write.Goals as goal

pub returns : goal.returns
returns c = record {
  written = on_ok_weaker c.write-2.result (λ last.
      let route = said_route c.args.self.now in
      let named = c.write.new.bytes.items in
      let numbered = c.write_three.new.bytes.items in
      let new = c.write-2.new.bytes.items in
      let name : string_bytes c.deref.result.now ≡ route.name = ap string_bytes c.deref.ensures in
      writes_as (SaysBoth SaysName (SaysBoth (SaysNumber 4) (SaysBoth (SaysNumber 4) (SaysBoth (SaysNumber 4) (SaysNumber 8))))) SaysRoute (route_parts route) route (λ f h. h) c.args.bytes.now.items new
      (both_written SaysName (SaysBoth (SaysNumber 4) (SaysBoth (SaysNumber 4) (SaysBoth (SaysNumber 4) (SaysNumber 8)))) c.args.bytes.now.items named new _ _
      (subst (λ (text : List ℕ). Writes SaysName c.args.bytes.now.items text named) name c.in_ok-write.ensures.written)
      (writes_as (SaysBoth (SaysBoth (SaysNumber 4) (SaysBoth (SaysNumber 4) (SaysNumber 4))) (SaysNumber 8)) (SaysBoth (SaysNumber 4) (SaysBoth (SaysNumber 4) (SaysBoth (SaysNumber 4) (SaysNumber 8))))
      ((route.number, (route.start, route.finish)), route.born) (route.number, (route.start, (route.finish, route.born)))
      (λ f h. fourth_after (SaysNumber 4) (SaysNumber 4) (SaysNumber 4) (SaysNumber 8) route.number route.start route.finish route.born f h) named new
      (both_written (SaysBoth (SaysNumber 4) (SaysBoth (SaysNumber 4) (SaysNumber 4))) (SaysNumber 8) named numbered new _ _ c.in_ok-write_three.ensures last)))) c.write-2.ensures.written;
}
