-- Where it stops among the lines of views.
use Rattle.std.proofs.Common.{◌∙◌, ℕ, List, [], ◌∷◌, ◌++◌, Option, ap, append-nil, map, subst, sym}
use Rattle.std.specs.Io.KnownBytes.{Appends}
use Rattle.std.proofs.lemmas.List.{map-append}
use Rattle.rs_catalog.specs.Definitions.{ViewItem}
use Rattle.rs_dump.specs.Views.{FrontOfViews, IsSorted, Known, MayFollow, view_of}
use Rattle.rs_dump.specs.Written.{WroteFront, line_bytes, lines_bytes}
use Rattle.rs_dump.specs.declared.stop.Stop.{Stop}
use Rattle.rs_dump.specs.declared.stop.Stop.TheVariants.{Refused}
use Rattle.rs_facts.specs.Fact.{Name}
use Rattle.rs_refusal.specs.declared.refusal.Refusal.{Refusal}
use Rattle.rs_dump.proofs.Stops.{all_out, front_after, front_as}
use Rattle.rs_dump.proofs.Viewed.{one_more}
use Rattle.rs_dump.proofs.Written.{lines_joined}

module _ (known : Known) (written : List Name) (before mid : Option (List ℕ)) (sorted : IsSorted known written before mid) where
  -- before the next
  pub stops_here : (why : Refusal) → FrontOfViews known (Refused why) before mid
  stops_here why = record {
    views = sorted.views;
    in_turn = sorted.in_turn;
    front = all_out why (lines_bytes (map view_of sorted.views)) before mid sorted.put;
  }

  -- in the line of one that may follow
  pub stops_at_view : (view : Name × ViewItem) (stop : Stop) (after : Option (List ℕ)) → MayFollow known written view → WroteFront stop (line_bytes (view_of view)) mid after
      → FrontOfViews known stop before after
  stops_at_view view stop after may front = record {
    views = sorted.views ++ view ∷ [];
    in_turn = one_more known [] sorted.views view sorted.in_turn (subst (λ (those : List Name). MayFollow known those view) (sym sorted.named) may);
    front = front_as stop (lines_bytes (map view_of sorted.views) ++ line_bytes (view_of view)) (lines_bytes (map view_of (sorted.views ++ view ∷ []))) before after
        (ap (λ bytes. lines_bytes (map view_of sorted.views) ++ bytes) (sym (append-nil (line_bytes (view_of view))))
        ∙ sym (lines_joined (map view_of sorted.views) (view_of view ∷ [])) ∙ ap lines_bytes (sym (map-append view_of sorted.views (view ∷ []))))
        (front_after stop (lines_bytes (map view_of sorted.views)) (line_bytes (view_of view)) before mid after sorted.put front);
  }

  -- after it
  pub stops_past_view : (view : Name × ViewItem) (why : Refusal) (after : Option (List ℕ)) → MayFollow known written view → Appends mid after (line_bytes (view_of view))
      → FrontOfViews known (Refused why) before after
  stops_past_view view why after may put = stops_at_view view (Refused why) after may (all_out why (line_bytes (view_of view)) mid after put)
