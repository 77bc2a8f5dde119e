-- Shapes in pages that stay, their least cells, and tests of joined summaries.
use Rattle.std.proofs.Common.{◌≡◌, ◌<◌, ℕ, zero, suc, Bool, true, false, ◌||◌, Some, List, [], ◌∷◌, map, slice_get, refl, sym, ap, ◌∙◌, subst, arith}
use Rattle.std.specs.List.{AllByRecursion, AllZip, flat_map, list_any}
use Rattle.rs_pages.specs.PageMap.{PageMap, SamePages}
use Rattle.rs_page.specs.declared.file_header.FileHeader.{FileHeader}
use Rattle.rs_records.specs.Order.{Ascends}
use Rattle.rs_records.specs.Records.{keys}
use Rattle.rs_tree.specs.Form.{Form, least_from, joined}
use Rattle.rs_tree.specs.Content.{SaysChild}
use Rattle.rs_tree.specs.Shape.{Shape, Lies, cells_of, child_of}
use Rattle.rs_tree.specs.Calls.{AcceptsParts}
use Rattle.rs_tree.proofs.Below.{ascends_first, ascends_last}

module _ (form : Form) (old new : PageMap) (same : SamePages new old) where
  same_below : (n : ℕ) → n < old.fields.pages → n < new.fields.pages
  same_below n h = omega (arith, ap (λ (f : FileHeader). f.pages) same.fields)

  -- where the pages are the same, the shape lies there
  pub lies_same : (height : ℕ) (shape : Shape height) → Lies form old height shape → Lies form new height shape
  lies_same zero shape lies =
      record { after = lies.after; below = same_below shape.page lies.below; page = lies.page; there = same.pages shape.page ∙ lies.there; leaf = lies.leaf }
  lies_same (suc height) shape lies = (
    record { after = lies.0.after; below = same_below shape.page lies.0.below; page = lies.0.page; there = same.pages shape.page ∙ lies.0.there; inner = lies.0.inner },
    parts_same shape.parts lies.1 (lies_same height),
  ) where
    parts_same : (parts : List (Shape height)) → AllByRecursion (Lies form old height) parts → ((part : Shape height) → Lies form old height part → Lies form new height part) → AllByRecursion (Lies form new height) parts
    parts_same [] all f = tt
    parts_same (x ∷ xs) all f = (f x all.0, parts_same xs all.1 f)

-- the keys of the entries are the least cells of the parts
pub entries_leasts : (form : Form) (height : ℕ) (entries : List (List ℕ)) (parts : List (Shape height)) → AllZip (SaysChild form) entries (map (child_of height) parts)
    → AllZip (λ least part. slice_get (cells_of height part) 0 ≡ Some least) (keys (least_from form.summary) entries) parts
entries_leasts form height [] [] all = tt
entries_leasts form height [] (x ∷ xs) all = absurd all
entries_leasts form height (e ∷ es) [] all = absurd all
entries_leasts form height (e ∷ es) (x ∷ xs) all = (all.0.least, entries_leasts form height es xs all.1)

-- the cells of each part ascend
pub part_ascends : {X : Type 0} (cells : X → List (List ℕ)) (parts : List X) (i : ℕ) (part : X) → Ascends (flat_map cells parts) → slice_get parts i ≡ Some part → Ascends (cells part)
part_ascends cells [] i part up e = absurd (cc)
part_ascends cells (x ∷ xs) zero part up e = let same : x ≡ part = cc in subst (λ p. Ascends (cells p)) same (ascends_first (cells x) (flat_map cells xs) up)
part_ascends cells (x ∷ xs) (suc i) part up e = part_ascends cells xs i part (ascends_last (cells x) (flat_map cells xs) up) e

or_false : (b : Bool) → (b || false) ≡ b
or_false true = refl
or_false false = refl

-- a test that accepts a join exactly where it accepts a part accepts the summary of cells exactly where it accepts one's
pub accepts_joined : {S : Type 0} (unit : S) (join : S → S → S) (of : List ℕ → S) (test : S → Bool) → ((s : S) → join s unit ≡ s) → AcceptsParts join test
    → (least : List ℕ) (cells : List (List ℕ)) → slice_get cells 0 ≡ Some least → test (joined unit join of cells) ≡ list_any (λ cell. test (of cell)) cells
accepts_joined unit join of test last accepts least [] e = absurd (cc)
accepts_joined unit join of test last accepts least (c ∷ []) e = ap test (last (of c)) ∙ sym (or_false (test (of c)))
accepts_joined unit join of test last accepts least (c ∷ d ∷ ds) e =
    accepts.each (of c) (joined unit join of (d ∷ ds)) ∙ ap (λ b. test (of c) || b) (accepts_joined unit join of test last accepts d (d ∷ ds) refl)
