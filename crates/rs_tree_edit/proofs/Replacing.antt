-- A part among its siblings gives way to others, and the page above is written.
use Rattle.std.proofs.Common.{◌≡◌, ◌<◌, ◌≤◌, ◌+◌, ℕ, suc, Some, List, [], ◌∷◌, ◌++◌, length, take, drop, map, slice_get, refl, sym, ap, ◌∙◌, subst, arith}
use Rattle.std.proofs.lemmas.List.{append-nil, length-map}
use Rattle.std.proofs.lemmas.List.Sums.{sum_by-cons}
use Rattle.std.specs.List.{AllByRecursion, AllZip, flat_map}
use Rattle.rs_page.specs.declared.file_header.FileHeader.{FileHeader}
use Rattle.rs_page.specs.declared.header.PageKind.{PageKind}
use Rattle.rs_page.specs.declared.header.PageKind.TheVariants as kind
use Rattle.rs_pages.specs.PageMap.{PageMap, SamePages}
use Rattle.rs_pages.proofs.FreeLists.{page_one}
use Rattle.rs_pages.proofs.Stores.{used_there}
use Rattle.rs_records.specs.Records.{records}
use Rattle.rs_page_owners.specs.Counts.{one_at, ◌&◌}
use Rattle.rs_page_owners.specs.Owners.{Shares, Keeps, Moves}
use Rattle.rs_page_owners.proofs.Moving.{one_at-same, shares_same, moves_trans, moves_same, moves_part, same_pages-moves, replaces-moves}
use Rattle.rs_tree.specs.Form.{Form, entry_width}
use Rattle.rs_tree.specs.Content.{SaysChild, HasRecords, content}
use Rattle.rs_tree.specs.Shape.{Shape, Lies, cells_of, uses, child_of}
use Rattle.rs_tree.proofs.Framed.{lies_kept}
use Rattle.rs_tree.proofs.Shapes.{lies_same}
use Rattle.rs_tree.proofs.Lists.{zip_lengths}
use Rattle.rs_tree_edit.specs.Editing.{Splices, Lists}
use Rattle.rs_tree_edit.specs.Parts.{uses_all, TakesPlace}
use Rattle.rs_tree_edit.proofs.Pieces.{sum_at, sum_between, all_take, all_drop, all_append}

-- parts lie where the pages that they use are kept
pub parts_kept : (form : Form) (old new : PageMap) (used : ℕ → ℕ) → Keeps used old new → (height : ℕ) (parts : List (Shape height)) → ((n : ℕ) → uses_all height parts n ≤ used n)
    → AllByRecursion (Lies form old height) parts → AllByRecursion (Lies form new height) parts
parts_kept form old new used keeps height [] within all = tt
parts_kept form old new used keeps height (x ∷ xs) within all = (
  lies_kept form old new keeps.no_fewer used keeps.pages height x (λ n. omega (arith, within n, sum_by-cons (λ part. uses height part n) x xs)) all.0,
  parts_kept form old new used keeps height xs (λ n. omega (arith, within n, sum_by-cons (λ part. uses height part n) x xs)) all.1,
)

pub parts_same : (form : Form) (old new : PageMap) → SamePages new old → (height : ℕ) (parts : List (Shape height)) → AllByRecursion (Lies form old height) parts → AllByRecursion (Lies form new height) parts
parts_same form old new same height [] all = tt
parts_same form old new same height (x ∷ xs) all = (lies_same form old new same height x all.0, parts_same form old new same height xs all.1)

-- the parts below an inner page are others now, and the page is as it was
pub record Reparts (form : Form) (old new : PageMap) (height number : ℕ) (page : List ℕ) (before : ℕ → ℕ) (parts : List (Shape height)) : Type 0 where
  pub after : 1 < number
  pub below : number < new.fields.pages
  pub there : new.page number ≡ Some page
  pub lie : AllByRecursion (Lies form new height) parts
  pub moves : Moves old new before (one_at number & uses_all height parts)

-- what an inner page's other pages are: itself and those of the siblings
abbrev pub beside_part : (height : ℕ) → Shape (suc height) → ℕ → ℕ → ℕ
beside_part height shape at number =
    one_at shape.page number + (uses_all height (take at shape.parts) number + uses_all height (drop (suc at) shape.parts) number)

pub uses_split : (height : ℕ) (shape : Shape (suc height)) (at : ℕ) (part : Shape height) → slice_get shape.parts at ≡ Some part
    → (n : ℕ) → uses (suc height) shape n ≡ uses height part n + beside_part height shape at n
uses_split height shape at part e n = omega (arith, sum_at (λ (p : Shape height). uses height p n) shape.parts at part e)

-- a part's pages are shared with those of its siblings too
pub part_shares : (map : PageMap) (height : ℕ) (shape : Shape (suc height)) (at : ℕ) (part : Shape height) (others : ℕ → ℕ) → slice_get shape.parts at ≡ Some part
    → Shares map (uses (suc height) shape & others) → Shares map (uses height part & (beside_part height shape at & others))
part_shares map height shape at part others e shares =
    shares_same map (uses (suc height) shape & others) (uses height part & (beside_part height shape at & others)) (λ n. omega (arith, uses_split height shape at part e n)) shares

-- one part gives way
pub part_replaced : (form : Form) (old new : PageMap) (height : ℕ) (shape : Shape (suc height)) (at : ℕ) (part : Shape height) (tops : List ℕ) (cells : List (List ℕ)) (others : ℕ → ℕ)
    → (lies : Lies form old (suc height) shape) → slice_get shape.parts at ≡ Some part → Shares old (uses (suc height) shape & others)
    → (place : TakesPlace form old new height (uses height part) tops cells)
    → Reparts form old new height shape.page lies.0.page (uses (suc height) shape) (take at shape.parts ++ (place.parts ++ drop (suc at) shape.parts))
part_replaced form old new height shape at part tops cells others lies e shares place =
    let rest : ℕ → ℕ = beside_part height shape at in
    let moved = place.moves.beside (rest & others) (part_shares old height shape at part others e shares) in
    let own : 0 < rest shape.page + others shape.page = omega (arith, one_at-same shape.page) in
    record {
      after = lies.0.after;
      below = omega (arith, lies.0.below, moved.keeps.no_fewer);
      there = moved.keeps.pages shape.page own ∙ lies.0.there;
      lie = all_append (Lies form new height) (take at shape.parts) (place.parts ++ drop (suc at) shape.parts)
          (parts_kept form old new (rest & others) moved.keeps height (take at shape.parts) (λ n. omega arith) (all_take (Lies form old height) shape.parts at lies.1))
          (all_append (Lies form new height) place.parts (drop (suc at) shape.parts) place.lie
          (parts_kept form old new (rest & others) moved.keeps height (drop (suc at) shape.parts) (λ n. omega arith) (all_drop (Lies form old height) shape.parts (suc at) lies.1)));
      moves = moves_same old new (uses height part & rest) (uses_all height place.parts & rest) (uses (suc height) shape)
          (one_at shape.page & uses_all height (take at shape.parts ++ (place.parts ++ drop (suc at) shape.parts)))
          (uses_split height shape at part e)
          (λ n. omega (arith, sum_between (λ (p : Shape height). uses height p n) (take at shape.parts) place.parts (drop (suc at) shape.parts)))
          (moves_part old new (uses height part) (uses_all height place.parts) rest place.moves);
    }

-- and nothing changes then
pub reparts_same : (form : Form) (old mid new : PageMap) (height number : ℕ) (page : List ℕ) (before : ℕ → ℕ) (parts : List (Shape height)) → SamePages new mid
    → Reparts form old mid height number page before parts → Reparts form old new height number page before parts
reparts_same form old mid new height number page before parts same reparts = record {
  after = reparts.after;
  below = omega (arith, reparts.below, ap (λ (f : FileHeader). f.pages) same.fields);
  there = same.pages number ∙ reparts.there;
  lie = parts_same form mid new same height parts reparts.lie;
  moves = moves_trans old mid new before (one_at number & uses_all height parts) (one_at number & uses_all height parts) reparts.moves
      (same_pages-moves mid new (one_at number & uses_all height parts) same);
}

-- the pages that an edited page is one of move nowhere
pub splices-moves : (old new : PageMap) (number : ℕ) (what : PageKind) (width count at removed : ℕ) (added : List (List ℕ)) → Splices old new number what width count at removed added
    → Moves old new (one_at number) (one_at number)
splices-moves old new number what width count at removed added splices =
    replaces-moves old new number splices.was splices.page (used_there old number splices.was splices.there splices.used) splices.below splices.replaces

-- the records that a page has after a splice, by those that it had
pub splices-lists : (old new : PageMap) (number : ℕ) (what : PageKind) (width count at removed : ℕ) (added : List (List ℕ)) (page : List ℕ) → old.page number ≡ Some page
    → (splices : Splices old new number what width count at removed added)
    → Lists splices.page what number width (take at (records count width (content page)) ++ (added ++ drop (at + removed) (records count width (content page))))
splices-lists old new number what width count at removed added page there splices =
    let same : splices.was ≡ page = page_one old number splices.was page splices.there there in
    subst (λ p. Lists splices.page what number width (take at (records count width (content p)) ++ (added ++ drop (at + removed) (records count width (content p))))) same splices.lists

-- the page above is written, and says the parts below it
pub inner_written : (form : Form) (old mid new : PageMap) (height number : ℕ) (page : List ℕ) (before others : ℕ → ℕ) (parts : List (Shape height)) (count at removed : ℕ) (added : List (List ℕ))
    → Reparts form old mid height number page before parts → Shares old (before & others)
    → Splices mid new number kind.Inner (entry_width form) count at removed added
    → AllZip (SaysChild form) (take at (records count (entry_width form) (content page)) ++ (added ++ drop (at + removed) (records count (entry_width form) (content page)))) (map (child_of height) parts)
    → 2 ≤ length parts
    → TakesPlace form old new (suc height) before (number ∷ []) (flat_map (cells_of height) parts)
inner_written form old mid new height number page before others parts count at removed added reparts shares splices says some =
    let es : List (List ℕ) = take at (records count (entry_width form) (content page)) ++ (added ++ drop (at + removed) (records count (entry_width form) (content page))) in
    let lists : Lists splices.page kind.Inner number (entry_width form) es = splices-lists mid new number kind.Inner (entry_width form) count at removed added page reparts.there splices in
    let written = splices-moves mid new number kind.Inner (entry_width form) count at removed added splices in
    let shared = (reparts.moves.beside others shares).shares in
    let moved = written.beside (uses_all height parts & others) (shares_same mid ((one_at number & uses_all height parts) & others) (one_at number & (uses_all height parts & others)) (λ n. omega arith) shared) in
    let counted : length es ≡ length (map (child_of height) parts) = zip_lengths (SaysChild form) es (map (child_of height) parts) says in
    record {
      parts = (record { page = number; parts = parts }) ∷ [];
      lie = (
        (
          record {
            after = reparts.after;
            below = omega (arith, reparts.below, moved.keeps.no_fewer);
            page = splices.page;
            there = splices.replaces.there;
            inner = record {
              has = subst (λ n. HasRecords splices.page kind.Inner number n (entry_width form)) counted lists.has;
              some = omega (arith, some, length-map parts (child_of height));
              entries = subst (λ n. AllZip (SaysChild form) (records n (entry_width form) (content splices.page)) (map (child_of height) parts)) counted
                  (subst (λ rs. AllZip (SaysChild form) rs (map (child_of height) parts)) (sym lists.holds) says);
            };
          },
          parts_kept form mid new (uses_all height parts & others) moved.keeps height parts (λ n. omega arith) reparts.lie,
        ),
        tt,
      );
      top = refl;
      lists = append-nil (flat_map (cells_of height) parts);
      moves = moves_same old new before (one_at number & uses_all height parts) before (uses_all (suc height) ((record { page = number; parts = parts }) ∷ [])) (λ n. refl) (λ n. omega arith)
          (moves_trans old mid new before (one_at number & uses_all height parts) (one_at number & uses_all height parts) reparts.moves
          (moves_part mid new (one_at number) (one_at number) (uses_all height parts) written));
    }

-- a leaf is written
pub leaf_written : (form : Form) (old new : PageMap) (shape : Shape 0) (at removed : ℕ) (added : List (List ℕ))
    → (lies : Lies form old 0 shape) → Splices old new shape.page kind.Leaf form.width (length shape.cells) at removed added
    → 1 ≤ length (take at shape.cells ++ (added ++ drop (at + removed) shape.cells))
    → TakesPlace form old new 0 (uses 0 shape) (shape.page ∷ []) (take at shape.cells ++ (added ++ drop (at + removed) shape.cells))
leaf_written form old new shape at removed added lies splices some =
    let cells : List (List ℕ) = take at shape.cells ++ (added ++ drop (at + removed) shape.cells) in
    let lists : Lists splices.page kind.Leaf shape.page form.width cells =
    subst (λ rs. Lists splices.page kind.Leaf shape.page form.width (take at rs ++ (added ++ drop (at + removed) rs))) lies.leaf.holds
    (splices-lists old new shape.page kind.Leaf form.width (length shape.cells) at removed added lies.page lies.there splices) in
    record {
      parts = (record { page = shape.page; cells = cells }) ∷ [];
      lie = (
        record {
          after = lies.after;
          below = omega (arith, lies.below, ap (λ (f : FileHeader). f.pages) splices.replaces.fields);
          page = splices.page;
          there = splices.replaces.there;
          leaf = record { has = lists.has; some = some; holds = lists.holds };
        },
        tt,
      );
      top = refl;
      lists = append-nil cells;
      moves = moves_same old new (one_at shape.page) (one_at shape.page) (uses 0 shape) (uses_all 0 ((record { page = shape.page; cells = cells }) ∷ [])) (λ n. refl) (λ n. omega arith)
          (splices-moves old new shape.page kind.Leaf form.width (length shape.cells) at removed added splices);
    }
