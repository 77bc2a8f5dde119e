-- Parts of a tree whose top page is one page now or two.
use Rattle.std.proofs.Common.{◌≡◌, ◌<◌, ◌≤◌, ◌+◌, ℕ, suc, Some, List, [], ◌∷◌, ◌++◌, length, take, drop, map, refl, sym, ap, ◌∙◌, subst, arith}
use Rattle.std.proofs.lemmas.Grind.{flat_map-append}
use Rattle.std.proofs.lemmas.List.{append-nil, length-drop, length-take-le, take-append-drop}
use Rattle.std.proofs.lemmas.List.Sums.{sum_by-append}
use Rattle.std.specs.List.{AllZip, flat_map, sum_by}
use Rattle.rs_page.specs.declared.header.PageKind.TheVariants as kind
use Rattle.rs_pages.specs.PageMap.{PageMap}
use Rattle.rs_page_owners.specs.Counts.{one_at, ◌&◌}
use Rattle.rs_page_owners.specs.Owners.{Shares}
use Rattle.rs_page_owners.proofs.Moving.{shares_same, moves_trans, moves_same, moves_part}
use Rattle.rs_tree.specs.Form.{Form, entry_width}
use Rattle.rs_tree.specs.Content.{Child, SaysChild, HasRecords, content}
use Rattle.rs_records.specs.Records.{records}
use Rattle.rs_tree.specs.Shape.{Shape, Lies, InnerLies, cells_of, uses, child_of}
use Rattle.rs_tree.proofs.Lists.{zip_lengths}
use Rattle.rs_tree_edit.specs.Editing.{Lists}
use Rattle.rs_tree_edit.specs.Parts.{uses_all, TakesPlace}
use Rattle.rs_tree_edit.proofs.Pieces.{all_take, all_drop, zip_take, zip_drop, map-take, map-drop}
use Rattle.rs_tree_edit.proofs.Replacing.{Reparts, parts_kept}
use Rattle.rs_tree_insert.specs.Writing.{SplitsPage}

-- an inner page that lists entries of these children
pub inner_lies : (form : Form) (map : PageMap) (number : ℕ) (page : List ℕ) (es : List (List ℕ)) (children : List Child) → 1 < number → number < map.fields.pages → map.page number ≡ Some page
    → Lists page kind.Inner number (entry_width form) es → AllZip (SaysChild form) es children → 2 ≤ length es → InnerLies form map number children
inner_lies form map number page es children after below there lists says some =
    let counted : length es ≡ length children = zip_lengths (SaysChild form) es children says in
    record {
      after = after;
      below = below;
      page = page;
      there = there;
      inner = record {
        has = subst (λ n. HasRecords page kind.Inner number n (entry_width form)) counted lists.has;
        some = omega (arith, some, counted);
        entries = subst (λ n. AllZip (SaysChild form) (records n (entry_width form) (content page)) children) counted
            (subst (λ rs. AllZip (SaysChild form) rs children) (sym lists.holds) says);
      };
    }

flat_halves : {X A : Type 0} (has : X → List A) (xs : List X) (half : ℕ) → flat_map has (take half xs) ++ (flat_map has (drop half xs) ++ []) ≡ flat_map has xs
flat_halves has xs half =
    ap (λ zs. flat_map has (take half xs) ++ zs) (append-nil (flat_map has (drop half xs))) ∙ sym (flat_map-append has (take half xs) (drop half xs)) ∙ ap (flat_map has) (take-append-drop half xs)

sum_halves : {X : Type 0} (f : X → ℕ) (xs : List X) (half : ℕ) → sum_by f xs ≡ sum_by f (take half xs) + sum_by f (drop half xs)
sum_halves f xs half = ap (sum_by f) (sym (take-append-drop half xs)) ∙ sum_by-append f (take half xs) (drop half xs)

pub leaf_split : (form : Form) (old new : PageMap) (number other : ℕ) (cells : List (List ℕ)) → 1 < number → SplitsPage old new number other kind.Leaf form.width cells
    → TakesPlace form old new 0 (one_at number) (number ∷ other ∷ []) cells
leaf_split form old new number other cells after splits =
    let first : 1 ≤ length (take splits.staying cells) = omega (arith, length-take-le splits.staying cells (omega (arith, splits.some_more)), splits.some) in
    let rest : 1 ≤ length (drop splits.staying cells) = omega (arith, length-drop splits.staying cells, splits.some_more) in
    record {
      parts = (record { page = number; cells = take splits.staying cells }) ∷ (record { page = other; cells = drop splits.staying cells }) ∷ [];
      lie = (
        record { after = after; below = splits.below; page = splits.first; there = splits.there; leaf = record { has = splits.lists.has; some = first; holds = splits.lists.holds } },
        (record { after = splits.after; below = splits.below_too; page = splits.second; there = splits.there_too; leaf = record { has = splits.lists_too.has; some = rest; holds = splits.lists_too.holds } }, tt),
      );
      top = refl;
      lists = ap (λ cs. take splits.staying cells ++ cs) (append-nil (drop splits.staying cells)) ∙ take-append-drop splits.staying cells;
      moves = moves_same old new (one_at number) (one_at number & one_at other) (one_at number) (uses_all 0 ((record { page = number; cells = take splits.staying cells }) ∷ (record { page = other; cells = drop splits.staying cells }) ∷ []))
          (λ n. refl) (λ n. omega arith) splits.moves;
    }

pub inner_split : (form : Form) (old mid new : PageMap) (height number other : ℕ) (page : List ℕ) (before others : ℕ → ℕ) (parts : List (Shape height)) (es : List (List ℕ))
    → Reparts form old mid height number page before parts → Shares old (before & others) → SplitsPage mid new number other kind.Inner (entry_width form) es
    → AllZip (SaysChild form) es (map (child_of height) parts)
    → TakesPlace form old new (suc height) before (number ∷ other ∷ []) (flat_map (cells_of height) parts)
inner_split form old mid new height number other page before others parts es reparts shares splits says =
    let shared = (reparts.moves.beside others shares).shares in
    let moved = splits.moves.beside (uses_all height parts & others) (shares_same mid ((one_at number & uses_all height parts) & others) (one_at number & (uses_all height parts & others)) (λ n. omega arith) shared) in
    let lie = parts_kept form mid new (uses_all height parts & others) moved.keeps height parts (λ n. omega arith) reparts.lie in
    let first = subst (AllZip (SaysChild form) (take splits.staying es)) (map-take (child_of height) parts splits.staying) (zip_take (SaysChild form) es (map (child_of height) parts) splits.staying says) in
    let rest = subst (AllZip (SaysChild form) (drop splits.staying es)) (map-drop (child_of height) parts splits.staying) (zip_drop (SaysChild form) es (map (child_of height) parts) splits.staying says) in
    let some : 2 ≤ length (take splits.staying es) = omega (arith, length-take-le splits.staying es (omega (arith, splits.some_more)), splits.some) in
    let more : 2 ≤ length (drop splits.staying es) = omega (arith, length-drop splits.staying es, splits.some_more) in
    record {
      parts = (record { page = number; parts = take splits.staying parts }) ∷ (record { page = other; parts = drop splits.staying parts }) ∷ [];
      lie = (
        (
          inner_lies form new number splits.first (take splits.staying es) (map (child_of height) (take splits.staying parts)) reparts.after splits.below splits.there splits.lists first some,
          all_take (Lies form new height) parts splits.staying lie,
        ),
        (
          (
            inner_lies form new other splits.second (drop splits.staying es) (map (child_of height) (drop splits.staying parts)) splits.after splits.below_too splits.there_too splits.lists_too rest more,
            all_drop (Lies form new height) parts splits.staying lie,
          ),
          tt,
        ),
      );
      top = refl;
      lists = flat_halves (cells_of height) parts splits.staying;
      moves = moves_same old new before ((one_at number & one_at other) & uses_all height parts) before
          (uses_all (suc height) ((record { page = number; parts = take splits.staying parts }) ∷ (record { page = other; parts = drop splits.staying parts }) ∷ []))
          (λ n. refl) (λ n. omega (arith, sum_halves (λ (p : Shape height). uses height p n) parts splits.staying))
          (moves_trans old mid new before (one_at number & uses_all height parts) ((one_at number & one_at other) & uses_all height parts) reparts.moves
          (moves_part mid new (one_at number) (one_at number & one_at other) (uses_all height parts) splits.moves));
    }
