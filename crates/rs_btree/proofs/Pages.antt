-- What the cells of a leaf, and the entries of an inner page, tell of a cell.
use Rattle.std.proofs.Common.{◌≡◌, ◌⊎◌, ◌≤◌, ◌<◌, ◌-◌, ℕ, zero, suc, Bool, true, false, not, Some, List, [], ◌∷◌, ◌++◌, IsTrue, drop, take, slice_get, slice_index_or, refl, inl, inr, sym, ap, ◌∙◌, subst, arith}
use Rattle.std.specs.Prelude.{◌↔◌, length}
use Rattle.std.proofs.lemmas.Bool.{cases_lt, false≢true}
use Rattle.std.specs.List.{Contains, flat_map}
use Rattle.rs_page.specs.Number.{number_at}
use Rattle.rs_pages.specs.PageMap.{PageMap}
use Rattle.rs_pages.proofs.Stores.{SamePages-refl}
use Rattle.rs_records.specs.Order.{is_below, Ascends}
use Rattle.rs_records.specs.Records.{records, keys, IsPlace}
use Rattle.std.proofs.lemmas.List.{take_rest}
use Rattle.rs_records.proofs.Orders.{is_below-cases, is_below-self, is_below-trans}
use Rattle.rs_records.proofs.RecordLists.{key_at, length-records}
use Rattle.rs_tree.specs.Content.{content}
use Rattle.rs_tree.specs.Form.{Form, entry_width, least_from}
use Rattle.rs_tree.specs.Layouts.{form_with}
use Rattle.rs_tree.specs.Node.{IsNode}
use Rattle.rs_tree.specs.Shape.{Shape, cells_of}
use Rattle.rs_tree.specs.Walking.{IsPart}
use Rattle.rs_tree.specs.declared.layout.Layout.{Layout}
use Rattle.rs_tree.specs.declared.node.Node.TheVariants.{Leaf, Inner}
use Rattle.rs_tree.proofs.Below.{below_one_way}
use Rattle.rs_tree.proofs.Collecting.{whole_place}
use Rattle.rs_tree.proofs.Entering.{entry_there, inner_no_leaf, inner_parts, leaf_cells}
use Rattle.rs_tree.proofs.Entries.{part_at}
use Rattle.rs_tree.proofs.Parts.{leasts_ascend, place_splits}
use Rattle.rs_tree.proofs.Shapes.{entries_leasts, part_ascends}
use Rattle.rs_btree.specs.Looking.{AreRising, HasOne, HaveNone, IsFirst, Leads, LeadsFrom, LiesBetween, TellsFirst}
use Rattle.rs_btree.specs.declared.stepping.Step.{Step}
use Rattle.rs_btree.specs.declared.stepping.Step.TheVariants.{End, Below}
pub use Rattle.rs_btree.proofs.Among.{there_contains}
use Rattle.rs_btree.proofs.Among.{past_lacks, place_tells}
use Rattle.rs_btree.proofs.Narrowing.{none_has, one_has, part_has}
use Rattle.rs_btree.proofs.Next.{below_next, next_alone}

-- what the search reads of a record is so of its key among the keys
pub key_told : (from : ℕ) (rs : List (List ℕ)) (at : ℕ) (found key : List ℕ) (is : Bool) → slice_get rs at ≡ Some found
    → is ≡ is_below key (take (length found - from) (drop from found)) → is_below key (slice_index_or (keys from rs) at []) ≡ is
key_told from rs at found key is there below =
    ap (is_below key) (key_at from rs at found there ∙ sym (take_rest found from)) ∙ sym below

not_true : (b : Bool) → not b ≡ true → b ≡ false
not_true true is = absurd (false≢true is)
not_true false is = refl

-- a cell that belongs after those of a leaf is none of them
pub leaf_lacks : (count width at : ℕ) (bytes same_bytes cell : List ℕ) → bytes ≡ same_bytes → IsPlace (keys 0 (records count width bytes)) cell at → at ≡ count
    → Ascends (records count width same_bytes) → Contains (records count width same_bytes) cell → ⊥
leaf_lacks count width at bytes same_bytes cell same place past up has =
    let here : IsPlace (records count width same_bytes) cell at =
    whole_place (records count width same_bytes) cell at (subst (λ (b : List ℕ). IsPlace (keys 0 (records count width b)) cell at) same place) in
    past_lacks (records count width same_bytes) cell at up here (omega (arith, length-records count width same_bytes, past)) has

-- else it is one of them where it isn't below what has its place
pub leaf_tells : (count width at : ℕ) (bytes same_bytes cell one : List ℕ) (below : Bool) → bytes ≡ same_bytes → IsPlace (keys 0 (records count width bytes)) cell at
    → slice_get (records count width bytes) at ≡ Some one → below ≡ is_below cell one → Ascends (records count width same_bytes)
    → (IsTrue (not below) ↔ Contains (records count width same_bytes) cell)
leaf_tells count width at bytes same_bytes cell one below same place there is up =
    let rs : List (List ℕ) = records count width same_bytes in
    let here : IsPlace rs cell at = whole_place rs cell at (subst (λ (b : List ℕ). IsPlace (keys 0 (records count width b)) cell at) same place) in
    let found : slice_get rs at ≡ Some one = subst (λ (b : List ℕ). slice_get (records count width b) at ≡ Some one) same there in
    let told = place_tells rs cell at up here one found in (
      λ isnt. told.0 (sym is ∙ not_true below isnt),
      λ has. ap not (is ∙ told.1 has),
    )

-- the same place of the same key among the same keys
place_same : (count width same_width least same_least at : ℕ) (bytes same_bytes key same_key : List ℕ) → width ≡ same_width → least ≡ same_least → bytes ≡ same_bytes → key ≡ same_key
    → IsPlace (keys least (records count width bytes)) key at → IsPlace (keys same_least (records count same_width same_bytes)) same_key at
place_same count width same_width least same_least at bytes same_bytes key same_key one two three four place =
    subst (λ (k : List ℕ). IsPlace (keys same_least (records count same_width same_bytes)) k at) four
    (subst (λ (b : List ℕ). IsPlace (keys same_least (records count same_width b)) key at) three
    (subst (λ (l : ℕ). IsPlace (keys l (records count same_width bytes)) key at) two
    (subst (λ (w : ℕ). IsPlace (keys least (records count w bytes)) key at) one place)))

-- what lies between two keys has its place, with what follows it, at the second
pub between_place : (ks : List (List ℕ)) (cell : List ℕ) (at : ℕ) → at ≤ length ks → LiesBetween ks cell at → IsPlace ks (cell ++ 0 ∷ []) at
between_place ks cell at inside between = record {
  within = inside;
  before = λ last e. not_above (slice_index_or ks last []) (between.before last e);
  after = λ less. above (slice_index_or ks at []) (between.after less);
} where
  not_above : (key : List ℕ) → is_below cell key ≡ false → is_below key (cell ++ 0 ∷ []) ≡ true
  not_above key isnt = elim (is_below-cases cell key) [
    | inl less ↦ absurd (false≢true (sym isnt ∙ less))
    | inr (inl level) ↦ subst (λ (k : List ℕ). is_below k (cell ++ 0 ∷ []) ≡ true) level (below_next cell)
    | inr (inr more) ↦ is_below-trans key cell (cell ++ 0 ∷ []) more (below_next cell)
  ]

  above : (key : List ℕ) → is_below cell key ≡ true → is_below key (cell ++ 0 ∷ []) ≡ false
  above key less = by_test (is_below key (cell ++ 0 ∷ [])) refl where
    by_test : (b : Bool) → is_below key (cell ++ 0 ∷ []) ≡ b → b ≡ false
    by_test false e = refl
    by_test true e =
        let level : key ≡ cell = next_alone key cell (below_one_way cell key less) e in
        absurd (false≢true (sym (is_below-self cell) ∙ subst (λ (k : List ℕ). is_below cell k ≡ true) level less))

-- of cells that ascend from one that lies between two keys on, one that is below the second lies between them too
pub rises_between : (ks cells : List (List ℕ)) (from to : ℕ) (first : List ℕ) (at : ℕ) → slice_get cells from ≡ Some first → AreRising cells from to → LiesBetween ks first at
    → (place : ℕ) (cell : List ℕ) → from ≤ place → place < to → slice_get cells place ≡ Some cell → (at < length ks → is_below cell (slice_index_or ks at []) ≡ true)
    → LiesBetween ks cell at
rises_between ks cells from to first at there rising between place cell low high is below = record {
  before = λ last e. not_below (slice_index_or ks last []) (between.before last e) (cases_lt from place);
  after = below;
} where
  not_below : (key : List ℕ) → is_below first key ≡ false → (from < place) ⊎ (place ≤ from) → is_below cell key ≡ false
  not_below key isnt (inl after) = by_test (is_below cell key) refl where
    by_test : (b : Bool) → is_below cell key ≡ b → b ≡ false
    by_test false e = refl
    by_test true e =
        let more : is_below first cell ≡ true = rising from place first cell (omega arith) after high there is in
        absurd (false≢true (sym isnt ∙ is_below-trans first cell key more e))
  not_below key isnt (inr same) =
      let here : place ≡ from = omega (arith, low, same) in
      let found : slice_get cells from ≡ Some cell = subst (λ (k : ℕ). slice_get cells k ≡ Some cell) here is in
      let level : first ≡ cell = cc in
      subst (λ (x : List ℕ). is_below x key ≡ false) level isnt

module _ (form : Form) (page : List ℕ) (count width least at : ℕ) (bytes cell after : List ℕ) (wide : width ≡ entry_width form) (begins : least ≡ least_from form.summary)
    (same : bytes ≡ content page) (next : after ≡ cell ++ 0 ∷ []) (place : IsPlace (keys least (records count width bytes)) after at) where
  abbrev entries : List (List ℕ)
  entries = records count (entry_width form) (content page)

  abbrev leasts : List (List ℕ)
  leasts = keys (least_from form.summary) entries

  here : IsPlace leasts (cell ++ 0 ∷ []) at
  here = place_same count width (entry_width form) least (least_from form.summary) at bytes (content page) after (cell ++ 0 ∷ []) wide begins same next place

  -- where no entry begins below what follows the cell, no part has it
  pub entries_lack : at ≡ 0 → HaveNone form page count cell
  entries_lack first = record {
    none = λ map height parts are up has.
        let least_cells = entries_leasts form height entries parts are.says in
        let splits = place_splits leasts (cell ++ 0 ∷ []) 0 (leasts_ascend (cells_of height) leasts parts least_cells up) (subst (λ (n : ℕ). IsPlace leasts (cell ++ 0 ∷ []) n) first here) in
        none_has (cells_of height) cell leasts parts least_cells up splits.1 has;
  }

  -- else the last part that begins there has it if any has
  pub entries_narrow : (entry : List ℕ) (below : ℕ) → (at ≡ 0 → ⊥) → slice_get (records count width bytes) (at - 1) ≡ Some entry → below ≡ number_at 0 4 entry → HasOne form page count below cell
  entries_narrow entry below some there is = record {
    each = λ map height parts are.
        let k : ℕ = at - 1 in
        let more : at ≡ suc k = omega (arith, some) in
        let found = part_at form map page count height parts k entry are (entry_there count width (entry_width form) bytes (content page) k entry wide same there) in
        let least_cells = entries_leasts form height entries parts are.says in
        let splits = λ (up : Ascends (flat_map (cells_of height) parts)).
        place_splits leasts (cell ++ 0 ∷ []) (suc k) (leasts_ascend (cells_of height) leasts parts least_cells up) (subst (λ (n : ℕ). IsPlace leasts (cell ++ 0 ∷ []) n) more here) in
        record {
          part = found.0;
          is = record { lies = found.2.lies; top = sym found.2.says.page ∙ sym is };
          ascends = λ up. part_ascends (cells_of height) parts k found.0 up found.1;
          same = λ up. (
            part_has (cells_of height) cell parts k found.0 found.1,
            one_has (cells_of height) cell leasts parts k found.0 least_cells up found.1 (splits up).0 (splits up).1,
          );
        };
  }

module _ (says : List ℕ → List (List ℕ) → Type 0) (layout : Layout) (map : PageMap) (number count : ℕ) (page : List ℕ) (lent : map.page number ≡ Some page) where
  -- a leaf tells whether it has the cells
  pub leaf_leads : (cells : List (List ℕ)) (from to place : ℕ) → IsNode page number layout (Leaf count)
      → (Ascends (records count layout.width (content page)) → IsFirst (records count layout.width (content page)) cells from to place)
      → TellsFirst (form_with says layout) map number cells from to place
  leaf_leads cells from to place node tells = record {
    each = λ height shape part up.
        let same = leaf_cells says layout map number page count height shape part lent node in
        subst (λ (all : List (List ℕ)). IsFirst all cells from to place) (sym same) (tells (subst Ascends same up));
  }

  -- an inner page leads to what its entries lead to
  pub inner_leads : (cells : List (List ℕ)) (from to : ℕ) (step : Step) → IsNode page number layout (Inner count) → LeadsFrom (form_with says layout) page count cells from step
      → Leads (form_with says layout) map number cells from to step
  inner_leads cells from to (End place) node leads = record { each = tells } where
    tells : (height : ℕ) (shape : Shape height) → IsPart (form_with says layout) map number height shape → Ascends (cells_of height shape) → IsFirst (cells_of height shape) cells from to place
    tells zero shape part up = absurd (inner_no_leaf says layout map number page count shape part lent node)
    tells (suc height) shape part up = record {
      has = λ at cell low high there. absurd (omega (arith, low, high, leads.0));
      lacks = λ less cell there has.
          (leads.1 cell (subst (λ (k : ℕ). slice_get cells k ≡ Some cell) leads.0 there)).none map height shape.parts
          (inner_parts says layout map number page count height shape map (SamePages-refl map) part lent node) up has;
    }
  inner_leads cells from to (Below below end) node leads = λ at cell low high there. record {
    no_leaf = λ shape part. inner_no_leaf says layout map number page count shape part lent node;
    each = λ height shape part. (leads at cell low high there).each map height shape.parts (inner_parts says layout map number page count height shape map (SamePages-refl map) part lent node);
  }
