-- What a page that was read, an entry and a root say of the parts below them.
use Rattle.std.proofs.Common.{◌≡◌, ◌<◌, ◌≤◌, ◌-◌, ◌^◌, ℕ, zero, suc, Option, Some, None, List, [], ◌∷◌, ◌++◌, length, take, drop, map, slice_get, refl, sym, ap, ◌∙◌, subst, inl, inr, arith}
use Rattle.std.proofs.Math.Nat.{pow-le-pow_right}
use Rattle.std.proofs.lemmas.Bool.{cases_lt}
use Rattle.std.proofs.lemmas.List.{take_all}
use Rattle.std.proofs.lemmas.Option.{slice_get_past}
use Rattle.std.specs.List.{AllByRecursion, AllZip, flat_map}
use Rattle.std.specs.Option.{option_or}
use Rattle.rs_page.specs.Number.{number_at}
use Rattle.rs_pages.specs.PageMap.{PageMap, SamePages}
use Rattle.rs_page_owners.specs.Counts.{◌&◌, one_at}
use Rattle.rs_page_owners.proofs.Moving.{one_at-same}
use Rattle.rs_records.specs.Order.{Ascends}
use Rattle.rs_records.specs.Records.{records, keys}
use Rattle.rs_records.proofs.RecordLists.{length-records, length-keys}
use Rattle.rs_tree.specs.Form.{Form, least_from, child_bytes}
use Rattle.rs_page.specs.declared.header.PageKind.TheVariants as kind
use Rattle.rs_tree.specs.Content.{Child, SaysChild, HasRecords, content}
use Rattle.rs_tree.specs.Shape.{Shape, Lies, page_of, cells_of, uses, child_of}
use Rattle.rs_tree.specs.Tree.{IsTree, Stands}
use Rattle.rs_tree.proofs.Bounds.{size-le, size-ge}
use Rattle.rs_tree.proofs.Lists.{zip_lengths}
use Rattle.rs_tree.proofs.Shapes.{lies_same, entries_leasts}
use Rattle.rs_tree.specs.Layouts.{form_with, entry_bytes}
use Rattle.rs_tree.specs.Node.{IsNode}
use Rattle.rs_tree.specs.declared.layout.Layout.{Layout}
use Rattle.rs_tree.specs.declared.node.Node.TheVariants.{Leaf, Inner}
use Rattle.rs_tree.specs.Walking.{IsPart, AreEntriesOf}
use Rattle.rs_tree.proofs.Entering.{leaf_cells, inner_no_leaf, inner_parts}
use Rattle.rs_tree_whole.specs.Bounds.{BeginsWith, AreUnder, IsInOrder}
use Rattle.rs_tree_whole.specs.Checking.{Reaches, HasNoSound, ReachesEntry, HasNoSoundEntry, ReachesEntries, HasNoSoundEntries}
use Rattle.rs_tree_whole.specs.Entering.{HasNoFreshNode}
use Rattle.rs_tree_whole.specs.Validating.{Validates, HasNoFreshTree}
use Rattle.rs_tree_whole.proofs.Entries.{same_back}
use Rattle.rs_tree_whole.proofs.Joins.{first_least}
use Rattle.rs_tree_whole.proofs.Uniques.{same_cells}

uses-top : (height : ℕ) (shape : Shape height) → 1 ≤ uses height shape (page_of height shape)
uses-top zero shape = omega (arith, one_at-same shape.page)
uses-top (suc height) shape = omega (arith, one_at-same shape.page)

module _ {S : Type 0} (sum : List (List ℕ) → S) (says : List ℕ → List (List ℕ) → Type 0) (layout : Layout) (pages : PageMap) (number : ℕ) (least bound : Option (List ℕ)) where
  abbrev form : Form
  form = form_with says layout

  -- a number that no fresh page of a tree has is the top of no part
  pub none_fresh : (levels : ℕ) (before : ℕ → ℕ) → HasNoFreshNode pages number layout before → HasNoSound form pages number least bound levels before
  none_fresh levels before none = record { none = at } where
    at : (height : ℕ) (shape : Shape height) → IsPart form pages number height shape → IsInOrder least bound (cells_of height shape) → height ≤ levels → ((n : ℕ) → (before & uses height shape) n ≤ 1) → ⊥
    at zero shape part order high once =
        let few : (before & one_at number) number ≤ 1 = omega (arith, once number, ap (λ n. one_at n number) part.top) in
        none.none part.lies.page (Leaf (length shape.cells)) (subst (λ n. pages.page n ≡ Some part.lies.page) part.top part.lies.there) (subst (λ n. 1 < n) part.top part.lies.after)
        (subst (λ n. n < pages.fields.pages) part.top part.lies.below)
        (subst (λ n. IsNode part.lies.page n layout (Leaf (length shape.cells))) part.top (part.lies.leaf.has, part.lies.leaf.some)) few
    at (suc height) shape part order high once =
        let few : (before & one_at number) number ≤ 1 = omega (arith, once number, ap (λ n. one_at n number) part.top) in
        none.none part.lies.0.page (Inner (length (map (child_of height) shape.parts))) (subst (λ n. pages.page n ≡ Some part.lies.0.page) part.top part.lies.0.there) (subst (λ n. 1 < n) part.top part.lies.0.after)
        (subst (λ n. n < pages.fields.pages) part.top part.lies.0.below)
        (subst (λ n. IsNode part.lies.0.page n layout (Inner (length (map (child_of height) shape.parts)))) part.top (part.lies.0.inner.has, part.lies.0.inner.some)) few

  module _ (page : List ℕ) (count : ℕ) (lent : pages.page number ≡ Some page) where
    -- a leaf whose cells are in order
    pub reaches_leaf : (before after : ℕ → ℕ) (summary : S) → 1 < number → number < pages.fields.pages → IsNode page number layout (Leaf count)
        → IsInOrder least bound (records count layout.width (content page)) → ((n : ℕ) → after n ≡ (before & one_at number) n) → summary ≡ sum (records count layout.width (content page))
        → Reaches sum form pages number least bound before after 0 count summary
    reaches_leaf before after summary past inside node order reached sums = record {
      shape = record { page = number; cells = records count layout.width (content page) };
      part = record {
        lies = record {
          after = past;
          below = inside;
          page = page;
          there = lent;
          leaf = record {
            has = subst (λ n. HasRecords page kind.Leaf number n layout.width) (sym (length-records count layout.width (content page))) node.0;
            some = omega (arith, node.1, length-records count layout.width (content page));
            holds = ap (λ n. records n layout.width (content page)) (length-records count layout.width (content page));
          };
        };
        top = refl;
      };
      order = order;
      reached = reached;
      counts = λ few. sym (length-records count layout.width (content page));
      sums = sums;
    }

    -- and one whose cells are not
    pub none_leaf : (levels : ℕ) (before : ℕ → ℕ) → IsNode page number layout (Leaf count) → (IsInOrder least bound (records count layout.width (content page)) → ⊥)
        → HasNoSound form pages number least bound levels before
    none_leaf levels before node apart = record {
      none = λ height shape part order high once. apart (subst (IsInOrder least bound) (leaf_cells says layout pages number page count height shape part lent node) order);
    }

    -- an inner page whose entries say sound parts
    pub reaches_inner : (before mid after : ℕ → ℕ) (later : PageMap) (height total : ℕ) (summary : S) → 1 < number → number < pages.fields.pages → IsNode page number layout (Inner count) → SamePages later pages
        → BeginsWith least (keys (least_from layout.summary) (records count (entry_bytes layout) (content page)))
        → ((n : ℕ) → mid n ≡ (before & one_at number) n) → ReachesEntries form later page count count bound mid after height total
        → ((children : List Child) → AllZip (SaysChild form) (records count (entry_bytes layout) (content page)) children → summary ≡ sum (flat_map (λ child. child.cells) children))
        → Reaches sum form pages number least bound before after (suc height) total summary
    reaches_inner before mid after later height total summary past inside node same begins entered some sums = record {
      shape = record { page = number; parts = some.parts };
      part = record {
        lies = (
          record {
            after = past;
            below = inside;
            page = page;
            there = lent;
            inner = record {
              has = subst (λ n. HasRecords page kind.Inner number n (entry_bytes layout)) counted node.0;
              some = omega (arith, node.1, counted);
              entries = subst (λ n. AllZip (SaysChild form) (records n (entry_bytes layout) (content page)) (map (child_of height) some.parts)) counted whole;
            };
          },
          lie some.parts some.lie,
        );
        top = refl;
      };
      order = record {
        ascends = some.ascends;
        begins = begin least begins;
        ends = subst (λ k. AreUnder (option_or k bound) (flat_map (cells_of height) some.parts))
            (slice_get_past (keys (least_from layout.summary) (records count (entry_bytes layout) (content page))) count (omega (arith, length-keys (least_from layout.summary) count (entry_bytes layout) (content page)))) some.ends;
      };
      reached = λ n. omega (arith, some.reached n, entered n);
      counts = some.counts;
      sums = sums (map (child_of height) some.parts) whole ∙ ap sum (cells_below some.parts);
    } where
      whole : AllZip (SaysChild form) (records count (entry_bytes layout) (content page)) (map (child_of height) some.parts)
      whole = subst (λ es. AllZip (SaysChild form) es (map (child_of height) some.parts)) (take_all count (records count (entry_bytes layout) (content page)) (omega (arith, length-records count (entry_bytes layout) (content page)))) some.says

      counted : count ≡ length (map (child_of height) some.parts)
      counted = sym (length-records count (entry_bytes layout) (content page)) ∙ zip_lengths (SaysChild form) (records count (entry_bytes layout) (content page)) (map (child_of height) some.parts) whole

      lie : (parts : List (Shape height)) → AllByRecursion (Lies form later height) parts → AllByRecursion (Lies form pages height) parts
      lie [] all = tt
      lie (x ∷ xs) all = (lies_same form later pages (same_back later pages same) height x all.0, lie xs all.1)

      begin : (l : Option (List ℕ)) → BeginsWith l (keys (least_from layout.summary) (records count (entry_bytes layout) (content page))) → BeginsWith l (flat_map (cells_of height) some.parts)
      begin None h = tt
      begin (Some l) h =
          first_least (cells_of height) (keys (least_from layout.summary) (records count (entry_bytes layout) (content page))) some.parts l
          (entries_leasts form height (records count (entry_bytes layout) (content page)) some.parts whole) h

      cells_below : (parts : List (Shape height)) → flat_map (λ child. child.cells) (map (child_of height) parts) ≡ flat_map (cells_of height) parts
      cells_below [] = refl
      cells_below (x ∷ xs) = ap (λ cs. cells_of height x ++ cs) (cells_below xs)

    -- where no level is left an inner page is the top of no part
    pub none_level : (before : ℕ → ℕ) → IsNode page number layout (Inner count) → HasNoSound form pages number least bound 0 before
    none_level before node = record { none = at } where
      at : (height : ℕ) (shape : Shape height) → IsPart form pages number height shape → IsInOrder least bound (cells_of height shape) → height ≤ 0 → ((n : ℕ) → (before & uses height shape) n ≤ 1) → ⊥
      at zero shape part order high once = inner_no_leaf says layout pages number page count shape part lent node
      at (suc height) shape part order high once = absurd (omega arith)

    -- nor where its first entry begins with another cell
    pub none_first : (levels : ℕ) (before : ℕ → ℕ) → IsNode page number layout (Inner count)
        → (BeginsWith least (keys (least_from layout.summary) (records count (entry_bytes layout) (content page))) → ⊥) → HasNoSound form pages number least bound levels before
    none_first levels before node apart = record { none = at } where
      same_pages : SamePages pages pages
      same_pages = record { fields = refl; pages = λ n. refl }

      back : (height : ℕ) (parts : List (Shape height)) → AreEntriesOf form pages page count height parts → (l : Option (List ℕ)) → BeginsWith l (flat_map (cells_of height) parts)
          → BeginsWith l (keys (least_from layout.summary) (records count (entry_bytes layout) (content page)))
      back height parts are None h = tt
      back height parts are (Some l) h = first_key (records count (entry_bytes layout) (content page)) parts are.says h where
        first_key : (es : List (List ℕ)) (ps : List (Shape height)) → AllZip (SaysChild form) es (map (child_of height) ps) → slice_get (flat_map (cells_of height) ps) 0 ≡ Some l
            → slice_get (keys (least_from layout.summary) es) 0 ≡ Some l
        first_key [] [] all e = absurd (cc)
        first_key [] (p ∷ ps) all e = absurd all
        first_key (x ∷ es) [] all e = absurd all
        first_key (x ∷ es) (p ∷ ps) all e = key (cells_of height p) all.0.least e where
          key : (cs : List (List ℕ)) → slice_get cs 0 ≡ Some (drop (least_from layout.summary) x) → slice_get (cs ++ flat_map (cells_of height) ps) 0 ≡ Some l → Some (drop (least_from layout.summary) x) ≡ Some l
          key [] h f = absurd (cc)
          key (c ∷ cs) h f = sym h ∙ f

      at : (height : ℕ) (shape : Shape height) → IsPart form pages number height shape → IsInOrder least bound (cells_of height shape) → height ≤ levels → ((n : ℕ) → (before & uses height shape) n ≤ 1) → ⊥
      at zero shape part order high once = inner_no_leaf says layout pages number page count shape part lent node
      at (suc height) shape part order high once = apart (back height shape.parts (inner_parts says layout pages number page count height shape pages same_pages part lent node) least order.begins)

    -- nor where its entries say no sound parts
    pub none_inner : (levels : ℕ) (before mid : ℕ → ℕ) (later : PageMap) → IsNode page number layout (Inner count) → SamePages later pages
        → ((n : ℕ) → mid n ≡ (before & one_at number) n) → HasNoSoundEntries form later page count bound levels mid → HasNoSound form pages number least bound levels before
    none_inner levels before mid later node same entered none = record { none = at } where
      at : (height : ℕ) (shape : Shape height) → IsPart form pages number height shape → IsInOrder least bound (cells_of height shape) → height ≤ levels → ((n : ℕ) → (before & uses height shape) n ≤ 1) → ⊥
      at zero shape part order high once = inner_no_leaf says layout pages number page count shape part lent node
      at (suc height) shape part order high once =
          none.none height shape.parts (inner_parts says layout pages number page count height shape later same part lent node) order.ascends order.ends high
          (λ n. omega (arith, once n, entered n, ap (λ p. one_at p n) part.top))

module _ (form : Form) (pages : PageMap) (entry : List ℕ) (bound : Option (List ℕ)) where
  abbrev least : Option (List ℕ)
  least = Some (drop (least_from form.summary) entry)

  -- the part that an entry says, with the summary that it should say
  pub reaches_entry : {S : Type 0} (sum : List (List ℕ) → S) (before after : ℕ → ℕ) (height total : ℕ) (summary : S) (number : ℕ) → number ≡ number_at 0 4 entry
      → ((cells : List (List ℕ)) → summary ≡ sum cells → form.says (take form.summary (drop child_bytes entry)) cells)
      → Reaches sum form pages number least bound before after height total summary → ReachesEntry form pages entry bound before after height total
  reaches_entry sum before after height total summary number here told found = record {
    part = found.shape;
    is = record {
      says = record {
        page = sym here ∙ sym found.part.top;
        summary = told (cells_of height found.shape) found.sums;
        least = found.order.begins;
      };
      lies = found.part.lies;
    };
    ascends = found.order.ascends;
    ends = found.order.ends;
    reached = found.reached;
    counts = found.counts;
  }

  -- where its page is the top of no sound part the entry says none
  pub none_entry : (levels number : ℕ) (before : ℕ → ℕ) → 0 < levels → number ≡ number_at 0 4 entry → HasNoSound form pages number least bound (levels - 1) before
      → HasNoSoundEntry form pages entry bound levels before
  none_entry levels number before some here none = record {
    none = λ height part is up under high once.
        none.none height part (record { lies = is.lies; top = sym is.says.page ∙ sym here }) (record { ascends = up; begins = is.says.least; ends = under }) (omega arith) once;
  }

  -- nor where the summary is another
  pub none_said : {S : Type 0} (sum : List (List ℕ) → S) (levels : ℕ) (before after : ℕ → ℕ) (height total : ℕ) (summary : S) (number : ℕ) → number ≡ number_at 0 4 entry → ((n : ℕ) → after n ≤ 1)
      → ((cells : List (List ℕ)) → summary ≡ sum cells → form.says (take form.summary (drop child_bytes entry)) cells → ⊥)
      → Reaches sum form pages number least bound before after height total summary → HasNoSoundEntry form pages entry bound levels before
  none_said sum levels before after height total summary number here few apart found = record {
    none = λ level part is up under high once.
        let same = same_cells form pages height found.shape level part found.part.lies is.lies (found.part.top ∙ here ∙ is.says.page) found.order.ascends up
        (λ n. omega (arith, few n, found.reached n)) (λ n. omega (arith, once n)) in
        apart (cells_of level part) (found.sums ∙ ap sum same) is.says.summary;
  }

module _ (form : Form) (pages : PageMap) (root : ℕ) where
  -- the empty tree
  pub tree_none : root ≡ 0 → IsTree form pages root [] (λ _. 0)
  tree_none none = record { height = 0; stands = record { none = none; no_cells = refl; no_pages = λ n. refl }; ascends = tt; once = λ n. omega arith }

  pub validates_none : (before : ℕ → ℕ) → root ≡ 0 → Validates form pages root before before
  validates_none before none = record { cells = []; used = λ _. 0; tree = tree_none none; reached = λ n. omega arith }

  -- a sound part at the root is a tree
  pub tree_root : {S : Type 0} (sum : List (List ℕ) → S) (before after : ℕ → ℕ) (height total : ℕ) (summary : S) → ((n : ℕ) → after n ≤ 1) → (found : Reaches sum form pages root None None before after height total summary)
      → IsTree form pages root (cells_of height found.shape) (uses height found.shape)
  tree_root sum before after height total summary few found = record {
    height = suc height;
    stands = record { shape = found.shape; lies = found.part.lies; top = found.part.top; lists = refl; owns = λ n. refl };
    ascends = found.order.ascends;
    once = λ n. omega (arith, few n, found.reached n);
  }

  pub validates_root : {S : Type 0} (sum : List (List ℕ) → S) (before after : ℕ → ℕ) (height total : ℕ) (summary : S) → ((n : ℕ) → after n ≤ 1) → Reaches sum form pages root None None before after height total summary
      → Validates form pages root before after
  validates_root sum before after height total summary few found = record {
    cells = cells_of height found.shape;
    used = uses height found.shape;
    tree = tree_root sum before after height total summary few found;
    reached = found.reached;
  }

  -- where the root is the top of no sound part no tree stands there
  pub none_root : (before : ℕ → ℕ) → (root ≡ 0 → ⊥) → pages.fields.pages < 2 ^ 32 → HasNoSound form pages root None None 31 before → HasNoFreshTree form pages root before
  none_root before some few none = record { none = λ cells used tree fresh. at cells used tree.height tree.stands tree.ascends tree.once fresh } where
    at : (cells : List (List ℕ)) (used : ℕ → ℕ) (height : ℕ) → Stands form pages height root cells used → Ascends cells → ((n : ℕ) → used n ≤ 1) → ((n : ℕ) → (before & used) n ≤ 1) → ⊥
    at cells used zero stands up once fresh = some stands.none
    at cells used (suc height) stands up once fresh =
        let own : (n : ℕ) → uses height stands.shape n ≤ 1 = λ n. omega (arith, stands.owns n, once n) in
        let size = size-le form pages height stands.shape stands.lies own in
        let least = size-ge form pages height stands.shape stands.lies in
        elim (cases_lt height 32) [
          | inl less ↦ none.none height stands.shape (record { lies = stands.lies; top = stands.top })
              (record { ascends = subst Ascends (sym stands.lists) up; begins = tt; ends = tt }) (omega arith) (λ n. omega (arith, fresh n, stands.owns n))
          | inr more ↦
              let power : 2 ^ 32 ≤ 2 ^ height = pow-le-pow_right (omega arith) more in
              absurd (omega (arith, power, least, size, few))
        ]
