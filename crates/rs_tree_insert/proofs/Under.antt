-- A cell put below an inner page: what became of the part that it belongs in, and what is written above.
use Rattle.std.proofs.Common.{◌≡◌, ◌⊎◌, ◌<◌, ◌≤◌, ◌+◌, ◌-◌, ℕ, zero, suc, true, false, Some, List, [], ◌∷◌, ◌++◌, length, take, drop, map, slice_get, refl, sym, ap, ◌∙◌, subst, inl, inr, arith}
use Rattle.std.proofs.lemmas.Bool.{false≢true}
use Rattle.std.proofs.lemmas.List.{length-map, length-append, length-take-le, length-drop}
use Rattle.std.specs.List.{AllByRecursion, AllZip, Contains, flat_map}
use Rattle.rs_page.specs.Number.{number_at}
use Rattle.rs_page.specs.declared.header.PageKind.TheVariants as kind
use Rattle.rs_pages.specs.PageMap.{PageMap, SamePages}
use Rattle.rs_pages.proofs.FreeLists.{page_one}
use Rattle.rs_pages.proofs.Stores.{SamePages-refl, SamePages-trans}
use Rattle.rs_records.specs.Order.{Ascends}
use Rattle.rs_records.specs.Records.{records, keys}
use Rattle.rs_records.proofs.RecordLists.{length-records}
use Rattle.rs_page_owners.specs.Counts.{◌&◌}
use Rattle.rs_page_owners.specs.Owners.{Shares}
use Rattle.rs_page_owners.proofs.Moving.{same_pages-moves, moves_same}
use Rattle.rs_tree.specs.Cells.{with_cell}
use Rattle.rs_tree.specs.Form.{Form, child_bytes, least_from}
use Rattle.rs_tree.specs.Content.{SaysChild, HasRecords, content}
use Rattle.rs_tree.specs.Shape.{Shape, Lies, page_of, cells_of, uses, child_of}
use Rattle.rs_tree.proofs.Lists.{has_inside}
use Rattle.rs_tree.proofs.Parts.{leasts_ascend}
use Rattle.rs_tree.proofs.Shapes.{lies_same, entries_leasts, part_ascends}
use Rattle.rs_tree.specs.Layouts.{form_with, entry_bytes}
use Rattle.rs_tree.specs.Node.{IsNode}
use Rattle.rs_tree.specs.declared.layout.Layout.{Layout}
use Rattle.rs_tree.specs.declared.node.Node.TheVariants.{Inner}
use Rattle.rs_tree.specs.Walking.{IsPart, AreEntriesOf, IsEntryOf}
use Rattle.rs_tree.proofs.Entering.{inner_no_leaf, inner_parts}
use Rattle.rs_tree.proofs.Entries.{part_at}
use Rattle.rs_tree.proofs.Loading.{no_fit-no_node}
use Rattle.rs_tree_edit.specs.Choosing.{IsEntryFor}
use Rattle.rs_tree_edit.specs.Editing.{Lists, Splices}
use Rattle.rs_tree_edit.specs.Parts.{TakesPlace, SaysPart, uses_all}
use Rattle.rs_tree_edit.proofs.Between.{LiesBetween, lies_between, with_between, among_between, among_all}
use Rattle.rs_tree_edit.proofs.Pieces.{list_at, flat_at, flat_between, zip_spliced}
use Rattle.rs_tree_edit.proofs.Replacing.{Reparts, beside_part, part_shares, part_replaced, reparts_same, inner_written}
use Rattle.rs_tree_insert.specs.Inserting.{tops, Exchanges, PutsBelow, TellsBelow, HasNoShared, HasNoTops, WritesAbove}
use Rattle.rs_tree_insert.specs.Writing.{IsBroken, is_found, spliced}
use Rattle.rs_tree_insert.specs.declared.answer.Put.{Put}
use Rattle.rs_tree_insert.specs.declared.answer.Put.TheVariants.{Found, Placed, Kept, Split}
use Rattle.rs_tree_insert.proofs.Cells.{with_present}
use Rattle.rs_tree_insert.proofs.Halving.{inner_split}
use Rattle.rs_tree_insert.proofs.Kept.{exchanged, said_with, both_said, said_one, one_said}

-- the part of a shape that a cell belongs in
pub record Under (form : Form) (pages : PageMap) (entry : List ℕ) (cell : List ℕ) (height : ℕ) (shape : Shape (suc height)) (at : ℕ) : Type 0 where
  pub part : Shape height
  pub there : slice_get shape.parts at ≡ Some part
  pub is : IsEntryOf form pages entry height part
  pub between : LiesBetween cell (flat_map (cells_of height) (take at shape.parts)) (flat_map (cells_of height) (drop (suc at) shape.parts))
  pub up : Ascends (cells_of height part)

-- the entries say these parts
pub says_parts : (form : Form) (pages : PageMap) (height : ℕ) (numbers : List ℕ) (entries : List (List ℕ)) (parts : List (Shape height)) → AllZip (λ number entry. SaysPart form pages number entry) numbers entries
    → map (page_of height) parts ≡ numbers → AllByRecursion (Lies form pages height) parts → AllZip (SaysChild form) entries (map (child_of height) parts)
says_parts form pages height [] [] [] all e lie = tt
says_parts form pages height [] [] (x ∷ xs) all e lie = absurd (cc)
says_parts form pages height [] (entry ∷ rest) parts all e lie = absurd all
says_parts form pages height (n ∷ ns) [] parts all e lie = absurd all
says_parts form pages height (n ∷ ns) (entry ∷ rest) [] all e lie = absurd (cc)
says_parts form pages height (n ∷ ns) (entry ∷ rest) (x ∷ xs) all e lie =
    let first : page_of height x ≡ n = cc in
    let others : map (page_of height) xs ≡ ns = cc in
    (all.0.each height x (record { lies = lie.0; top = first }), says_parts form pages height ns rest xs all.1 others lie.1)

tops_some : (number : ℕ) (answer : Put) → 1 ≤ length (tops number answer)
tops_some number Found = omega arith
tops_some number Placed = omega arith
tops_some number Kept = omega arith
tops_some number (Split other) = omega arith

found_not_kept : Found ≡ Kept → ⊥
found_not_kept e = cc

placed_not_kept : Placed ≡ Kept → ⊥
placed_not_kept e = cc

split_not_kept : (other : ℕ) → Split other ≡ Kept → ⊥
split_not_kept other e = cc

module _ (says : List ℕ → List (List ℕ) → Type 0) (layout : Layout) (pages : PageMap) (number count at : ℕ) (page entry cell : List ℕ)
    (node : IsNode page number layout (Inner count)) (there : pages.page number ≡ Some page)
    (chosen : Ascends (keys (least_from layout.summary) (records count (entry_bytes layout) (content page))) → IsEntryFor (keys (least_from layout.summary) (records count (entry_bytes layout) (content page))) cell at)
    (found : slice_get (records count (entry_bytes layout) (content page)) at ≡ Some entry) where
  abbrev form : Form
  form = form_with says layout

  abbrev es : List (List ℕ)
  es = records count (entry_bytes layout) (content page)

  entries_of : (height : ℕ) (shape : Shape (suc height)) → IsPart form pages number (suc height) shape → AreEntriesOf form pages page count height shape.parts
  entries_of height shape part = inner_parts says layout pages number page count height shape pages (SamePages-refl pages) part there node

  pub under : (height : ℕ) (shape : Shape (suc height)) → IsPart form pages number (suc height) shape → Ascends (cells_of (suc height) shape) → Under form pages entry cell height shape at
  under height shape part up =
      let are = entries_of height shape part in
      let here = part_at form pages page count height shape.parts at entry are found in
      let ls : List (List ℕ) = keys (least_from layout.summary) es in
      let leasts = entries_leasts form height es shape.parts are.says in
      let sorted = leasts_ascend (cells_of height) ls shape.parts leasts up in
      record {
        part = here.0;
        there = here.1;
        is = here.2;
        between = lies_between (cells_of height) ls shape.parts cell at here.0 leasts up (chosen sorted) here.1;
        up = part_ascends (cells_of height) shape.parts at here.0 up here.1;
      }

  cells_cut : (height : ℕ) (shape : Shape (suc height)) (u : Under form pages entry cell height shape at)
      → cells_of (suc height) shape ≡ flat_map (cells_of height) (take at shape.parts) ++ (cells_of height u.part ++ flat_map (cells_of height) (drop (suc at) shape.parts))
  cells_cut height shape u = flat_at (cells_of height) shape.parts at u.part u.there

  part_below : (height : ℕ) (shape : Shape (suc height)) (u : Under form pages entry cell height shape at) → IsPart form pages (number_at 0 4 entry) height u.part
  part_below height shape u = record { lies = u.is.lies; top = sym u.is.says.page }

  no_leaf : (shape : Shape 0) → IsPart form pages number 0 shape → ⊥
  no_leaf shape part = inner_no_leaf says layout pages number page count shape part there node

  -- what was told of the part is so of the whole
  pub tells_above : (below above : Put) → is_found above ≡ is_found below → TellsBelow form pages (number_at 0 4 entry) cell below → TellsBelow form pages number cell above
  tells_above below above same tells = record { found = at_found; new = at_new } where
    at_found : is_found above ≡ true → (height : ℕ) (shape : Shape height) → IsPart form pages number height shape → Ascends (cells_of height shape) → Contains (cells_of height shape) cell
    at_found told zero shape part up = absurd (no_leaf shape part)
    at_found told (suc height) shape part up =
        let u = under height shape part up in
        let has = tells.found (sym same ∙ told) height u.part (part_below height shape u) u.up in
        subst (λ cs. Contains cs cell) (sym (cells_cut height shape u))
        (among_all cell (flat_map (cells_of height) (take at shape.parts)) (cells_of height u.part) (flat_map (cells_of height) (drop (suc at) shape.parts)) has)

    at_new : is_found above ≡ false → (height : ℕ) (shape : Shape height) → IsPart form pages number height shape → Ascends (cells_of height shape) → Contains (cells_of height shape) cell → ⊥
    at_new told zero shape part up has = no_leaf shape part
    at_new told (suc height) shape part up has =
        let u = under height shape part up in
        tells.new (sym same ∙ told) height u.part (part_below height shape u) u.up
        (among_between cell (flat_map (cells_of height) (take at shape.parts)) (cells_of height u.part) (flat_map (cells_of height) (drop (suc at) shape.parts)) u.between
        (subst (λ cs. Contains cs cell) (cells_cut height shape u) has))

  -- where no such part is below, none has this page at its top
  pub none_below : (levels : ℕ) → 0 < levels → HasNoShared form pages (number_at 0 4 entry) (levels - 1) → HasNoShared form pages number levels
  none_below levels some none = record { none = at_shape } where
    at_shape : (height : ℕ) (shape : Shape height) (others : ℕ → ℕ) → IsPart form pages number height shape → Ascends (cells_of height shape) → height ≤ levels → Shares pages (uses height shape & others) → ⊥
    at_shape zero shape others part up low shares = no_leaf shape part
    at_shape (suc height) shape others part up low shares =
        let u = under height shape part up in
        none.none height u.part (beside_part height shape at & others) (part_below height shape u) u.up (omega arith) (part_shares pages height shape at u.part others u.there shares)

  -- the page, put in its own place
  self_spliced : (map : PageMap) → map.page number ≡ Some page → number < map.fields.pages → Splices map map number kind.Inner (entry_bytes layout) count at 1 (entry ∷ [])
  self_spliced map has below =
      let one_more : suc at ≡ at + 1 = omega arith in
      let whole : take at es ++ ((entry ∷ []) ++ drop (at + 1) es) ≡ es = ap (λ j. take at es ++ (entry ∷ drop j es)) (sym one_more) ∙ sym (list_at es at entry found) in
      let size : count ≡ length es = sym (length-records count (entry_bytes layout) (content page)) in
      record {
        was = page;
        page = page;
        there = has;
        used = rw node.0.header.kind refl;
        below = below;
        replaces = record { fields = refl; there = has; others = record { pages = λ other apart. refl } };
        lists = subst (Lists page kind.Inner number (entry_bytes layout)) (sym whole)
            (record { has = subst (λ n. HasRecords page kind.Inner number n (entry_bytes layout)) size node.0; holds = ap (λ n. records n (entry_bytes layout) (content page)) (sym size) });
      }

  module _ (mid : PageMap) (below : Put) (puts : PutsBelow form pages mid (number_at 0 4 entry) cell below) where
    -- what the page above has below it then
    pub record Midway (height : ℕ) (shape : Shape (suc height)) : Type 0 where
      pub u : Under form pages entry cell height shape at
      pub news : List (Shape height)
      pub holds : flat_map (cells_of height) news ≡ with_cell cell (cells_of height u.part)
      pub top : map (page_of height) news ≡ tops (number_at 0 4 entry) below
      pub lie : AllByRecursion (Lies form mid height) news
      pub some : 2 ≤ length (take at shape.parts ++ (news ++ drop (suc at) shape.parts))
      pub reparts : Reparts form pages mid height number page (uses (suc height) shape) (take at shape.parts ++ (news ++ drop (suc at) shape.parts))
      pub lists : flat_map (cells_of height) (take at shape.parts ++ (news ++ drop (suc at) shape.parts)) ≡ with_cell cell (cells_of (suc height) shape)

    pub midway : (height : ℕ) (shape : Shape (suc height)) (others : ℕ → ℕ) → IsPart form pages number (suc height) shape → Ascends (cells_of (suc height) shape) → Shares pages (uses (suc height) shape & others) → Midway height shape
    midway height shape others part up shares =
        let u = under height shape part up in
        let place = puts.each height u.part (beside_part height shape at & others) (part_below height shape u) u.up (part_shares pages height shape at u.part others u.there shares) in
        let rep = part_replaced form pages mid height shape at u.part (tops (number_at 0 4 entry) below) (with_cell cell (cells_of height u.part)) others part.lies u.there shares place in
        let same : part.lies.0.page ≡ page = page_one pages number part.lies.0.page page (subst (λ n. pages.page n ≡ Some part.lies.0.page) part.top part.lies.0.there) there in
        let news : List (Shape height) = place.parts in
        let inside : at < length shape.parts = has_inside shape.parts at u.part u.there in
        let many : 2 ≤ length shape.parts = omega (arith, part.lies.0.inner.some, length-map shape.parts (child_of height)) in
        let new_some : 1 ≤ length news = omega (arith, tops_some (number_at 0 4 entry) below, ap length place.top, length-map news (page_of height)) in
        record {
          u = u;
          news = news;
          holds = place.lists;
          top = place.top;
          lie = place.lie;
          some = omega (
            arith,
            length-append (take at shape.parts) (news ++ drop (suc at) shape.parts),
            length-append news (drop (suc at) shape.parts),
            length-take-le at shape.parts (omega arith),
            length-drop (suc at) shape.parts,
          );
          reparts = subst (λ n. Reparts form pages mid height n page (uses (suc height) shape) (take at shape.parts ++ (news ++ drop (suc at) shape.parts))) part.top
              (subst (λ p. Reparts form pages mid height shape.page p (uses (suc height) shape) (take at shape.parts ++ (news ++ drop (suc at) shape.parts))) same rep);
          lists = flat_between (cells_of height) (take at shape.parts) news (drop (suc at) shape.parts)
              ∙ ap (λ cs. flat_map (cells_of height) (take at shape.parts) ++ (cs ++ flat_map (cells_of height) (drop (suc at) shape.parts))) place.lists
              ∙ sym (with_between cell (flat_map (cells_of height) (take at shape.parts)) (cells_of height u.part) (flat_map (cells_of height) (drop (suc at) shape.parts)) u.between)
              ∙ ap (with_cell cell) (sym (cells_cut height shape u));
        }

    -- the page above says what is below it as it is
    left_above : (new : PageMap) → SamePages new mid → (height : ℕ) (shape : Shape (suc height)) (others : ℕ → ℕ) → IsPart form pages number (suc height) shape → Shares pages (uses (suc height) shape & others)
        → (m : Midway height shape) → AllZip (SaysChild form) (entry ∷ []) (map (child_of height) m.news)
        → TakesPlace form pages new (suc height) (uses (suc height) shape) (number ∷ []) (with_cell cell (cells_of (suc height) shape))
    left_above new same height shape others part shares m said =
        let parts : List (Shape height) = take at shape.parts ++ (m.news ++ drop (suc at) shape.parts) in
        let rep = reparts_same form pages mid new height number page (uses (suc height) shape) parts same m.reparts in
        let one_more : suc at ≡ at + 1 = omega arith in
        let zipped = subst (λ j. AllZip (SaysChild form) (take at es ++ ((entry ∷ []) ++ drop j es)) (map (child_of height) parts)) one_more
        (zip_spliced (SaysChild form) (child_of height) es (entry ∷ []) shape.parts m.news at (suc at) (entries_of height shape part).says said) in
        subst (TakesPlace form pages new (suc height) (uses (suc height) shape) (number ∷ [])) m.lists
        (inner_written form pages new new height number page (uses (suc height) shape) others parts count at 1 (entry ∷ []) rep shares (self_spliced new rep.there rep.below) zipped m.some)

    -- the entry that was there says what is below it
    kept_said : (new : PageMap) (height : ℕ) (shape : Shape (suc height)) (m : Midway height shape) (written : WritesAbove form mid new number page count at (tops (number_at 0 4 entry) below) Kept)
        → AllZip (SaysChild form) (entry ∷ []) (map (child_of height) m.news)
    kept_said new height shape m written =
        let left = written.kept refl in
        let same : left.entry ≡ entry = cc (left.there, found) in
        subst (λ e. AllZip (SaysChild form) (e ∷ []) (map (child_of height) m.news)) same
        (subst (λ rs. AllZip (SaysChild form) rs (map (child_of height) m.news)) left.one
        (says_parts form mid height (tops (number_at 0 4 entry) below) written.entries m.news written.says.each m.top m.lie))

    -- and what is said of the part goes on to the whole
    lifted : (height : ℕ) (shape : Shape (suc height)) (u : Under form pages entry cell height shape at) → Exchanges form (cells_of height u.part) (with_cell cell (cells_of height u.part))
        → Exchanges form (cells_of (suc height) shape) (with_cell cell (cells_of (suc height) shape))
    lifted height shape u one =
        let before : List (List ℕ) = flat_map (cells_of height) (take at shape.parts) in
        let after : List (List ℕ) = flat_map (cells_of height) (drop (suc at) shape.parts) in
        subst (λ cs. Exchanges form cs (with_cell cell cs)) (sym (cells_cut height shape u))
        (subst (Exchanges form (before ++ (cells_of height u.part ++ after))) (sym (with_between cell before (cells_of height u.part) after u.between))
        (exchanged form before (cells_of height u.part) (with_cell cell (cells_of height u.part)) after one))

    kept_exchanges : (new : PageMap) (height : ℕ) (shape : Shape (suc height)) (m : Midway height shape) → WritesAbove form mid new number page count at (tops (number_at 0 4 entry) below) Kept
        → Exchanges form (cells_of (suc height) shape) (with_cell cell (cells_of (suc height) shape))
    kept_exchanges new height shape m written =
        let left = written.kept refl in
        let same : left.entry ≡ entry = cc (left.there, found) in
        let said = said_one form height entry (with_cell cell (cells_of height m.u.part)) m.news (kept_said new height shape m written) m.holds in
        let was : SaysChild form entry (record { page = number_at 0 4 entry; cells = cells_of height m.u.part }) = record { page = refl; summary = m.u.is.says.summary; least = m.u.is.says.least } in
        lifted height shape m.u (both_said form entry (number_at 0 4 entry) (cells_of height m.u.part) (with_cell cell (cells_of height m.u.part))
        (λ cells others one other. left.exchange cells others
        (subst (λ e. form.says (take form.summary (drop child_bytes e)) cells) (sym same) one) (subst (λ e. form.says (take form.summary (drop child_bytes e)) others) (sym same) other)) was said)

    -- where the page below needs no other entry, this one needs none either
    pub puts_kept : below ≡ Kept → PutsBelow form pages mid number cell Kept
    puts_kept is = record { each = at_shape; kept = λ same. kept_shape } where
      part_kept : (height : ℕ) (shape : Shape (suc height)) (others : ℕ → ℕ) → Shares pages (uses (suc height) shape & others) → (u : Under form pages entry cell height shape at)
          → Exchanges form (cells_of height u.part) (with_cell cell (cells_of height u.part))
      part_kept height shape others shares u =
          puts.kept is height u.part (beside_part height shape at & others) (part_below height shape u) u.up (part_shares pages height shape at u.part others u.there shares)

      at_shape : (height : ℕ) (shape : Shape height) (others : ℕ → ℕ) → IsPart form pages number height shape → Ascends (cells_of height shape) → Shares pages (uses height shape & others)
          → TakesPlace form pages mid height (uses height shape) (tops number Kept) (with_cell cell (cells_of height shape))
      at_shape zero shape others part up shares = absurd (no_leaf shape part)
      at_shape (suc height) shape others part up shares =
          let m = midway height shape others part up shares in
          let was : SaysChild form entry (record { page = number_at 0 4 entry; cells = cells_of height m.u.part }) = record { page = refl; summary = m.u.is.says.summary; least = m.u.is.says.least } in
          let said = said_with form entry (number_at 0 4 entry) (cells_of height m.u.part) (with_cell cell (cells_of height m.u.part)) (part_kept height shape others shares m.u) was in
          let top : map (page_of height) m.news ≡ number_at 0 4 entry ∷ [] = m.top ∙ ap (tops (number_at 0 4 entry)) is in
          left_above mid (SamePages-refl mid) height shape others part shares m (one_said form height entry (with_cell cell (cells_of height m.u.part)) m.news top m.holds said)

      kept_shape : (height : ℕ) (shape : Shape height) (others : ℕ → ℕ) → IsPart form pages number height shape → Ascends (cells_of height shape) → Shares pages (uses height shape & others)
          → Exchanges form (cells_of height shape) (with_cell cell (cells_of height shape))
      kept_shape zero shape others part up shares = absurd (no_leaf shape part)
      kept_shape (suc height) shape others part up shares =
          let u = under height shape part up in
          lifted height shape u (part_kept height shape others shares u)

    -- the page above is written, or stays
    pub puts_above : (new : PageMap) (above : Put) → (mid.page number ≡ Some page → WritesAbove form mid new number page count at (tops (number_at 0 4 entry) below) above)
        → PutsBelow form pages new number cell above
    puts_above new above writes = record { each = at_shape; kept = at_kept } where
      by_answer : (height : ℕ) (shape : Shape (suc height)) (others : ℕ → ℕ) → IsPart form pages number (suc height) shape → Shares pages (uses (suc height) shape & others) → Midway height shape
          → (written : WritesAbove form mid new number page count at (tops (number_at 0 4 entry) below) above) → (answer : Put) → answer ≡ above
          → TakesPlace form pages new (suc height) (uses (suc height) shape) (tops number answer) (with_cell cell (cells_of (suc height) shape))
      by_answer height shape others part shares m written answer same =
          let parts : List (Shape height) = take at shape.parts ++ (m.news ++ drop (suc at) shape.parts) in
          let rep = reparts_same form pages mid written.mid height number page (uses (suc height) shape) parts written.same m.reparts in
          let one_more : suc at ≡ at + 1 = omega arith in
          let said = says_parts form mid height (tops (number_at 0 4 entry) below) written.entries m.news written.says.each m.top m.lie in
          let zipped = subst (λ j. AllZip (SaysChild form) (take at es ++ (written.entries ++ drop j es)) (map (child_of height) parts)) one_more
          (zip_spliced (SaysChild form) (child_of height) es written.entries shape.parts m.news at (suc at) (entries_of height shape part).says said) in
          subst (TakesPlace form pages new (suc height) (uses (suc height) shape) (tops number answer)) m.lists (at_answer answer same rep zipped) where
            at_answer : (a : Put) → a ≡ above → Reparts form pages written.mid height number page (uses (suc height) shape) (take at shape.parts ++ (m.news ++ drop (suc at) shape.parts))
                → AllZip (SaysChild form) (take at es ++ (written.entries ++ drop (at + 1) es)) (map (child_of height) (take at shape.parts ++ (m.news ++ drop (suc at) shape.parts)))
                → TakesPlace form pages new (suc height) (uses (suc height) shape) (tops number a) (flat_map (cells_of height) (take at shape.parts ++ (m.news ++ drop (suc at) shape.parts)))
            at_answer Found e rep zipped = absurd (false≢true (sym (written.puts (λ kept. found_not_kept (e ∙ kept))).placed ∙ ap is_found (sym e)))
            at_answer Placed e rep zipped =
                inner_written form pages written.mid new height number page (uses (suc height) shape) others (take at shape.parts ++ (m.news ++ drop (suc at) shape.parts)) count at 1 written.entries
                rep shares ((written.puts (λ kept. placed_not_kept (e ∙ kept))).one (sym e)) zipped m.some
            at_answer Kept e rep zipped =
                let left = written.kept (sym e) in
                let stays = SamePages-trans new written.mid mid left.stays written.same in
                subst (TakesPlace form pages new (suc height) (uses (suc height) shape) (number ∷ [])) (sym m.lists)
                (left_above new stays height shape others part shares m (kept_said new height shape m (subst (WritesAbove form mid new number page count at (tops (number_at 0 4 entry) below)) (sym e) written)))
            at_answer (Split other) e rep zipped =
                inner_split form pages written.mid new height number other page (uses (suc height) shape) others (take at shape.parts ++ (m.news ++ drop (suc at) shape.parts))
                (spliced es at 1 written.entries) rep shares ((written.puts (λ kept. split_not_kept other (e ∙ kept))).two other (sym e)) zipped

      at_shape : (height : ℕ) (shape : Shape height) (others : ℕ → ℕ) → IsPart form pages number height shape → Ascends (cells_of height shape) → Shares pages (uses height shape & others)
          → TakesPlace form pages new height (uses height shape) (tops number above) (with_cell cell (cells_of height shape))
      at_shape zero shape others part up shares = absurd (no_leaf shape part)
      at_shape (suc height) shape others part up shares =
          let m = midway height shape others part up shares in
          by_answer height shape others part shares m (writes m.reparts.there) above refl

      at_kept : above ≡ Kept → (height : ℕ) (shape : Shape height) (others : ℕ → ℕ) → IsPart form pages number height shape → Ascends (cells_of height shape) → Shares pages (uses height shape & others)
          → Exchanges form (cells_of height shape) (with_cell cell (cells_of height shape))
      at_kept is zero shape others part up shares = absurd (no_leaf shape part)
      at_kept is (suc height) shape others part up shares =
          let m = midway height shape others part up shares in
          kept_exchanges new height shape m (subst (WritesAbove form mid new number page count at (tops (number_at 0 4 entry) below)) is (writes m.reparts.there))

    -- where the page above can't be written, no such part has it at its top
    pub none_above : (levels : ℕ) → HasNoTops form mid (tops (number_at 0 4 entry) below) ⊎ IsBroken mid number → HasNoShared form pages number levels
    none_above levels broken = record { none = at_shape } where
      by_cause : (height : ℕ) (shape : Shape (suc height)) (others : ℕ → ℕ) → Shares pages (uses (suc height) shape & others) → Midway height shape
          → HasNoTops form mid (tops (number_at 0 4 entry) below) ⊎ IsBroken mid number → ⊥
      by_cause height shape others shares m (inl none) = none.none height m.news m.top m.lie
      by_cause height shape others shares m (inr (inl none)) =
          (no_fit-no_node mid number layout none).none page (Inner count) m.reparts.there m.reparts.after node
      by_cause height shape others shares m (inr (inr none)) =
          let shared = (m.reparts.moves.beside others shares).shares in
          none.none shared.free shared.list

      at_shape : (height : ℕ) (shape : Shape height) (others : ℕ → ℕ) → IsPart form pages number height shape → Ascends (cells_of height shape) → height ≤ levels → Shares pages (uses height shape & others) → ⊥
      at_shape zero shape others part up low shares = no_leaf shape part
      at_shape (suc height) shape others part up low shares = by_cause height shape others shares (midway height shape others part up shares) broken

-- where the cell was there, nothing changes
pub puts_found : (form : Form) (old new : PageMap) (number : ℕ) (cell : List ℕ) → SamePages new old → TellsBelow form old number cell Found → PutsBelow form old new number cell Found
puts_found form old new number cell same tells = record {
  each = λ height shape others part up shares.
      let has = tells.found refl height shape part up in
      record {
        parts = shape ∷ [];
        lie = (lies_same form old new same height shape part.lies, tt);
        top = ap (λ n. n ∷ []) part.top;
        lists = one_list (cells_of height shape) ∙ sym (with_present (cells_of height shape) cell up has);
        moves = moves_same old new (uses height shape) (uses height shape) (uses height shape) (uses_all height (shape ∷ [])) (λ n. refl) (λ n. omega arith) (same_pages-moves old new (uses height shape) same);
      };
  kept = λ is. absurd (found_not_kept is);
} where
  one_list : (cs : List (List ℕ)) → cs ++ [] ≡ cs
  one_list [] = refl
  one_list (c ∷ cs) = ap (λ xs. c ∷ xs) (one_list cs)
