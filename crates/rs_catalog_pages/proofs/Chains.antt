-- The pages of the catalogue, one after another: they hold one list of bytes, and hold it where they are kept.
use Rattle.std.proofs.Common.{◌≡◌, ◌<◌, ◌≤◌, ◌+◌, ℕ, List, [], ◌∷◌, ◌++◌, length, refl, sym, ap, subst, ◌∙◌, inl, inr, arith, append_assoc, append-nil, length-append}
use Rattle.rs_page.specs.Follow.{MayFollow}
use Rattle.rs_pages.specs.PageMap.{PageMap}
use Rattle.rs_page_owners.specs.Counts.{◌&◌, times}
use Rattle.rs_page_owners.specs.Owners.{Keeps}
use Rattle.rs_page_owners.proofs.Moving.{one_at-same}
use Rattle.rs_catalog_pages.specs.Chain.{HoldsPart, HoldsFrom, HoldsBytes, HoldsNoFreshBytes}
use Rattle.rs_catalog_pages.specs.Items.{CatalogueItems, SaysCatalogue}
use Rattle.rs_catalog_pages.specs.Laws.{catalogue_one}
use Rattle.rs_catalog_pages.specs.Inner.{HoldsUpTo}
use Rattle.rs_catalog_pages.specs.Loading.{ReadsBytes, LoadsCatalogue, HasNoFreshCatalogue}
use Rattle.rs_catalog_pages.specs.Parts.{HasNoFreshPart}
use Rattle.rs_catalog_pages.proofs.Counting.{times-append, times-cons}
use Rattle.rs_catalog_pages.proofs.Parts.{holds_one}

-- what is held from a page on is one
pub from_one : (map : PageMap) (first : ℕ) (a b : List ℕ) (p q : List ℕ) → HoldsFrom map first a p → HoldsFrom map first b q → (a ≡ b) × (p ≡ q)
from_one map first [] [] p q one other = (refl, one.1 ∙ sym other.1)
from_one map first [] (m ∷ ms) p q one other = absurd (let past = other.1.4.after in omega (arith, one.0, other.0, past))
from_one map first (n ∷ ns) [] p q one other = absurd (let past = one.1.4.after in omega (arith, one.0, other.0, past))
from_one map first (n ∷ ns) (m ∷ ms) p q one other =
    let same : n ≡ m = sym one.0 ∙ other.0 in
    let part = holds_one map m one.1.0 other.1.0 one.1.1 other.1.1 (subst (λ i. HoldsPart map i one.1.0 one.1.1) same one.1.4) other.1.4 in
    let rest = from_one map other.1.0 ns ms one.1.2 other.1.2 (subst (λ i. HoldsFrom map i ns one.1.2) part.0 one.1.5) other.1.5 in
    (cc (same, rest.0), one.1.3 ∙ ap (λ l. l ++ one.1.2) part.1 ∙ ap (λ l. other.1.1 ++ l) rest.1 ∙ sym other.1.3)

pub holds_pages : (map : PageMap) (one other bytes said : List ℕ) → HoldsBytes map one bytes → HoldsBytes map other said → one ≡ other
holds_pages map one other bytes said a b = (from_one map map.fields.catalogue one other bytes said a.chain b.chain).0

pub holds_bytes : (map : PageMap) (one other bytes said : List ℕ) → HoldsBytes map one bytes → HoldsBytes map other said → bytes ≡ said
holds_bytes map one other bytes said a b = (from_one map map.fields.catalogue one other bytes said a.chain b.chain).1

pub says_one : (bytes : List ℕ) (one other : CatalogueItems) → SaysCatalogue bytes one → SaysCatalogue bytes other → one ≡ other
says_one bytes one other a b = (catalogue_one bytes [] bytes [] one other a b refl).0

-- a part is held where its page is kept
follow_more : (next a b : ℕ) → a ≤ b → MayFollow next a → MayFollow next b
follow_more next a b more (inl none) = inl none
follow_more next a b more (inr past) = inr (past.0, omega (arith, past.1))

pub part_kept : (old new : PageMap) (number next : ℕ) (part : List ℕ) → old.fields.pages ≤ new.fields.pages → new.page number ≡ old.page number → HoldsPart old number next part → HoldsPart new number next part
part_kept old new number next part count kept holds = record {
  after = holds.after;
  below = omega (arith, holds.below, count);
  page = holds.page;
  there = kept ∙ holds.there;
  size = holds.size;
  header = holds.header;
  follows = follow_more next old.fields.pages new.fields.pages count holds.follows;
  held = holds.held;
}

pub from_kept : (old new : PageMap) (first : ℕ) (numbers bytes : List ℕ) → old.fields.pages ≤ new.fields.pages → ((n : ℕ) → 0 < times numbers n → new.page n ≡ old.page n)
    → HoldsFrom old first numbers bytes → HoldsFrom new first numbers bytes
from_kept old new first [] bytes count kept holds = holds
from_kept old new first (number ∷ numbers) bytes count kept holds = (
  holds.0,
  (
    holds.1.0,
    holds.1.1,
    holds.1.2,
    holds.1.3,
    part_kept old new number holds.1.0 holds.1.1 count (kept number (omega (arith, times-cons number numbers number, one_at-same number))) holds.1.4,
    from_kept old new holds.1.0 numbers holds.1.2 count (λ n own. kept n (omega (arith, own, times-cons number numbers n))) holds.1.5,
  ),
)

pub catalogue_kept : (old new : PageMap) (numbers bytes : List ℕ) → Keeps (times numbers) old new → HoldsBytes old numbers bytes → HoldsBytes new numbers bytes
catalogue_kept old new numbers bytes keeps holds = record {
  chain = subst (λ first. HoldsFrom new first numbers bytes) (sym keeps.catalogue) (from_kept old new old.fields.catalogue numbers bytes keeps.no_fewer keeps.pages holds.chain);
  count = holds.count ∙ sym keeps.catalogue_length;
  once = holds.once;
}

-- the first pages, read one after another
pub up_to_none : (map : PageMap) (first : ℕ) → HoldsUpTo map first [] [] first
up_to_none map first = record { whole = λ rest after h. h; splits = λ all said h. (all, said, refl, refl, h) }

next_split : (map : PageMap) (number next : ℕ) (part rest after : List ℕ) → HoldsPart map number next part → HoldsFrom map number rest after
    → (more : List ℕ) × (tail : List ℕ) × (rest ≡ number ∷ more) × (after ≡ part ++ tail) × HoldsFrom map next more tail
next_split map number next part [] after holds h = absurd (let past = holds.after in omega (arith, h.0, past))
next_split map number next part (n ∷ more) after holds h =
    let same = holds_one map n h.1.0 next h.1.1 part h.1.4 (subst (λ m. HoldsPart map m next part) h.0 holds) in
    (more, h.1.2, ap (λ m. m ∷ more) (sym h.0), h.1.3 ∙ ap (λ p. p ++ h.1.2) same.1, subst (λ m. HoldsFrom map m more h.1.2) same.0 h.1.5)

pub up_to_next : (map : PageMap) (first : ℕ) (numbers bytes now : List ℕ) (number next : ℕ) (part : List ℕ) → HoldsUpTo map first numbers bytes number → HoldsPart map number next part → now ≡ bytes ++ part
    → HoldsUpTo map first (numbers ++ number ∷ []) now next
up_to_next map first numbers bytes now number next part up holds is = record {
  whole = λ rest after h.
      subst (λ ns. HoldsFrom map first ns (now ++ after)) (sym (append_assoc numbers (number ∷ []) rest))
      (subst (λ bs. HoldsFrom map first (numbers ++ number ∷ rest) bs) (sym (ap (λ l. l ++ after) is ∙ append_assoc bytes part after))
      (up.whole (number ∷ rest) (part ++ after) (refl, (next, part, after, refl, holds, h))));
  splits = λ all said h.
      let cut = up.splits all said h in
      let more = next_split map number next part cut.0 cut.1 holds cut.4 in (
        more.0,
        more.1,
        cut.2 ∙ ap (λ l. numbers ++ l) more.2 ∙ sym (append_assoc numbers (number ∷ []) more.0),
        cut.3 ∙ ap (λ l. bytes ++ l) more.3 ∙ sym (append_assoc bytes part more.1) ∙ ap (λ l. l ++ more.1) (sym is),
        more.4,
      );
}

-- all were read
pub reads_all : (map : PageMap) (numbers bytes : List ℕ) (next : ℕ) (before after : ℕ → ℕ) → HoldsUpTo map map.fields.catalogue numbers bytes next → next ≡ 0 → length bytes ≡ map.fields.catalogue_length
    → ((n : ℕ) → after n ≡ (before & times numbers) n) → ((n : ℕ) → after n ≤ 1) → ReadsBytes map before after numbers bytes
reads_all map numbers bytes next before after up zero_next count reached once = record {
  holds = record {
    chain = subst (λ ns. HoldsFrom map map.fields.catalogue ns bytes) (append-nil numbers)
        (subst (λ bs. HoldsFrom map map.fields.catalogue (numbers ++ []) bs) (append-nil bytes) (up.whole [] [] (zero_next, refl)));
    count = count;
    once = λ n. omega (arith, reached n, once n);
  };
  reached = reached;
}

-- where the next page holds no part that is fresh, no pages do
pub none_next : (map : PageMap) (numbers bytes : List ℕ) (next left : ℕ) (before now : ℕ → ℕ) → HoldsUpTo map map.fields.catalogue numbers bytes next → (next ≡ 0 → ⊥)
    → length bytes + left ≡ map.fields.catalogue_length → ((n : ℕ) → now n ≡ (before & times numbers) n) → HasNoFreshPart map next left now → HoldsNoFreshBytes map before
none_next map numbers bytes next left before now up some size reached none = record {
  none = λ ns bs holds fresh. let cut = up.splits ns bs holds.chain in at ns bs holds fresh cut.0 cut.1 cut.2 cut.3 cut.4;
} where
  at : (ns bs : List ℕ) → HoldsBytes map ns bs → ((n : ℕ) → (before & times ns) n ≤ 1) → (rest after : List ℕ) → ns ≡ numbers ++ rest → bs ≡ bytes ++ after → HoldsFrom map next rest after → ⊥
  at ns bs holds fresh [] after all said h = some h.0
  at ns bs holds fresh (n ∷ more) after all said h =
      let long : length bs ≡ length bytes + (length h.1.1 + length h.1.2) = ap length said ∙ length-append bytes after ∙ ap (λ k. length bytes + k) (ap length h.1.3 ∙ length-append h.1.1 h.1.2) in
      let here : times ns n ≡ times numbers n + times (n ∷ more) n = ap (λ l. times l n) all ∙ times-append numbers (n ∷ more) n in
      let free : now n ≡ 0 = omega (arith, fresh n, reached n, here, times-cons n more n, one_at-same n) in
      none.none h.1.0 h.1.1 (subst (λ i. HoldsPart map i h.1.0 h.1.1) (sym h.0) h.1.4) (omega (arith, long, holds.count, size)) (ap now h.0 ∙ free)

-- where the bytes end too early, no pages hold as many as page 0 says
pub none_short : (map : PageMap) (numbers bytes : List ℕ) (next : ℕ) (before : ℕ → ℕ) → HoldsUpTo map map.fields.catalogue numbers bytes next → next ≡ 0
    → (length bytes ≡ map.fields.catalogue_length → ⊥) → HoldsNoFreshBytes map before
none_short map numbers bytes next before up zero_next short = record {
  none = λ ns bs holds fresh. let cut = up.splits ns bs holds.chain in at bs holds.count cut.0 cut.1 cut.3 cut.4;
} where
  at : (bs : List ℕ) → length bs ≡ map.fields.catalogue_length → (rest after : List ℕ) → bs ≡ bytes ++ after → HoldsFrom map next rest after → ⊥
  at bs count [] after said h = short (sym (ap length (said ∙ ap (λ l. bytes ++ l) h.1 ∙ append-nil bytes)) ∙ count)
  at bs count (n ∷ more) after said h = let past = h.1.4.after in omega (arith, h.0, zero_next, past)

-- bytes that were read, and what they say
pub loads : (map : PageMap) (before after : ℕ → ℕ) (numbers bytes : List ℕ) (catalogue : CatalogueItems) → ReadsBytes map before after numbers bytes → SaysCatalogue bytes catalogue
    → LoadsCatalogue map before after numbers catalogue
loads map before after numbers bytes catalogue reads says = record { bytes = bytes; holds = reads.holds; says = says; reached = reads.reached }

pub no_bytes-no_catalogue : (map : PageMap) (before : ℕ → ℕ) → HoldsNoFreshBytes map before → HasNoFreshCatalogue map before
no_bytes-no_catalogue map before none = record { none = λ numbers bytes catalogue holds says fresh. none.none numbers bytes holds fresh }

pub not_said-no_catalogue : (map : PageMap) (before after : ℕ → ℕ) (numbers bytes : List ℕ) → ReadsBytes map before after numbers bytes → ((catalogue : CatalogueItems) → SaysCatalogue bytes catalogue → ⊥)
    → HasNoFreshCatalogue map before
not_said-no_catalogue map before after numbers bytes reads none = record {
  none = λ ns bs catalogue holds says fresh. none catalogue (subst (λ b. SaysCatalogue b catalogue) (holds_bytes map ns numbers bs bytes holds reads.holds) says);
}
