-- The bytes of the catalogue, written part by part.
use Rattle.std.proofs.Common.{◌≡◌, ◌<◌, ◌≤◌, ◌+◌, ◌-◌, ◌*◌, ℕ, List, [], ◌∷◌, ◌++◌, length, take, drop, get_or, refl, sym, ap, subst, ◌∙◌, inl, inr, arith, length-take}
use Rattle.std.proofs.lemmas.Bool.{cases_lt}
use Rattle.std.proofs.lemmas.List.{drop_more, drop-drop, drop_all, take-append-drop, get_or_past}
use Rattle.rs_page.specs.Follow.{MayFollow}
use Rattle.rs_page.specs.declared.file_header.FileHeader.{FileHeader}
use Rattle.rs_pages.specs.PageMap.{PageMap}
use Rattle.rs_pages.specs.Store.{Store}
use Rattle.rs_pages.specs.Uses.{SetsCatalogue}
use Rattle.rs_pages.proofs.FreeLists.{catalogue_leaves_the_free_list}
use Rattle.rs_pages.proofs.Stores.{used_there}
use Rattle.rs_page_owners.specs.Counts.{◌&◌, one_at, times}
use Rattle.rs_page_owners.specs.Owners.{Moves}
use Rattle.rs_page_owners.proofs.Moving.{one_at-same, same_number, moves_same, moves_part, replaces-moves}
use Rattle.rs_catalog_pages.specs.Chain.{HoldsFrom, HoldsBytes}
use Rattle.rs_catalog_pages.specs.Inner.{parts_from}
use Rattle.rs_catalog_pages.specs.Items.{CatalogueItems, SaysCatalogue}
use Rattle.rs_catalog_pages.specs.Parts.{IsPart, WritesPart}
use Rattle.rs_catalog_pages.specs.Places.{number_from, part_at}
use Rattle.rs_catalog_pages.specs.Storing.{IsInUse, AreInUse, MovesPages, AreNotOwn, WritesParts, HasNoOwnBytes, StoresCatalogue}
use Rattle.rs_catalog_pages.proofs.Chains.{from_kept}
use Rattle.rs_catalog_pages.proofs.Counting.{times-at, times-there, times-cons, times-none, one_at-off}
use Rattle.rs_catalog_pages.proofs.Parts.{part_held, part_fit, catalogue_used, holds_used, holds_fit}
use Rattle.rs_catalog_pages.proofs.Moving.{in_use_kept}

-- a page of an owner's is written, and the owner's pages stay the owner's
own_moves : (old new : PageMap) (number : ℕ) (numbers : List ℕ) → 0 < times numbers number → Moves old new (one_at number) (one_at number) → Moves old new (times numbers) (times numbers)
own_moves old new number numbers there moves =
    moves_same old new (one_at number & rest) (one_at number & rest) (times numbers) (times numbers) parts (λ n. sym (parts n)) (moves_part old new (one_at number) (one_at number) rest moves) where
      rest : ℕ → ℕ
      rest n = times numbers n - one_at number n

      parts : (n : ℕ) → times numbers n ≡ one_at number n + (times numbers n - one_at number n)
      parts n = elim (same_number n number) [
        | inl same ↦ let here : 0 < times numbers n = subst (λ k. 0 < times numbers k) (sym same) there in omega (arith, here, ap (one_at number) same, one_at-same number)
        | inr other ↦ omega (arith, one_at-off number n other)
      ]

writes_is_part : (old new : PageMap) (number next pages : ℕ) (part : List ℕ) → 1 < number → MayFollow next pages → (writes : WritesPart old new number next part) → IsPart writes.page number next pages part
writes_is_part old new number next pages part past follows writes = record { after = past; header = writes.header; follows = follows; held = writes.held }

-- what is written leaves the pages in use
pub writes_moves : (old new : PageMap) (number next : ℕ) (part numbers : List ℕ) → 0 < times numbers number → (AreInUse old numbers → MayFollow next old.fields.pages) → WritesPart old new number next part
    → MovesPages old new numbers numbers
writes_moves old new number next part numbers there follows writes = record {
  moves = own_moves old new number numbers there (replaces-moves old new number writes.was writes.page (used_there old number writes.was writes.there writes.used) writes.below writes.replaces);
  used = λ own. record { each = each own; once = own.once };
} where
  count : new.fields.pages ≡ old.fields.pages
  count = ap (λ (f : FileHeader). f.pages) writes.replaces.fields

  each : AreInUse old numbers → (n : ℕ) → 0 < times numbers n → IsInUse new n
  each own n here = elim (same_number n number) [
    | inl same ↦ subst (IsInUse new) (sym same) (record {
      after = (own.each number there).after;
      below = omega (arith, writes.below, count);
      page = writes.page;
      used = used_there new number writes.page writes.replaces.there (catalogue_used writes.page (length part) number next writes.header);
      fit = part_fit writes.page number next new.fields.pages part writes.size
          (writes_is_part old new number next new.fields.pages part (own.each number there).after (subst (MayFollow next) (sym count) (follows own)) writes);
    })
    | inr other ↦ in_use_kept old new n (omega (arith, count)) (writes.replaces.others.pages n other) (own.each n here)
  ]

-- the next page may follow
pub next_follows : (map : PageMap) (numbers : List ℕ) (index : ℕ) → AreInUse map numbers → MayFollow (number_from numbers index) map.fields.pages
next_follows map numbers index own = elim (cases_lt index (length numbers)) [
  | inl inside ↦ let is = own.each (get_or numbers index 0) (times-there numbers index inside) in inr (is.after, is.below)
  | inr past ↦ inl (get_or_past numbers index 0 past)
]

-- one part more is written
pub writes_next : (start old new : PageMap) (index : ℕ) (numbers bytes : List ℕ) → index < length numbers → MovesPages start old numbers numbers
    → WritesPart old new (get_or numbers index 0) (number_from numbers (index + 1)) (part_at bytes index)
    → (AreInUse start numbers → HoldsFrom old (number_from numbers (index + 1)) (drop (index + 1) numbers) (parts_from bytes (index + 1)))
    → AreInUse start numbers → HoldsFrom new (number_from numbers index) (drop index numbers) (parts_from bytes index)
unfolding part_at parts_from
writes_next start old new index numbers bytes inside moves writes later own =
    let number = get_or numbers index 0 in
    let next = number_from numbers (index + 1) in
    let now = moves.used own in
    let is = now.each number (times-there numbers index inside) in
    let count : new.fields.pages ≡ old.fields.pages = ap (λ (f : FileHeader). f.pages) writes.replaces.fields in
    let single : times (drop (index + 1) numbers) number ≡ 0 = omega (arith, now.once number, times-at numbers index number inside, one_at-same number) in
    let kept : (n : ℕ) → 0 < times (drop (index + 1) numbers) n → new.page n ≡ old.page n =
    λ n here. writes.replaces.others.pages n (λ same. let none : times (drop (index + 1) numbers) n ≡ 0 = ap (times (drop (index + 1) numbers)) same ∙ single in omega (arith, here, none)) in
    let follows = subst (MayFollow next) (sym count) (next_follows old numbers (index + 1) now) in
    let split : drop (index * 4080) bytes ≡ take 4080 (drop (index * 4080) bytes) ++ drop ((index + 1) * 4080) bytes =
    sym (take-append-drop 4080 (drop (index * 4080) bytes)) ∙ ap (λ l. take 4080 (drop (index * 4080) bytes) ++ l) (drop-drop 4080 (index * 4080) bytes ∙ ap (λ k. drop k bytes) (omega arith)) in
    subst (λ ns. HoldsFrom new number ns (drop (index * 4080) bytes)) (sym (drop_more numbers index 0 inside)) (
      refl,
      (
        next,
        take 4080 (drop (index * 4080) bytes),
        drop ((index + 1) * 4080) bytes,
        split,
        part_held new number next writes.page (take 4080 (drop (index * 4080) bytes)) writes.replaces.there writes.size (omega (arith, writes.below, count))
            (writes_is_part old new number next new.fields.pages (take 4080 (drop (index * 4080) bytes)) is.after follows writes),
        from_kept old new next (drop (index + 1) numbers) (drop ((index + 1) * 4080) bytes) (omega (arith, count)) kept (later own),
      ),
    )

pub part_few : (bytes : List ℕ) (index : ℕ) → length (part_at bytes index) ≤ 4080
unfolding part_at
part_few bytes index = omega (arith, length-take 4080 (drop (index * 4080) bytes))

-- the same part, written to the same page
pub written_same : (old new : PageMap) (a b n m : ℕ) (p q : List ℕ) → a ≡ b → n ≡ m → p ≡ q → WritesPart old new a n p → WritesPart old new b m q
written_same old new a b n m p q same next part writes =
    subst (λ i. WritesPart old new i m q) same (subst (λ i. WritesPart old new a i q) next (subst (λ (l : List ℕ). WritesPart old new a n l) part writes))

-- nothing is written yet
pub writes_none : (map : PageMap) (numbers bytes : List ℕ) → length bytes ≤ length numbers * 4080 → HoldsFrom map (number_from numbers (length numbers)) (drop (length numbers) numbers) (parts_from bytes (length numbers))
unfolding parts_from
writes_none map numbers bytes room =
    subst (λ ns. HoldsFrom map (number_from numbers (length numbers)) ns (drop (length numbers * 4080) bytes)) (sym (drop_all (length numbers) numbers (omega arith)))
    (get_or_past numbers (length numbers) 0 (omega arith), drop_all (length numbers * 4080) bytes room)

-- all is written
pub writes_all : (map : PageMap) (index : ℕ) (numbers bytes : List ℕ) → index ≡ 0 → HoldsFrom map (number_from numbers index) (drop index numbers) (parts_from bytes index) → HoldsFrom map (number_from numbers 0) numbers bytes
unfolding parts_from
writes_all map index numbers bytes zero_index holds = subst (λ i. HoldsFrom map (number_from numbers i) (drop i numbers) (drop (i * 4080) bytes)) zero_index holds

-- the pages that hold a catalogue are in use
from_used : (map : PageMap) (first : ℕ) (numbers bytes : List ℕ) → HoldsFrom map first numbers bytes → (n : ℕ) → 0 < times numbers n → IsInUse map n
from_used map first [] bytes holds n there = absurd (omega (arith, there, times-none n))
from_used map first (number ∷ numbers) bytes holds n there = elim (same_number n number) [
  | inl same ↦ subst (IsInUse map) (sym same) (record {
    after = holds.1.4.after;
    below = holds.1.4.below;
    page = holds.1.4.page;
    used = holds_used map number holds.1.0 holds.1.1 holds.1.4;
    fit = holds_fit map number holds.1.0 holds.1.1 holds.1.4;
  })
  | inr other ↦ from_used map holds.1.0 numbers holds.1.2 holds.1.5 n (omega (arith, there, times-cons number numbers n, one_at-off number n other))
]

pub holds_in_use : (map : PageMap) (numbers bytes : List ℕ) → HoldsBytes map numbers bytes → AreInUse map numbers
holds_in_use map numbers bytes holds = record { each = from_used map map.fields.catalogue numbers bytes holds.chain; once = holds.once }

pub not_own-no_bytes : (map : PageMap) (numbers : List ℕ) → AreNotOwn map numbers → HasNoOwnBytes map numbers
not_own-no_bytes map numbers none = record { none = λ bytes others holds shares. none.none others (holds_in_use map numbers bytes holds) shares }

-- the place of the catalogue is set
pub stores : (tied : Type 0) → tied → (old mid : PageMap) (written new : Store) (before after bytes : List ℕ) (catalogue : CatalogueItems) → SaysCatalogue bytes catalogue
    → length after * 4080 < length bytes + 4080 → take (length before) after ≡ take (length after) before → MovesPages old mid before after → WritesParts mid written.map after bytes (number_from after 0) → SetsCatalogue tied (number_from after 0) (length bytes) written new
    → StoresCatalogue old new.map before after catalogue
stores tied is old mid written new before after bytes catalogue says few kept moves writes sets = record {
  kept = kept;
  each = λ was holds.
      let own = moves.used (holds_in_use old before was holds) in record {
        bytes = bytes;
        says = says;
        few = few;
        stores = record {
          holds = record {
            chain = subst (λ first. HoldsFrom new.map first after bytes) (sym first)
                (from_kept written.map new.map (number_from after 0) after bytes (omega (arith, count)) (λ n own_page. sets.pages is n) (writes.holds own));
            count = sym size;
            once = own.once;
          };
          shares = λ others shares.
              let one = moves.moves.beside others shares in
              let two = writes.moves.moves.beside others one.shares in (
                record {
                  free = two.shares.free;
                  list = catalogue_leaves_the_free_list written.map new.map (number_from after 0) (length bytes) two.shares.free sets.fields (sets.pages is) two.shares.list;
                  within = λ n h. two.shares.within n (omega (arith, h, count));
                  beyond = λ n h. two.shares.beyond n (omega (arith, h, count));
                },
                record {
                  pages = λ n theirs. sets.pages is n ∙ two.keeps.pages n theirs ∙ one.keeps.pages n theirs;
                  no_fewer = omega (arith, one.keeps.no_fewer, two.keeps.no_fewer, count);
                },
              );
        };
      };
} where
  first : new.map.fields.catalogue ≡ number_from after 0
  first = ap (λ (f : FileHeader). f.catalogue) sets.fields

  size : new.map.fields.catalogue_length ≡ length bytes
  size = ap (λ (f : FileHeader). f.catalogue_length) sets.fields

  count : new.map.fields.pages ≡ written.map.fields.pages
  count = ap (λ (f : FileHeader). f.pages) sets.fields
