-- The bytes of a directory are so many, and zeros follow them.
use Rattle.std.proofs.Common.{◌≡◌, ◌⊎◌, ◌<◌, ◌+◌, ◌-◌, ◌*◌, ℕ, zero, suc, Some, List, Result, Ok, Err, IfErr, IsOkUnless, inl, inr, [], ◌∷◌, ◌++◌, length, take, drop, replicate, get_or, refl, sym, ap, subst, ◌∙◌, arith, length-append, length-drop}
use Rattle.std.proofs.lemmas.List.{take-append-drop, take_at, drop_at, drop-replicate, length-replicate, get_or-drop, get_or-replicate}
use Rattle.std.proofs.lemmas.Grind.{same_number_lists}
use Rattle.std.specs.Int.{bytes_high_first}
use Rattle.rs_bytes.specs.Codes.{Code, SaysBoth, SaysMany, SaysNumber, SaysEach}
use Rattle.rs_bytes.proofs.Fixed.{AreBytes, IsFixed, fixed_both, fixed_many, fixed_number}
use Rattle.rs_refusal.specs.declared.refusal.Refusal.{Refusal}
use Rattle.rs_refusal.specs.declared.refusal.Refusal.TheVariants as refusal
use Rattle.rs_page.specs.declared.page.TheConstants.{PAGE_SIZE}
use Rattle.rs_page.specs.Header.{IsHeader}
use Rattle.rs_page.specs.PageBytes.{IsBlank, empty_header}
use Rattle.rs_page.specs.declared.header.PageKind.TheVariants.{Directory}
use Rattle.rs_page.proofs.Numbers.{byte_at}
use Rattle.rs_pages.specs.PageMap.{PageMap, HasNoFit, ReplacesPage}
use Rattle.rs_pages.proofs.FreeLists.{page_one}
use Rattle.rs_pages.proofs.Stores.{used_there}
use Rattle.rs_catalog_pages.specs.Directory.{TreeItem, DirectoryItems, SaysTree, SaysDirectory, IsDirectory, HasDirectory, HasNoDirectory, StoresDirectory}
use Rattle.rs_catalog_pages.specs.Laws.{directory_one}
use Rattle.rs_catalog_pages.specs.Parts.{content}

length_high : (k x : ℕ) → length (bytes_high_first k x) ≡ k
length_high zero x = refl
length_high (suc k) x = ap suc (length_high k x)

length-number : (k : ℕ) (bytes : List ℕ) (x : ℕ) → SaysNumber k bytes x → length bytes ≡ k
length-number k bytes x says = ap length says.1 ∙ length_high k x

length-each : {A : Type 0} (says : Code A) (k : ℕ) → ((bytes : List ℕ) (x : A) → says bytes x → length bytes ≡ k) → (bytes : List ℕ) (xs : List A) → SaysEach says bytes xs → length bytes ≡ length xs * k
length-each says k fixed bytes [] each = ap length each ∙ omega arith
length-each says k fixed bytes (x ∷ xs) (first, rest, is, a, b) =
    let front = fixed first x a in
    let more = length-each says k fixed rest xs b in
    let whole : length bytes ≡ length first + length rest = ap length is ∙ length-append first rest in
    let step : k + length xs * k ≡ suc (length xs) * k = omega arith in
    omega (arith, front, more, whole, step)

length-tree : (bytes : List ℕ) (tree : TreeItem) → SaysTree bytes tree → length bytes ≡ 20
length-tree bytes tree (first, rest, is, a, (second, third, at, b, c)) =
    omega (arith, ap length is, length-append first rest, ap length at, length-append second third, length-number 4 first tree.root a, length-number 8 second tree.living b, length-number 8 third tree.garbage c)

pub length-directory : (bytes : List ℕ) (directory : DirectoryItems) → SaysDirectory bytes directory → length bytes ≡ 2844
length-directory bytes directory (tables, more, is, a, (indexes, rest, at, b, (referents, accepted, on, c, d))) =
    let one : length tables ≡ 2560 = length-each SaysTree 20 length-tree tables directory.tables a.1 ∙ ap (λ n. n * 20) a.0 in
    let two : length indexes ≡ 256 = length-each (SaysNumber 4) 4 (length-number 4) indexes directory.indexes b.1 ∙ ap (λ n. n * 4) b.0 in
    omega (arith, ap length is, length-append tables more, ap length at, length-append indexes rest, ap length on, length-append referents accepted, one, two, length-tree referents directory.referents c, length-number 8 accepted directory.accepted d)

-- so many bytes say a tree, and a directory, whatever they are
fixed_tree : IsFixed SaysTree 20
fixed_tree bytes size small =
    let number : IsFixed (SaysNumber 8) 8 = fixed_number 8 in
    let parts = fixed_both (SaysNumber 4) (SaysBoth (SaysNumber 8) (SaysNumber 8)) 4 16 (fixed_number 4) (fixed_both (SaysNumber 8) (SaysNumber 8) 8 8 number number) bytes size small in
    (record { root = parts.0.0; living = parts.0.1.0; garbage = parts.0.1.1 }, parts.1)

pub fixed_directory : IsFixed SaysDirectory 2844
fixed_directory bytes size small =
    let tables : IsFixed (SaysMany 128 (SaysEach SaysTree)) 2560 = fixed_many SaysTree 20 fixed_tree 128 in
    let indexes : IsFixed (SaysMany 64 (SaysEach (SaysNumber 4))) 256 = fixed_many (SaysNumber 4) 4 (fixed_number 4) 64 in
    let ends : IsFixed (SaysBoth SaysTree (SaysNumber 8)) 28 = fixed_both SaysTree (SaysNumber 8) 20 8 fixed_tree (fixed_number 8) in
    let rest : IsFixed (SaysBoth (SaysMany 64 (SaysEach (SaysNumber 4))) (SaysBoth SaysTree (SaysNumber 8))) 284 =
    fixed_both (SaysMany 64 (SaysEach (SaysNumber 4))) (SaysBoth SaysTree (SaysNumber 8)) 256 28 indexes ends in
    let parts = fixed_both (SaysMany 128 (SaysEach SaysTree)) (SaysBoth (SaysMany 64 (SaysEach (SaysNumber 4))) (SaysBoth SaysTree (SaysNumber 8))) 2560 284 tables rest bytes size small in
    (record { tables = parts.0.0; indexes = parts.0.1.0; referents = parts.0.1.1.0; accepted = parts.0.1.1.1 }, parts.1)

-- so they are never said to be damaged
pub never_damaged : {T : Type 0} (bytes : List ℕ) → length bytes ≡ 2844 → AreBytes bytes → (result : Result T Refusal) → IfErr result (λ why. (why ≡ refusal.OutOfMemory) ⊎ (why ≡ refusal.DamagedFile))
    → IfErr result (λ why. why ≡ refusal.DamagedFile → (directory : DirectoryItems) → SaysDirectory bytes directory → ⊥) → IsOkUnless result refusal.OutOfMemory
never_damaged bytes size small (Ok x) refused damaged = tt
never_damaged bytes size small (Err why) refused damaged = elim refused [
  | inl memory ↦ memory
  | inr none ↦ let said = fixed_directory bytes size small in absurd (damaged none said.0 said.1)
]

-- the page of these bytes with zeros after them
pub directory_there : (page said zeros : List ℕ) (directory : DirectoryItems) → length page ≡ PAGE_SIZE → IsHeader page (empty_header Directory 1 0) → SaysDirectory said directory → content page ≡ said ++ zeros
    → zeros ≡ replicate (length zeros) 0 → IsDirectory page directory
unfolding content
directory_there page said zeros directory size header says whole are = record {
  header = header;
  said = said;
  says = says;
  holds = whole ∙ ap (λ l. said ++ l) are ∙ ap (λ n. said ++ replicate n 0) (omega (arith, ap length whole, length-append said zeros, length-drop 16 page, size));
}

-- and what a directory's page has
pub directory_parts : (page : List ℕ) (directory : DirectoryItems) → (is : IsDirectory page directory)
    → (take 2844 (content page) ≡ is.said) × (drop 2844 (content page) ≡ replicate (PAGE_SIZE - (16 + length is.said)) 0)
unfolding content
directory_parts page directory is =
    let size : length is.said ≡ 2844 = length-directory is.said directory is.says in (
      ap (take 2844) is.holds ∙ take_at is.said (replicate (PAGE_SIZE - (16 + length is.said)) 0) 2844 size,
      ap (drop 2844) is.holds ∙ drop_at is.said (replicate (PAGE_SIZE - (16 + length is.said)) 0) 2844 size,
    )

-- a list of zeros, told by its length
pub zeros_are : (xs : List ℕ) (n : ℕ) → xs ≡ replicate n 0 → xs ≡ replicate (length xs) 0
zeros_are xs n is = is ∙ ap (λ k. replicate k 0) (sym (ap length is ∙ length-replicate n 0))

pub each_zeros : (xs : List ℕ) → ((k : ℕ) → k < length xs → get_or xs k 0 ≡ 0) → xs ≡ replicate (length xs) 0
each_zeros xs each = same_number_lists xs (replicate (length xs) 0) (sym (length-replicate (length xs) 0)) (λ i lt. each i lt ∙ sym (get_or-replicate (length xs) i 0 0 lt))

pub zeros_each : (xs : List ℕ) (n : ℕ) → xs ≡ replicate n 0 → (k : ℕ) → k < length xs → get_or xs k 0 ≡ 0
zeros_each xs n is k lt = ap (λ l. get_or l k 0) is ∙ get_or-replicate n k 0 0 (let size : length xs ≡ n = ap length is ∙ length-replicate n 0 in omega arith)

-- a file has one directory
pub directory_is_one : (map : PageMap) (one other : DirectoryItems) → HasDirectory map one → HasDirectory map other → one ≡ other
directory_is_one map one other a b =
    let is : IsDirectory b.page one = subst (λ p. IsDirectory p one) (page_one map 1 a.page b.page a.there b.there) a.is in
    let said : is.said ≡ b.is.said = sym (directory_parts b.page one is).0 ∙ (directory_parts b.page other b.is).0 in
    (directory_one is.said [] b.is.said [] one other is.says b.is.says (ap (λ l. l ++ []) said)).0

pub directory_kept : (old new : PageMap) (directory : DirectoryItems) → new.page 1 ≡ old.page 1 → HasDirectory old directory → HasDirectory new directory
directory_kept old new directory kept has = record { page = has.page; there = kept ∙ has.there; is = has.is }

-- where no page 1 fits, there is no directory
pub no_fit-no_directory : (map : PageMap) → HasNoFit map 1 → HasNoDirectory map
no_fit-no_directory map none = record {
  none = λ directory has.
      none.none has.page (used_there map 1 has.page has.there (rw has.is.header.kind refl)) (record { header = empty_header Directory 1 0; there = has.is.header; fits = (refl, (refl, refl, refl)) });
}

pub page-no_directory : (map : PageMap) (page : List ℕ) → map.page 1 ≡ Some page → ((directory : DirectoryItems) → IsDirectory page directory → ⊥) → HasNoDirectory map
page-no_directory map page there none = record { none = λ directory has. none directory (subst (λ p. IsDirectory p directory) (page_one map 1 has.page page has.there there) has.is) }

-- a page with nothing in it has zeros after its header
pub blank_content : (page : List ℕ) (number next : ℕ) → IsBlank page Directory number next → content page ≡ replicate (length (content page)) 0
unfolding content
blank_content page number next blank =
    same_number_lists (drop 16 page) (replicate (length (drop 16 page)) 0) (sym (length-replicate (length (drop 16 page)) 0))
    (λ i lt. get_or-drop 16 page i 0 ∙ sym (byte_at (16 + i) page) ∙ blank.zeros (16 + i) (omega arith) ∙ sym (get_or-replicate (length (drop 16 page)) i 0 0 lt))

-- bytes were put into a blank page
pub put_blank : (page old bytes : List ℕ) → length (content old) ≡ 4080 → content old ≡ replicate (length (content old)) 0 → take (length bytes) (content page) ≡ bytes
    → drop (length bytes) (content page) ≡ drop (length bytes) (content old) → content page ≡ bytes ++ replicate (4080 - length bytes) 0
put_blank page old bytes size zeros front back =
    sym (take-append-drop (length bytes) (content page)) ∙ ap (λ l. l ++ drop (length bytes) (content page)) front
    ∙ ap (λ l. bytes ++ l) (back ∙ ap (drop (length bytes)) zeros ∙ drop-replicate (length bytes) (length (content old)) 0 ∙ ap (λ n. replicate (n - length bytes) 0) size)

-- the directory is written
pub stores_directory : (old new : PageMap) (page bytes : List ℕ) (directory : DirectoryItems) → length page ≡ PAGE_SIZE → IsHeader page (empty_header Directory 1 0) → SaysDirectory bytes directory
    → content page ≡ bytes ++ replicate (4080 - length bytes) 0 → ReplacesPage 1 page old new → StoresDirectory old new directory
stores_directory old new page bytes directory size header says whole replaces = record {
  page = page;
  is = directory_there page bytes (replicate (4080 - length bytes) 0) directory size header says whole (zeros_are (replicate (4080 - length bytes) 0) (4080 - length bytes) refl);
  replaces = replaces;
}
