-- The bytes of a page of a disk, one by one.
use Rattle.std.proofs.Common.{◌≡◌, ℕ, zero, suc, ◌+◌, ◌*◌, ◌<◌, ◌≤◌, List, [], ◌∷◌, length, slice_index, refl, ap, ◌∙◌, arith}
use Rattle.rs_disk.specs.Content.{Content, Gives}
use Rattle.rs_page.specs.declared.page.TheConstants.{PAGE_SIZE}
use Rattle.rs_page_cache.specs.Stored.{bytes_from, disk_page}

pub length-bytes_from : (byte : ℕ → ℕ) (at n : ℕ) → length (bytes_from byte at n) ≡ n
unfolding bytes_from
length-bytes_from byte at zero = refl
length-bytes_from byte at (suc n) = ap suc (length-bytes_from byte (suc at) n)

-- bytes that are equal one by one to a list are that list
pub bytes_from-list : (byte : ℕ → ℕ) (at n : ℕ) (xs : List ℕ) → length xs ≡ n → ((k : ℕ) → k < n → slice_index xs k ≡ byte (at + k)) → xs ≡ bytes_from byte at n
unfolding bytes_from
bytes_from-list byte at zero [] size each = refl
bytes_from-list byte at zero (x ∷ xs) size each = absurd (omega arith)
bytes_from-list byte at (suc n) [] size each = absurd (omega arith)
bytes_from-list byte at (suc n) (x ∷ xs) size each =
    let zero_at : at + 0 ≡ at = omega arith in
    let first : x ≡ byte at = each 0 (omega arith) ∙ ap byte zero_at in
    let rest : xs ≡ bytes_from byte (suc at) n = bytes_from-list byte (suc at) n xs (omega arith)
    (λ k lt. let next : at + suc k ≡ suc at + k = omega arith in each (suc k) (omega arith) ∙ ap byte next) in
    cc

-- what depends on the bytes of a range alone
pub bytes_from-same : (one other : ℕ → ℕ) (at n : ℕ) → ((i : ℕ) → at ≤ i → i < at + n → one i ≡ other i) → bytes_from one at n ≡ bytes_from other at n
unfolding bytes_from
bytes_from-same one other at zero same = refl
bytes_from-same one other at (suc n) same =
    let first : one at ≡ other at = same at (omega arith) (omega arith) in
    let rest : bytes_from one (suc at) n ≡ bytes_from other (suc at) n = bytes_from-same one other (suc at) n (λ i lo hi. same i (omega arith) (omega arith)) in
    cc

-- a page that was read is the disk's
pub read-page : (content : Content) (number size at : ℕ) (page : List ℕ) → size ≡ PAGE_SIZE → length page ≡ size → at ≡ PAGE_SIZE * number → Gives content at page
    → page ≡ disk_page content number
unfolding disk_page
read-page content number size at page full long is gives =
    bytes_from-list content.byte (PAGE_SIZE * number) PAGE_SIZE page (long ∙ full)
    (λ k lt. let below : k < length page = omega (arith, long, full) in gives.each k below ∙ ap (λ (i : ℕ). content.byte (i + k)) is)
