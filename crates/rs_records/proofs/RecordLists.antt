-- Lists of records in bytes: how many there are, which bytes one has, and how they are cut and joined.
use Rattle.std.proofs.Common.{◌≡◌, ℕ, zero, suc, ◌+◌, ◌-◌, ◌*◌, ◌<◌, ◌≤◌, Some, List, [], ◌∷◌, ◌++◌, length, take, drop, get_or, slice_get, map, Bool, refl, sym, ap, ◌∙◌, arith}
use Rattle.std.proofs.lemmas.List.{drop-drop, drop-take, take-take, take_all, take_at, drop_at, take-append-le, length-take, length-drop, length-map, take_rest, length-take-le, append_assoc}
use borrow.Rule.Slice.PartMut.{put_mid}
use lib.Seq.{paste}
use Rattle.rs_records.specs.Order.{is_below}
use Rattle.rs_records.specs.Records.{records}

pub length-records : (n w : ℕ) (bytes : List ℕ) → length (records n w bytes) ≡ n
unfolding records
length-records zero w bytes = refl
length-records (suc n) w bytes = ap suc (length-records n w (drop w bytes))

pub records_more : (n w : ℕ) (bytes : List ℕ) → records (suc n) w bytes ≡ take w bytes ∷ records n w (drop w bytes)
unfolding records
records_more n w bytes = refl

pub records_none : (w : ℕ) (bytes : List ℕ) → records zero w bytes ≡ []
unfolding records
records_none w bytes = refl

rest_after : (m w : ℕ) (bytes : List ℕ) → drop (m * w) (drop w bytes) ≡ drop (suc m * w) bytes
rest_after m w bytes = let e : w + m * w ≡ suc m * w = omega arith in drop-drop (m * w) w bytes ∙ ap (λ k. drop k bytes) e

pub records-append : (m n w : ℕ) (bytes : List ℕ) → records (m + n) w bytes ≡ records m w bytes ++ records n w (drop (m * w) bytes)
records-append zero n w bytes =
    let a : 0 + n ≡ n = omega arith in let b : 0 * w ≡ 0 = omega arith in rw (a, b, records_none) refl
records-append (suc m) n w bytes =
    let a : suc m + n ≡ suc (m + n) = omega arith in
    let b = records-append m n w (drop w bytes) in
    let c = rest_after m w bytes in
    ap (λ k. records k w bytes) a ∙ records_more (m + n) w bytes ∙ ap (λ xs. take w bytes ∷ xs) b
    ∙ ap (λ xs. (take w bytes ∷ records m w (drop w bytes)) ++ records n w xs) c
    ∙ ap (λ xs. xs ++ records n w (drop (suc m * w) bytes)) (sym (records_more m w bytes))

pub records-take : (n w k : ℕ) (bytes : List ℕ) → n * w ≤ k → records n w (take k bytes) ≡ records n w bytes
records-take zero w k bytes h = records_none w (take k bytes) ∙ sym (records_none w bytes)
records-take (suc n) w k bytes h =
    let enough : w ≤ k = omega arith in
    let rest : n * w ≤ k - w = omega arith in
    let whole : k ≡ w + (k - w) = omega arith in
    let first : take w (take k bytes) ≡ take w bytes = take-take w k bytes enough in
    let cut : drop w (take k bytes) ≡ take (k - w) (drop w bytes) = ap (λ i. drop w (take i bytes)) whole ∙ drop-take w (k - w) bytes in
    records_more n w (take k bytes) ∙ ap (λ xs. xs ∷ records n w (drop w (take k bytes))) first
    ∙ ap (λ xs. take w bytes ∷ xs) (ap (records n w) cut ∙ records-take n w (k - w) (drop w bytes) rest)
    ∙ sym (records_more n w bytes)

-- what comes after the records is nothing to them
pub records-front : (n w : ℕ) (xs ys : List ℕ) → n * w ≤ length xs → records n w (xs ++ ys) ≡ records n w xs
records-front n w xs ys h =
    sym (records-take n w (length xs) (xs ++ ys) h) ∙ ap (records n w) (take_at xs ys (length xs) refl)

pub records-at : (n w : ℕ) (bytes : List ℕ) (i : ℕ) → i < n → slice_get (records n w bytes) i ≡ Some (take w (drop (i * w) bytes))
records-at zero w bytes i h = absurd (omega arith)
records-at (suc n) w bytes zero h = let e : 0 * w ≡ 0 = omega arith in rw (records_more n w bytes, e) refl
records-at (suc n) w bytes (suc i) h =
    rw (records_more n w bytes) (records-at n w (drop w bytes) i (omega arith) ∙ ap (λ xs. Some (take w xs)) (rest_after i w bytes))

split_count : (n k : ℕ) → k ≤ n → n ≡ k + (n - k)
split_count n k h = omega arith

pub take-records : (k n w : ℕ) (bytes : List ℕ) → k ≤ n → take k (records n w bytes) ≡ records k w bytes
take-records k n w bytes h =
    ap (λ i. take k (records i w bytes)) (split_count n k h) ∙ ap (take k) (records-append k (n - k) w bytes)
    ∙ take_at (records k w bytes) (records (n - k) w (drop (k * w) bytes)) k (length-records k w bytes)

pub drop-records : (k n w : ℕ) (bytes : List ℕ) → k ≤ n → drop k (records n w bytes) ≡ records (n - k) w (drop (k * w) bytes)
drop-records k n w bytes h =
    ap (λ i. drop k (records i w bytes)) (split_count n k h) ∙ ap (drop k) (records-append k (n - k) w bytes)
    ∙ drop_at (records k w bytes) (records (n - k) w (drop (k * w) bytes)) k (length-records k w bytes)

-- records of which bytes are joined
pub records-join : (m n w : ℕ) (xs ys : List ℕ) → length xs ≡ m * w → records (m + n) w (xs ++ ys) ≡ records m w xs ++ records n w ys
records-join m n w xs ys h =
    let enough : m * w ≤ length xs = omega arith in
    records-append m n w (xs ++ ys) ∙ ap (λ rs. rs ++ records n w (drop (m * w) (xs ++ ys))) (records-front m w xs ys enough)
    ∙ ap (λ zs. records m w xs ++ records n w zs) (drop_at xs ys (m * w) h)

times_more : (n m q w : ℕ) → n ≡ m + q → n * w ≡ m * w + q * w
times_more n m q w e = let f : n * w ≡ (m + q) * w = ap (λ i. i * w) e in omega arith

pub times_upto : (m n w : ℕ) → m ≤ n → m * w ≤ n * w
times_upto m n w h = let e : n ≡ m + (n - m) = omega arith in let f = times_more n m (n - m) w e in omega arith

-- the bytes after a splice: those before, the added ones and those that follow
pub spliced_bytes : (old added : List ℕ) (s k n t : ℕ) → k ≡ length added → s + k ≤ length old
    → put_mid s k (paste old (s + k) (drop t old) n) added ≡ take s old ++ (added ++ (take n (drop t old) ++ drop (s + k + n) old))
spliced_bytes old added s k n t e h =
    let front : length (take (s + k) old) ≡ s + k = length-take-le (s + k) old h in
    let tail : List ℕ = take n (drop t old) ++ drop (s + k + n) old in
    let apart : paste old (s + k) (drop t old) n ≡ take (s + k) old ++ tail = append_assoc (take (s + k) old) (take n (drop t old)) (drop (s + k + n) old) in
    let below : s ≤ length (take (s + k) old) = omega arith in
    let first : take s (paste old (s + k) (drop t old) n) ≡ take s old =
    ap (take s) apart ∙ take-append-le s (take (s + k) old) tail below ∙ take-take s (s + k) old (omega arith) in
    let last : drop k (drop s (paste old (s + k) (drop t old) n)) ≡ tail =
    drop-drop k s (paste old (s + k) (drop t old) n) ∙ ap (drop (s + k)) apart ∙ drop_at (take (s + k) old) tail (s + k) front in
    ap (λ xs. xs ++ (added ++ drop k (drop s (paste old (s + k) (drop t old) n)))) first ∙ ap (λ xs. take s old ++ (added ++ xs)) last

-- the records of a part that ends with the last
tail_records : (n from q w k : ℕ) (old rest : List ℕ) → n ≡ from + q → n * w ≤ length old → k ≡ n * w - from * w
    → records q w (take k (drop (from * w) old) ++ rest) ≡ drop from (records n w old)
tail_records n from q w k old rest e fit size =
    let products = times_more n from q w e in
    let enough : q * w ≤ k = omega arith in
    let long : q * w ≤ length (take k (drop (from * w) old)) = omega (arith, length-take k (drop (from * w) old), length-drop (from * w) old) in
    let count : n - from ≡ q = omega arith in
    records-front q w (take k (drop (from * w) old)) rest long ∙ records-take q w k (drop (from * w) old) enough
    ∙ ap (λ i. records i w (drop (from * w) old)) (sym count) ∙ sym (drop-records from n w old (omega arith))

pub spliced_records : (w n at rem more k : ℕ) (old added rest : List ℕ) → at + rem ≤ n → n * w ≤ length old → length added ≡ more * w → k ≡ n * w - (at + rem) * w
    → records (n - rem + more) w (take (at * w) old ++ (added ++ (take k (drop ((at + rem) * w) old) ++ rest)))
    ≡ take at (records n w old) ++ (records more w added ++ drop (at + rem) (records n w old))
spliced_records w n at rem more k old added rest part fit whole size =
    let q : ℕ = n - (at + rem) in
    let count : n ≡ (at + rem) + q = omega arith in
    let all : n - rem + more ≡ at + (more + q) = omega arith in
    let below : at * w ≤ n * w = times_upto at n w (omega arith) in
    let front : length (take (at * w) old) ≡ at * w = length-take-le (at * w) old (omega arith) in
    let tail : List ℕ = take k (drop ((at + rem) * w) old) ++ rest in
    ap (λ i. records i w (take (at * w) old ++ (added ++ tail))) all
    ∙ records-join at (more + q) w (take (at * w) old) (added ++ tail) front
    ∙ ap (λ rs. rs ++ records (more + q) w (added ++ tail)) (records-take at w (at * w) old (omega arith) ∙ sym (take-records at n w old (omega arith)))
    ∙ ap (λ rs. take at (records n w old) ++ rs) (records-join more q w added tail whole)
    ∙ ap (λ rs. take at (records n w old) ++ (records more w added ++ rs)) (tail_records n (at + rem) q w k old rest count fit size)

-- the records that were copied to the beginning of other bytes
pub copied_records : (w n at k : ℕ) (old rest : List ℕ) → at ≤ n → n * w ≤ length old → k ≡ n * w - at * w
    → records (n - at) w (take k (drop (at * w) old) ++ rest) ≡ drop at (records n w old)
copied_records w n at k old rest part fit size = tail_records n at (n - at) w k old rest (omega arith) fit size

-- one more record
pub records-push : (n w : ℕ) (bytes added : List ℕ) → length bytes ≡ n * w → length added ≡ w → records (n + 1) w (bytes ++ added) ≡ records n w bytes ++ added ∷ []
records-push n w bytes added h e =
    records-join n 1 w bytes added h ∙ ap (λ rs. records n w bytes ++ rs) (records_more 0 w added
    ∙ ap (λ x. x ∷ records 0 w (drop w added)) (take_all w added (omega arith)) ∙ ap (λ rs. added ∷ rs) (records_none w (drop w added)))

-- what the key of one record is
pub key_at : (from : ℕ) (rs : List (List ℕ)) (i : ℕ) (one : List ℕ) → slice_get rs i ≡ Some one → get_or (map (drop from) rs) i [] ≡ drop from one
key_at from [] i one e = cc
key_at from (r ∷ rs) zero one e = let same : r ≡ one = cc in ap (drop from) same
key_at from (r ∷ rs) (suc i) one e = key_at from rs i one e

-- the same, where the key is cut off by its length
pub key_found : (from : ℕ) (rs : List (List ℕ)) (i : ℕ) (one key : List ℕ) (b : Bool) → slice_get rs i ≡ Some one
    → b ≡ is_below (take (length one - from) (drop from one)) key → is_below (get_or (map (drop from) rs) i []) key ≡ b
key_found from rs i one key b e h =
    ap (λ k. is_below k key) (key_at from rs i one e ∙ sym (take_rest one from)) ∙ sym h

pub length-keys : (from n w : ℕ) (bytes : List ℕ) → length (map (drop from) (records n w bytes)) ≡ n
length-keys from n w bytes = length-map (records n w bytes) (drop from) ∙ length-records n w bytes

-- the records after a splice by two copies
pub spliced : (w n at rem more : ℕ) (old added moved put : List ℕ) (k : ℕ) → at + rem ≤ n → n * w ≤ length old → (n - rem) * w + length added ≤ length old
    → length added ≡ more * w → k ≡ length added
    → moved ≡ paste old (at * w + length added) (drop ((at + rem) * w) old) (n * w - (at + rem) * w) → put ≡ added
    → records (n - rem + more) w (put_mid (at * w) k moved put)
    ≡ take at (records n w old) ++ (records more w added ++ drop (at + rem) (records n w old))
spliced w n at rem more old added moved put k part fit room whole size is_moved is_put =
    let below = times_upto at (n - rem) w (omega arith) in
    let start : ℕ = at * w in
    let count : ℕ = n * w - (at + rem) * w in
    let shift : start + length added ≡ start + k = omega arith in
    let bytes : put_mid start k moved put ≡ take start old ++ (added ++ (take count (drop ((at + rem) * w) old) ++ drop (start + k + count) old)) =
    ap (put_mid start k moved) is_put ∙ ap (λ xs. put_mid start k xs added) (is_moved ∙ ap (λ i. paste old i (drop ((at + rem) * w) old) count) shift)
    ∙ spliced_bytes old added start k count ((at + rem) * w) size (omega arith) in
    ap (records (n - rem + more) w) bytes
    ∙ spliced_records w n at rem more count old added (drop (start + k + count) old) part fit whole refl
