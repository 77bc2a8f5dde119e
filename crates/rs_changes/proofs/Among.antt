-- One element that comes to others or goes from them, and what goes along with it.
use Rattle.std.proofs.Common.{◌≡◌, ◌≤◌, ℕ, zero, suc, Some, List, [], ◌∷◌, ◌++◌, length, set, slice_get, refl, sym, ap, ◌∙◌, arith}
use Rattle.std.specs.List.{AllByRecursion, AllZip, insert, remove}

pub insert_between : {X : Type 0} (before after : List X) (place : ℕ) (x : X) → length before ≡ place → insert (before ++ after) place x ≡ before ++ x ∷ after
insert_between [] after zero x long = refl
insert_between [] after (suc p) x long = absurd (omega arith)
insert_between (b ∷ bs) after zero x long = absurd (omega arith)
insert_between (b ∷ bs) after (suc p) x long = ap (λ zs. b ∷ zs) (insert_between bs after p x (omega arith))

pub remove_between : {X : Type 0} (before after : List X) (place : ℕ) (x : X) → length before ≡ place → remove (before ++ x ∷ after) place ≡ before ++ after
remove_between [] after zero x long = refl
remove_between [] after (suc p) x long = absurd (omega arith)
remove_between (b ∷ bs) after zero x long = absurd (omega arith)
remove_between (b ∷ bs) after (suc p) x long = ap (λ zs. b ∷ zs) (remove_between bs after p x (omega arith))

pub set_between : {X : Type 0} (before after : List X) (place : ℕ) (x y : X) → length before ≡ place → set (before ++ x ∷ after) place y ≡ before ++ y ∷ after
set_between [] after zero x y long = refl
set_between [] after (suc p) x y long = absurd (omega arith)
set_between (b ∷ bs) after zero x y long = absurd (omega arith)
set_between (b ∷ bs) after (suc p) x y long = ap (λ zs. b ∷ zs) (set_between bs after p x y (omega arith))

-- a list up to a place and from there on
pub record Parted {X : Type 0} (xs : List X) (place : ℕ) : Type 0 where
  pub before : List X
  pub after : List X
  pub long : length before ≡ place
  pub are : xs ≡ before ++ after

pub parted : {X : Type 0} (xs : List X) (place : ℕ) → place ≤ length xs → Parted xs place
parted xs zero inside = record { before = []; after = xs; long = refl; are = refl }
parted [] (suc p) inside = absurd (omega arith)
parted (x ∷ xs) (suc p) inside =
    let rest : Parted xs p = parted xs p (omega arith) in
    record { before = x ∷ rest.before; after = rest.after; long = ap suc rest.long; are = ap (λ zs. x ∷ zs) rest.are }

-- what goes along with the first ones and with the last ones
pub record Apart {X Y : Type 0} (R : X → Y → Type 0) (before after : List X) (ys : List Y) : Type 0 where
  pub first : List Y
  pub last : List Y
  pub are : ys ≡ first ++ last
  pub long : length first ≡ length before
  pub firsts : AllZip R before first
  pub lasts : AllZip R after last

pub apart : {X Y : Type 0} (R : X → Y → Type 0) (before after : List X) (ys : List Y) → AllZip R (before ++ after) ys → Apart R before after ys
apart R [] after ys all = record { first = []; last = ys; are = refl; long = refl; firsts = tt; lasts = all }
apart R (b ∷ bs) after [] all = absurd all
apart R (b ∷ bs) after (y ∷ ys) all =
    let rest = apart R bs after ys all.1 in
    record { first = y ∷ rest.first; last = rest.last; are = ap (λ zs. y ∷ zs) rest.are; long = ap suc rest.long; firsts = (all.0, rest.firsts); lasts = rest.lasts }

pub joined : {X Y : Type 0} (R : X → Y → Type 0) (before after : List X) (first last : List Y) → AllZip R before first → AllZip R after last
    → AllZip R (before ++ after) (first ++ last)
joined R [] after [] last firsts lasts = lasts
joined R [] after (f ∷ fs) last firsts lasts = absurd firsts
joined R (b ∷ bs) after [] last firsts lasts = absurd firsts
joined R (b ∷ bs) after (f ∷ fs) last firsts lasts = (firsts.0, joined R bs after fs last firsts.1 lasts)

pub all_between : {X : Type 0} (P : X → Type 0) (before : List X) (x : X) (after : List X) → AllByRecursion P (before ++ after) → P x → AllByRecursion P (before ++ x ∷ after)
all_between P [] x after all one = (one, all)
all_between P (b ∷ bs) x after all one = (all.0, all_between P bs x after all.1 one)

pub all_beside : {X : Type 0} (P : X → Type 0) (before : List X) (x : X) (after : List X) → AllByRecursion P (before ++ x ∷ after) → AllByRecursion P (before ++ after)
all_beside P [] x after all = all.1
all_beside P (b ∷ bs) x after all = (all.0, all_beside P bs x after all.1)

pub all_first : {X : Type 0} (P : X → Type 0) (before after : List X) → AllByRecursion P (before ++ after) → AllByRecursion P before
all_first P [] after all = tt
all_first P (b ∷ bs) after all = (all.0, all_first P bs after all.1)

pub all_last : {X : Type 0} (P : X → Type 0) (before after : List X) → AllByRecursion P (before ++ after) → AllByRecursion P after
all_last P [] after all = all
all_last P (b ∷ bs) after all = all_last P bs after all.1

-- a relation that holds only where something is so of the left side
pub each_where : {X Y : Type 0} (P : X → Type 0) (R S : X → Y → Type 0) → ((x : X) (y : Y) → P x → R x y → S x y) → (xs : List X) (ys : List Y)
    → AllByRecursion P xs → AllZip R xs ys → AllZip S xs ys
each_where P R S then [] [] all zip = tt
each_where P R S then [] (y ∷ ys) all zip = absurd zip
each_where P R S then (x ∷ xs) [] all zip = absurd zip
each_where P R S then (x ∷ xs) (y ∷ ys) all zip = (then x y all.0 zip.0, each_where P R S then xs ys all.1 zip.1)

pub zip_lengths : {X Y : Type 0} (R : X → Y → Type 0) (xs : List X) (ys : List Y) → AllZip R xs ys → length xs ≡ length ys
zip_lengths R [] [] all = refl
zip_lengths R [] (y ∷ ys) all = absurd all
zip_lengths R (x ∷ xs) [] all = absurd all
zip_lengths R (x ∷ xs) (y ∷ ys) all = ap suc (zip_lengths R xs ys all.1)

pub get_between : {X : Type 0} (before after : List X) (place : ℕ) (x : X) → length before ≡ place → slice_get (before ++ x ∷ after) place ≡ Some x
get_between [] after zero x long = refl
get_between [] after (suc p) x long = absurd (omega arith)
get_between (b ∷ bs) after zero x long = absurd (omega arith)
get_between (b ∷ bs) after (suc p) x long = get_between bs after p x (omega arith)

-- the same from the right
pub record ApartBack {X Y : Type 0} (R : X → Y → Type 0) (xs : List X) (before after : List Y) : Type 0 where
  pub first : List X
  pub last : List X
  pub are : xs ≡ first ++ last
  pub long : length first ≡ length before
  pub firsts : AllZip R first before
  pub lasts : AllZip R last after

pub apart_back : {X Y : Type 0} (R : X → Y → Type 0) (xs : List X) (before after : List Y) → AllZip R xs (before ++ after) → ApartBack R xs before after
apart_back R xs [] after all = record { first = []; last = xs; are = refl; long = refl; firsts = tt; lasts = all }
apart_back R [] (b ∷ bs) after all = absurd all
apart_back R (x ∷ xs) (b ∷ bs) after all =
    let rest = apart_back R xs bs after all.1 in
    record { first = x ∷ rest.first; last = rest.last; are = ap (λ zs. x ∷ zs) rest.are; long = ap suc rest.long; firsts = (all.0, rest.firsts); lasts = rest.lasts }

pub record BesideBack {X Y : Type 0} (R : X → Y → Type 0) (xs : List X) (before : List Y) (y : Y) (after : List Y) : Type 0 where
  pub first : List X
  pub one : X
  pub last : List X
  pub are : xs ≡ first ++ one ∷ last
  pub long : length first ≡ length before
  pub firsts : AllZip R first before
  pub goes : R one y
  pub lasts : AllZip R last after

pub beside_back : {X Y : Type 0} (R : X → Y → Type 0) (xs : List X) (before : List Y) (y : Y) (after : List Y) → AllZip R xs (before ++ y ∷ after) → BesideBack R xs before y after
beside_back R [] [] y after all = absurd all
beside_back R (x ∷ xs) [] y after all = record { first = []; one = x; last = xs; are = refl; long = refl; firsts = tt; goes = all.0; lasts = all.1 }
beside_back R [] (b ∷ bs) y after all = absurd all
beside_back R (x ∷ xs) (b ∷ bs) y after all =
    let rest = beside_back R xs bs y after all.1 in
    record { first = x ∷ rest.first; one = rest.one; last = rest.last; are = ap (λ zs. x ∷ zs) rest.are; long = ap suc rest.long; firsts = (all.0, rest.firsts); goes = rest.goes; lasts = rest.lasts }

-- what was put is taken out again, and what was taken out is put back
pub removed_again : {X : Type 0} (xs : List X) (place : ℕ) (x : X) → place ≤ length xs → remove (insert xs place x) place ≡ xs
removed_again xs place x inside =
    let p = parted xs place inside in
    ap (λ zs. remove (insert zs place x) place) p.are ∙ ap (λ zs. remove zs place) (insert_between p.before p.after place x p.long) ∙ remove_between p.before p.after place x p.long ∙ sym p.are
