-- What is found among the referents of a route after a put and after a removal.
use Rattle.std.proofs.Common.{◌≡◌, ℕ, true, false, cond, not, List, [], ◌∷◌, filter, Some, None, refl, sym, ap, ◌∙◌, subst}
use Rattle.std.specs.declared.cmp.Ordering.TheVariants.{Less, Equal, Greater}
use Rattle.std.specs.Ordering.{nat_cmp}
use Rattle.std.specs.Cmp.Lexicographic.{slice_cmp}
use Rattle.std.specs.Str.{bytes_eq}
use Rattle.std.specs.FinMap.{put, nat_cmp-IsAntisymmetric, slice_cmp-IsAntisymmetric}
use Rattle.std.specs.FinMap.Entries.{by_order}
use Rattle.std.proofs.lemmas.Cmp.{nat_list_cmp_total, tied_itself}
use Rattle.std.proofs.lemmas.Slice.Eq.{bytes_eq-Decides}
use Rattle.rs_methods.specs.Position.{measure_of}

itself : (name : List ℕ) → bytes_eq name name ≡ true
itself name = (bytes_eq-Decides name name).1 refl

tied_name : (name other : List ℕ) → slice_cmp nat_cmp name other ≡ Equal → other ≡ name
tied_name name other tied = sym (slice_cmp-IsAntisymmetric nat_cmp-IsAntisymmetric name other tied)

-- a name after which the put goes on is another
passed_name : (name other : List ℕ) → slice_cmp nat_cmp name other ≡ Greater → bytes_eq other name ≡ false
passed_name name other above =
    elim (bytes_eq other name) as (λ b. bytes_eq other name ≡ b → b ≡ false) [
      | true ↦ λ same.
          let tied : slice_cmp nat_cmp name other ≡ Equal = subst (λ n. slice_cmp nat_cmp name n ≡ Equal) (sym ((bytes_eq-Decides other name).0 same)) (tied_itself nat_list_cmp_total name) in cc
      | false ↦ λ same. refl
    ] refl

pub put_found : (name : List ℕ) (measure : ℕ) (referents : List (List ℕ × ℕ)) → measure_of name (put (slice_cmp nat_cmp) name measure referents) ≡ Some measure
put_found name measure [] = ap (λ b. cond b (Some measure) None) (itself name)
put_found name measure (r ∷ rs) =
    elim (slice_cmp nat_cmp name r.0) as (λ o. slice_cmp nat_cmp name r.0 ≡ o → measure_of name (by_order o ((name, measure) ∷ r ∷ rs) ((r.0, measure) ∷ rs) (r ∷ put (slice_cmp nat_cmp) name measure rs)) ≡ Some measure) [
      | Less ↦ λ is. ap (λ b. cond b (Some measure) (measure_of name (r ∷ rs))) (itself name)
      | Equal ↦ λ is. ap (λ b. cond b (Some measure) (measure_of name rs)) ((bytes_eq-Decides r.0 name).1 (tied_name name r.0 is))
      | Greater ↦ λ is. ap (λ b. cond b (Some r.1) (measure_of name (put (slice_cmp nat_cmp) name measure rs))) (passed_name name r.0 is) ∙ put_found name measure rs
    ] refl

pub put_found_other : (name other : List ℕ) (measure : ℕ) (referents : List (List ℕ × ℕ)) → bytes_eq name other ≡ false → measure_of other (put (slice_cmp nat_cmp) name measure referents) ≡ measure_of other referents
put_found_other name other measure [] apart = ap (λ b. cond b (Some measure) None) apart
put_found_other name other measure (r ∷ rs) apart =
    elim (slice_cmp nat_cmp name r.0) as (λ o. slice_cmp nat_cmp name r.0 ≡ o → measure_of other (by_order o ((name, measure) ∷ r ∷ rs) ((r.0, measure) ∷ rs) (r ∷ put (slice_cmp nat_cmp) name measure rs)) ≡ measure_of other (r ∷ rs)) [
      | Less ↦ λ is. ap (λ b. cond b (Some measure) (measure_of other (r ∷ rs))) apart
      | Equal ↦ λ is.
          let differs : bytes_eq r.0 other ≡ false = subst (λ n. bytes_eq n other ≡ false) (sym (tied_name name r.0 is)) apart in
          ap (λ b. cond b (Some measure) (measure_of other rs)) differs ∙ sym (ap (λ b. cond b (Some r.1) (measure_of other rs)) differs)
      | Greater ↦ λ is. ap (λ l. cond (bytes_eq r.0 other) (Some r.1) l) (put_found_other name other measure rs apart)
    ] refl

pub removed_missing : (name : List ℕ) (referents : List (List ℕ × ℕ)) → measure_of name (filter (λ r. not (bytes_eq r.0 name)) referents) ≡ None
removed_missing name [] = refl
removed_missing name (r ∷ rs) =
    elim (bytes_eq r.0 name) as (λ b. bytes_eq r.0 name ≡ b → measure_of name (cond (not b) (r ∷ filter (λ r. not (bytes_eq r.0 name)) rs) (filter (λ r. not (bytes_eq r.0 name)) rs)) ≡ None) [
      | true ↦ λ same. removed_missing name rs
      | false ↦ λ differs. ap (λ b. cond b (Some r.1) (measure_of name (filter (λ r. not (bytes_eq r.0 name)) rs))) differs ∙ removed_missing name rs
    ] refl

pub removed_found_other : (name other : List ℕ) (referents : List (List ℕ × ℕ)) → bytes_eq name other ≡ false → measure_of other (filter (λ r. not (bytes_eq r.0 name)) referents) ≡ measure_of other referents
removed_found_other name other [] apart = refl
removed_found_other name other (r ∷ rs) apart =
    elim (bytes_eq r.0 name) as (λ b. bytes_eq r.0 name ≡ b → measure_of other (cond (not b) (r ∷ filter (λ r. not (bytes_eq r.0 name)) rs) (filter (λ r. not (bytes_eq r.0 name)) rs)) ≡ measure_of other (r ∷ rs)) [
      | true ↦ λ same.
          let differs : bytes_eq r.0 other ≡ false = subst (λ n. bytes_eq n other ≡ false) (sym ((bytes_eq-Decides r.0 name).0 same)) apart in
          removed_found_other name other rs apart ∙ sym (ap (λ b. cond b (Some r.1) (measure_of other rs)) differs)
      | false ↦ λ differs. ap (λ l. cond (bytes_eq r.0 other) (Some r.1) l) (removed_found_other name other rs apart)
    ] refl
