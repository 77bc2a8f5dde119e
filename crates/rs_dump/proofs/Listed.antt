-- What is listed in the order of names, one after another.
use Rattle.std.proofs.Common.{◌≡◌, ◌∙◌, List, [], ◌∷◌, ◌++◌, ap, append_assoc, map, sym}
use Rattle.std.proofs.lemmas.List.{map-append}
use Rattle.arrayvec.specs.ArrayString.{ArrayString}
use Rattle.rs_catalog.specs.Names.{entries_by_bytes}
use Rattle.rs_facts.specs.Fact.{Name}

pub listed_more : {K X Y : Type 0} (seen : K → Y) (named : Name × X → Y) (keys : List K) (key : K) (left rest : List (ArrayString × X)) (name : ArrayString) (item : X)
    → left ≡ (name, item) ∷ rest → seen key ≡ named (name.bytes, item)
    → map seen (keys ++ key ∷ []) ++ map named (entries_by_bytes (λ x. x) rest) ≡ map seen keys ++ map named (entries_by_bytes (λ x. x) left)
listed_more seen named keys key left rest name item next same =
    let more = map named (entries_by_bytes (λ x. x) rest) in
    ap (λ l. l ++ more) (map-append seen keys (key ∷ []))
    ∙ append_assoc (map seen keys) (seen key ∷ []) more
    ∙ ap (λ y. map seen keys ++ y ∷ more) same
    ∙ ap (λ l. map seen keys ++ map named (entries_by_bytes (λ x. x) l)) (sym next)
