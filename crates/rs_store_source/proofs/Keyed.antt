-- The keys of tables, one after another.
use Rattle.std.proofs.Common.{◌≡◌, ◌++◌, ◌∙◌, List, [], ◌∷◌, ap, map, sym}
use Rattle.std.proofs.lemmas.List.{append_assoc}
use Rattle.arrayvec.specs.ArrayString.{ArrayString}
use Rattle.rs_catalog.specs.Definitions.{TableItem}
use Rattle.rs_catalog.specs.Names.{entries_by_bytes}
use Rattle.rs_facts.specs.Fact.{Name}
use Rattle.rs_store_source.specs.Routes.{key_of}
use Rattle.rs_store_source.specs.declared.routes.TableKey.{TableKey}

abbrev pub key_listed : Name × TableItem → TableKey
key_listed entry = key_of entry.1

pub keys_more : (keys : List TableKey) (key : TableKey) (left : List (ArrayString × TableItem)) (name : ArrayString) (item : TableItem) (rest : List (ArrayString × TableItem))
    → left ≡ (name, item) ∷ rest → key ≡ key_of item
    → (keys ++ (key ∷ [])) ++ map key_listed (entries_by_bytes (λ table. table) rest) ≡ keys ++ map key_listed (entries_by_bytes (λ table. table) left)
keys_more keys key left name item rest next same =
    let more = map key_listed (entries_by_bytes (λ table. table) rest) in
    append_assoc keys (key ∷ []) more
    ∙ ap (λ (k : TableKey). keys ++ (k ∷ more)) same
    ∙ ap (λ l. keys ++ map key_listed (entries_by_bytes (λ table. table) l)) (sym next)
