-- The rows of the file of names, one after another.
use Rattle.std.proofs.Common.{◌≡◌, ◌∙◌, ℕ, ◌+◌, ◌<◌, List, [], ◌∷◌, ◌++◌, Option, refl, sym, ap, subst, append_assoc, append-nil, take, get_or, length}
use Rattle.std.specs.Prelude.{Vec, flat_map}
use Rattle.std.specs.FinMap as names
use Rattle.std.specs.Io.KnownBytes.{Appends}
use Rattle.std.specs.declared.alloc.Global.{Global}
use Rattle.std.proofs.KnownBytes.{Appends-nil, Appends-trans}
use Rattle.std.proofs.lemmas.List.{take_more}
use Rattle.rs_facts.specs.Fact.{Name, Names}
use Rattle.rs_csv.specs.NamesFile.{AreColumnRows, IsColumnRow, route_row, route_rows}
use Rattle.rs_csv.proofs.Holding.{flat_push}

-- the row of a column more
column_more : (fields : List (List ℕ)) (field rows row : List ℕ) → AreColumnRows fields rows → IsColumnRow field row → AreColumnRows (fields ++ field ∷ []) (rows ++ row)
column_more [] field rows row none is = (row, [], is, refl, ap (λ bs. bs ++ row) none ∙ sym (append-nil row))
column_more (first ∷ fields) field rows row are is = (are.0, are.1 ++ row, are.2, column_more fields field are.1 row are.3 is, ap (λ bs. bs ++ row) are.4 ∙ append_assoc are.0 are.1 row)

-- rows that grew by those of columns
abbrev pub GrewBy : List ℕ → List (List ℕ) → List ℕ → Type 0
GrewBy begun fields rows = (more : List ℕ) × AreColumnRows fields more × (rows ≡ begun ++ more)

pub none_grew : (begun : List ℕ) → GrewBy begun [] begun
none_grew begun = ([], refl, sym (append-nil begun))

pub columns_more : (begun old now : List ℕ) (fields : List (List ℕ)) (i : ℕ) (field : List ℕ) → i < length fields → field ≡ get_or fields i field → GrewBy begun (take i fields) old
    → (row : List ℕ) × IsColumnRow field row × (now ≡ old ++ row) → GrewBy begun (take (i + 1) fields) now
columns_more begun old now fields i field less is were one =
    let more : take (i + 1) fields ≡ take i fields ++ field ∷ [] = take_more fields i field less ∙ ap (λ f. take i fields ++ f ∷ []) (sym is) in
    subst (λ some. GrewBy begun some now) (sym more)
    (were.0 ++ one.0, column_more (take i fields) field were.0 one.0 were.1 one.1, one.2 ∙ ap (λ bs. bs ++ one.0) were.2 ∙ append_assoc begun were.0 one.0)

-- ---- those of routes

-- the rows of the first entries were put, and the others are still to come
abbrev pub ArePut : (all rest : List (Name × Vec ℕ Global)) → (before after : Option (List ℕ)) → Type 0
ArePut all rest before after = (done : List (Name × Vec ℕ Global)) × (all ≡ done ++ rest) × Appends before after (flat_map route_row done)

pub put_start : (all : List (Name × Vec ℕ Global)) (before : Option (List ℕ)) → ArePut all all before before
put_start all before = ([], refl, Appends-nil before)

pub put_next : (all here rest : List (Name × Vec ℕ Global)) (entry : Name × Vec ℕ Global) (before after now : Option (List ℕ)) → here ≡ entry ∷ rest → ArePut all here before after → Appends after now (route_row entry)
    → ArePut all rest before now
put_next all here rest entry before after now is put puts = (
  put.0 ++ entry ∷ [],
  put.1 ∙ ap (λ es. put.0 ++ es) is ∙ sym (append_assoc put.0 (entry ∷ []) rest),
  subst (Appends before now) (sym (flat_push route_row put.0 entry)) (Appends-trans before after now (flat_map route_row put.0) (route_row entry) put.2 puts),
)

pub put_all : (texts : Names (Vec ℕ Global)) (all rest : List (Name × Vec ℕ Global)) (before after : Option (List ℕ)) → all ≡ names.entries texts → rest ≡ [] → ArePut all rest before after → Appends before after (route_rows texts)
put_all texts all rest before after are end put =
    subst (λ entries. Appends before after (flat_map route_row entries)) (sym (put.1 ∙ ap (λ es. put.0 ++ es) end ∙ append-nil put.0) ∙ are) put.2
