-- The texts of which names are made.
use Rattle.std.specs.Prelude.{◌≡◌, ℕ, List, Option, Some, Vec, option_map, true}
use Rattle.std.specs.FinMap as names
use Rattle.std.specs.declared.alloc.Global.{Global}
use Rattle.csv.specs.Records.{field_at}
use Rattle.rs_facts.specs.Fact.{Names}
use Rattle.rs_csv_lines.specs.declared.plan.Plan.{Plan}
use Rattle.rs_csv_lines.specs.Fields.{content}
use Rattle.rs_csv_lines.specs.Names.{trimmed}

-- the text of which a name is made, where one is known
abbrev pub text_of_name : Names (Vec ℕ Global) → List ℕ → Option (List ℕ)
text_of_name texts name = option_map (λ text. text.items) (names.get texts name)

-- what was known is known
abbrev pub KeepsTexts : (List ℕ → Option (List ℕ)) → (List ℕ → Option (List ℕ)) → Type 0
KeepsTexts old new = (name text : List ℕ) → old name ≡ Some text → new name ≡ Some text

-- where names are made, this name of a route is made of the text of this record's route, and by these texts of no other
abbrev pub IsOneText : Plan → (List ℕ → Option (List ℕ)) → List (List ℕ) → List ℕ → Type 0
IsOneText plan texts fields name = plan.makes_names ≡ true → (field : List ℕ) × (field_at fields plan.route ≡ Some field) × (texts name ≡ Some (trimmed (content field)))

-- the text is that of the field at a place of a record
abbrev pub IsTextAt : List (List ℕ) → ℕ → List ℕ → Type 0
IsTextAt fields place text = (field : List ℕ) → field_at fields place ≡ Some field → text ≡ trimmed (content field)
