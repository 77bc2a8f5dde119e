-- What is written for a CSV: lines of one session, each of which says what it is written for.
use Rattle.std.specs.Prelude.{◌≡◌, ◌⊎◌, ℕ, ◌+◌, ◌<◌, List, [], ◌∷◌, ◌++◌, length, map, Option, Some, None, IfSome, Result, MatchResult, Bool, true, false, codes, string_bytes}
use Rattle.std.specs.List.{concat}
use Rattle.std.specs.Io.KnownBytes.{Appends, Consumes, IsAtEnd, Keeps}
use Rattle.csv.specs.Reading.{strip_bom}
use Rattle.csv.specs.Records.{fields_of}
use Rattle.rs_facts.specs.Fact.{Names}
use Rattle.rs_value.specs.declared.column.Kind.{Kind}
use Rattle.rs_value.specs.declared.column.ColumnType.{ColumnType}
use Rattle.rs_syntax.specs.Sound.{IsName, IsSound}
use Rattle.rs_syntax.specs.Tree.{CommandTree, define_table}
use Rattle.rs_syntax.specs.View.{column_tree}
use Rattle.rs_machine.specs.Request.{Asks, command}
use Rattle.rs_csv_lines.specs.declared.plan.Plan.{Plan}
use Rattle.rs_csv_lines.specs.declared.plan.Scale.{Scale}
use Rattle.rs_csv_lines.specs.Inserts.{IsInsertOf}
use Rattle.rs_csv_lines.specs.Texts.{session_text}
use Rattle.rs_csv.specs.Header.{AreColumnsOf, AreScales, IsNamed, IsPlaceNamed}
use Rattle.rs_csv.specs.Cutting.{IsBatchOf, IsCut, kept, kept_of}
use Rattle.rs_csv.specs.Reading.{AreReadOf}
use Rattle.rs_csv.specs.Routes.{DefineRoutes, HaveMet, IsMet, MeetsMore, Placed}
use Rattle.rs_csv.specs.declared.batch.Batch.{Batch}
use Rattle.rs_csv.specs.declared.definition.Definition.{Definition}
use Rattle.rs_csv.specs.declared.progress.Planned.{Planned}
use Rattle.rs_csv.specs.declared.progress.Progress.{Progress}
use Rattle.rs_csv.specs.declared.filter.Stop.{Stop}
use Rattle.rs_csv.specs.declared.filter.Wanted.{Wanted}
use Rattle.rs_csv.specs.declared.made.Made.{Made}
use Rattle.rs_csv.specs.declared.routes.Extent.{Extent}
use Rattle.rs_csv.specs.Texts.{IsOneText, text_of_name}

-- the command that a definition is
abbrev pub table_of : Definition → CommandTree
table_of definition = define_table definition.kind definition.name.bytes (map column_tree definition.columns.items)

-- its line asks it
pub record IsDefinition (session : ℕ) (definition : Definition) : Type 0 where
  pub asks : Asks (string_bytes definition.line) (command session (table_of definition))
  pub sound : IsSound (table_of definition)

-- the words that are wanted ask it, as a line of the session
abbrev pub IsAsked : Wanted → CommandTree → Type 0
IsAsked wanted table = Asks (session_text wanted.session ++ codes " " ++ wanted.define.now) (command wanted.session table)

-- What a job is: what is to be made, and the table that its words define.
pub record JobParts : Type 0 where
  pub wanted : Wanted
  pub definition : Definition

-- The lines are of a session that there is, the table is defined by a line of that session, and these are the scales of its columns.
pub record IsJob (wanted : Wanted) (definition : Definition) (scales : List Scale) : Type 0 where
  pub in_range : wanted.session < 64
  pub defines : IsDefinition wanted.session definition
  pub scaled : AreScales wanted definition.columns.items scales

-- The plan is of this table: its name, and its columns in their order. Each field that it takes has in the header the name that is wanted.
pub record IsPlanOf (wanted : Wanted) (table : CommandTree) (header : List (List ℕ)) (plan : Plan) : Type 0 where
  pub kind : Kind
  pub definitions : List (List ℕ × ColumnType)
  pub table_is : table ≡ define_table kind plan.table.bytes definitions
  pub columns : AreColumnsOf wanted header definitions plan.columns.items
  pub route : IsNamed wanted.makes_names header wanted.route.now plan.route
  pub place : IsPlaceNamed wanted header kind plan.place
  pub named : IsName plan.table.bytes
  pub some : 0 < length plan.columns.items
  pub session_is : plan.session ≡ wanted.session
  pub rounds_is : plan.measures.rounds ≡ wanted.rounds
  pub stations_is : plan.measures.stations ≡ wanted.stations
  pub names_is : plan.makes_names ≡ wanted.makes_names
  pub in_range : wanted.session < 64

-- What is known of records: whether something was told, and the text of which each name is made.
pub record Known : Type 0 where
  pub told : Bool
  pub texts : List ℕ → Option (List ℕ)

-- Lines of the session, each with its LF, over records in their order, which are counted on from so many: each record has its INSERT, by its
-- number, where names are made by a route whose name is made of one text alone, or is left out where something is told. So are those that are
-- too long to be read, which are counted too. Among these are lines that define the table. The events are those of the INSERTs.
pub data AreLines (session : ℕ) (table : CommandTree) (plan : Plan) (known : Known) (before : ℕ) : List (List (List ℕ)) → List Placed → List ℕ → ℕ → Type 0 where
  nothing : AreLines session table plan known before [] [] [] before
  definition_line : {records : List (List (List ℕ))} {events : List Placed} {bytes : List ℕ} {number : ℕ} (line : List ℕ) → AreLines session table plan known before records events bytes number → Asks line (command session table)
      → AreLines session table plan known before records events (bytes ++ line ++ 10 ∷ []) number
  insert_line : {records : List (List (List ℕ))} {events : List Placed} {bytes : List ℕ} {number : ℕ} (fields : List (List ℕ)) (line : List ℕ) (tree : CommandTree) → AreLines session table plan known before records events bytes number
      → (inserts : IsInsertOf plan (number + 1) fields tree) → IsOneText plan known.texts fields inserts.route → Asks line (command session tree)
      → AreLines session table plan known before (records ++ fields ∷ []) (events ++ (inserts.route, inserts.place) ∷ []) (bytes ++ line ++ 10 ∷ []) (number + 1)
  left_out : {records : List (List (List ℕ))} {events : List Placed} {bytes : List ℕ} {number : ℕ} (fields : List (List ℕ)) → AreLines session table plan known before records events bytes number → known.told ≡ true
      → AreLines session table plan known before (records ++ fields ∷ []) events bytes (number + 1)
  too_long : {records : List (List (List ℕ))} {events : List Placed} {bytes : List ℕ} {number : ℕ} (more : ℕ) → AreLines session table plan known before records events bytes number → known.told ≡ true
      → AreLines session table plan known before records events bytes (number + more)

-- Such lines, which are all counted from 1. Before them are those of the routes of their INSERTs where these are wanted, and no others.
pub record AreRouted (wanted : Wanted) (table : CommandTree) (plan : Plan) (known : Known) (records : List (List (List ℕ))) (bytes : List ℕ) (last : ℕ) : Type 0 where
  pub events : List Placed
  pub routes : List ℕ
  pub others : List ℕ
  pub whole : bytes ≡ routes ++ others
  pub defined : wanted.defines_routes ≡ true → DefineRoutes wanted.session (IsMet events) routes
  pub none_defined : wanted.defines_routes ≡ false → routes ≡ []
  pub lines : AreLines wanted.session table plan known 0 records events others last

-- What is written for these records: by the header, which is the first, the lines of those after it, and nothing but definitions where there is none.
abbrev pub IsOutput : Wanted → CommandTree → Known → List (List (List ℕ)) → List ℕ → Type 0
IsOutput wanted table known [] bytes = (plan : Plan) → AreRouted wanted table plan known [] bytes 0
IsOutput wanted table known (header ∷ records) bytes = (plan : Plan) × (last : ℕ) × IsPlanOf wanted table header plan × AreRouted wanted table plan known records bytes last

-- as long as nothing is told, nothing was, and the errors stream is as it was
abbrev pub IsQuiet : Bool → Bool → Option (List ℕ) → Option (List ℕ) → Type 0
IsQuiet told told_now before after = told_now ≡ false → (told ≡ false) × Keeps before after

-- ---- what was read and made so far

-- what is known by what was made
abbrev pub known_of : Made → Known
known_of made = record { told = made.has_told; texts = text_of_name made.texts }

-- Bytes that grew by the lines of records, which are counted on from one number to another.
pub record GoesOn (session : ℕ) (table : CommandTree) (plan : Plan) (known : Known) (before after : ℕ) (records : List (List (List ℕ))) (events : List Placed) (old new : List ℕ) : Type 0 where
  pub bytes : List ℕ
  pub grown : new ≡ old ++ bytes
  pub lines : AreLines session table plan known before records events bytes after

-- the same by lines that define something, whatever is known
abbrev pub Defines : ℕ → CommandTree → List ℕ → List ℕ → Type 0
Defines session table old new = (plan : Plan) (known : Known) (number : ℕ) → GoesOn session table plan known number number [] [] old new

-- The lines of more records are made, and the events of their INSERTs are met.
pub record MakesLines (session : ℕ) (table : CommandTree) (plan : Plan) (old new : Made) (records : List (List (List ℕ))) : Type 0 where
  pub events : List Placed
  pub goes : GoesOn session table plan (known_of new) old.number new.number records events old.bytes.items new.bytes.items
  pub meets : MeetsMore old.extents new.extents events

-- the plan is by the header that was read
abbrev pub IsPlanned : Wanted → CommandTree → Progress → Type 0
IsPlanned wanted table progress = IfSome progress.planned (λ planned. IsPlanOf wanted table (fields_of planned.header) planned.plan)

-- What a filter is: a job, and what was read and made of it so far.
pub record FilterParts : Type 0 where
  pub job : JobParts
  pub progress : Progress

-- What was made of a header and the records after it, which were counted up to a number. Where routes are to be defined the events of the INSERTs were met.
pub record IsMadeBy (wanted : Wanted) (table : CommandTree) (known : Known) (number : ℕ) (extents : Option (Names Extent)) (planned : Planned) (records : List (List (List ℕ))) (bytes : List ℕ) : Type 0 where
  pub plans : IsPlanOf wanted table (fields_of planned.header) planned.plan
  pub others : List (List (List ℕ))
  pub whole : records ≡ fields_of planned.header ∷ others
  pub events : List Placed
  pub lines : AreLines wanted.session table planned.plan known 0 others events bytes number
  pub met : wanted.defines_routes ≡ true → HaveMet extents events

-- the same, where there may be no header yet
abbrev pub IsMade : Wanted → CommandTree → Known → ℕ → Option (Names Extent) → Option Planned → List (List (List ℕ)) → List ℕ → Type 0
IsMade wanted table known number extents None records bytes = (records ≡ []) × (bytes ≡ []) × (number ≡ 0) × (wanted.defines_routes ≡ true → HaveMet extents [])
IsMade wanted table known number extents (Some planned) records bytes = IsMadeBy wanted table known number extents planned records bytes

-- the lines that are held until the routes are known
abbrev pub held_lines : Progress → List ℕ
held_lines progress = concat progress.held

-- these lines were sent so, and after them others are held, or are still to be sent or held
abbrev pub IsMadeIn : Wanted → CommandTree → Progress → List (List (List ℕ)) → List ℕ → Type 0
IsMadeIn wanted table progress records sent =
    IsMade wanted table (known_of progress.made) progress.made.number progress.made.extents progress.planned records ((sent ++ held_lines progress) ++ progress.made.bytes.items)

-- what is made of more records
abbrev pub Makes : Wanted → CommandTree → List (List (List ℕ)) → Progress → Progress → Type 0
Makes wanted table more old new = (records : List (List (List ℕ))) (sent : List ℕ) → IsMadeIn wanted table old records sent → IsMadeIn wanted table new (records ++ more) sent

-- What became of raw records: the lines of those read of them were sent, or where routes are to be defined they are held.
pub record AreTaken (wanted : Wanted) (table : CommandTree) (before : Option (List ℕ)) (progress : Progress) (raws : List (List ℕ)) (after : Option (List ℕ)) : Type 0 where
  pub records : List (List (List ℕ))
  pub read : AreReadOf wanted.separator raws records
  pub sent : List ℕ
  pub put : Appends before after sent
  pub made : IsMadeIn wanted table progress records sent
  pub none_waits : progress.made.bytes.items ≡ []
  pub none_held : wanted.defines_routes ≡ false → held_lines progress ≡ []
  pub none_sent : wanted.defines_routes ≡ true → sent ≡ []

-- The input up to here was cut: the first of the records were taken, and the batch has the others.
pub record SoFar (wanted : Wanted) (table : CommandTree) (before : Option (List ℕ)) (batch : Batch) (progress : Progress) (input : List ℕ) (after : Option (List ℕ)) : Type 0 where
  pub past : List (List ℕ)
  pub waiting : List (List ℕ)
  pub rest : List ℕ
  pub cut : IsCut wanted.separator input (past ++ waiting) rest
  pub in_batch : IsBatchOf wanted.separator batch (concat (kept waiting)) rest
  pub none_lacks : progress.made.has_told ≡ false → kept (past ++ waiting) ≡ past ++ waiting
  pub taken : AreTaken wanted table before progress (kept past) after

-- All of the input was cut, and each record taken.
pub record TookAll (wanted : Wanted) (table : CommandTree) (before : Option (List ℕ)) (progress : Progress) (input : List ℕ) (after : Option (List ℕ)) : Type 0 where
  pub raws : List (List ℕ)
  pub rest : List ℕ
  pub cut : IsCut wanted.separator input raws rest
  pub none_lacks : progress.made.has_told ≡ false → kept_of raws rest ≡ raws ++ rest ∷ []
  pub taken : AreTaken wanted table before progress (kept_of raws rest) after

-- ---- the end

-- The output grew by what is written for the records read of these.
pub record WroteOf (wanted : Wanted) (table : CommandTree) (told : Bool) (raws : List (List ℕ)) (before after : Option (List ℕ)) : Type 0 where
  pub records : List (List (List ℕ))
  pub read : AreReadOf wanted.separator raws records
  pub sent : List ℕ
  pub put : Appends before after sent
  pub texts : List ℕ → Option (List ℕ)
  pub lines : IsOutput wanted table (record { told = told; texts = texts }) records sent

-- The output grew by a front of what is written for the records read of the first of these.
pub record WroteFront (wanted : Wanted) (table : CommandTree) (raws : List (List ℕ)) (before after : Option (List ℕ)) : Type 0 where
  pub first : List (List ℕ)
  pub others : List (List ℕ)
  pub whole : raws ≡ first ++ others
  pub records : List (List (List ℕ))
  pub read : AreReadOf wanted.separator first records
  pub sent : List ℕ
  pub lost : List ℕ
  pub put : Appends before after sent
  pub texts : List ℕ → Option (List ℕ)
  pub lines : IsOutput wanted table (record { told = true; texts = texts }) records (sent ++ lost)

-- The input is cut, and the output grew by what is written for its records, but for those that are too long. Where nothing was told
-- there is none of these.
pub record WroteAll (wanted : Wanted) (table : CommandTree) (told : Bool) (input : List ℕ) (before after : Option (List ℕ)) : Type 0 where
  pub raws : List (List ℕ)
  pub rest : List ℕ
  pub cut : IsCut wanted.separator input raws rest
  pub none_lacks : told ≡ false → kept_of raws rest ≡ raws ++ rest ∷ []
  pub wrote : WroteOf wanted table told (kept_of raws rest) before after

-- The input that was told is cut, and the output grew by a front of what is written for the first of its records. The rest is one of
-- them only at the end of the input.
pub record Wrote (wanted : Wanted) (table : CommandTree) (input : List ℕ) (remaining before after : Option (List ℕ)) : Type 0 where
  pub raws : List (List ℕ)
  pub rest : List ℕ
  pub cut : IsCut wanted.separator input raws rest
  pub wrote : WroteFront wanted table (kept raws) before after ⊎ (IsAtEnd remaining × WroteFront wanted table (kept_of raws rest) before after)

-- the same before the end of the input
pub record WroteSoFar (wanted : Wanted) (table : CommandTree) (input : List ℕ) (before after : Option (List ℕ)) : Type 0 where
  pub raws : List (List ℕ)
  pub rest : List ℕ
  pub cut : IsCut wanted.separator input raws rest
  pub wrote : WroteFront wanted table (kept raws) before after

-- and where it was told to its end
pub record WroteAtEnd (wanted : Wanted) (table : CommandTree) (input : List ℕ) (before after : Option (List ℕ)) : Type 0 where
  pub raws : List (List ℕ)
  pub rest : List ℕ
  pub cut : IsCut wanted.separator input raws rest
  pub wrote : WroteFront wanted table (kept_of raws rest) before after

-- the end: whole lines of the whole input, or where it is one of a fault a front of those of what was told
abbrev pub Ends : Wanted → CommandTree → Result Bool Stop → List ℕ → Option (List ℕ) → Option (List ℕ) → Option (List ℕ) → Type 0
Ends wanted table result told remaining before after =
    MatchResult result (λ lacks. IsAtEnd remaining × WroteAll wanted table lacks (strip_bom told) before after)
    (λ _. Wrote wanted table (strip_bom told) remaining before after)

-- ---- steps

-- more raw records are taken
abbrev pub TakesMore : {T E : Type 0} → Wanted → CommandTree → Result T E → List (List ℕ) → Progress → Progress → Option (List ℕ) → Option (List ℕ) → Type 0
TakesMore wanted table result more progress progress_now output output_now =
    (before : Option (List ℕ)) (raws : List (List ℕ)) → AreTaken wanted table before progress raws output
    → MatchResult result (λ _. AreTaken wanted table before progress_now (raws ++ more) output_now) (λ _. WroteFront wanted table (raws ++ more) before output_now)

-- more of the input is cut and taken
abbrev pub GoesFar : {T E : Type 0} → Wanted → CommandTree → Result T E → List ℕ → Batch → Batch → Progress → Progress → Option (List ℕ) → Option (List ℕ) → Type 0
GoesFar wanted table result bytes batch batch_now progress progress_now output output_now =
    (before : Option (List ℕ)) (input : List ℕ) → SoFar wanted table before batch progress input output
    → MatchResult result (λ _. SoFar wanted table before batch_now progress_now (input ++ bytes) output_now) (λ _. WroteSoFar wanted table (input ++ bytes) before output_now)

-- the rest is taken
abbrev pub TakesRest : {T E : Type 0} → Wanted → CommandTree → Result T E → Batch → Progress → Progress → Option (List ℕ) → Option (List ℕ) → Type 0
TakesRest wanted table result batch progress progress_now output output_now =
    (before : Option (List ℕ)) (input : List ℕ) → SoFar wanted table before batch progress input output
    → MatchResult result (λ _. TookAll wanted table before progress_now input output_now) (λ _. WroteAtEnd wanted table input before output_now)

-- the head of the input is cut and taken, and it is said whether it was all
abbrev pub TakesHead : {E : Type 0} → Wanted → CommandTree → Result Bool E → Option (List ℕ) → Batch → Progress → Option (List ℕ) → Option (List ℕ) → Option (List ℕ) → Type 0
TakesHead wanted table result before batch progress unread unread_now output = (told : List ℕ) × Consumes unread unread_now told
    × MatchResult result (λ is_all. SoFar wanted table before batch progress (strip_bom told) output × (is_all ≡ true → IsAtEnd unread_now) × (is_all ≡ false → length told ≡ 3))
    (λ _. WroteSoFar wanted table (strip_bom told) before output)

-- what was told of the input is cut and taken, to its end or to a fault
abbrev pub TakesInput : {E : Type 0} → Wanted → CommandTree → Result (Unit {0}) E → Progress → Option (List ℕ) → Option (List ℕ) → Option (List ℕ) → Option (List ℕ) → Type 0
TakesInput wanted table result progress unread unread_now output output_now = (told : List ℕ) × Consumes unread unread_now told
    × MatchResult result (λ _. IsAtEnd unread_now × TookAll wanted table output progress (strip_bom told) output_now)
    (λ _. Wrote wanted table (strip_bom told) unread_now output output_now)

-- what is held is written
abbrev pub EndsTaken : {E : Type 0} → Wanted → CommandTree → Result Bool E → Progress → Option (List ℕ) → Option (List ℕ) → Type 0
EndsTaken wanted table result progress output output_now = (before : Option (List ℕ)) (raws : List (List ℕ)) → AreTaken wanted table before progress raws output
    → MatchResult result (λ told. WroteOf wanted table told raws before output_now) (λ _. WroteFront wanted table raws before output_now)
