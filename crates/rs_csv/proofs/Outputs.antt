-- What is made of records, by one more step.
use Rattle.std.proofs.Common.{◌≡◌, ◌∙◌, ℕ, ◌+◌, Bool, true, false, List, [], ◌∷◌, ◌++◌, Option, Some, None, refl, sym, ap, ap₂, subst, append_assoc, append-nil}
use Rattle.std.specs.Prelude.{IfSome, IsSome, OnOk, Result, Ok, Err}
use Rattle.std.specs.Io.KnownBytes.{Keeps}
use Rattle.std.proofs.KnownBytes.{Keeps-refl, Keeps-trans}
use Rattle.std.proofs.lemmas.Bool.{false≢true}
use Rattle.csv.specs.Records.{fields_of}
use Rattle.rs_facts.specs.Fact.{Names}
use Rattle.rs_syntax.specs.Tree.{CommandTree}
use Rattle.rs_machine.specs.Request.{Asks, command}
use Rattle.rs_csv_lines.specs.declared.plan.Plan.{Plan}
use Rattle.rs_csv_lines.specs.Inserts.{IsInsertOf}
use Rattle.rs_csv.specs.declared.progress.Planned.{Planned}
use Rattle.rs_csv.specs.declared.progress.Progress.{Progress}
use Rattle.rs_csv.specs.declared.filter.Wanted.{Wanted}
use Rattle.rs_csv.specs.declared.made.Made.{Made}
use Rattle.rs_csv.specs.declared.routes.Extent.{Extent}
use Rattle.rs_csv.specs.Output.{AreRouted, IsPlanOf, IsPlanned, Known, known_of, AreLines, nothing, definition_line, insert_line, left_out, too_long, GoesOn, Makes, MakesLines, IsMade, IsMadeIn, IsOutput, IsQuiet, held_lines}
use Rattle.rs_csv.specs.Routes.{DefineRoutes, HaveMet, IsMet, MeetsMore, Placed, no_route}
use Rattle.rs_csv.specs.Texts.{IsOneText, KeepsTexts, text_of_name}

-- ---- the errors stream

pub quiet_same : (told : Bool) (a : Option (List ℕ)) → IsQuiet told told a a
quiet_same told a quiet = (quiet, Keeps-refl a)

pub quiet_kept : (told now : Bool) (a b : Option (List ℕ)) → now ≡ told → Keeps a b → IsQuiet told now a b
quiet_kept told now a b same keeps quiet = (sym same ∙ quiet, keeps)

pub quiet_told : (told now : Bool) (a b : Option (List ℕ)) → now ≡ true → IsQuiet told now a b
quiet_told told now a b is quiet = absurd (false≢true (sym quiet ∙ is))

pub quiet_trans : (one two three : Bool) (a b c : Option (List ℕ)) → IsQuiet one two a b → IsQuiet two three b c → IsQuiet one three a c
quiet_trans one two three a b c first second quiet =
    let later = second quiet in
    let before = first later.0 in
    (before.0, Keeps-trans a b c before.1 later.1)

-- what was told stays told
abbrev pub Stays : Bool → Bool → Type 0
Stays told now = now ≡ false → told ≡ false

pub stays_quiet : (told now : Bool) (a b : Option (List ℕ)) → IsQuiet told now a b → Stays told now
stays_quiet told now a b quiet is = (quiet is).0

pub stays_told : (told now : Bool) → now ≡ true → Stays told now
stays_told told now is off = absurd (false≢true (sym off ∙ is))

pub stays_same : (told now : Bool) → now ≡ told → Stays told now
stays_same told now same off = sym same ∙ off

now_told : (told now : Bool) → Stays told now → told ≡ true → now ≡ true
now_told told true stays is = refl
now_told told false stays is = absurd (false≢true (sym (stays refl) ∙ is))

-- ---- what is known

-- what was known is known
pub record KnowledgeGrows (known now : Known) : Type 0 where
  pub told : Stays known.told now.told
  pub texts : KeepsTexts known.texts now.texts

pub grows_by : (old made : Made) → Stays old.has_told made.has_told → KeepsTexts (text_of_name old.texts) (text_of_name made.texts) → KnowledgeGrows (known_of old) (known_of made)
grows_by old made told texts = record { told = told; texts = texts }

-- as long as its texts stay
pub grows_same : (old made : Made) → Stays old.has_told made.has_told → made.texts ≡ old.texts → KnowledgeGrows (known_of old) (known_of made)
grows_same old made told same = record { told = told; texts = λ name text is. ap (λ texts. text_of_name texts name) same ∙ is }

pub known_same : (old made : Made) → made.has_told ≡ old.has_told → made.texts ≡ old.texts → known_of made ≡ known_of old
known_same old made told texts = ap₂ (λ t x. record { told = t; texts = text_of_name x }) told texts

-- something was told
abbrev pub known_told : Known → Known
known_told known = record { told = true; texts = known.texts }

pub grows_told : (known : Known) → KnowledgeGrows known (known_told known)
grows_told known = record { told = stays_told known.told true refl; texts = λ name text is. is }

-- ---- lines

module _ (session : ℕ) (table : CommandTree) (plan : Plan) where
  joined : (before old line : List ℕ) → (before ++ old) ++ line ++ 10 ∷ [] ≡ before ++ (old ++ line ++ 10 ∷ [])
  joined before old line = ap (λ bs. bs ++ 10 ∷ []) (append_assoc before old line) ∙ append_assoc before (old ++ line) (10 ∷ [])

  pub moved : (known : Known) {before after : ℕ} {records others : List (List (List ℕ))} {events placed : List Placed} {bytes more : List ℕ} → records ≡ others → events ≡ placed → bytes ≡ more
      → AreLines session table plan known before records events bytes after → AreLines session table plan known before others placed more after
  moved known {before} {after} {records} {others} {events} {placed} {bytes} {more} same alike is lines =
      subst (λ rs. AreLines session table plan known before rs placed more after) same
      (subst (λ es. AreLines session table plan known before records es more after) alike
      (subst (λ bs. AreLines session table plan known before records events bs after) is lines))

  one_text_still : (texts now : List ℕ → Option (List ℕ)) (fields : List (List ℕ)) (name : List ℕ) → KeepsTexts texts now → IsOneText plan texts fields name → IsOneText plan now fields name
  one_text_still texts now fields name keeps one = λ makes. let is = one makes in (is.0, is.1, keeps name _ is.2)

  pub lines_known : (known now : Known) {before after : ℕ} {records : List (List (List ℕ))} {events : List Placed} {bytes : List ℕ} → KnowledgeGrows known now → AreLines session table plan known before records events bytes after
      → AreLines session table plan now before records events bytes after
  lines_known known now grows nothing = nothing
  lines_known known now grows (definition_line line more asks) = definition_line line (lines_known known now grows more) asks
  lines_known known now grows (insert_line fields line tree more inserts one asks) =
      insert_line fields line tree (lines_known known now grows more) inserts (one_text_still known.texts now.texts fields inserts.route grows.texts one) asks
  lines_known known now grows (left_out fields more is) = left_out fields (lines_known known now grows more) (now_told known.told now.told grows.told is)
  lines_known known now grows (too_long count more is) = too_long count (lines_known known now grows more) (now_told known.told now.told grows.told is)

  -- lines, and more of them
  pub lines_join : (known : Known) {before middle after : ℕ} (records : List (List (List ℕ))) (placed : List Placed) (a : List ℕ) {others : List (List (List ℕ))} {events : List Placed} {b : List ℕ}
      → AreLines session table plan known before records placed a middle → AreLines session table plan known middle others events b after
      → AreLines session table plan known before (records ++ others) (placed ++ events) (a ++ b) after
  lines_join known rows placed a first nothing = moved known (sym (append-nil rows)) (sym (append-nil placed)) (sym (append-nil a)) first
  lines_join known rows placed a first (definition_line {records} {events} {bytes} line more asks) = moved known refl refl (joined a bytes line) (definition_line line (lines_join known rows placed a first more) asks)
  lines_join known rows placed a first (insert_line {records} {events} {bytes} fields line tree more inserts one asks) =
      moved known (append_assoc rows records (fields ∷ [])) (append_assoc placed events ((inserts.route, inserts.place) ∷ [])) (joined a bytes line)
      (insert_line fields line tree (lines_join known rows placed a first more) inserts one asks)
  lines_join known rows placed a first (left_out {records} {events} {bytes} fields more is) = moved known (append_assoc rows records (fields ∷ [])) refl refl (left_out fields (lines_join known rows placed a first more) is)
  lines_join known rows placed a first (too_long count more is) = too_long count (lines_join known rows placed a first more) is

  -- ---- bytes that grow

  pub definition_goes : (known : Known) (number : ℕ) (old new line : List ℕ) → new ≡ old ++ line ++ 10 ∷ [] → Asks line (command session table) → GoesOn session table plan known number number [] [] old new
  definition_goes known number old new line is asks = record { bytes = line ++ 10 ∷ []; grown = is ∙ append_assoc old line (10 ∷ []); lines = definition_line line nothing asks }

  pub same_goes : (known : Known) (number : ℕ) (old new : List ℕ) → new ≡ old → GoesOn session table plan known number number [] [] old new
  same_goes known number old new is = record { bytes = []; grown = is ∙ sym (append-nil old); lines = nothing }

  -- a record that is left out
  pub makes_left_out : (old new : Made) (fields : List (List ℕ)) → new.number ≡ old.number + 1 → new.bytes.items ≡ old.bytes.items → new.extents ≡ old.extents → new.has_told ≡ true
      → MakesLines session table plan old new (fields ∷ [])
  makes_left_out old new fields next is same out = record {
    events = [];
    goes = record {
      bytes = [];
      grown = is ∙ sym (append-nil old.bytes.items);
      lines = subst (AreLines session table plan (known_of new) old.number (fields ∷ []) [] []) (sym next) (left_out fields nothing out);
    };
    meets = λ events have. subst (λ extents. HaveMet extents (events ++ [])) (sym same) (subst (HaveMet old.extents) (sym (append-nil events)) have);
  }

  -- one that has its INSERT, whose event is met
  pub makes_insert : (old new : Made) (line : List ℕ) (fields : List (List ℕ)) (tree : CommandTree) → new.number ≡ old.number + 1 → new.bytes.items ≡ old.bytes.items ++ line ++ 10 ∷ [] → (inserts : IsInsertOf plan new.number fields tree)
      → IsOneText plan (text_of_name new.texts) fields inserts.route → Asks line (command session tree) → MeetsMore old.extents new.extents ((inserts.route, inserts.place) ∷ []) → MakesLines session table plan old new (fields ∷ [])
  makes_insert old new line fields tree next is inserts one asks meets =
      let of_next =
      subst (λ n. (inserts : IsInsertOf plan n fields tree) × IsOneText plan (text_of_name new.texts) fields inserts.route × MeetsMore old.extents new.extents ((inserts.route, inserts.place) ∷ [])) next (inserts, one, meets) in
      record {
        events = (of_next.0.route, of_next.0.place) ∷ [];
        goes = record {
          bytes = line ++ 10 ∷ [];
          grown = is ∙ append_assoc old.bytes.items line (10 ∷ []);
          lines = subst (AreLines session table plan (known_of new) old.number (fields ∷ []) ((of_next.0.route, of_next.0.place) ∷ []) (line ++ 10 ∷ [])) (sym next) (insert_line fields line tree nothing of_next.0 of_next.1 asks);
        };
        meets = of_next.2;
      }

  pub lines_go : (known : Known) (before middle after : ℕ) (records more : List (List (List ℕ))) (events placed : List Placed) (front old new : List ℕ) → GoesOn session table plan known middle after more placed old new
      → AreLines session table plan known before records events (front ++ old) middle → AreLines session table plan known before (records ++ more) (events ++ placed) (front ++ new) after
  lines_go known before middle after records more events placed front old new goes lines =
      moved known refl refl (append_assoc front old goes.bytes ∙ ap (λ bs. front ++ bs) (sym goes.grown)) (lines_join known records events (front ++ old) lines goes.lines)

-- ---- what was made

module _ (wanted : Wanted) (table : CommandTree) where
  pub made_known : (known now : Known) (number : ℕ) (extents : Option (Names Extent)) (planned : Option Planned) (records : List (List (List ℕ))) (bytes : List ℕ) → KnowledgeGrows known now → IsMade wanted table known number extents planned records bytes
      → IsMade wanted table now number extents planned records bytes
  made_known known now number extents None records bytes grows made = made
  made_known known now number extents (Some planned) records bytes grows made = record {
    plans = made.plans;
    others = made.others;
    whole = made.whole;
    events = made.events;
    lines = lines_known wanted.session table planned.plan known now grows made.lines;
    met = made.met;
  }

  -- records that are too long are counted
  pub made_long : (known : Known) (number more : ℕ) (extents : Option (Names Extent)) (planned : Option Planned) (records : List (List (List ℕ))) (bytes : List ℕ) → IsSome planned → known.told ≡ true → IsMade wanted table known number extents planned records bytes
      → IsMade wanted table known (number + more) extents planned records bytes
  made_long known number more extents None records bytes some told made = absurd (false≢true some)
  made_long known number more extents (Some planned) records bytes some told made = record {
    plans = made.plans;
    others = made.others;
    whole = made.whole;
    events = made.events;
    lines = too_long more made.lines told;
    met = made.met;
  }

  -- by a header, more is made of the records after it
  made_more : (old new : Made) (planned : Planned) (records more : List (List (List ℕ))) (front : List ℕ) → KnowledgeGrows (known_of old) (known_of new) → MakesLines wanted.session table planned.plan old new more
      → IsMade wanted table (known_of old) old.number old.extents (Some planned) records (front ++ old.bytes.items) → IsMade wanted table (known_of new) new.number new.extents (Some planned) (records ++ more) (front ++ new.bytes.items)
  made_more old new planned records more front grows makes made = record {
    plans = made.plans;
    others = made.others ++ more;
    whole = ap (λ rs. rs ++ more) made.whole;
    events = made.events ++ makes.events;
    lines =
        lines_go wanted.session table planned.plan (known_of new) 0 old.number new.number made.others more made.events makes.events front old.bytes.items new.bytes.items makes.goes
        (lines_known wanted.session table planned.plan (known_of old) (known_of new) grows made.lines);
    met = λ on. makes.meets made.events (made.met on);
  }

  -- the header, after nothing
  pub made_header : (old new : Made) (planned : Planned) (header : List (List ℕ)) (records : List (List (List ℕ))) (front : List ℕ) → fields_of planned.header ≡ header → IsPlanOf wanted table header planned.plan
      → new.number ≡ old.number → new.extents ≡ old.extents → GoesOn wanted.session table planned.plan (known_of new) 0 0 [] [] old.bytes.items new.bytes.items
      → IsMade wanted table (known_of old) old.number old.extents None records (front ++ old.bytes.items) → IsMade wanted table (known_of new) new.number new.extents (Some planned) (records ++ header ∷ []) (front ++ new.bytes.items)
  made_header old new planned header records front is plans same extents goes made = record {
    plans = subst (λ h. IsPlanOf wanted table h planned.plan) (sym is) plans;
    others = [];
    whole = ap (λ rs. rs ++ header ∷ []) made.0 ∙ ap (λ h. h ∷ []) (sym is);
    events = [];
    lines =
        subst (λ n. AreLines wanted.session table planned.plan (known_of new) 0 [] [] (front ++ new.bytes.items) n) (sym (same ∙ made.2))
        (lines_go wanted.session table planned.plan (known_of new) 0 0 0 [] [] [] [] front old.bytes.items new.bytes.items goes
        (subst (λ bs. AreLines wanted.session table planned.plan (known_of new) 0 [] [] bs 0) (sym made.1) nothing));
    met = λ on. subst (λ e. HaveMet e []) (sym extents) (made.3 on);
  }

  -- a record by the plan
  pub record_makes : {T E : Type 0} (result : Result T E) (old : Progress) (planned : Planned) (made : Made) (fields : List (List ℕ)) (a b : Option (List ℕ)) → old.planned ≡ Some planned → IsPlanned wanted table old
      → OnOk result ((table : CommandTree) → MakesLines planned.plan.session table planned.plan old.made made (fields ∷ [])) → OnOk result (KeepsTexts (text_of_name old.made.texts) (text_of_name made.texts))
      → OnOk result (IsQuiet old.made.has_told made.has_told a b) → OnOk result (Makes wanted table (fields ∷ []) old (record { planned = old.planned; made = made; held = old.held }))
  record_makes (Ok _) old planned made fields a b is plans makes keeps quiet = λ records sent before.
      let by : IsPlanOf wanted table (fields_of planned.header) planned.plan = subst (λ p. IfSome p (λ planned. IsPlanOf wanted table (fields_of planned.header) planned.plan)) is plans in
      let front : List ℕ = sent ++ held_lines old in
      subst (λ p. IsMade wanted table (known_of made) made.number made.extents p (records ++ fields ∷ []) (front ++ made.bytes.items)) (sym is)
      (made_more old.made made planned records (fields ∷ []) front (grows_by old.made made (stays_quiet old.made.has_told made.has_told a b quiet) keeps)
      (subst (λ s. MakesLines s table planned.plan old.made made (fields ∷ [])) by.session_is (makes table))
      (subst (λ p. IsMade wanted table (known_of old.made) old.made.number old.made.extents p records (front ++ old.made.bytes.items)) is before))
  record_makes (Err _) old planned made fields a b is plans makes keeps quiet = tt

  -- no record
  pub makes_none : (progress : Progress) → Makes wanted table [] progress progress
  makes_none progress records sent made = subst (λ rs. IsMadeIn wanted table progress rs sent) (sym (append-nil records)) made

  -- records, and more of them
  pub makes_trans : (one two three : Progress) (first second : List (List (List ℕ))) → Makes wanted table first one two → Makes wanted table second two three → Makes wanted table (first ++ second) one three
  makes_trans one two three first second then_first then_second records sent made =
      subst (λ rs. IsMadeIn wanted table three rs sent) (append_assoc records first second) (then_second (records ++ first) sent (then_first records sent made))

  -- and no more
  pub makes_ended : (one two three : Progress) (records : List (List (List ℕ))) → Makes wanted table records one two → Makes wanted table [] two three → Makes wanted table records one three
  makes_ended one two three records then_first then_second =
      subst (λ rs. Makes wanted table rs one three) (append-nil records) (makes_trans one two three records [] then_first then_second)

  -- ---- what is written

  -- where nothing is
  pub output_none : (known : Known) → IsOutput wanted table known [] []
  output_none known = λ plan. record {
    events = [];
    routes = [];
    others = [];
    whole = refl;
    defined = λ on. record { defined = []; once = tt; each = λ name k met. absurd met; lines = no_route };
    none_defined = λ off. refl;
    lines = nothing;
  }

  -- where no routes are wanted
  pub output_plain : (known : Known) (number : ℕ) (extents : Option (Names Extent)) (planned : Option Planned) (records : List (List (List ℕ))) (bytes : List ℕ) → wanted.defines_routes ≡ false → IsMade wanted table known number extents planned records bytes
      → IsOutput wanted table known records bytes
  output_plain known number extents None records bytes off made =
      subst (λ rs. IsOutput wanted table known rs bytes) (sym made.0) (subst (IsOutput wanted table known []) (sym made.1) (output_none known))
  output_plain known number extents (Some planned) records bytes off made =
      subst (λ rs. IsOutput wanted table known rs bytes) (sym made.whole) (
        planned.plan,
        number,
        made.plans,
        record {
          events = made.events;
          routes = [];
          others = bytes;
          whole = refl;
          defined = λ on. absurd (false≢true (sym off ∙ on));
          none_defined = λ off. refl;
          lines = made.lines;
        },
      )

  -- where they are, with the lines of these before
  pub output_routed : (known : Known) (number : ℕ) (extents : Option (Names Extent)) (planned : Option Planned) (records : List (List (List ℕ))) (routes bytes : List ℕ) → wanted.defines_routes ≡ true
      → ((events : List Placed) → HaveMet extents events → DefineRoutes wanted.session (IsMet events) routes) → IsMade wanted table known number extents planned records bytes
      → IsOutput wanted table known records (routes ++ bytes)
  output_routed known number extents None records routes bytes on define made =
      subst (λ rs. IsOutput wanted table known rs (routes ++ bytes)) (sym made.0) (λ plan. record {
        events = [];
        routes = routes;
        others = bytes;
        whole = refl;
        defined = λ on. define [] (made.3 on);
        none_defined = λ off. absurd (false≢true (sym off ∙ on));
        lines = subst (λ bs. AreLines wanted.session table plan known 0 [] [] bs 0) (sym made.1) nothing;
      })
  output_routed known number extents (Some planned) records routes bytes on define made =
      subst (λ rs. IsOutput wanted table known rs (routes ++ bytes)) (sym made.whole) (
        planned.plan,
        number,
        made.plans,
        record {
          events = made.events;
          routes = routes;
          others = bytes;
          whole = refl;
          defined = λ on. define made.events (made.met on);
          none_defined = λ off. absurd (false≢true (sym off ∙ on));
          lines = made.lines;
        },
      )

  routed_known : (plan : Plan) (known now : Known) (records : List (List (List ℕ))) (bytes : List ℕ) (last : ℕ) → KnowledgeGrows known now → AreRouted wanted table plan known records bytes last → AreRouted wanted table plan now records bytes last
  routed_known plan known now records bytes last grows routed = record {
    events = routed.events;
    routes = routed.routes;
    others = routed.others;
    whole = routed.whole;
    defined = routed.defined;
    none_defined = routed.none_defined;
    lines = lines_known wanted.session table plan known now grows routed.lines;
  }

  -- the same output, whatever more is known
  pub output_known : (known now : Known) (records : List (List (List ℕ))) (bytes : List ℕ) → KnowledgeGrows known now → IsOutput wanted table known records bytes → IsOutput wanted table now records bytes
  output_known known now [] bytes grows output = λ plan. routed_known plan known now [] bytes 0 grows (output plan)
  output_known known now (header ∷ records) bytes grows output = (output.0, output.1, output.2, routed_known output.0 known now records bytes output.1 grows output.3)
