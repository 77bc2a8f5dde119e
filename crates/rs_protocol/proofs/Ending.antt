-- The whole service: reads, pieces and how it ends.
use Rattle.std.proofs.Common.{◌≡◌, ℕ, ◌==◌, Bool, true, false, List, [], ◌∷◌, ◌++◌, length, take, Option, Some, Result, Ok, Err, if◌then◌else◌, refl, sym, ap, ◌∙◌, subst, append-nil, arith, min, length-take}
use Rattle.std.specs.Io.KnownBytes.{Consumes, Keeps, IsAtEnd}
use Rattle.std.proofs.KnownBytes.{Consumes-nil, Consumes-trans, Consumes-kept}
use Rattle.std.proofs.lemmas.Bool.{eqb-true, eqb-false}
use Rattle.rs_machine.specs.Served.{Machine}
use Rattle.rs_protocol.specs.declared.lines.TheConstants.{KEPT_BYTES}
use Rattle.rs_protocol.specs.declared.stream.End.{End}
use Rattle.rs_protocol.specs.declared.stream.End.TheVariants.{Whole, CutLine}
use Rattle.rs_protocol.specs.declared.stream.Fault.{Fault}
use Rattle.rs_protocol.specs.declared.stream.Fault.TheVariants.{Read, Write}
use Rattle.rs_machine.specs.Stream.{AllAnswered}
use Rattle.rs_protocol.specs.Ends.{WroteAll, WroteFront, Ends, AnswersInput, StopsInInput}
use Rattle.rs_protocol.specs.Inner.{IsServed, IsUnderWay}
use Rattle.rs_protocol.proofs.Serving.{IsServed-nothing, WroteAll-served}

-- what the contract of the whole says
abbrev pub Ended : Result End Fault → Machine → Machine → Option (List ℕ) → Option (List ℕ) → Option (List ℕ) → Option (List ℕ) → Type 0
Ended result old new unread left before after = (told : List ℕ) × Consumes unread left told × Ends result told left old new before after

pub under_way : (kept : List ℕ) (machine : Machine) (unread a : Option (List ℕ)) → kept ≡ [] → IsUnderWay kept machine machine unread unread a a
under_way kept machine unread a none = record { told = []; consumed = Consumes-nil unread; served = IsServed-nothing kept [] machine a none refl }

-- what is pending is nothing
pub served_as : (kept pending told : List ℕ) (old new : Machine) (a b : Option (List ℕ)) → pending ≡ [] → IsServed kept [] told old new a b → IsServed kept pending told old new a b
served_as kept pending told old new a b none = subst (λ p. IsServed kept p told old new a b) (sym none)

-- a piece was read and served
pub under_way_on : (kept kept' piece : List ℕ) (old mid new : Machine) (unread mid_unread left a b c : Option (List ℕ))
    → Consumes mid_unread left piece → (way : IsUnderWay kept old mid unread mid_unread a b)
    → IsServed kept' [] (way.told ++ piece) old new a c → IsUnderWay kept' old new unread left a c
under_way_on kept kept' piece old mid new unread mid_unread left a b c consumes way served = record {
  told = way.told ++ piece;
  consumed = Consumes-trans unread mid_unread left way.told piece way.consumed consumes;
  served = served;
}

-- a write fault in a piece
pub ended_writing : (fault : Fault) (kept piece : List ℕ) (old mid new : Machine) (unread mid_unread left a b c : Option (List ℕ))
    → Consumes mid_unread left piece → (way : IsUnderWay kept old mid unread mid_unread a b)
    → (fault ≡ Write) × WroteFront (way.told ++ piece) old new a c → Ended (Err fault) old new unread left a c
ended_writing fault kept piece old mid new unread mid_unread left a b c consumes way stop =
    let P : Fault → Type 0 = λ f. Ended (Err f) old new unread left a c in
    subst P (sym stop.0) (way.told ++ piece, Consumes-trans unread mid_unread left way.told piece way.consumed consumes, stop.1)

-- a read fault, or no read left
pub ended_reading : (kept : List ℕ) (old new : Machine) (unread mid_unread left a b : Option (List ℕ))
    → Keeps mid_unread left → IsUnderWay kept old new unread mid_unread a b → Ended (Err Read) old new unread left a b
ended_reading kept old new unread mid_unread left a b kept_unread way =
    let all = WroteAll-served kept way.told old new a b way.served in
    (way.told, Consumes-kept unread mid_unread left way.told way.consumed kept_unread, (all.0, all.2))

nothing_long : (xs : List ℕ) → length xs ≡ 0 → xs ≡ []
nothing_long [] none = refl
nothing_long (x ∷ xs) none = absurd (omega arith)

none_of_none : (rest : List ℕ) → take KEPT_BYTES rest ≡ [] → rest ≡ []
none_of_none rest none =
    let lengths : min KEPT_BYTES (length rest) ≡ 0 = sym (length-take KEPT_BYTES rest) ∙ ap length none in
    nothing_long rest (omega (arith, lengths))

pub end_kept : (kept told : List ℕ) (left : Option (List ℕ)) (old new : Machine) (a b : Option (List ℕ)) → IsAtEnd left → IsServed kept [] told old new a b
    → (empty : Bool) → (length kept == 0) ≡ empty → Ends (Ok (if empty then Whole else CutLine)) told left old new a b
end_kept kept told left old new a b at_end served true none =
    let all = WroteAll-served kept told old new a b served in
    let no_bytes : kept ≡ [] = nothing_long kept (eqb-true (length kept) 0 none) in
    (at_end, subst (λ l. WroteAll told l old new a b) (none_of_none all.0 (sym all.1 ∙ no_bytes)) all.2)
end_kept kept told left old new a b at_end served false some =
    let all = WroteAll-served kept told old new a b served in
    (at_end, (all.0, (λ no_rest. eqb-false (length kept) 0 some (ap length (all.1 ∙ ap (take KEPT_BYTES) no_rest))), all.2))

-- the input is at its end
pub ended : (end : End) (kept : List ℕ) (old new : Machine) (unread mid_unread left a b : Option (List ℕ))
    → end ≡ (if length kept == 0 then Whole else CutLine) → Consumes mid_unread left [] → IsAtEnd left
    → IsUnderWay kept old new unread mid_unread a b → Ended (Ok end) old new unread left a b
ended end kept old new unread mid_unread left a b end_is consumes at_end way =
    let told_all : Consumes unread left way.told = subst (Consumes unread left) (append-nil way.told) (Consumes-trans unread mid_unread left way.told [] way.consumed consumes) in
    let P : End → Type 0 = λ e. Ended (Ok e) old new unread left a b in
    subst P (sym end_is) (way.told, told_all, end_kept kept way.told left old new a b at_end way.served (length kept == 0) refl)

-- no read is left
pub ended_unread : (kept : List ℕ) (old new : Machine) (unread left a b : Option (List ℕ)) → IsUnderWay kept old new unread left a b → Ended (Err Read) old new unread left a b
ended_unread kept old new unread left a b way = let all = WroteAll-served kept way.told old new a b way.served in (way.told, way.consumed, (all.0, all.2))

-- ---- over bytes in memory, of which each is known

all_of_it : (input told left rest before after : List ℕ) (old new : Machine) → before ≡ [] → input ≡ told ++ left → left ≡ []
    → WroteAll told rest old new (Some before) (Some after) → AllAnswered old input rest after new
all_of_it input told left rest before after old new empty cut at_end all =
    let told_all : input ≡ told = cut ∙ (ap (λ more. told ++ more) at_end ∙ append-nil told) in
    let written : after ≡ all.written = all.put ∙ ap (λ front. front ++ all.written) empty in
    subst (λ bytes. AllAnswered old bytes rest after new) (sym told_all) (subst (λ bytes. AllAnswered old told rest bytes new) (sym written) all.answered)

pub answers_input : (end : End) (input left before after : List ℕ) (old new : Machine) → before ≡ []
    → Ended (Ok end) old new (Some input) (Some left) (Some before) (Some after) → AnswersInput input after old new
answers_input Whole input left before after old new empty (told, cut, (at_end, all)) = ([], all_of_it input told left [] before after old new empty cut at_end all)
answers_input CutLine input left before after old new empty (told, cut, (at_end, (rest, some, all))) = (rest, all_of_it input told left rest before after old new empty cut at_end all)

pub stops_in_input : (fault : Fault) (input left : List ℕ) (before after : Option (List ℕ)) (old new : Machine)
    → Ended (Err fault) old new (Some input) (Some left) before after → StopsInInput fault input old new
stops_in_input Read input left before after old new (told, cut, (rest, all)) = (told, left, cut, (rest, all.written, all.answered))
stops_in_input Write input left before after old new (told, cut, front) = (told, left, cut, (front.written, front.stopped))
