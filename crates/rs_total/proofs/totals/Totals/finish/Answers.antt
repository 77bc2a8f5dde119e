use Rattle.std.proofs.Common.{◌≡◌, ◌⊎◌, inl, inr, ℕ, true, false, List, Option, Ok, Err, IsOk, map, sym, ◌∙◌, subst}
use Rattle.std.proofs.lemmas.Result.{IfOk-weaker, IfErr-weaker}
use Rattle.std.specs.Global.{Vec}
use Rattle.rs_refusal.specs.declared.refusal.Refusal.{Refusal}
use Rattle.rs_refusal.specs.declared.refusal.Refusal.TheVariants.{OutOfMemory, TotalTooLarge}
use Rattle.rs_value.specs.Row.{Row}
use Rattle.rs_facts.specs.Totals.{Along, totalled}
use Rattle.rs_total.specs.declared.numbers.Numbers.{Numbers}
use Rattle.rs_total.specs.declared.total.Total.{Total}
use Rattle.rs_total.specs.Answer.{answered, some_passed, AreOfGroups}
use Rattle.rs_total.specs.Tally.{Tally}
use Rattle.rs_total.specs.Totalling.{AreTotalsOf}
use Rattle.rs_total.proofs.Answering.{finished, refused, none_refused}
use Rattle.rs_total.proofs.totals.Totals.finish.Goals as goal

pub returns-clause-ok : goal.returns-clause-ok
returns-clause-ok c =
    let tally : Tally = record { by = c.self.inside.by.items; summed = c.self.inside.summed; start = c.self.inside.start; groups = c.self.inside.groups.entries } in
    IfOk-weaker c.totals_of.result (λ (totals : Vec Total). AreOfGroups c.self.inside.summed c.self.inside.groups.entries (map answered totals.items))
    (λ (totals : Vec Total). (by : List ℕ) → (column : Option ℕ) → (routes : List Along) → AreTotalsOf by column routes c.args.self → totalled by column routes ≡ Ok (map answered totals.items))
    (λ totals of by column routes are. finished tally by column routes (map answered totals.items) c.totals_of.ensures.sorted of (subst (AreTotalsOf by column routes) (sym c.self.view_is) are))
    c.totals_of.ensures.ok

abbrev Why : Refusal → Option ℕ → List (Row × Numbers) → Type 0
Why refusal summed groups = ((refusal ≡ OutOfMemory) × (some_passed summed groups ≡ false)) ⊎ ((refusal ≡ TotalTooLarge) × (some_passed summed groups ≡ true))

pub returns-clause-refused : goal.returns-clause-refused
returns-clause-refused c =
    let tally : Tally = record { by = c.self.inside.by.items; summed = c.self.inside.summed; start = c.self.inside.start; groups = c.self.inside.groups.entries } in
    IfErr-weaker c.totals_of.result (λ (refusal : Refusal). Why refusal c.self.inside.summed c.self.inside.groups.entries)
    (λ (refusal : Refusal). (refusal ≡ OutOfMemory) ⊎ ((refusal ≡ TotalTooLarge) × ((by : List ℕ) → (column : Option ℕ) → (routes : List Along) → AreTotalsOf by column routes c.args.self → totalled by column routes ≡ Err TotalTooLarge)))
    (λ refusal h. elim h [
      | inl e ↦ inl e.0
      | inr p ↦ inr (p.0, λ by column routes are. refused tally by column routes c.totals_of.ensures.sorted p.1 (subst (AreTotalsOf by column routes) (sym c.self.view_is) are))
    ])
    c.totals_of.ensures.refused

pub returns-clause-wanting : goal.returns-clause-wanting
returns-clause-wanting c =
    let tally : Tally = record { by = c.self.inside.by.items; summed = c.self.inside.summed; start = c.self.inside.start; groups = c.self.inside.groups.entries } in
    IfErr-weaker c.totals_of.result (λ (refusal : Refusal). Why refusal c.self.inside.summed c.self.inside.groups.entries)
    (λ (refusal : Refusal). refusal ≡ OutOfMemory → (by : List ℕ) → (column : Option ℕ) → (routes : List Along) → AreTotalsOf by column routes c.args.self → IsOk (totalled by column routes))
    (λ refusal h wants by column routes are. elim h [
      | inl p ↦ none_refused tally by column routes c.totals_of.ensures.sorted p.1 (subst (AreTotalsOf by column routes) (sym c.self.view_is) are)
      | inr p ↦ absurd (let wrong : OutOfMemory ≡ TotalTooLarge = sym wants ∙ p.0 in cc)
    ])
    c.totals_of.ensures.refused
