-- Something was left out, or the dump stopped.
use Rattle.std.proofs.Common.{◌≡◌, ℕ, Bool, Bor, true, false, List, Result, Ok, Err, Option, Some, None, refl, subst}
use Rattle.std.specs.Option.{option_map}
use Rattle.std.specs.Prelude.{IfErr, IfOk, IfSome}
use Rattle.rs_disk.specs.Content.{Content}
use Rattle.rs_dump.specs.States.{CanBeDumpedWhole}
use Rattle.rs_dump.specs.declared.stop.Stop.{Stop}
use Rattle.rs_file_dump.specs.Files.{DumpsDisk}
use Rattle.rs_machine.specs.State.{State}
use Rattle.rs_server.specs.Dumping.{LeavesOut}
use Rattle.rs_engine.specs.Standing.{Stands}

lacked : (result : Result Bool Stop) → result ≡ Ok true → IfOk result (λ lacks. lacks ≡ false) → ⊥
lacked (Err stop) done none = let wrong : ◌≡◌ {A = Result Bool Stop} (Err stop) (Ok true) = done in cc
lacked (Ok true) done none = let wrong : true ≡ false = none in cc
lacked (Ok false) done none = let wrong : ◌≡◌ {A = Result Bool Stop} (Ok false) (Ok true) = done in cc

pub left_out : (limit : ℕ) (content : Content) (omits_rows : Bool) (before after : Option (List ℕ)) (table : Option (Bor (List ℕ))) (result : Result Bool Stop) → result ≡ Ok true
    → IfOk result (λ lacks. DumpsDisk limit content (option_map (λ t. t.now) table) omits_rows lacks before after)
    → IfSome table (λ _. IfOk result (λ lacks. lacks ≡ false))
    → (table ≡ None → (state : State) → Stands limit content state → CanBeDumpedWhole state → IfOk result (λ lacks. lacks ≡ false))
    → LeavesOut limit content (option_map (λ t. t.now) table) omits_rows before after
left_out limit content omits_rows before after None result done dumps one whole = record {
  dumps = subst (λ (r : Result Bool Stop). IfOk r (λ lacks. DumpsDisk limit content None omits_rows lacks before after)) done dumps;
  all = refl;
  has_to = λ state stood can. lacked result done (whole refl state stood can);
}
left_out limit content omits_rows before after (Some name) result done dumps one whole = absurd (lacked result done one)

pub stopped : (result : Result Bool Stop) (stop : Stop) (P : Stop → Type 0) → result ≡ Err stop → IfErr result P → (why : Stop) × P why
stopped result stop P is so = (stop, subst (λ (r : Result Bool Stop). IfErr r P) is so)
