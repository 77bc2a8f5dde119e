-- What is dumped of a look is dumped of the file.
use Rattle.std.proofs.Common.{◌≡◌, ◌∙◌, ◌⊎◌, ℕ, Bool, inl, inr, List, Result, Ok, Err, Option, sym}
use Rattle.std.specs.Prelude.{IfErr, IfOk}
use Rattle.rs_disk.specs.Content.{Content}
use Rattle.rs_dump.specs.States.{IsDumped}
use Rattle.rs_dump.specs.declared.stop.Stop.{Stop}
use Rattle.rs_file_dump.specs.Files.{DumpsDisk, RefusesDisk, StopsDumping}
use Rattle.rs_machine.specs.State.{State}
use Rattle.rs_refusal.specs.declared.refusal.Refusal.{Refusal}
use Rattle.rs_refusal.specs.declared.refusal.Refusal.TheVariants as refusal
use Rattle.rs_store_source.specs.Calls.{IsLeftOpen, IsNoFileOfAny, WantsOpening}
use Rattle.rs_store_source.specs.Standing.{Stands}

module _ (limit : ℕ) (content look : Content) (was : (state : State) → Stands limit look state → Stands limit content state) where
  dumps_was : (table : Option (List ℕ)) (omits_rows lacks : Bool) (before after : Option (List ℕ)) → DumpsDisk limit look table omits_rows lacks before after
      → DumpsDisk limit content table omits_rows lacks before after
  dumps_was table omits_rows lacks before after dumps = record {
    state = dumps.state;
    stood = was dumps.state dumps.stood;
    definitions = dumps.definitions;
    held = dumps.held;
    shown = dumps.shown;
    is = dumps.is;
    all = dumps.all;
    one = dumps.one;
  }

  stops_was : (table : Option (List ℕ)) (omits_rows : Bool) (stop : Stop) (before after : Option (List ℕ)) → StopsDumping limit look table omits_rows stop before after
      → StopsDumping limit content table omits_rows stop before after
  stops_was table omits_rows stop before after stops = record {
    state = stops.state;
    stood = was stops.state stops.stood;
    definitions = stops.definitions;
    held = stops.held;
    shown = stops.shown;
    is = stops.is;
    wants = stops.wants;
    all = stops.all;
    one = stops.one;
  }

  refuses_was : (IsLeftOpen limit look → IsLeftOpen limit content) → (IsNoFileOfAny limit look → IsNoFileOfAny limit content) → (stop : Stop)
      (before after : Option (List ℕ)) → RefusesDisk limit look stop before after → RefusesDisk limit content stop before after
  refuses_was left none stop before after refuses = record {
    why = refuses.why;
    is = refuses.is;
    wants = refuses.wants;
    damaged = λ is. none (refuses.damaged is);
    left_open = λ is. left (refuses.left_open is);
    kept = refuses.kept;
  }

  pub dumped_was : (table : Option (List ℕ)) (omits_rows : Bool) (before after : Option (List ℕ)) (result : Result Bool Stop)
      → IfOk result (λ lacks. DumpsDisk limit look table omits_rows lacks before after) → IfOk result (λ lacks. DumpsDisk limit content table omits_rows lacks before after)
  dumped_was table omits_rows before after (Ok lacks) dumps = dumps_was table omits_rows lacks before after dumps
  dumped_was table omits_rows before after (Err stop) dumps = tt

  pub whole_was : (before after : Option (List ℕ)) (result : Result Bool Stop)
      → IfOk result (λ lacks. (state : State) × Stands limit look state × IsDumped state lacks before after)
      → IfOk result (λ lacks. (state : State) × Stands limit content state × IsDumped state lacks before after)
  whole_was before after (Ok lacks) (state, stood, dumped) = (state, was state stood, dumped)
  whole_was before after (Err stop) is = tt

  pub stopped_was : (IsLeftOpen limit look → IsLeftOpen limit content) → (IsNoFileOfAny limit look → IsNoFileOfAny limit content) → (table : Option (List ℕ))
      (omits_rows : Bool) (before after : Option (List ℕ)) (result : Result Bool Stop)
      → IfErr result (λ stop. RefusesDisk limit look stop before after ⊎ StopsDumping limit look table omits_rows stop before after)
      → IfErr result (λ stop. RefusesDisk limit content stop before after ⊎ StopsDumping limit content table omits_rows stop before after)
  stopped_was left none table omits_rows before after (Ok lacks) stops = tt
  stopped_was left none table omits_rows before after (Err stop) (inl refuses) = inl (refuses_was left none stop before after refuses)
  stopped_was left none table omits_rows before after (Err stop) (inr stops) = inr (stops_was table omits_rows stop before after stops)

-- why there is no look is a reason why a file is not opened, and not that it is left open
pub wants_look : (why : Refusal) → (why ≡ refusal.OutOfMemory) ⊎ (why ≡ refusal.Disk) ⊎ (why ≡ refusal.DamagedFile) → WantsOpening why
wants_look why (inl memory) = inl memory
wants_look why (inr (inl failed)) = inr (inl failed)
wants_look why (inr (inr damaged)) = inr (inr (inl damaged))

pub not_left_open : (why : Refusal) → (why ≡ refusal.OutOfMemory) ⊎ (why ≡ refusal.Disk) ⊎ (why ≡ refusal.DamagedFile) → why ≡ refusal.FileNotClosed → ⊥
not_left_open why (inl memory) left = let wrong : refusal.OutOfMemory ≡ refusal.FileNotClosed = sym memory ∙ left in cc
not_left_open why (inr (inl failed)) left = let wrong : refusal.Disk ≡ refusal.FileNotClosed = sym failed ∙ left in cc
not_left_open why (inr (inr damaged)) left = let wrong : refusal.DamagedFile ≡ refusal.FileNotClosed = sym damaged ∙ left in cc
