-- What is on the disk after each command.
use Rattle.std.proofs.Common.{◌≡◌, ℕ, Result, Ok, Err, subst, sym}
use Rattle.std.specs.Prelude.{OnOk}
use Rattle.rs_disk.specs.declared.disk.Disk as disk
use Rattle.rs_engine.specs.Files.{Saves, SavesWhereAsked, WhereSaved}
use Rattle.rs_engine.specs.Kept.{EngineState}
use Rattle.rs_engine.specs.Replied.{count_reply_of, nothing_reply_of}
use Rattle.rs_machine.specs.Served.{Reply}
use Rattle.rs_refusal.specs.declared.refusal.Refusal.{Refusal}
use Rattle.rs_syntax.specs.Tree.{reopen, save}
use Rattle.rs_syntax.specs.View.{tree_of}
use Rattle.rs_syntax.specs.declared.commands.Command.{Command}

where_counted : (P : Type 0) (result : Result ℕ Refusal) → OnOk result P → WhereSaved save (count_reply_of result) P
where_counted P (Ok count) so = so
where_counted P (Err why) so = tt

where_nothing : (P : Type 0) (result : Result (Unit {0}) Refusal) → OnOk result P → WhereSaved reopen (nothing_reply_of result) P
where_nothing P (Ok nothing) so = so
where_nothing P (Err why) so = tt

module _ {D : Type 0} (d : disk.Ghosts D) (reply : Reply) (old new : EngineState D) where
  pub saved_by : (result : Result ℕ Refusal) → reply ≡ count_reply_of result → Saves d result old new → SavesWhereAsked d save reply old new
  saved_by result is saves = subst (λ (said : Reply). SavesWhereAsked d save said old new) (sym is)
      (record {
        stands = λ machine was. where_counted _ result (saves.stands machine was);
        last = λ machine was. where_counted _ result (saves.last machine was);
        durable = λ machine was. where_counted _ result (saves.durable machine was);
      })

  pub reopened_by : (result : Result (Unit {0}) Refusal) → reply ≡ nothing_reply_of result → Saves d result old new → SavesWhereAsked d reopen reply old new
  reopened_by result is saves = subst (λ (said : Reply). SavesWhereAsked d reopen said old new) (sym is)
      (record {
        stands = λ machine was. where_nothing _ result (saves.stands machine was);
        last = λ machine was. where_nothing _ result (saves.last machine was);
        durable = λ machine was. where_nothing _ result (saves.durable machine was);
      })

  -- a command is this one
  pub saved_as : (command one : Command) → command ≡ one → SavesWhereAsked d (tree_of one) reply old new → SavesWhereAsked d (tree_of command) reply old new
  saved_as command one is saves = subst (λ (c : Command). SavesWhereAsked d (tree_of c) reply old new) (sym is) saves

  -- and it saves nothing
  pub saved_none : (command one : Command) → command ≡ one → ((P : Type 0) → WhereSaved (tree_of one) reply P) → SavesWhereAsked d (tree_of command) reply old new
  saved_none command one is none =
      saved_as command one is (record { stands = λ machine was. none _; last = λ machine was. none _; durable = λ machine was. none _ })
