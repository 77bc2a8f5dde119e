use Rattle.std.proofs.Common.{◌≡◌, true, refl}
use Rattle.rs_syntax.specs.declared.written.WrittenCommand.TheVariants as forms
use Rattle.rs_syntax.specs.View.{written_of}
use Rattle.rs_meaning.specs.Schema.{changes_schema}
use Rattle.rs_meaning.proofs.said_commands.meaning.Goals as goal

pub returns-in-MoveReferent-clause-err : goal.returns-in-MoveReferent-clause-err
returns-in-MoveReferent-clause-err c = rw c.in-MoveReferent.is c.move_said.ensures.err

pub returns-in-Insert-clause-err : goal.returns-in-Insert-clause-err
returns-in-Insert-clause-err c = rw (c.in-Insert.is, ← c.deref.ensures.value) c.event_said.ensures.err

pub returns-in-Remove-clause-err : goal.returns-in-Remove-clause-err
returns-in-Remove-clause-err c = rw c.in-Remove.is c.removal_said.ensures.err

pub returns-in-Translate-clause-err : goal.returns-in-Translate-clause-err
returns-in-Translate-clause-err c = rw c.in-Translate.is c.translation_said.ensures.err

pub returns-in-Select-clause-err : goal.returns-in-Select-clause-err
returns-in-Select-clause-err c = rw (c.in-Select.is, ← c.deref-in-Select.ensures) c.selection_said.ensures.err

pub returns-in-Total-clause-err : goal.returns-in-Total-clause-err
returns-in-Total-clause-err c = rw (c.in-Total.is, ← c.deref-in-Total.ensures, ← c.deref-in-Total-2.ensures.value) c.total_said.ensures.err

pub returns-in-Explain-clause-err : goal.returns-in-Explain-clause-err
returns-in-Explain-clause-err c = rw (c.in-Explain.is, ← c.deref-in-Explain.ensures) c.explanation_said.ensures.err

pub returns-in-Open-clause-err : goal.returns-in-Open-clause-err
returns-in-Open-clause-err c = rw (c.in-Open.is, ← c.deref-in-Open.ensures) c.opening_said.ensures.err

pub returns-in-Fetch-clause-err : goal.returns-in-Fetch-clause-err
returns-in-Fetch-clause-err c = rw c.in-Fetch.is c.fetch_said.ensures.err

pub returns-in-MoveReferent-clause-ok : goal.returns-in-MoveReferent-clause-ok
returns-in-MoveReferent-clause-ok c = rw c.in-MoveReferent.is c.move_said.ensures.ok

pub returns-in-Insert-clause-ok : goal.returns-in-Insert-clause-ok
returns-in-Insert-clause-ok c = rw (c.in-Insert.is, ← c.deref.ensures.value) c.event_said.ensures.ok

pub returns-in-Remove-clause-ok : goal.returns-in-Remove-clause-ok
returns-in-Remove-clause-ok c = rw c.in-Remove.is c.removal_said.ensures.ok

pub returns-in-Translate-clause-ok : goal.returns-in-Translate-clause-ok
returns-in-Translate-clause-ok c = rw c.in-Translate.is c.translation_said.ensures.ok

pub returns-in-Select-clause-ok : goal.returns-in-Select-clause-ok
returns-in-Select-clause-ok c = rw (c.in-Select.is, ← c.deref-in-Select.ensures) c.selection_said.ensures.ok

pub returns-in-Total-clause-ok : goal.returns-in-Total-clause-ok
returns-in-Total-clause-ok c = rw (c.in-Total.is, ← c.deref-in-Total.ensures, ← c.deref-in-Total-2.ensures.value) c.total_said.ensures.ok

pub returns-in-Explain-clause-ok : goal.returns-in-Explain-clause-ok
returns-in-Explain-clause-ok c = rw (c.in-Explain.is, ← c.deref-in-Explain.ensures) c.explanation_said.ensures.ok

pub returns-in-Open-clause-ok : goal.returns-in-Open-clause-ok
returns-in-Open-clause-ok c = rw (c.in-Open.is, ← c.deref-in-Open.ensures) c.opening_said.ensures.ok

pub returns-in-Fetch-clause-ok : goal.returns-in-Fetch-clause-ok
returns-in-Fetch-clause-ok c = rw c.in-Fetch.is c.fetch_said.ensures.ok

pub schema_change_said-requires-clause-schema : goal.schema_change_said-requires-clause-schema
schema_change_said-requires-clause-schema c =
    let no = c.in_default in
    elim (c.args.written.now) as (λ written. c.args.written.now ≡ written → changes_schema (written_of written) ≡ true) [
      | forms.DefineRoute name start finish ↦ λ is. refl
      | forms.DefineTable kind name columns ↦ λ is. refl
      | forms.DefineReferent route name position ↦ λ is. refl
      | forms.DefineIndex name table column ↦ λ is. refl
      | forms.DefineView name query ↦ λ is. refl
      | forms.DefineAlignment name pieces ↦ λ is. refl
      | forms.MoveReferent route name position ↦ λ is. absurd (no.not-MoveReferent route name position is)
      | forms.DropRoute name ↦ λ is. refl
      | forms.DropTable name ↦ λ is. refl
      | forms.DropIndex name ↦ λ is. refl
      | forms.DropView name ↦ λ is. refl
      | forms.DropAlignment name ↦ λ is. refl
      | forms.DropReferent route name ↦ λ is. refl
      | forms.Insert table route place values ↦ λ is. absurd (no.not-Insert table route place values is)
      | forms.Remove table window condition ↦ λ is. absurd (no.not-Remove table window condition is)
      | forms.Translate route position method ↦ λ is. absurd (no.not-Translate route position method is)
      | forms.Select query method ↦ λ is. absurd (no.not-Select query method is)
      | forms.Total query by summed ↦ λ is. absurd (no.not-Total query by summed is)
      | forms.Explain query ↦ λ is. absurd (no.not-Explain query is)
      | forms.Open cursor query method ↦ λ is. absurd (no.not-Open cursor query method is)
      | forms.Fetch cursor rows ↦ λ is. absurd (no.not-Fetch cursor rows is)
      | forms.Close cursor ↦ λ is. absurd (no.not-Close cursor is)
      | forms.Save ↦ λ is. absurd (no.not-Save is)
      | forms.Reopen ↦ λ is. absurd (no.not-Reopen is)
    ] refl
