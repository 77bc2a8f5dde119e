-- It is what was there, or the newest.
use Rattle.std.proofs.Common.{◌∙◌, ◌⊎◌, Some, ap, inl, inr, sym}
use Rattle.rs_engine.specs.declared.engine.ahead.Ahead.{Ahead}
use Rattle.rs_engine.proofs.engine.ahead.LinesAhead.put.Goals as goal

wider : {A B C : Type 0} → A ⊎ B → A ⊎ B ⊎ C
wider (inl a) = inl a
wider (inr b) = inr (inl b)

pub returns : goal.returns
returns c = λ one among.
    elim among [
      | inl slot ↦ elim (c.push_one.ensures.others one slot) [
        | inl before ↦ wider (c.make_room.ensures.kept one (inl before))
        | inr new ↦ inr (inr (record {
          of = (ap (λ (a : Ahead). a.session) new, ap (λ (a : Ahead). a.name.bytes) new);
          is_kept = c.in-Some.is ∙ ap (λ (a : Ahead). Some a.kept) (sym new);
        }))
      ]
      | inr mark ↦ wider (c.make_room.ensures.kept one (inr mark))
    ]
