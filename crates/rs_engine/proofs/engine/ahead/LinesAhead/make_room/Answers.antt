-- What goes from the slots leaves its mark.
use Rattle.std.proofs.Common.{◌≡◌, inl, inr, length, subst, sym}
use Rattle.rs_cursor.specs.Ahead.{lines_of}
use Rattle.rs_cursor.specs.Kept.{AreKept}
use Rattle.rs_engine.specs.Ahead.{IsOf}
use Rattle.rs_engine.specs.declared.engine.ahead.Ahead.{Ahead}
use Rattle.rs_engine.proofs.engine.ahead.LinesAhead.make_room.Goals as goal

pub invariant_of-self-clause-bare : goal.invariant_of-self-clause-bare
invariant_of-self-clause-bare c = λ one there.
    elim (c.push_one.ensures.others one there) [
      | inl before ↦ c.args.self.now.bare one before
      | inr new ↦ subst (λ (a : Ahead). length (lines_of a.kept) ≡ 0) (sym new) c.bare.ensures.bare
    ]

pub returns-clause-kept : goal.returns-clause-kept
returns-clause-kept c = λ one among.
    let oldest = c.take_first-oldest.result in
    elim among [
      | inl slot ↦ inl (inl (c.take_first-oldest.ensures.others one slot))
      | inr mark ↦ elim (c.push_one.ensures.others one mark) [
        | inl before ↦ inl (inr before)
        | inr new ↦ inr (record {
          more = oldest;
          is = inl c.take_first-oldest.ensures.was;
          of = subst (λ (a : Ahead). IsOf oldest.session oldest.name.bytes a) (sym new) c.bare.ensures.of;
          kept = λ seen plan method are. subst (λ (a : Ahead). AreKept seen plan method a.kept) (sym new) (c.bare.ensures.kept seen plan method are);
        })
      ]
    ]
