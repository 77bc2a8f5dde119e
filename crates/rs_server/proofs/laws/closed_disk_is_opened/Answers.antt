-- It is a file of a state, and one of version 1 was closed.
use Rattle.std.proofs.Common.{inl, inr}
use Rattle.rs_pager.proofs.OneMap.{no_both}
use Rattle.rs_server.proofs.laws.closed_disk_is_opened.Goals as goal

pub returns : goal.returns
returns g c = λ limit disk state next a b c' d closed refuses. elim refuses.wants [
  | inl memory ↦ inl memory
  | inr (inl failed) ↦ inr failed
  | inr (inr (inl damaged)) ↦ absurd ((refuses.damaged damaged).none state closed.stands.file)
  | inr (inr (inr left)) ↦
      let open_file = refuses.left_open left in
      elim closed.stands.file.stores [
        | inl gives ↦ absurd (no_both (g.D.Disk.seen disk) closed.stands.file.pages open_file.file.pages gives open_file.first)
        | inr first ↦ absurd (open_file.not_closed (closed.stands.closed first))
      ]
]
