use Rattle.std.proofs.Common.{◌≡◌, ◌+◌, ◌-◌, ◌≤◌, ◌++◌, length, take, sym, ap, ◌∙◌, arith, length-append, length-take}
use Rattle.rs_protocol.proofs.Pieces.{take_past, where_ok}
use Rattle.rs_protocol.proofs.Serving.{take-short}
use Rattle.rs_protocol.proofs.lines.keep.Goals as goal

pub returns-then-bytes-room : goal.returns-then-bytes-room
returns-then-bytes-room c =
    let kept = c.args.kept.now.items in
    let bytes = c.args.bytes.now in
    let fits : length kept + length bytes ≤ 4097 = omega (arith, c.if-bytes-room.true, c.len-room.ensures.value, c.len-room.ensures.fits) in
    where_ok _ _ (c.try_extend_from_slice.ensures.variant.1 fits) c.try_extend_from_slice.ensures.ok
    ∙ sym (take-short 4097 (kept ++ bytes) (omega (arith, fits, length-append kept bytes)))

pub returns-else-bytes-room : goal.returns-else-bytes-room
returns-else-bytes-room c =
    let kept = c.args.kept.now.items in
    let bytes = c.args.bytes.now in
    let few : length kept ≤ 4097 = omega (arith, c.len-room.ensures.value, c.len-room.ensures.fits) in
    let room : 4097 - c.len-room.result ≡ 4097 - length kept = ap (λ n. 4097 - n) c.len-room.ensures.value in
    let fits : length kept + length (take (4097 - c.len-room.result) bytes) ≤ 4097 = omega (arith, few, room, length-take (4097 - c.len-room.result) bytes) in
    where_ok _ _ (c.try_extend_from_slice-else-bytes-room.ensures.variant.1 fits) c.try_extend_from_slice-else-bytes-room.ensures.ok
    ∙ ap (λ n. kept ++ take n bytes) room ∙ sym (take_past 4097 kept bytes few)
