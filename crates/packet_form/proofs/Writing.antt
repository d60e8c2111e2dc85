-- Fields that are written one behind the other, over zeros.
use Rattle.std.proofs.Common.{◌≡◌, ℕ, ◌+◌, ◌-◌, ◌≤◌, List, ◌++◌, length, replicate, refl, arith, append_assoc}
use Rattle.std.proofs.lemmas.List.{length-append, take_at, drop_at, drop-replicate}
use borrow.Rule.Slice.PartMut.{put_mid}
use Rattle.packet_form.specs.Commands.{padded}

-- a field behind what was written
pub put_behind : (written field old now : List ℕ) (at : ℕ) → length written ≡ at → old ≡ padded written → now ≡ field → at + length field ≤ 72 → put_mid at (at + length field - at) old now ≡ padded (written ++ field)
put_behind written field old now at len is same room =
    let zeros : List ℕ = replicate (72 - length written) 0 in
    let width : at + length field - at ≡ length field = omega arith in
    let left : 72 - length written - length field ≡ 72 - (length written + length field) = omega arith in
    rw (is, same, width, take_at written zeros at len, drop_at written zeros at len, drop-replicate {X = ℕ} (length field) (72 - length written) 0, append_assoc written field, length-append written field, left) refl
