-- The three forms are sound.
use Rattle.std.proofs.Common.{◌≡◌, ◌-◌, ◌*◌, min, refl, arith, inl, inr, lit≤, lit<}
use Rattle.std.proofs.lemmas.Bool.{cases_lt}
use Rattle.ntru_code.specs.Packing.{last_of}
use Rattle.ntru_code.specs.Forms.{small, whole, rounded}
use Rattle.ntru_code.specs.Sides.{HasRoom, IsSound}

small_room : HasRoom small.fields small.bytes
unfolding last_of
small_room group inside =
    elim (cases_lt group 190) [
      | inl full ↦ (let from : min 4 (762 - group * 4) - 1 ≡ 3 = omega arith in let to : min 1 (191 - group * 1) - 1 ≡ 0 = omega arith in rw (from, to) (lit≤ tt))
      | inr short ↦ (let from : min 4 (762 - group * 4) - 1 ≡ 1 = omega arith in let to : min 1 (191 - group * 1) - 1 ≡ 0 = omega arith in rw (from, to) (lit≤ tt))
    ]

whole_room : HasRoom whole.fields whole.bytes
unfolding last_of
whole_room group inside =
    elim (cases_lt group 152) [
      | inl full ↦ (let from : min 5 (761 - group * 5) - 1 ≡ 4 = omega arith in let to : min 8 (1218 - group * 8) - 1 ≡ 7 = omega arith in rw (from, to) (lit≤ tt))
      | inr short ↦ (let from : min 5 (761 - group * 5) - 1 ≡ 0 = omega arith in let to : min 8 (1218 - group * 8) - 1 ≡ 1 = omega arith in rw (from, to) (lit≤ tt))
    ]

rounded_room : HasRoom rounded.fields rounded.bytes
unfolding last_of
rounded_room group inside =
    elim (cases_lt group 253) [
      | inl full ↦ (let from : min 3 (761 - group * 3) - 1 ≡ 2 = omega arith in let to : min 4 (1015 - group * 4) - 1 ≡ 3 = omega arith in rw (from, to) (lit≤ tt))
      | inr short ↦ (let from : min 3 (761 - group * 3) - 1 ≡ 1 = omega arith in let to : min 4 (1015 - group * 4) - 1 ≡ 2 = omega arith in rw (from, to) (lit≤ tt))
    ]

pub small_is_sound : IsSound small
small_is_sound =
    record {
      out = record { digits_from = lit< tt; digits_to = lit< tt; base = lit< tt; same_groups = λ group inside. omega arith; fits = lit≤ tt };
      back = record { digits_from = lit< tt; digits_to = lit< tt; base = lit< tt; same_groups = λ group inside. omega arith; fits = lit≤ tt };
      room = small_room;
      byte_base = refl;
      least_count = lit≤ tt;
      most_count = lit≤ tt;
      some_step = lit< tt;
      steps = lit< tt;
      small_base = lit≤ tt;
      more_than_one = lit< tt;
      low = lit≤ tt;
      high = lit≤ tt;
      bound = lit≤ tt;
    }

pub whole_is_sound : IsSound whole
whole_is_sound =
    record {
      out = record { digits_from = lit< tt; digits_to = lit< tt; base = lit< tt; same_groups = λ group inside. omega arith; fits = lit≤ tt };
      back = record { digits_from = lit< tt; digits_to = lit< tt; base = lit< tt; same_groups = λ group inside. omega arith; fits = lit≤ tt };
      room = whole_room;
      byte_base = refl;
      least_count = lit≤ tt;
      most_count = lit≤ tt;
      some_step = lit< tt;
      steps = lit< tt;
      small_base = lit≤ tt;
      more_than_one = lit< tt;
      low = lit≤ tt;
      high = lit≤ tt;
      bound = lit≤ tt;
    }

pub rounded_is_sound : IsSound rounded
rounded_is_sound =
    record {
      out = record { digits_from = lit< tt; digits_to = lit< tt; base = lit< tt; same_groups = λ group inside. omega arith; fits = lit≤ tt };
      back = record { digits_from = lit< tt; digits_to = lit< tt; base = lit< tt; same_groups = λ group inside. omega arith; fits = lit≤ tt };
      room = rounded_room;
      byte_base = refl;
      least_count = lit≤ tt;
      most_count = lit≤ tt;
      some_step = lit< tt;
      steps = lit< tt;
      small_base = lit≤ tt;
      more_than_one = lit< tt;
      low = lit≤ tt;
      high = lit≤ tt;
      bound = lit≤ tt;
    }
