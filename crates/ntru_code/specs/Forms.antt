-- The three byte forms of a polynomial: each coefficient is a field, and the fields are packed.
use Rattle.std.specs.Prelude.{◌≡◌, ℕ, ◌*◌, ◌/◌, ◌<◌, ◌≤◌, ℤ, pos, ◌+ℤ◌, ◌-ℤ◌, ◌*ℤ◌, List, map, unsigned_abs, nat_lt, slice_index, if◌then◌else◌}
use Rattle.std.specs.List.{range_with_len}
use Rattle.ntru_ring.specs.Polynomials.{coefficient, coefficients}
use Rattle.ntru_code.specs.Packing.{translated}
use Rattle.ntru_code.specs.declared.forms.Form.{Form}

-- c + 1 below 3, four fields in a byte, and a field that is always 0 for the bits that are left over
abbrev pub small : Form
small = record {
  fields = record { base = 4; group = 4; count = 762 };
  bytes = record { base = 256; group = 1; count = 191 };
  bound = 3;
  step = 1;
  lowest = 1;
}

-- c + 2295 below 4591, five fields in eight bytes, and the last one in two
abbrev pub whole : Form
whole = record {
  fields = record { base = 6144; group = 5; count = 761 };
  bytes = record { base = 256; group = 8; count = 1218 };
  bound = 4591;
  step = 1;
  lowest = 2295;
}

-- (c + 2295) / 3 below 1531, three fields in four bytes, and the last two in three
abbrev pub rounded : Form
rounded = record {
  fields = record { base = 1536; group = 3; count = 761 };
  bytes = record { base = 256; group = 4; count = 1015 };
  bound = 1531;
  step = 3;
  lowest = 2295;
}

-- the field of the coefficient at a place: how many steps it lies above the lowest
unfoldable pub field : Form → List ℤ → ℕ → ℕ
field form polynomial place =
    (if nat_lt place 761 then unsigned_abs (coefficient polynomial place +ℤ pos form.lowest) / form.step else 0)

-- the bytes of a polynomial
unfoldable pub spelling : Form → List ℤ → List ℕ
spelling form polynomial =
    map (translated form.fields form.bytes (field form polynomial)) (range_with_len 0 form.bytes.count)

-- the field at a place of some bytes
unfoldable pub field_in : Form → List ℕ → ℕ → ℕ
field_in form bytes place = translated form.bytes form.fields (slice_index bytes) place

-- what a field at a place is below: past the last coefficient it must be 0
unfoldable pub bound_at : Form → ℕ → ℕ
bound_at form place = (if nat_lt place 761 then form.bound else 1)

-- no field is out of range
abbrev pub AllInRange : Form → List ℕ → Type 0
AllInRange form bytes = (place : ℕ) → place < form.fields.count → field_in form bytes place < bound_at form place

-- the first field out of range is at this place
pub record IsFirstOutOfRange (form : Form) (bytes : List ℕ) (place : ℕ) : Type 0 where
  pub inside : place < form.fields.count
  pub out : bound_at form place ≤ field_in form bytes place
  pub before : (earlier : ℕ) → earlier < place → field_in form bytes earlier < bound_at form earlier

-- the polynomial of some bytes: each field is so many steps above the lowest coefficient
unfoldable pub values : Form → List ℕ → List ℤ
values form bytes = coefficients 761 (λ place. pos (form.step * field_in form bytes place) -ℤ pos form.lowest)

-- every coefficient is a multiple of 3
abbrev pub AllMultiples : List ℤ → Type 0
AllMultiples polynomial = (place : ℕ) → (q : ℤ) × (coefficient polynomial place ≡ q *ℤ pos 3)
