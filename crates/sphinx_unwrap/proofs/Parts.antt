-- The parts of a packet stand at their places.
use Rattle.std.proofs.Common.{◌≡◌, ℕ, ◌+◌, ◌-◌, List, [], ◌∷◌, ◌++◌, length, take, drop, refl, ap, ◌∙◌, arith, append_assoc, length-append}
use Rattle.std.specs.Prelude.{slice_range}
use Rattle.std.proofs.lemmas.List.{take_at, drop_at}
use Rattle.packet_form.specs.Geometry.{Sizes, routing, header}
use Rattle.packet_form.specs.Geometry as lengths
use Rattle.sphinx_unwrap.specs.Layer.{authenticated, ciphertext_of, mac_of, payload_of, routing_of}
use Rattle.sphinx_unwrap.specs.Outcome.{packet_of}

-- the part between two places
pub part_at : (before part behind : List ℕ) (from end : ℕ) → length before ≡ from → length before + length part ≡ end → take (end - from) (drop from (before ++ (part ++ behind))) ≡ part
part_at before part behind from end start stop =
    rw (drop_at before (part ++ behind) from start) (take_at part behind (end - from) (omega arith))

-- what stands where in a packet
pub record HasParts (sizes : Sizes) (ct ri mac payload packet : List ℕ) : Type 0 where
  pub whole : length packet ≡ lengths.packet sizes
  pub version : slice_range packet 0 2 ≡ 0 ∷ 0 ∷ []
  pub ciphertext : ciphertext_of sizes packet ≡ ct
  pub routing_bytes : routing_of sizes packet ≡ ri
  pub before_mac : authenticated sizes packet ≡ 0 ∷ 0 ∷ ct ++ ri
  pub code : mac_of sizes packet ≡ mac
  pub behind : payload_of sizes packet ≡ payload

pub has_parts : (sizes : Sizes) (ct ri mac payload : List ℕ) → length ct ≡ sizes.ct → length ri ≡ routing sizes → length mac ≡ 32 → length payload ≡ lengths.payload sizes → HasParts sizes ct ri mac payload (packet_of ct ri mac payload)
has_parts sizes ct ri mac payload ct_long ri_long mac_long payload_long =
    let front : List ℕ = 0 ∷ 0 ∷ ct in
    let second : ct ++ ri ++ mac ++ payload ≡ ct ++ (ri ++ (mac ++ payload)) = append_assoc (ct ++ ri) mac payload ∙ append_assoc ct ri (mac ++ payload) in
    let third : front ++ ri ++ mac ++ payload ≡ front ++ (ri ++ (mac ++ payload)) = append_assoc (front ++ ri) mac payload ∙ append_assoc front ri (mac ++ payload) in
    let fourth : front ++ ri ++ mac ++ payload ≡ front ++ ri ++ (mac ++ payload) = append_assoc (front ++ ri) mac payload in
    let to_mac : length (front ++ ri) ≡ header sizes - 32 = omega (arith, length-append front ri) in
    let to_payload : length (front ++ ri ++ mac) ≡ header sizes = omega (arith, length-append (front ++ ri) mac) in
    record {
      whole = omega (arith, length-append (front ++ ri ++ mac) payload);
      version = refl;
      ciphertext = ap (take (2 + sizes.ct - 2)) second ∙ take_at ct (ri ++ (mac ++ payload)) (2 + sizes.ct - 2) (omega arith);
      routing_bytes = ap (λ xs. take (header sizes - 32 - (2 + sizes.ct)) (drop (2 + sizes.ct) xs)) third ∙ part_at front ri (mac ++ payload) (2 + sizes.ct) (header sizes - 32) (omega arith) (omega arith);
      before_mac = ap (take (header sizes - 32 - 0)) fourth ∙ take_at (front ++ ri) (mac ++ payload) (header sizes - 32 - 0) (omega arith);
      code = ap (λ xs. take (header sizes - (header sizes - 32)) (drop (header sizes - 32) xs)) fourth ∙ part_at (front ++ ri) mac payload (header sizes - 32) (header sizes) to_mac (omega arith);
      behind = drop_at (front ++ ri ++ mac) payload (header sizes) to_payload;
    }
