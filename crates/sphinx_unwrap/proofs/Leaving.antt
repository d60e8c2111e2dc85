-- What goes out of a layer, in other words: by its exit, and the parts of a forwarded packet by their places.
use Rattle.std.proofs.Common.{◌≡◌, ℕ, ◌+◌, ◌-◌, List, length, take, drop, Option, Some, None, IsSomeAnd, refl, sym, ap, ◌∙◌, subst, arith}
use Rattle.std.proofs.lemmas.List.{length-take-le, length-drop}
use Rattle.mix_base.specs.declared.suites.HopKeys.{HopKeys}
use Rattle.packet_form.specs.Commands.{HasLengths}
use Rattle.packet_form.specs.Geometry.{Sizes, slot, routing}
use Rattle.packet_form.specs.Geometry as lengths
use Rattle.packet_form.specs.declared.commands.Cmds.{Cmds}
use Rattle.packet_form.specs.declared.commands.Exit.{Exit}
use Rattle.packet_form.specs.declared.commands.Exit.TheVariants as exits
use Rattle.sphinx_unwrap.specs.Layer.{Layer}
use Rattle.sphinx_unwrap.specs.Outcome.{IsForwarded, Leaves, Says, out_by, packet_of}
use Rattle.sphinx_unwrap.specs.Payload.{read_block}
use Rattle.sphinx_unwrap.specs.declared.outcome.Opened.{Opened}
use Rattle.sphinx_unwrap.proofs.Parts.{has_parts}
use Rattle.sphinx_unwrap.proofs.Spelling.{received_spells}

-- a forwarded packet by its places
is_forwarded : (sizes : Sizes) (slots mac payload ct ri : List ℕ) → ct ≡ take (sizes.ct - 0) slots → ri ≡ drop (slot sizes) slots → length ct ≡ sizes.ct → length ri ≡ routing sizes → length mac ≡ 32 → length payload ≡ lengths.payload sizes → IsForwarded sizes slots mac payload (packet_of ct ri mac payload)
is_forwarded sizes slots mac payload ct ri is_ct is_ri ct_long ri_long mac_long payload_long =
    let parts = has_parts sizes ct ri mac payload ct_long ri_long mac_long payload_long in
    record {
      whole = parts.whole;
      version = parts.version;
      ciphertext = parts.ciphertext ∙ is_ct;
      routing = parts.routing_bytes ∙ is_ri;
      true_mac = parts.code;
      behind = parts.behind;
    }

-- each exit has its outcome
pub leaves : (sizes : Sizes) (layer : Layer) (slots : List ℕ) (exit : Exit) → layer.next_ciphertext ≡ take (sizes.ct - 0) slots → layer.next_routing ≡ drop (slot sizes) slots → HasLengths exit → length slots ≡ routing sizes + slot sizes → length layer.payload ≡ lengths.payload sizes → Leaves sizes slots layer.payload exit (out_by sizes layer exit)
leaves sizes layer slots (exits.Hop id mac) is_ct is_ri h slots_long payload_long =
    let ct_long : length layer.next_ciphertext ≡ sizes.ct = ap length is_ct ∙ length-take-le (sizes.ct - 0) slots (omega arith) ∙ omega arith in
    let ri_long : length layer.next_routing ≡ routing sizes = ap length is_ri ∙ length-drop (slot sizes) slots ∙ omega arith in
    (refl, is_forwarded sizes slots mac layer.payload layer.next_ciphertext layer.next_routing is_ct is_ri ct_long ri_long h.1 payload_long)
leaves sizes layer slots (exits.Recipient id) is_ct is_ri h slots_long payload_long =
    received_spells sizes slots layer.payload id (read_block sizes layer.payload) (omega arith) refl
leaves sizes layer slots (exits.Reply id surb) is_ct is_ri h slots_long payload_long = (refl, refl, refl)

-- what is said of slots and payload, of those that keys give
pub says_under : (sizes : Sizes) (keys : Option HopKeys) (unhidden decrypted : HopKeys → List ℕ) (slots payload : List ℕ) (opened : Opened) → IsSomeAnd keys (λ k. slots ≡ unhidden k) → IsSomeAnd keys (λ k. payload ≡ decrypted k) → Says sizes slots payload opened → IsSomeAnd keys (λ k. Says sizes (unhidden k) (decrypted k) opened)
says_under sizes (Some k) unhidden decrypted slots payload opened is_slots is_payload said =
    subst (λ (p : List ℕ). Says sizes (unhidden k) p opened) is_payload (subst (λ (xs : List ℕ). Says sizes xs payload opened) is_slots said)
says_under sizes None unhidden decrypted slots payload opened is_slots is_payload said = is_slots

-- what is said of commands, where they are read
pub said_of : (sizes : Sizes) (slots payload : List ℕ) (found : Option Cmds) (cmds : Cmds) (opened : Opened) → found ≡ Some cmds → opened.delay ≡ cmds.delay → Leaves sizes slots payload cmds.exit opened.out → IsSomeAnd found (λ commands. (opened.delay ≡ commands.delay) × Leaves sizes slots payload commands.exit opened.out)
said_of sizes slots payload found cmds opened e delay left =
    subst (λ (o : Option Cmds). IsSomeAnd o (λ commands. (opened.delay ≡ commands.delay) × Leaves sizes slots payload commands.exit opened.out)) (sym e) (delay, left)
