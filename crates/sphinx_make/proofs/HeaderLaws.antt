-- The law of headers: what is made from the last hop outwards opens hop by hop. The filler makes the routing
-- information behind each layer whole.
use Rattle.std.proofs.Common.{◌≡◌, ℕ, ◌+◌, ◌-◌, ◌*◌, ◌<◌, ◌≤◌, List, [], ◌∷◌, ◌++◌, length, take, drop, replicate, map, true, Option, Some, None, IfSome, Result, Ok, refl, sym, ap, subst, ◌∙◌, arith, append_assoc, eq-eqb, zero-add}
use Rattle.std.specs.Prelude.{⊤, IsOkAnd}
use Rattle.std.specs.List.{AllByRecursion}
use Rattle.std.specs.Option.{option_map}
use Rattle.std.specs.Str.{bytes_eq}
use Rattle.std.proofs.lemmas.List.{length-append, length-replicate, length-take-le, take_at, drop_at}
use Rattle.mix_base.specs.Suites.{SuiteMeaning}
use Rattle.mix_base.specs.XorLaws.{length-xor_stream, xor_stream-append, xor_stream-xor_stream}
use Rattle.packet_form.proofs.CommandLaws.{length-delay_part, read-spell}
use Rattle.packet_form.specs.Commands.{HasLengths, delay_part, exit_part, longest_delay, read, spell}
use Rattle.packet_form.specs.Geometry.{Sizes, slot, routing}
use Rattle.packet_form.specs.Geometry as lengths
use Rattle.packet_form.specs.declared.commands.Cmds.{Cmds}
use Rattle.packet_form.specs.declared.commands.Exit.{Exit}
use Rattle.packet_form.specs.declared.commands.Exit.TheVariants as exits
use Rattle.sphinx_unwrap.proofs.Parts.{HasParts, has_parts, part_at}
use Rattle.sphinx_unwrap.specs.Layer.{Layer, hop_keys_of, is_authentic, layer_of, opened, shape, tag_of, unhidden, unsealed}
use Rattle.sphinx_unwrap.specs.declared.faults.Refused.{Refused}
use Rattle.sphinx_unwrap.specs.declared.outcome.Out.TheVariants as outs
use Rattle.sphinx_make.specs.Making.{decrypted_along, header_mac, header_of, hidden, next_filler, routing_beyond, routing_for, routing_of_last}
use Rattle.sphinx_make.specs.NestedPath.{Carries, Ends, Forwards, KeyedHop}
use Rattle.sphinx_make.specs.declared.path.SealedHop.{SealedHop}

-- ---- a made packet opens

same_bytes : (bytes : List ℕ) → bytes_eq bytes bytes ≡ true
same_bytes [] = refl
same_bytes (byte ∷ bytes) = rw (eq-eqb byte byte refl) (same_bytes bytes)

shape-made : (sizes : Sizes) (ct ri mac payload packet : List ℕ) → HasParts sizes ct ri mac payload packet → shape sizes packet ≡ Ok tt
unfolding shape
shape-made sizes ct ri mac payload packet parts = rw (eq-eqb (length packet) (lengths.packet sizes) parts.whole, parts.version) refl

unsealed-made : (suite : SuiteMeaning) (sizes : Sizes) (sk : List ℕ) (hop : SealedHop) (ri payload packet : List ℕ) → HasParts sizes hop.ciphertext ri (header_mac suite hop ri) payload packet → option_map suite.hop_keys (suite.kem.decapsulate sk hop.ciphertext) ≡ Some hop.keys → unsealed suite sizes sk packet ≡ Some hop.keys
unfolding unsealed hop_keys_of is_authentic header_mac
unsealed-made suite sizes sk hop ri payload packet parts opens =
    rw (parts.ciphertext, opens, parts.before_mac, parts.code, same_bytes (suite.mac hop.keys.mac (0 ∷ 0 ∷ hop.ciphertext ++ ri))) refl

-- the layer, where the stream shows a slot of a ciphertext and spelled commands
layer_of-made : (suite : SuiteMeaning) (sizes : Sizes) (hop : SealedHop) (ri mac payload packet slot_ct spelled behind : List ℕ) (cmds : Cmds) → HasParts sizes hop.ciphertext ri mac payload packet → unhidden suite sizes hop.keys packet ≡ slot_ct ++ (spelled ++ behind) → length slot_ct ≡ sizes.ct → length spelled ≡ 72 → read spelled ≡ Some cmds → layer_of suite sizes packet hop.keys ≡ Ok (record { tag = tag_of sizes packet; commands = cmds; next_ciphertext = slot_ct; next_routing = behind; payload = suite.decrypt hop.keys.wide payload })
unfolding layer_of
layer_of-made suite sizes hop ri mac payload packet slot_ct spelled behind cmds parts shown ct_long spelled_long reading =
    let first : take (sizes.ct - 0) (slot_ct ++ (spelled ++ behind)) ≡ slot_ct = take_at slot_ct (spelled ++ behind) (sizes.ct - 0) (omega arith) in
    let second : take (slot sizes - sizes.ct) (drop sizes.ct (slot_ct ++ (spelled ++ behind))) ≡ spelled = part_at slot_ct spelled behind sizes.ct (slot sizes) ct_long (omega arith) in
    let third : drop (slot sizes) (slot_ct ++ (spelled ++ behind)) ≡ behind = ap (drop (slot sizes)) (sym (append_assoc slot_ct spelled behind)) ∙ drop_at (slot_ct ++ spelled) behind (slot sizes) (omega (arith, length-append slot_ct spelled)) in
    let layer : List ℕ → Result Layer Refused = λ found. Ok (record { tag = tag_of sizes packet; commands = cmds; next_ciphertext = slot_ct; next_routing = behind; payload = suite.decrypt hop.keys.wide found }) in
    rw (shown, second, reading, first, third) (ap layer parts.behind)

opened-made : (suite : SuiteMeaning) (sizes : Sizes) (sk : List ℕ) (hop : SealedHop) (ri payload packet slot_ct spelled behind : List ℕ) (cmds : Cmds) → HasParts sizes hop.ciphertext ri (header_mac suite hop ri) payload packet → option_map suite.hop_keys (suite.kem.decapsulate sk hop.ciphertext) ≡ Some hop.keys → unhidden suite sizes hop.keys packet ≡ slot_ct ++ (spelled ++ behind) → length slot_ct ≡ sizes.ct → length spelled ≡ 72 → read spelled ≡ Some cmds → opened suite sizes sk packet ≡ Ok (record { tag = tag_of sizes packet; commands = cmds; next_ciphertext = slot_ct; next_routing = behind; payload = suite.decrypt hop.keys.wide payload })
unfolding opened
opened-made suite sizes sk hop ri payload packet slot_ct spelled behind cmds parts opens shown ct_long spelled_long reading =
    rw (shape-made sizes hop.ciphertext ri (header_mac suite hop ri) payload packet parts, unsealed-made suite sizes sk hop ri payload packet parts opens)
    (layer_of-made suite sizes hop ri (header_mac suite hop ri) payload packet slot_ct spelled behind cmds parts shown ct_long spelled_long reading)

-- what the stream shows of a packet: its routing information and a slot of zeros
unhidden-made : (suite : SuiteMeaning) (sizes : Sizes) (hop : SealedHop) (ri mac payload packet : List ℕ) → HasParts sizes hop.ciphertext ri mac payload packet → unhidden suite sizes hop.keys packet ≡ hidden suite hop 0 (ri ++ replicate (slot sizes) 0)
unfolding unhidden
unhidden-made suite sizes hop ri mac payload packet parts = rw parts.routing_bytes refl

-- ---- the filler

length-hidden : (suite : SuiteMeaning) (hop : SealedHop) (place : ℕ) (bytes : List ℕ) → length (hidden suite hop place bytes) ≡ length bytes
length-hidden suite hop place bytes = length-xor_stream (suite.stream hop.keys.stream) place bytes

hidden-append : (suite : SuiteMeaning) (hop : SealedHop) (place end : ℕ) (xs ys : List ℕ) → place + length xs ≡ end → hidden suite hop place (xs ++ ys) ≡ hidden suite hop place xs ++ hidden suite hop end ys
hidden-append suite hop place end xs ys e =
    xor_stream-append (suite.stream hop.keys.stream) place xs ys ∙ ap (λ n. hidden suite hop place xs ++ hidden suite hop n ys) e

hidden-hidden : (suite : SuiteMeaning) (hop : SealedHop) (place : ℕ) (bytes : List ℕ) → hidden suite hop place (hidden suite hop place bytes) ≡ bytes
hidden-hidden suite hop place bytes = xor_stream-xor_stream (suite.stream hop.keys.stream) place bytes

-- routing information of the whole length that ends in a filler
record EndsIn (sizes : Sizes) (filler bytes : List ℕ) : Type 0 where
  front : List ℕ
  parts : bytes ≡ front ++ filler
  whole : length bytes ≡ routing sizes

pub length-next_filler : (suite : SuiteMeaning) (sizes : Sizes) (hop : SealedHop) (filler : List ℕ) → length (next_filler suite sizes hop filler) ≡ length filler + slot sizes
unfolding next_filler
length-next_filler suite sizes hop filler =
    length-hidden suite hop (routing sizes - length filler) (filler ++ replicate (slot sizes) 0) ∙ length-append filler (replicate (slot sizes) 0) ∙ ap (λ n. length filler + n) (length-replicate {A = ℕ} (slot sizes) 0)

-- what the filler of the next hop says of its routing information: its front, and the slot that a hop's zeros become
record Behind (suite : SuiteMeaning) (sizes : Sizes) (hop : SealedHop) (filler bytes : List ℕ) : Type 0 where
  front : List ℕ
  length_front : length front + length filler + slot sizes ≡ routing sizes
  kept : take (routing sizes - slot sizes) bytes ≡ front ++ hidden suite hop (routing sizes - length filler) filler
  whole : take (routing sizes - slot sizes) bytes ++ hidden suite hop (routing sizes) (replicate (slot sizes) 0) ≡ bytes

behind_filler : (suite : SuiteMeaning) (sizes : Sizes) (hop : SealedHop) (filler bytes : List ℕ) → length filler + slot sizes ≤ routing sizes → EndsIn sizes (next_filler suite sizes hop filler) bytes → Behind suite sizes hop filler bytes
unfolding next_filler
behind_filler suite sizes hop filler bytes room ends =
    let zeros : List ℕ = replicate (slot sizes) 0 in
    let start : ℕ = routing sizes - length filler in
    let old : List ℕ = hidden suite hop start filler in
    let new : List ℕ = hidden suite hop (routing sizes) zeros in
    let split : hidden suite hop start (filler ++ zeros) ≡ old ++ new = hidden-append suite hop start (routing sizes) filler zeros (omega arith) in
    let parts : bytes ≡ (ends.front ++ old) ++ new = ends.parts ∙ ap (λ xs. ends.front ++ xs) split ∙ sym (append_assoc ends.front old new) in
    let filled : length (hidden suite hop start (filler ++ zeros)) ≡ length filler + slot sizes = length-next_filler suite sizes hop filler in
    let front_long : length ends.front + length filler + slot sizes ≡ routing sizes = omega (arith, ap length ends.parts, length-append ends.front (hidden suite hop start (filler ++ zeros)), filled, ends.whole) in
    let kept_long : length (ends.front ++ old) ≡ routing sizes - slot sizes = omega (arith, length-append ends.front old, length-hidden suite hop start filler, front_long) in
    let kept : take (routing sizes - slot sizes) bytes ≡ ends.front ++ old = ap (take (routing sizes - slot sizes)) parts ∙ take_at (ends.front ++ old) new (routing sizes - slot sizes) kept_long in
    record {
      front = ends.front;
      length_front = front_long;
      kept = kept;
      whole = ap (λ xs. xs ++ new) kept ∙ sym parts;
    }

-- ---- the routing information

-- what a suite's laws say of lengths
pub record KeepsLengths (suite : SuiteMeaning) : Type 0 where
  pub code : (key message : List ℕ) → length key ≡ 32 → length (suite.mac key message) ≡ 32
  pub decrypted : (key block : List ℕ) → 32 < length block → length (suite.decrypt key block) ≡ length block

-- what is known of each hop that encapsulation was made to
pub record IsSealed (sizes : Sizes) (hop : SealedHop) : Type 0 where
  pub ciphertext : length hop.ciphertext ≡ sizes.ct
  pub id : length hop.id ≡ 32
  pub mac_key : length hop.keys.mac ≡ 32
  pub delay : IfSome hop.delay (λ delay. delay ≤ longest_delay)

length-exit_part : (exit : Exit) → HasLengths exit → length (exit_part exit) ≤ 65
length-exit_part (exits.Hop id mac) h = omega (arith, length-append id mac, h.0, h.1)
length-exit_part (exits.Recipient id) h = omega (arith, h)
length-exit_part (exits.Reply id surb) h = omega (arith, length-append id (3 ∷ surb), h.0, h.1)

length-spell : (delay : Option ℕ) (exit : Exit) → HasLengths exit → length (spell (record { delay = delay; exit = exit })) ≡ 72
unfolding spell
length-spell delay exit h =
    let parts : List ℕ = delay_part delay ++ exit_part exit in
    omega (arith, length-append parts (replicate (72 - length parts) 0), length-replicate {A = ℕ} (72 - length parts) 0, length-append (delay_part delay) (exit_part exit), length-delay_part delay, length-exit_part exit h)

length-header_mac : (suite : SuiteMeaning) (sizes : Sizes) (hop : SealedHop) (ri : List ℕ) → KeepsLengths suite → IsSealed sizes hop → length (header_mac suite hop ri) ≡ 32
unfolding header_mac
length-header_mac suite sizes hop ri laws is = laws.code hop.keys.mac (0 ∷ 0 ∷ hop.ciphertext ++ ri) is.mac_key

-- what is known of hops that routing information is made for, the first and the rest, behind a filler
pub record IsReady (suite : SuiteMeaning) (sizes : Sizes) (last : Exit) (filler : List ℕ) (hop : SealedHop) (rest : List SealedHop) : Type 0 where
  pub laws : KeepsLengths suite
  pub exit : HasLengths last
  pub own : IsSealed sizes hop
  pub others : AllByRecursion (IsSealed sizes) rest
  pub room : length filler + slot sizes + length rest * slot sizes ≤ routing sizes

-- and of those behind the first
ready_behind : (suite : SuiteMeaning) (sizes : Sizes) (last : Exit) (filler : List ℕ) (hop next : SealedHop) (rest : List SealedHop) → IsReady suite sizes last filler hop (next ∷ rest) → IsReady suite sizes last (next_filler suite sizes hop filler) next rest
ready_behind suite sizes last filler hop next rest ready =
    let room : length filler + slot sizes + length (next ∷ rest) * slot sizes ≤ routing sizes = ready.room in
    record {
      laws = ready.laws;
      exit = ready.exit;
      own = ready.others.0;
      others = ready.others.1;
      room = omega (arith, length-next_filler suite sizes hop filler);
    }

ends_in_filler : (suite : SuiteMeaning) (sizes : Sizes) (last : Exit) (filler : List ℕ) (hop : SealedHop) (rest : List SealedHop) → IsReady suite sizes last filler hop rest → EndsIn sizes filler (routing_for suite sizes last filler (hop ∷ rest))
unfolding routing_for routing_of_last routing_beyond
ends_in_filler suite sizes last filler hop [] ready =
    let room : length filler + slot sizes + 0 * slot sizes ≤ routing sizes = ready.room in
    let ct : List ℕ = replicate sizes.ct 0 in
    let spelled : List ℕ = spell (record { delay = hop.delay; exit = last }) in
    let zeros : List ℕ = replicate (routing sizes - slot sizes - length filler) 0 in
    let front : List ℕ = hidden suite hop 0 (ct ++ spelled ++ zeros) in
    record {
      front = front;
      parts = refl;
      whole = omega (arith, length-append front filler, length-hidden suite hop 0 (ct ++ spelled ++ zeros), length-append (ct ++ spelled) zeros, length-append ct spelled, length-replicate {A = ℕ} sizes.ct 0, length-replicate {A = ℕ} (routing sizes - slot sizes - length filler) 0, length-spell hop.delay last ready.exit);
    }
ends_in_filler suite sizes last filler hop (next ∷ rest) ready =
    let room : length filler + slot sizes + length (next ∷ rest) * slot sizes ≤ routing sizes = ready.room in
    let next_is : IsSealed sizes next = ready.others.0 in
    let passed_on : List ℕ = next_filler suite sizes hop filler in
    let bytes : List ℕ = routing_for suite sizes last passed_on (next ∷ rest) in
    let ends : EndsIn sizes passed_on bytes = ends_in_filler suite sizes last passed_on next rest (ready_behind suite sizes last filler hop next rest ready) in
    let behind : Behind suite sizes hop filler bytes = behind_filler suite sizes hop filler bytes (omega arith) ends in
    let mac : List ℕ = header_mac suite next bytes in
    let spelled : List ℕ = spell (record { delay = hop.delay; exit = exits.Hop next.id mac }) in
    let own : List ℕ = next.ciphertext ++ spelled in
    let own_long : length own ≡ slot sizes = omega (arith, length-append next.ciphertext spelled, next_is.ciphertext, length-spell hop.delay (exits.Hop next.id mac) (next_is.id, length-header_mac suite sizes next bytes ready.laws next_is)) in
    let start : ℕ = routing sizes - length filler in
    let old : List ℕ = hidden suite hop start filler in
    let regrouped : own ++ take (routing sizes - slot sizes) bytes ≡ (own ++ behind.front) ++ old = ap (λ xs. own ++ xs) behind.kept ∙ sym (append_assoc own behind.front old) in
    let front : List ℕ = hidden suite hop 0 (own ++ behind.front) in
    let split : hidden suite hop 0 ((own ++ behind.front) ++ old) ≡ front ++ hidden suite hop start old = hidden-append suite hop 0 start (own ++ behind.front) old (omega (arith, length-append own behind.front, own_long, behind.length_front)) in
    record {
      front = front;
      parts = ap (hidden suite hop 0) regrouped ∙ split ∙ ap (λ xs. front ++ xs) (hidden-hidden suite hop start filler);
      whole = length-hidden suite hop 0 (own ++ take (routing sizes - slot sizes) bytes) ∙ ap length regrouped ∙ omega (arith, length-append (own ++ behind.front) old, length-append own behind.front, length-hidden suite hop start filler, own_long, behind.length_front);
    }

-- ---- the nested path

-- a secret key opens what was made for a hop
pub record OpensTo (suite : SuiteMeaning) (keyed : KeyedHop) (hop : SealedHop) : Type 0 where
  pub id : keyed.id ≡ hop.id
  pub delay : keyed.delay ≡ hop.delay
  pub keys : option_map suite.hop_keys (suite.kem.decapsulate keyed.secret_key hop.ciphertext) ≡ Some hop.keys

abbrev pub AllOpenTo : SuiteMeaning → List KeyedHop → List SealedHop → Type 0
AllOpenTo suite [] [] = ⊤
AllOpenTo suite [] (hop ∷ hops) = ⊥
AllOpenTo suite (keyed ∷ path) [] = ⊥
AllOpenTo suite (keyed ∷ path) (hop ∷ hops) = OpensTo suite keyed hop × AllOpenTo suite path hops

-- the stream shows the last hop's slot
shown-last : (suite : SuiteMeaning) (sizes : Sizes) (hop : SealedHop) (ct spelled zeros filler more : List ℕ) (end : ℕ) → length (ct ++ spelled ++ zeros) ≡ end → hidden suite hop 0 (hidden suite hop 0 (ct ++ spelled ++ zeros) ++ filler ++ more) ≡ ct ++ (spelled ++ (zeros ++ hidden suite hop end (filler ++ more)))
shown-last suite sizes hop ct spelled zeros filler more end long =
    let own : List ℕ = ct ++ spelled ++ zeros in
    let others : List ℕ = hidden suite hop end (filler ++ more) in
    ap (hidden suite hop 0) (append_assoc (hidden suite hop 0 own) filler more)
    ∙ hidden-append suite hop 0 end (hidden suite hop 0 own) (filler ++ more) (zero-add (length (hidden suite hop 0 own)) ∙ length-hidden suite hop 0 own ∙ long)
    ∙ ap (λ xs. xs ++ others) (hidden-hidden suite hop 0 own)
    ∙ append_assoc (ct ++ spelled) zeros others
    ∙ append_assoc ct spelled (zeros ++ others)

-- the stream shows another hop's slot, and the whole routing information of the next hop
shown-on : (suite : SuiteMeaning) (sizes : Sizes) (hop : SealedHop) (ct spelled kept more behind : List ℕ) → length (ct ++ spelled ++ kept) ≡ routing sizes → kept ++ hidden suite hop (routing sizes) more ≡ behind → hidden suite hop 0 (hidden suite hop 0 (ct ++ spelled ++ kept) ++ more) ≡ ct ++ (spelled ++ behind)
shown-on suite sizes hop ct spelled kept more behind long whole =
    let own : List ℕ = ct ++ spelled ++ kept in
    let end : List ℕ = hidden suite hop (routing sizes) more in
    hidden-append suite hop 0 (routing sizes) (hidden suite hop 0 own) more (zero-add (length (hidden suite hop 0 own)) ∙ length-hidden suite hop 0 own ∙ long)
    ∙ ap (λ xs. xs ++ end) (hidden-hidden suite hop 0 own)
    ∙ append_assoc (ct ++ spelled) kept end
    ∙ ap (λ xs. ct ++ spelled ++ xs) whole
    ∙ append_assoc ct spelled behind

pub carries-made : (suite : SuiteMeaning) (sizes : Sizes) (last : Exit) (filler : List ℕ) (keyed : KeyedHop) (path : List KeyedHop) (hop : SealedHop) (rest : List SealedHop) (payload : List ℕ)
    → IsReady suite sizes last filler hop rest → OpensTo suite keyed hop → AllOpenTo suite path rest → length payload ≡ lengths.payload sizes
    → Carries suite sizes (keyed ∷ path) last (header_of suite hop (routing_for suite sizes last filler (hop ∷ rest)) ++ payload) (decrypted_along suite (map (λ hop. hop.keys.wide) (hop ∷ rest)) payload)
unfolding routing_for routing_of_last routing_beyond decrypted_along
carries-made suite sizes last filler keyed [] hop [] payload ready opens path long =
    let ct : List ℕ = replicate sizes.ct 0 in
    let cmds : Cmds = record { delay = hop.delay; exit = last } in
    let zeros : List ℕ = replicate (routing sizes - slot sizes - length filler) 0 in
    let more : List ℕ = replicate (slot sizes) 0 in
    let ri : List ℕ = routing_for suite sizes last filler (hop ∷ []) in
    let mac : List ℕ = header_mac suite hop ri in
    let packet : List ℕ = header_of suite hop ri ++ payload in
    let ct_long : length ct ≡ sizes.ct = length-replicate {A = ℕ} sizes.ct 0 in
    let spelled_long : length (spell cmds) ≡ 72 = length-spell hop.delay last ready.exit in
    let end : ℕ = length (ct ++ spell cmds ++ zeros) in
    let parts = has_parts sizes hop.ciphertext ri mac payload ready.own.ciphertext (ends_in_filler suite sizes last filler hop [] ready).whole (length-header_mac suite sizes hop ri ready.laws ready.own) long in
    let shown = unhidden-made suite sizes hop ri mac payload packet parts ∙ shown-last suite sizes hop ct (spell cmds) zeros filler more end refl in
    let layer = opened-made suite sizes keyed.secret_key hop ri payload packet ct (spell cmds) (zeros ++ hidden suite hop end (filler ++ more)) cmds parts opens.keys shown ct_long spelled_long (read-spell cmds ready.own.delay ready.exit) in
    subst (λ (r : Result Layer Refused). IsOkAnd r (Ends last (suite.decrypt hop.keys.wide payload) keyed)) (sym layer) (record { delay = sym opens.delay; exit = refl; payload = refl })
carries-made suite sizes last filler keyed (next_keyed ∷ path) hop (next ∷ rest) payload ready opens opened long =
    let room : length filler + slot sizes + length (next ∷ rest) * slot sizes ≤ routing sizes = ready.room in
    let next_is : IsSealed sizes next = ready.others.0 in
    let next_ready = ready_behind suite sizes last filler hop next rest ready in
    let passed_on : List ℕ = next_filler suite sizes hop filler in
    let behind : List ℕ = routing_for suite sizes last passed_on (next ∷ rest) in
    let ends = ends_in_filler suite sizes last passed_on next rest next_ready in
    let back = behind_filler suite sizes hop filler behind (omega arith) ends in
    let next_mac : List ℕ = header_mac suite next behind in
    let exit : Exit = exits.Hop next.id next_mac in
    let cmds : Cmds = record { delay = hop.delay; exit = exit } in
    let exit_lengths : HasLengths exit = (next_is.id, length-header_mac suite sizes next behind ready.laws next_is) in
    let kept : List ℕ = take (routing sizes - slot sizes) behind in
    let more : List ℕ = replicate (slot sizes) 0 in
    let ri : List ℕ = routing_for suite sizes last filler (hop ∷ next ∷ rest) in
    let mac : List ℕ = header_mac suite hop ri in
    let packet : List ℕ = header_of suite hop ri ++ payload in
    let spelled_long : length (spell cmds) ≡ 72 = length-spell hop.delay exit exit_lengths in
    let own_long : length (next.ciphertext ++ spell cmds ++ kept) ≡ routing sizes = omega (arith, length-append (next.ciphertext ++ spell cmds) kept, length-append next.ciphertext (spell cmds), next_is.ciphertext, spelled_long, length-take-le (routing sizes - slot sizes) behind (omega (arith, ends.whole))) in
    let parts = has_parts sizes hop.ciphertext ri mac payload ready.own.ciphertext (ends_in_filler suite sizes last filler hop (next ∷ rest) ready).whole (length-header_mac suite sizes hop ri ready.laws ready.own) long in
    let shown = unhidden-made suite sizes hop ri mac payload packet parts ∙ shown-on suite sizes hop next.ciphertext (spell cmds) kept more behind own_long back.whole in
    let layer = opened-made suite sizes keyed.secret_key hop ri payload packet next.ciphertext (spell cmds) behind cmds parts opens.keys shown next_is.ciphertext spelled_long (read-spell cmds ready.own.delay exit_lengths) in
    let decrypted : List ℕ = suite.decrypt hop.keys.wide payload in
    let still_long : length decrypted ≡ lengths.payload sizes = ready.laws.decrypted hop.keys.wide payload (omega arith) ∙ long in
    let forwarded : List ℕ = header_of suite next behind ++ decrypted in (
      forwarded,
      (
        subst (λ (r : Result Layer Refused). IsOkAnd r (Forwards sizes keyed next_keyed forwarded)) (sym layer) (record { delay = sym opens.delay; leaves = ap (λ id. outs.Forward id forwarded) (sym opened.0.id) }),
        carries-made suite sizes last passed_on next_keyed path next rest decrypted next_ready opened.0 opened.1 still_long,
      ),
    )
carries-made suite sizes last filler keyed [] hop (next ∷ rest) payload ready opens path long = absurd path
carries-made suite sizes last filler keyed (next_keyed ∷ path) hop [] payload ready opens opened long = absurd opened
