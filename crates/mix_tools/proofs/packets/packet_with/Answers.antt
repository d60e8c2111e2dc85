use Rattle.std.proofs.Common.{arith, ◌≡◌, ℕ, ◌*◌, List, length, ap, sym, ◌∙◌}
use Rattle.mix_base.specs.Suites.{SuiteMeaning}
use Rattle.mix_tools.proofs.MadePackets.{delays-in_range, length-path_from, packet-never_refused}
use Rattle.mix_tools.specs.Packets.{coins_of, delay_words, path_from}
use Rattle.mix_tools.specs.Suites.{scheme_for}
use Rattle.mix_tools.specs.declared.requests.Hop.{Hop}
use Rattle.mix_tools.proofs.packets.packet_with.Goals as goal

pub path_in-requires : goal.path_in-requires
path_in-requires g c =
    let request = c.args.request.now in
    rw (c.as_slice-hops.ensures) (delays-in_range request.head.layout.ntru request.hops c.requires.in_range.0.path.each)

pub coins_in-requires : goal.coins_in-requires
coins_in-requires g c = omega (arith, ap length c.as_slice-hops.ensures, c.requires.in_range.0.path.most, c.requires.in_range.0.path.count)

pub make_packet-requires-clause-ciphertext : goal.make_packet-requires-clause-ciphertext
make_packet-requires-clause-ciphertext g c =
    let suite_laws = g.met.S.Suite in
    let kem_laws = g.met.S.K.Kem in
    c.requires.in_range.0.path.ciphertext
    ∙ sym (ap (λ (m : SuiteMeaning). m.kem.ciphertext) c.requires.suite)
    ∙ ap (λ (m : SuiteMeaning). m.kem.ciphertext) suite_laws.made_of_parts ∙ kem_laws.ciphertext_length

pub make_packet-requires-clause-coins : goal.make_packet-requires-clause-coins
make_packet-requires-clause-coins g c =
    let suite_laws = g.met.S.Suite in
    let kem_laws = g.met.S.K.Kem in
    let request = c.args.request.now in
    let lent : c.as_slice-hops.result.now ≡ request.hops = c.as_slice-hops.ensures in
    let words = delay_words request.head.seed in
    let path : c.deref.result.now ≡ path_from words request.hops = c.deref.ensures.value ∙ c.in_ok-path.ensures ∙ ap (path_from words) lent in
    let hops : length c.deref.result.now ≡ length c.as_slice-hops.result.now = ap length path ∙ length-path_from words request.hops ∙ sym (ap length lent) in
    let each : (scheme_for request.head.layout.ntru).coins ≡ g.S.K.Kem.COINS =
    sym (ap (λ (m : SuiteMeaning). m.kem.coins) c.requires.suite) ∙ ap (λ (m : SuiteMeaning). m.kem.coins) suite_laws.made_of_parts ∙ kem_laws.coins_length in
    c.deref-2.ensures.len ∙ c.in_ok-coins.ensures.length
    ∙ ap (λ (n : ℕ). n * (scheme_for request.head.layout.ntru).coins) (sym hops)
    ∙ ap (λ (n : ℕ). length c.deref.result.now * n) each

pub only_memory-requires : goal.only_memory-requires
only_memory-requires g c =
    let request = c.args.request.now in
    let kem = scheme_for request.head.layout.ntru in
    let lent : c.as_slice-hops.result.now ≡ request.hops = c.as_slice-hops.ensures in
    let words = delay_words request.head.seed in
    let path : c.deref.result.now ≡ path_from words request.hops = c.deref.ensures.value ∙ c.in_ok-path.ensures ∙ ap (path_from words) lent in
    let coins : c.deref-2.result.now ≡ coins_of kem request.head.seed (length request.hops) =
    c.deref-2.ensures.value ∙ c.in_ok-coins.ensures.coins ∙ ap (λ (hops : List Hop). coins_of kem request.head.seed (length hops)) lent in
    packet-never_refused request c.in-Err.fault c.requires.in_range (rw (c.requires.suite, path, coins, c.as_slice.ensures, c.block_in.ensures) at c.in-Err.ensures.exact)
