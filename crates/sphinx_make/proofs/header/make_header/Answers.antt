use Rattle.std.proofs.Common.{◌≡◌, ◌≤◌, ◌<◌, List, length, All, sym, ap, subst, ◌∙◌}
use Rattle.mix_base.specs.Suites.{SuiteMeaning}
use Rattle.sphinx_make.proofs.SealedPaths.{are_sealed, header_carries}
use Rattle.sphinx_make.proofs.HeaderLaws.{KeepsLengths}
use Rattle.sphinx_make.specs.Making.{header_for, wides_of}
use Rattle.sphinx_make.specs.Sealing.{IsOnTime}
use Rattle.sphinx_make.specs.declared.path.SealedHop.{SealedHop}
use Rattle.sphinx_make.proofs.header.make_header.Goals as goal

pub join_header-requires-clause-delays : goal.join_header-requires-clause-delays
join_header-requires-clause-delays g c =
    let suite_laws = g.met.S.Suite in
    let kem_laws = g.met.S.K.Kem in
    let coins_are : g.S.Suite.meaning.kem.coins ≡ g.S.K.Kem.COINS = ap (λ (m : SuiteMeaning). m.kem.coins) suite_laws.made_of_parts ∙ kem_laws.coins_length in
    let sealed = are_sealed g.S.Suite.meaning c.args.geo.now c.args.path.now c.args.coins.now c.in_ok-hops.hops.items g.S.K.Kem.COINS coins_are (sym c.in_ok-check_path.ensures) c.in_ok-hops.ensures.exact c.requires.coins c.type_inv.coins in
    subst (λ (hops : List SealedHop). All IsOnTime hops) (sym c.deref.ensures.value) sealed.on_time

pub join_header-requires-clause-room : goal.join_header-requires-clause-room
join_header-requires-clause-room g c =
    let suite_laws = g.met.S.Suite in
    let kem_laws = g.met.S.K.Kem in
    let coins_are : g.S.Suite.meaning.kem.coins ≡ g.S.K.Kem.COINS = ap (λ (m : SuiteMeaning). m.kem.coins) suite_laws.made_of_parts ∙ kem_laws.coins_length in
    let sealed = are_sealed g.S.Suite.meaning c.args.geo.now c.args.path.now c.args.coins.now c.in_ok-hops.hops.items g.S.K.Kem.COINS coins_are (sym c.in_ok-check_path.ensures) c.in_ok-hops.ensures.exact c.requires.coins c.type_inv.coins in
    subst (λ (hops : List SealedHop). length hops ≤ c.args.geo.now.hops) (sym c.deref.ensures.value) sealed.most

pub returns-clause-carries : goal.returns-clause-carries
returns-clause-carries g c =
    let suite_laws = g.met.S.Suite in
    let kem_laws = g.met.S.K.Kem in
    let mac_laws = g.met.S.M.Mac in
    let wide_laws = g.met.S.W.Wide in
    let coins_are : g.S.Suite.meaning.kem.coins ≡ g.S.K.Kem.COINS = ap (λ (m : SuiteMeaning). m.kem.coins) suite_laws.made_of_parts ∙ kem_laws.coins_length in
    let sealed = are_sealed g.S.Suite.meaning c.args.geo.now c.args.path.now c.args.coins.now c.in_ok-hops.hops.items g.S.K.Kem.COINS coins_are (sym c.in_ok-check_path.ensures) c.in_ok-hops.ensures.exact c.requires.coins c.type_inv.coins in
    let laws = subst (λ (m : SuiteMeaning). KeepsLengths m) (sym suite_laws.made_of_parts) (record { code = mac_laws.code_length; decrypted = wide_laws.decrypted_length }) in
    header_carries g.S.Suite.meaning c.args.geo.now g.S.K.Kem.CT c.args.path.now c.args.last.now c.in_ok-hops.hops.items c.in_ok-header.header c.in_ok-wides.wides.items
    laws (c.in_ok-header.ensures.exit (subst (λ (hops : List SealedHop). 0 < length hops) (sym c.deref.ensures.value) sealed.some)) c.requires.ciphertext c.in_ok-hops.ensures.lengths sealed
    (c.in_ok-header.ensures.value ∙ ap (λ (hops : List SealedHop). header_for g.S.Suite.meaning c.args.geo.now c.args.last.now hops) c.deref.ensures.value)
    (c.in_ok-wides.ensures ∙ ap (λ (hops : List SealedHop). wides_of hops) c.deref-2.ensures.value)

pub returns-clause-length : goal.returns-clause-length
returns-clause-length g c =
    let suite_laws = g.met.S.Suite in
    let kem_laws = g.met.S.K.Kem in
    let coins_are : g.S.Suite.meaning.kem.coins ≡ g.S.K.Kem.COINS = ap (λ (m : SuiteMeaning). m.kem.coins) suite_laws.made_of_parts ∙ kem_laws.coins_length in
    let sealed = are_sealed g.S.Suite.meaning c.args.geo.now c.args.path.now c.args.coins.now c.in_ok-hops.hops.items g.S.K.Kem.COINS coins_are (sym c.in_ok-check_path.ensures) c.in_ok-hops.ensures.exact c.requires.coins c.type_inv.coins in
    c.in_ok-header.ensures.length (subst (λ (hops : List SealedHop). 0 < length hops) (sym c.deref.ensures.value) sealed.some)
