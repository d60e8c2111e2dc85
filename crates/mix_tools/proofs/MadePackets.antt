-- A request in the grammar makes a packet or a block: none of the refusals of a maker comes.
use Rattle.std.proofs.Common.{◌≡◌, ℕ, ◌+◌, ◌<◌, ◌≤◌, List, [], ◌∷◌, length, take, drop, All, Bool, true, false, not, nat_lt, Option, Some, None, Result, Ok, Err, IfSome, IsOk, IsSome, refl, arith, eq-eqb}
use Rattle.std.specs.List.{position, prefix_len}
use Rattle.std.specs.Option.{option_map, option_map_or, ok_or}
use Rattle.std.proofs.lemmas.Bool.{le-leb, le-ltb}
use Rattle.std.proofs.lemmas.List.Elements.{All-nil, All-cons, All-head, All-tail}
use Rattle.packet_form.specs.Commands.{longest_delay}
use Rattle.packet_form.specs.Geometry.{Sizes, block}
use Rattle.packet_form.specs.declared.commands.Exit.{Exit}
use Rattle.packet_form.specs.declared.commands.Exit.TheVariants.{Recipient, Reply}
use Rattle.reply_blocks.specs.Blocks.{made_block}
use Rattle.sphinx_make.specs.Drawing.{drawn_delay}
use Rattle.mix_base.specs.Results.{IsRefusedBy, ◌>>=◌}
use Rattle.mix_base.specs.Suites.{SuiteMeaning}
use Rattle.ntru_prime.proofs.PublicKeys.{encapsulated_exactly}
use Rattle.sphinx_make.specs.Faults.{cause_of}
use Rattle.sphinx_make.specs.Making.{checked, checked_contents, checked_count, is_late, made_header, made_packet, sealed_by, sealed_hop, sealed_path}
use Rattle.sphinx_make.specs.declared.faults.MakeFault.{MakeFault}
use Rattle.sphinx_make.specs.declared.faults.MakeFault.TheVariants as faults
use Rattle.sphinx_make.specs.declared.path.HopSpec.{HopSpec}
use Rattle.sphinx_make.specs.declared.path.SealedHop.{SealedHop}
use Rattle.mix_tools.specs.Packets.{block_made, coins_of, delay_from, delay_words, hop_from, own_key_of, packet_made, path_from, taken_for}
use Rattle.mix_tools.proofs.Refusals.{only_memory}
use Rattle.mix_tools.specs.Drafts.{IsDelayInRange, IsHopInRange, IsRequestInRange}
use Rattle.mix_tools.specs.Suites.{meaning_for, scheme_for}
use Rattle.mix_tools.specs.declared.requests.BlockRequest.{BlockRequest}
use Rattle.mix_tools.specs.declared.requests.Delay.{Delay}
use Rattle.mix_tools.specs.declared.requests.Delay.TheVariants.{Unsaid, Given, Drawn}
use Rattle.mix_tools.specs.declared.requests.Hop.{Hop}
use Rattle.mix_tools.specs.declared.requests.PacketRequest.{PacketRequest}
use Rattle.mix_tools.specs.declared.requests.Request.TheVariants.{Packet, Block}

-- a hop that no maker of the suite refuses
pub record IsMakeable (suite : SuiteMeaning) (hop : HopSpec) : Type 0 where
  pub key : length hop.key ≡ suite.kem.public_key
  pub sealed : (coins : List ℕ) → IsSome (suite.kem.encapsulate hop.key coins)
  pub delay : is_late hop ≡ false

-- encapsulation has a value for a key that decodes
sealed_for : (ntru : Bool) (hop : Hop) → IsHopInRange ntru hop → (coins : List ℕ) → IsSome ((scheme_for ntru).encapsulate hop.key coins)
sealed_for true hop fine coins = (encapsulated_exactly hop.key coins).0 fine.decodes
sealed_for false hop fine coins = refl

-- ---- the path of a request

delay-in_time : (words : ℕ → ℕ) (delay : Delay) → IsDelayInRange delay → option_map_or (λ d. nat_lt longest_delay d) (delay_from words delay) false ≡ false
delay-in_time words Unsaid fine = refl
delay-in_time words (Given milliseconds) fine = le-ltb longest_delay milliseconds fine
delay-in_time words (Drawn draw) fine = le-ltb longest_delay (drawn_delay draw words) (omega (arith, fine.cap))

pub path_from-makeable : (ntru : Bool) (words : ℕ → ℕ) (hops : List Hop) → All (IsHopInRange ntru) hops → All (IsMakeable (meaning_for ntru)) (path_from words hops)
path_from-makeable ntru words [] fine = All-nil (IsMakeable (meaning_for ntru))
path_from-makeable ntru words (hop ∷ hops) fine =
    let first = All-head (IsHopInRange ntru) hop hops fine in
    let further : ℕ → ℕ = λ place. words (taken_for words hop.delay + place) in
    All-cons (IsMakeable (meaning_for ntru)) (hop_from words hop) (path_from further hops)
    (record { key = first.key; sealed = sealed_for ntru hop first; delay = delay-in_time words hop.delay first.delay })
    (path_from-makeable ntru further hops (All-tail (IsHopInRange ntru) hop hops fine))

-- the delays of a path in range
pub delays-in_range : (ntru : Bool) (hops : List Hop) → All (IsHopInRange ntru) hops → All (λ hop. IsDelayInRange hop.delay) hops
delays-in_range ntru [] fine = All-nil (λ hop. IsDelayInRange hop.delay)
delays-in_range ntru (hop ∷ hops) fine =
    All-cons (λ hop. IsDelayInRange hop.delay) hop hops (All-head (IsHopInRange ntru) hop hops fine).delay
    (delays-in_range ntru hops (All-tail (IsHopInRange ntru) hop hops fine))

pub length-path_from : (words : ℕ → ℕ) (hops : List Hop) → length (path_from words hops) ≡ length hops
length-path_from words [] = refl
length-path_from words (hop ∷ hops) = rw (length-path_from (λ place. words (taken_for words hop.delay + place)) hops) refl

-- ---- the checks of a maker

all_in_time : (suite : SuiteMeaning) (path : List HopSpec) → All (IsMakeable suite) path → prefix_len (λ hop. not (is_late hop)) path ≡ length path
all_in_time suite [] fine = refl
all_in_time suite (hop ∷ path) fine =
    let first = All-head (IsMakeable suite) hop path fine in
    rw (first.delay, all_in_time suite path (All-tail (IsMakeable suite) hop path fine)) (omega arith)

none_late : (suite : SuiteMeaning) (path : List HopSpec) → All (IsMakeable suite) path → position is_late path ≡ None
none_late suite path fine = rw (all_in_time suite path fine, le-ltb (length path) (length path) (omega arith)) refl

checked-ok : (suite : SuiteMeaning) (sizes : Sizes) (path : List HopSpec) → 0 < length path → length path ≤ sizes.hops → All (IsMakeable suite) path
    → (checked_count sizes path ≡ Ok tt) × (checked sizes path ≡ Ok tt)
unfolding checked checked_count
checked-ok suite sizes path some room fine =
    let low = le-leb 1 (length path) (omega arith) in
    let high = le-leb (length path) sizes.hops room in
    (rw (low, high) refl, rw (low, high, none_late suite path fine) refl)

contents-ok : (sizes : Sizes) (body : List ℕ) (reply_block : Option (List ℕ)) → length body ≡ sizes.body
    → IfSome reply_block (λ bytes. length bytes ≡ block sizes) → checked_contents sizes body reply_block ≡ Ok tt
unfolding checked_contents
contents-ok sizes body None fits block_fits = rw (eq-eqb (length body) sizes.body fits) refl
contents-ok sizes body (Some bytes) fits block_fits = rw (eq-eqb (length body) sizes.body fits, eq-eqb (length bytes) (block sizes) block_fits) refl

-- ---- the path is sealed

mapped_some : {A B : Type 0} (f : A → B) (value : Option A) → IsSome value → IsSome (option_map f value)
mapped_some f (Some x) fine = refl
mapped_some f None fine = fine

sealed_hop-some : (suite : SuiteMeaning) (hop : HopSpec) (coins : List ℕ) → IsMakeable suite hop → IsSome (sealed_hop suite hop coins)
unfolding sealed_hop
sealed_hop-some suite hop coins fine =
    rw (eq-eqb (length hop.key) suite.kem.public_key fine.key) (mapped_some (sealed_by suite hop) (suite.kem.encapsulate hop.key coins) (fine.sealed coins))

both_sealed : (first : Option SealedHop) (others : Result (List SealedHop) MakeFault) (place : ℕ) → IsSome first → IsOk others
    → IsOk (ok_or first (faults.KeyForm place) >>= (λ hop. others >>= (λ hops. Ok (hop ∷ hops))))
both_sealed (Some hop) (Ok hops) place some fine = refl
both_sealed (Some hop) (Err why) place some fine = cc
both_sealed None others place some fine = cc

sealed_path-ok : (suite : SuiteMeaning) (place : ℕ) (path : List HopSpec) (coins : List ℕ) → All (IsMakeable suite) path → IsOk (sealed_path suite place path coins)
unfolding sealed_path
sealed_path-ok suite place [] coins fine = refl
sealed_path-ok suite place (hop ∷ path) coins fine =
    both_sealed (sealed_hop suite hop (take suite.kem.coins coins)) (sealed_path suite (place + 1) path (drop suite.kem.coins coins)) place
    (sealed_hop-some suite hop (take suite.kem.coins coins) (All-head (IsMakeable suite) hop path fine))
    (sealed_path-ok suite (place + 1) path (drop suite.kem.coins coins) (All-tail (IsMakeable suite) hop path fine))

-- ---- what is made

then_ok : {A B : Type 0} (result : Result A MakeFault) (f : A → B) → IsOk result → IsOk (result >>= (λ x. Ok (f x)))
then_ok (Ok x) f fine = refl
then_ok (Err why) f fine = cc

made_header-ok : (suite : SuiteMeaning) (sizes : Sizes) (path : List HopSpec) (last : Exit) (coins : List ℕ) → 0 < length path → length path ≤ sizes.hops → All (IsMakeable suite) path
    → IsOk (made_header suite sizes path last coins)
unfolding made_header
made_header-ok suite sizes path last coins some room fine =
    rw ((checked-ok suite sizes path some room fine).1) (then_ok (sealed_path suite 0 path coins) _ (sealed_path-ok suite 0 path coins fine))

pub made_packet-ok : (suite : SuiteMeaning) (sizes : Sizes) (path : List HopSpec) (recipient body : List ℕ) (reply_block : Option (List ℕ)) (coins : List ℕ)
    → 0 < length path → length path ≤ sizes.hops → All (IsMakeable suite) path → length body ≡ sizes.body
    → IfSome reply_block (λ bytes. length bytes ≡ block sizes)
    → IsOk (made_packet suite sizes path recipient body reply_block coins)
unfolding made_packet
made_packet-ok suite sizes path recipient body reply_block coins some room fine fits block_fits =
    rw ((checked-ok suite sizes path some room fine).0, contents-ok sizes body reply_block fits block_fits)
    (then_ok (made_header suite sizes path (Recipient recipient) coins) _ (made_header-ok suite sizes path (Recipient recipient) coins some room fine))

made_block-ok : (suite : SuiteMeaning) (sizes : Sizes) (path : List HopSpec) (recipient surb own coins : List ℕ) → 0 < length path → length path ≤ sizes.hops → All (IsMakeable suite) path
    → IsOk (made_block suite sizes path recipient surb own coins)
unfolding made_block
made_block-ok suite sizes path recipient surb own coins some room fine =
    then_ok (made_header suite sizes path (Reply recipient surb) coins) _ (made_header-ok suite sizes path (Reply recipient surb) coins some room fine)

-- ---- a request in the grammar is never refused

pub packet-never_refused : (request : PacketRequest) (why : MakeFault) → IsRequestInRange (Packet request) → IsRefusedBy (cause_of why) (packet_made request) → cause_of why ≡ None
packet-never_refused request why fine fails =
    let ntru = request.head.layout.ntru in
    let words = delay_words request.head.seed in
    let count = length-path_from words request.hops in
    only_memory (cause_of why) (packet_made request)
    (made_packet-ok (meaning_for ntru) request.head.layout.geometry (path_from words request.hops) request.recipient request.body request.block
    (coins_of (scheme_for ntru) request.head.seed (length request.hops))
    (omega (arith, count, fine.0.some)) (omega (arith, count, fine.0.path.count)) (path_from-makeable ntru words request.hops fine.0.path.each) fine.1 fine.2)
    fails

pub block-never_refused : (request : BlockRequest) (why : MakeFault) → IsRequestInRange (Block request) → IsRefusedBy (cause_of why) (block_made request) → cause_of why ≡ None
block-never_refused request why fine fails =
    let ntru = request.head.layout.ntru in
    let words = delay_words request.head.seed in
    let count = length-path_from words request.hops in
    only_memory (cause_of why) (block_made request)
    (made_block-ok (meaning_for ntru) request.head.layout.geometry (path_from words request.hops) request.recipient request.surb
    (own_key_of (scheme_for ntru) request.head.seed (length request.hops)) (coins_of (scheme_for ntru) request.head.seed (length request.hops))
    (omega (arith, count, fine.some)) (omega (arith, count, fine.path.count)) (path_from-makeable ntru words request.hops fine.path.each))
    fails
