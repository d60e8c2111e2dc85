-- The hall of a node that was opened.
use Rattle.std.proofs.Common.{◌≡◌, ◌<◌, ℕ, List, length, map, refl, sym, ap, subst, ◌∙◌, arith, Some}
use Rattle.std.specs.Prelude.{All, slice_get}
use Rattle.std.specs.Option.{option_map}
use Rattle.std.proofs.lemmas.List.{length-map}
use Rattle.std.proofs.lemmas.Option.{slice_get-map}
use Rattle.atomic_table.specs.Seated.{TableId}
use Rattle.mix_shard.specs.Origins.{origin_of}
use Rattle.mix_shard.specs.Shards.{ShardState}
use Rattle.mix_shard.specs.declared.entries.Told.{Told}
use Rattle.mix_shard.specs.declared.setup.Setup.{Setup}
use Rattle.mix_shard.specs.declared.terms.Terms.{Terms}
use Rattle.turn_lock.specs.Seen.{Lock}
use Rattle.node_actors.specs.Calls.{terms_in}
use Rattle.node_actors.proofs.Seating.{get_low, get_there, some_same}
use Rattle.node_run.specs.Halls.{IsHall, IsHallLock, hall_with}
use Rattle.node_run.specs.Openings.{CanOpen, IsQuiet, IsUnused, tale_behind, tale_of}
use Rattle.node_run.specs.Roles.{callers_for}
use Rattle.node_run.proofs.Filling.{at_place, from_places}

spelled : (shard : ShardState) → terms_in (origin_of shard) ≡ shard.terms
spelled shard = refl

pub same_many : (shards : List ShardState) (locks : List (Lock Told)) → map tale_behind locks ≡ map tale_of shards → length locks ≡ length shards
same_many shards locks tales = sym (length-map locks tale_behind) ∙ (ap (λ (ts : List (List (List ℕ) × List Told)). length ts) tales ∙ length-map shards tale_of)

-- the shard behind a lock
behind : (shards : List ShardState) (locks : List (Lock Told)) → map tale_behind locks ≡ map tale_of shards → (i : ℕ) (lock : Lock Told) → slice_get locks i ≡ Some lock
    → (shard : ShardState) × (slice_get shards i ≡ Some shard) × (terms_in lock.origin ≡ shard.terms)
behind shards locks tales i lock at =
    let there = get_there shards i (let a = same_many shards locks tales in let b = get_low locks i lock at in omega arith) in
    let of_lock : slice_get (map tale_behind locks) i ≡ Some (tale_behind lock) = slice_get-map tale_behind locks i ∙ ap (λ o. option_map tale_behind o) at in
    let of_shard : slice_get (map tale_of shards) i ≡ Some (tale_of there.0) = slice_get-map tale_of shards i ∙ ap (λ o. option_map tale_of o) there.1 in
    let same : tale_behind lock ≡ tale_of there.0 =
    some_same (tale_behind lock) (tale_of there.0) (sym of_lock ∙ (ap (λ (ts : List (List (List ℕ) × List Told)). slice_get ts i) tales ∙ of_shard)) in
    (there.0, there.1, ap (λ (t : List (List ℕ) × List Told). terms_in t.0) same ∙ spelled there.0)

pub hall_is : (setup : Setup) (shards : List ShardState) (listeners workers links callers : ℕ) (locks : List (Lock Told)) (queues : List TableId) → CanOpen setup shards listeners workers links
    → callers ≡ callers_for listeners workers links → All (IsQuiet callers) locks → map tale_behind locks ≡ map tale_of shards → IsHall (hall_with locks queues setup callers)
hall_is setup shards listeners workers links callers locks queues can callers_are quiet tales = record {
  some = subst (λ (n : ℕ). 0 < n) (sym (same_many shards locks tales)) can.some;
  each = from_places (IsHallLock (hall_with locks queues setup callers)) locks (λ i lock at.
      let one = behind shards locks tales i lock at in
      let is = at_place (IsQuiet callers) locks quiet i lock at in
      record {
        many = is.many;
        setup_is = ap (λ (t : Terms). t.setup) one.2 ∙ (can.places i one.0 one.1).setup_is;
        callers_are = ap (λ (t : Terms). t.callers) one.2 ∙ ((at_place_unused i one.0 one.1) ∙ sym callers_are);
        nothing_held = is.nothing_held;
        nobody_ended = is.nobody_ended;
      });
}
  where
    at_place_unused : (i : ℕ) (shard : ShardState) → slice_get shards i ≡ Some shard → shard.terms.callers ≡ callers_for listeners workers links
    at_place_unused i shard at = (at_place (IsUnused (callers_for listeners workers links)) shards can.unused i shard at).callers_are
