-- How much room there is changes nothing else: what is said from a shard with more room holds from that with less.
use Rattle.std.proofs.Common.{◌≡◌, ℕ, List, [], Option, Some, None, Result, Ok, Err, refl, sym, inl}
use Rattle.std.specs.Result.{IfErr, IfOk}
use Rattle.std.proofs.lemmas.List.{append-nil}
use Rattle.mix_base.specs.Suites.{SuiteMeaning}
use Rattle.replay_disk.specs.Moments.{AtEachMoment}
use Rattle.replay_disk.proofs.Laws.{started}
use Rattle.spent_store.specs.Stores.{OpensToOneOf, opened}
use Rattle.spent_store.specs.Journals.{unopened}
use Rattle.spent_store.specs.declared.summary.Book.{Book}
use Rattle.spent_store.specs.declared.faults.OpenStore.{OpenStore}
use Rattle.spent_store.specs.declared.faults.OpenStore.TheVariants.{Failed, Foreign, OtherShape, Memory}
use Rattle.spent_store.proofs.StepLaws.{unopened-old}
use Rattle.mix_shard.specs.Kept.{ToldFor}
use Rattle.mix_shard.specs.Shards.{Adds, BeganAlike, IsCharted, IsKept, IsReady, RefusesOpening, SameButRack, ShardState}
use Rattle.mix_shard.specs.declared.entries.Answer.{Answer}
use Rattle.mix_shard.specs.declared.entries.Told.{Told}

pub if_err : {X E : Type 0} (P Q : E → Type 0) (result : Result X E) → ((fault : E) → P fault → Q fault) → IfErr result P → IfErr result Q
if_err P Q (Ok x) weaker holds = holds
if_err P Q (Err fault) weaker holds = weaker fault holds

pub if_ok : {X E : Type 0} (P Q : X → Type 0) (result : Result X E) → ((given : X) → P given → Q given) → IfOk result P → IfOk result Q
if_ok P Q (Ok x) weaker holds = weaker x holds
if_ok P Q (Err fault) weaker holds = holds

module _ (old : ShardState) (spare : ℕ) where
  abbrev pub with_spare : ShardState
  with_spare = record old { spare = spare }

  began_from : (new : ShardState) → BeganAlike with_spare new → BeganAlike old new
  began_from new began = record { terms = began.terms; first = began.first; faults = began.faults }

  pub adds_from : (tells : Type 0) (suite : SuiteMeaning) (caller : ℕ) (Own : List Told → Type 0) (new : ShardState)
      → Adds tells suite caller Own with_spare new → Adds tells suite caller Own old new
  adds_from tells suite caller Own new adds = record {
    began = began_from new adds.began;
    opening = adds.opening;
    by_caller = adds.by_caller;
    own = adds.own;
    own_is = adds.own_is;
    told = adds.told;
    steps = adds.steps;
  }

  pub ready_from : (tells : Type 0) (suite : SuiteMeaning) (caller : ℕ) (book : Book) (new : ShardState)
      → IsReady tells suite caller book with_spare new → IsReady tells suite caller book old new
  ready_from tells suite caller book new ready = record {
    adds = adds_from tells suite caller (λ own. own ≡ []) new ready.adds;
    stored = ready.stored;
    sound = ready.sound;
    summed = ready.summed;
  }

  pub refuses_from : (fault : OpenStore) (new : ShardState) → RefusesOpening fault with_spare new → RefusesOpening fault old new
  refuses_from Failed new refused = record { began = began_from new refused.began; told = refused.told; unsound = refused.unsound; state = refused.state }
  refuses_from (Foreign area at) new refused = record { began = began_from new refused.began; told = refused.told; unsound = refused.unsound; state = refused.state }
  refuses_from (OtherShape stored) new refused = record { began = began_from new refused.began; told = refused.told; unsound = refused.unsound; state = refused.state }
  refuses_from Memory new refused = record { began = began_from new refused.began; told = refused.told; state = refused.state }

  pub told_from : (answer : Option Answer) (asked : Told) (new : ShardState) → ToldFor answer asked with_spare new → ToldFor answer asked old new
  told_from None asked new same = record { began = began_from new same.began; told = same.told; state = same.state }
  told_from (Some answer) asked new told = record { began = began_from new told.began; tale = told.tale; unsound = told.unsound; state = told.state }

  -- nothing but the room changed
  pub same_but_spare : SameButRack old with_spare
  same_but_spare = record { began = record { terms = refl; first = refl; faults = refl }; told = refl; state = refl }

  pub adds_nothing : (tells : Type 0) (suite : SuiteMeaning) (caller : ℕ) → Adds tells suite caller (λ own. own ≡ []) old with_spare
  adds_nothing tells suite caller = record {
    began = record { terms = refl; first = refl; faults = refl };
    opening = [];
    by_caller = inl refl;
    own = [];
    own_is = refl;
    told = sym (append-nil old.told);
    steps = refl;
  }

-- where the rack is let alone, whatever a crash leaves opens to the journal's books
pub moments_idle : (tells : Type 0) (suite : SuiteMeaning) (shard : ShardState) → IsKept tells suite shard → (t : tells) → IsCharted shard
    → AtEachMoment (OpensToOneOf shard.terms.shape shard.terms.limit (unopened shard.terms.shape shard.state.journal).books) shard.rack shard.rack
moments_idle tells suite shard kept t known =
    started (OpensToOneOf shard.terms.shape shard.terms.limit (unopened shard.terms.shape shard.state.journal).books) shard.rack
    (λ left. unopened-old shard.terms.shape shard.state.journal (opened shard.terms.shape shard.terms.limit shard.rack.areas left) (kept.covers t known left))
