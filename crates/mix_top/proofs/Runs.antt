-- Runs one after the other, and by one act more; and which act of a run handed a packet on: a `send`, since no other act
-- does.
use Rattle.std.proofs.Common.{◌≡◌, ◌⊎◌, ℕ, List, [], ◌∷◌, ◌++◌, Some, Result, Ok, Err, refl, sym, ap, subst, ◌∙◌, inl, inr}
use Rattle.std.proofs.lemmas.List.{append_assoc, append-nil}
use Rattle.mix_base.specs.Suites.{SuiteMeaning}
use Rattle.spent_store.specs.declared.faults.OpenStore.{OpenStore}
use Rattle.spent_store.specs.declared.faults.OpenStore.TheVariants as open_store
use Rattle.spent_store.specs.declared.summary.Book.{Book}
use Rattle.mix_shard.specs.Items.{Item}
use Rattle.mix_shard.specs.declared.faults.Denied.{Denied}
use Rattle.mix_shard.specs.declared.faults.Denied.TheVariants as denied
use Rattle.mix_shard.specs.declared.faults.RotateFault.{RotateFault}
use Rattle.mix_shard.specs.declared.faults.RotateFault.TheVariants as rotate
use Rattle.node_core.specs.Nodes.{NodeState}
use Rattle.node_core.specs.Steps.{SendsItem}
use Rattle.node_core.specs.declared.answers.Claimed.{Claimed}
use Rattle.node_core.specs.declared.answers.Claimed.TheVariants as claimed
use Rattle.node_core.specs.declared.answers.Peeled.{Peeled}
use Rattle.node_core.specs.declared.answers.Peeled.TheVariants as peels
use Rattle.mix_top.specs.Acts.{Act, Opens, Reopens, Receives, Peels, Claims, Sends, Rotates, Arms, Crashes}
use Rattle.mix_top.specs.Report.{Line, Says, HandsOn, handed, pair_of}
use Rattle.mix_top.specs.Run.{Runs}
use Rattle.mix_top.specs.Steps.{Does, says_claimed, says_denied, says_opened, says_peeled, says_reopened, says_rotated}
use Rattle.mix_top.specs.declared.report.ReportLine.TheVariants as line

-- ---- runs that go on

module _ (tells : Type 0) (suite : SuiteMeaning) where
  -- two runs one after the other
  pub Runs-append : (done more : List Act) (old between new : NodeState) (said others : List Line)
      → Runs tells suite old done said between → Runs tells suite between more others new → Runs tells suite old (done ++ more) (said ++ others) new
  Runs-append [] more old between new said others (none, same) further =
      subst (λ (report : List Line). Runs tells suite old more report new) (sym (ap (λ (report : List Line). report ++ others) none))
      (subst (λ (state : NodeState). Runs tells suite state more others new) same further)
  Runs-append (act ∷ done) more old between new said others (mid, front, back, does, run, joined) further = (
    mid,
    front,
    back ++ others,
    does,
    Runs-append done more mid between new back others run further,
    ap (λ (report : List Line). report ++ others) joined ∙ append_assoc front back others,
  )

  -- a run of one act
  pub Runs-one : (act : Act) (old new : NodeState) (lines : List Line) → Does tells suite act lines old new → Runs tells suite old (act ∷ []) lines new
  Runs-one act old new lines does = (new, lines, [], does, (refl, refl), sym (append-nil lines))

  -- a run, and one act more
  pub Runs-push : (done : List Act) (act : Act) (old between new : NodeState) (said lines : List Line)
      → Runs tells suite old done said between → Does tells suite act lines between new → Runs tells suite old (done ++ act ∷ []) (said ++ lines) new
  Runs-push done act old between new said lines run does =
      Runs-append done (act ∷ []) old between new said lines run (Runs-one act between new lines does)

-- ---- where a list of lines has one

-- not where there is none
no_line : (lines : List Line) (one : Line) (others : List Line) → [] ≡ lines ++ one ∷ others → ⊥
no_line [] one others same = absurd (cc)
no_line (first ∷ lines) one others same = absurd (cc)

-- where there is one line, it is that one
one_line : (first : Line) (lines : List Line) (one : Line) (others : List Line) → first ∷ [] ≡ lines ++ one ∷ others → (lines ≡ []) × (first ≡ one)
one_line first [] one others same = (refl, cc)
one_line first (second ∷ lines) one others same =
    let rest : [] ≡ lines ++ one ∷ others = cc in absurd (no_line lines one others rest)

-- in the first part of a report, or in the second
parted : (front back lines : List Line) (one : Line) (others : List Line) → front ++ back ≡ lines ++ one ∷ others
    → ((behind : List Line) × (front ≡ lines ++ one ∷ behind)) ⊎ ((between : List Line) × (lines ≡ front ++ between) × (back ≡ between ++ one ∷ others))
parted [] back lines one others same = inr (lines, refl, same)
parted (first ∷ front) back [] one others same =
    let is : first ≡ one = cc in inl (front, ap (λ (l : Line). l ∷ front) is)
parted (first ∷ front) back (second ∷ lines) one others same =
    let is : first ≡ second = cc in
    let rest : front ++ back ≡ lines ++ one ∷ others = cc in
    elim (parted front back lines one others rest) [
      | inl (behind, at) ↦ inl (behind, ap (λ (l : Line). l ∷ front) is ∙ ap (λ (ls : List Line). second ∷ ls) at)
      | inr (between, at, after) ↦
          inr (between, ap (λ (ls : List Line). second ∷ ls) at ∙ ap (λ (l : Line). l ∷ (front ++ between)) (sym is), after)
    ]

-- ---- lines that hand nothing on

-- a hand-on line isn't among them
not_handed : (said lines : List Line) (item : Item) (others : List Line) → handed said ≡ [] → said ≡ lines ++ HandsOn item ∷ others → ⊥
not_handed said lines item others none same = among lines (sym (ap handed same) ∙ none)
  where
    among : (lines : List Line) → handed (lines ++ HandsOn item ∷ others) ≡ [] → ⊥
    among [] none = let some : pair_of item ∷ handed others ≡ [] = none in absurd (cc)
    among (Says said ∷ lines) none = among lines none
    among (HandsOn other ∷ lines) none = let some : pair_of other ∷ handed (lines ++ HandsOn item ∷ others) ≡ [] = none in absurd (cc)

-- where an answer gives these lines
as_made : (made lines : List Line) → Some made ≡ Some lines → handed lines ≡ handed made
as_made made lines is = let same : made ≡ lines = cc in sym (ap handed same)

pub opened_silent : (shard : ℕ) (result : Result Book OpenStore) (lines : List Line) → says_opened shard result ≡ Some lines → handed lines ≡ []
opened_silent shard (Ok book) lines is = as_made [] lines is
opened_silent shard (Err open_store.Failed) lines is = as_made (Says (line.Unopened shard) ∷ []) lines is
opened_silent shard (Err (open_store.Foreign area at)) lines is = absurd (cc)
opened_silent shard (Err (open_store.OtherShape stored)) lines is = absurd (cc)
opened_silent shard (Err open_store.Memory) lines is = absurd (cc)

pub reopened_silent : (shard : ℕ) (result : Result Book OpenStore) (lines : List Line) → says_reopened shard result ≡ Some lines → handed lines ≡ []
reopened_silent shard (Ok book) lines is = as_made (Says (line.Restarted shard book.floor book.spent) ∷ []) lines is
reopened_silent shard (Err open_store.Failed) lines is = as_made (Says (line.Unopened shard) ∷ []) lines is
reopened_silent shard (Err (open_store.Foreign area at)) lines is = absurd (cc)
reopened_silent shard (Err (open_store.OtherShape stored)) lines is = absurd (cc)
reopened_silent shard (Err open_store.Memory) lines is = absurd (cc)

pub peeled_silent : (worker : ℕ) (answer : Peeled) → handed (says_peeled worker answer) ≡ []
peeled_silent worker (peels.Holding number) = refl
peeled_silent worker (peels.Refused number why) = refl
peeled_silent worker peels.Idle = refl
peeled_silent worker peels.Busy = refl

denied_silent : (number shard : ℕ) (why : Denied) (lines : List Line) → says_denied number shard why ≡ Some lines → handed lines ≡ []
denied_silent number shard (denied.Retired floor) lines is = as_made (Says (line.Retired number floor) ∷ []) lines is
denied_silent number shard denied.Spent lines is = as_made (Says (line.Spent number) ∷ []) lines is
denied_silent number shard denied.ShardFull lines is = as_made (Says (line.Full number) ∷ []) lines is
denied_silent number shard denied.Disk lines is = as_made (Says (line.Failed number shard) ∷ []) lines is
denied_silent number shard (denied.Journal why) lines is = absurd (cc)
denied_silent number shard denied.Memory lines is = absurd (cc)

pub claimed_silent : (worker : ℕ) (answer : Claimed) (lines : List Line) → says_claimed worker answer ≡ Some lines → handed lines ≡ []
claimed_silent worker (claimed.Accepted number) lines is = as_made [] lines is
claimed_silent worker (claimed.Denied number shard why) lines is = denied_silent number shard why lines is
claimed_silent worker claimed.Empty lines is = as_made (Says (line.Empty worker) ∷ []) lines is

pub rotated_silent : (shard : ℕ) (result : Result (Unit {0}) RotateFault) (lines : List Line) → says_rotated shard result ≡ Some lines → handed lines ≡ []
rotated_silent shard (Ok done) lines is = as_made [] lines is
rotated_silent shard (Err rotate.RootFull) lines is = as_made (Says (line.RootFull shard) ∷ []) lines is
rotated_silent shard (Err rotate.Disk) lines is = as_made (Says (line.NotRotated shard) ∷ []) lines is
rotated_silent shard (Err (rotate.Journal why)) lines is = absurd (cc)
rotated_silent shard (Err rotate.Memory) lines is = absurd (cc)

-- ---- no act but a `send` hands a packet on

module _ (tells : Type 0) (suite : SuiteMeaning) where
  -- an act that hands a packet on is a `send`, and gives no other line
  pub record Sent (act : Act) (lines : List Line) (item : Item) (old new : NodeState) : Type 0 where
    pub moment : ℕ
    pub is : act ≡ Sends moment
    pub first : lines ≡ []
    pub sends : SendsItem tells suite moment item old new

  sent_by : (moment : ℕ) (said lines : List Line) (item : Item) (others : List Line) (old new : NodeState)
      → Does tells suite (Sends moment) said old new → said ≡ lines ++ HandsOn item ∷ others → Sent (Sends moment) lines item old new
  sent_by moment said lines item others old new (inl none) same = absurd (not_handed said lines item others (ap handed none.2) same)
  sent_by moment said lines item others old new (inr (sent, sends, gave)) same =
      let one = one_line (HandsOn sent) lines (HandsOn item) others (sym gave ∙ same) in
      let line : HandsOn sent ≡ HandsOn item = one.1 in
      let is : sent ≡ item = cc in
      record { moment = moment; is = refl; first = one.0; sends = subst (λ (i : Item). SendsItem tells suite moment i old new) is sends }

  sent_in : (act : Act) (said lines : List Line) (item : Item) (others : List Line) (old new : NodeState)
      → Does tells suite act said old new → said ≡ lines ++ HandsOn item ∷ others → Sent act lines item old new
  sent_in (Opens shard) said lines item others old new (result, opens, says) same = absurd (not_handed said lines item others (opened_silent shard result said says) same)
  sent_in (Reopens shard) said lines item others old new (result, opens, says) same = absurd (not_handed said lines item others (reopened_silent shard result said says) same)
  sent_in (Receives moment packet) said lines item others old new does same = absurd (not_handed said lines item others (ap handed does.1) same)
  sent_in (Peels worker) said lines item others old new (answer, peels, says) same =
      absurd (not_handed said lines item others (ap handed says ∙ peeled_silent worker answer) same)
  sent_in (Claims worker) said lines item others old new (answer, claims, says) same = absurd (not_handed said lines item others (claimed_silent worker answer said says) same)
  sent_in (Sends moment) said lines item others old new does same = sent_by moment said lines item others old new does same
  sent_in (Rotates moment shard) said lines item others old new (result, retires, says) same =
      absurd (not_handed said lines item others (rotated_silent shard result said says) same)
  sent_in (Arms shard calls) said lines item others old new does same = absurd (not_handed said lines item others (ap handed does.1) same)
  sent_in (Crashes pick) said lines item others old new does same = absurd (not_handed said lines item others (ap handed does.1) same)

  -- a run whose report hands a packet on behind these lines: the acts before the `send` that gave it give the lines before it
  pub record HandedOn (old : NodeState) (acts : List Act) (lines : List Line) (item : Item) : Type 0 where
    pub before : List Act
    pub moment : ℕ
    pub behind : List Act
    pub sent : acts ≡ before ++ Sends moment ∷ behind
    pub state : NodeState
    pub so_far : Runs tells suite old before lines state
    pub next : NodeState
    pub sends : SendsItem tells suite moment item state next

  pub Runs-split : (acts : List Act) (old new : NodeState) (said lines : List Line) (item : Item) (others : List Line)
      → Runs tells suite old acts said new → said ≡ lines ++ HandsOn item ∷ others → HandedOn old acts lines item
  Runs-split [] old new said lines item others (none, same) at = absurd (not_handed said lines item others (ap handed none) at)
  Runs-split (act ∷ acts) old new said lines item others (between, front, back, does, run, joined) at =
      elim (parted front back lines (HandsOn item) others (sym joined ∙ at)) [
        | inl (behind, here) ↦
            let sent = sent_in act front lines item behind old between does here in
            record {
              before = [];
              moment = sent.moment;
              behind = acts;
              sent = ap (λ (a : Act). a ∷ acts) sent.is;
              state = old;
              so_far = (sent.first, refl);
              next = between;
              sends = sent.sends;
            }
        | inr (middle, before, after) ↦
            let later = Runs-split acts between new back middle item others run after in
            record {
              before = act ∷ later.before;
              moment = later.moment;
              behind = later.behind;
              sent = ap (λ (more : List Act). act ∷ more) later.sent;
              state = later.state;
              so_far = (between, front, middle, does, later.so_far, before);
              next = later.next;
              sends = later.sends;
            }
      ]
