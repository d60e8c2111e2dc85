-- Epochs of time and which of them are live at a moment. Moments and lengths are in milliseconds.
use Rattle.std.specs.Prelude.{ℕ, zero, suc, ◌+◌, ◌-◌, ◌*◌, ◌/◌, ◌^◌, ◌≤◌, ◌&&◌, nat_le, nat_lt, Bool, List, [], ◌∷◌, filter}

-- the length of an epoch, and the grace for which it is live before it begins and after it ends
pub record EpochTimes : Type 0 where
  pub epoch : ℕ
  pub grace : ℕ

-- the lengths that may be chosen: 4 to 2 ^ 40, and a grace of at most a quarter
pub record InRange (times : EpochTimes) : Type 0 where
  pub low : 4 ≤ times.epoch
  pub high : times.epoch ≤ 2 ^ 40
  pub quarter : times.grace ≤ times.epoch / 4

-- the epoch is live at the moment: it has begun, or begins within the grace, and hasn't ended for longer than that
abbrev pub is_live : EpochTimes → ℕ → ℕ → Bool
is_live times epoch moment = nat_le (epoch * times.epoch) (moment + times.grace) && nat_lt moment ((epoch + 1) * times.epoch + times.grace)

-- the epoch that the moment lies in
abbrev pub current : EpochTimes → ℕ → ℕ
current times moment = moment / times.epoch

-- the epoch before an epoch, where there is one, and the epoch after it
abbrev pub neighbours : ℕ → List ℕ
neighbours zero = 1 ∷ []
neighbours (suc before) = before ∷ suc (suc before) ∷ []

-- the live epochs, the current one first: beside it only one of its neighbours can be live
abbrev pub live_epochs : EpochTimes → ℕ → List ℕ
live_epochs times moment = current times moment ∷ filter (λ epoch. is_live times epoch moment) (neighbours (current times moment))

-- the least epoch that is live; within the first grace that is epoch 0, since the difference is 0 there
abbrev pub least_live : EpochTimes → ℕ → ℕ
least_live times moment = (moment - times.grace) / times.epoch
