-- What a message gives a setting, in the numbers of the answers. Closed by the test of its status.
use Prim.Native.Nat.{ℕ}
use mathlib.Core.Path.{◌≡◌, refl}
use mathlib.Core.List.{[], ◌∷◌}
use Rattle.laws.proofs.Pick.{eq_differ, ne_differ}
use Rattle.counts.specs.declared.WordNumber.{WordNumber}
use Rattle.kinds.specs.Layout.{layout}
use Rattle.records.specs.declared.message.Message.{Message}
use Rattle.records.specs.declared.answers.Walked.TheVariants as W
use Rattle.records.specs.Answers.{accepted}
use Rattle.records.specs.Records.{kind_in, packets_in}
use Rattle.settings.specs.Target.{own_in, target_of, said_target}

-- a message of the setting's own kind gives its packets, one of another kind refusal 13
module _ (m : Message) (next : WordNumber) where
  pub target_own : said_target (target_of (layout (kind_in m)).status (W.Message m next)) ≡ accepted (packets_in m ∷ [])
  unfolding own_in
  target_own = rw (eq_differ (layout (kind_in m)).status (layout (kind_in m)).status refl)

  pub target_other : (status : ℕ) → ((layout (kind_in m)).status ≡ status → ⊥) → said_target (target_of status (W.Message m next)) ≡ record { refusal = 13; place = 0; values = [] }
  unfolding own_in
  target_other status ne = rw (ne_differ (layout (kind_in m)).status status ne)
