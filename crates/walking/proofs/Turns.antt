-- A packet of framing, case by case, and a turn of the framing loop. Closed by opening one packet of the definition.
use Prim.Native.Nat.{ℕ, suc, ◌+◌, ◌-◌, ◌≤◌, ◌<◌}
use mathlib.Core.Path.{◌≡◌, refl, ap, ◌∙◌}
use mathlib.Core.List.{List}
use native.Mathlib.Numerals.{add-one}
use native.Mathlib.Omega.{arith}
use lib.ListN.{length, get_or}
use borrow.Author.Tests.{lt-ltb, le-ltb}
use Rattle.laws.proofs.Pick.{here, past, eq_differ, ne_differ}
use Rattle.counts.specs.Counts.{packet}
use Rattle.kinds.specs.declared.refusal.Refusal.TheVariants.{TooManyPackets, WrongType, StatusDiffers}
use Rattle.standard.specs.declared.Step.{Step}
use Rattle.standard.specs.declared.Framed.{Framed}
use Rattle.standard.specs.declared.Framed.TheVariants.{Short, Broken}
use Rattle.standard.specs.Heads.{type_of, format_of, status_of, stream_type}
use Rattle.standard.specs.Walk.{step_of, after_step, frame_packet, frame_from}

-- ---- a packet
module _ (ws : List ℕ) (status p at : ℕ) (rest : Framed) where
  pub packet_short : length ws - at < 4 → Short ≡ frame_packet ws status p at rest
  unfolding frame_packet
  packet_short h = here _ (lt-ltb _ _ h) refl

  pub packet_type : 4 ≤ length ws - at → (type_of (get_or ws at 0) ≡ stream_type → ⊥) → Broken (WrongType (packet p)) ≡ frame_packet ws status p at rest
  unfolding frame_packet
  packet_type h t = past _ (le-ltb _ _ h) (here _ (ne_differ _ _ t) refl)

  pub packet_status : 4 ≤ length ws - at → type_of (get_or ws at 0) ≡ stream_type → (status_of (get_or ws at 0) ≡ status → ⊥) → Broken (StatusDiffers (packet p)) ≡ frame_packet ws status p at rest
  unfolding frame_packet
  packet_status h t s = past _ (le-ltb _ _ h) (past _ (eq_differ _ _ t) (here _ (ne_differ _ _ s) refl))

  pub packet_step : {step : Step} → 4 ≤ length ws - at → type_of (get_or ws at 0) ≡ stream_type → status_of (get_or ws at 0) ≡ status → step ≡ step_of p (format_of (get_or ws at 0)) → after_step step p rest ≡ frame_packet ws status p at rest
  unfolding frame_packet
  packet_step h t s f = past _ (le-ltb _ _ h) (past _ (eq_differ _ _ t) (past _ (eq_differ _ _ s) (ap (λ (x : Step). after_step x p rest) f)))

-- ---- a turn of the loop at packet p, where framing so far gives `whole`
module _ (ws : List ℕ) (status p at : ℕ) {whole : Framed} (more : p < 64) (so_far : frame_from (64 - p) ws status p at ≡ whole) where
  rest : Framed
  rest = frame_from (64 - (p + 1)) ws status (p + 1) (at + 4)

  turn : frame_packet ws status p at rest ≡ frame_from (64 - p) ws status p at
  unfolding frame_from rest
  turn = let m : 64 - p ≡ suc (64 - suc p) = omega arith in rw (m, add-one)

  opened : frame_packet ws status p at rest ≡ whole
  opened = turn ∙ so_far

  pub turn_short : length ws - at < 4 → Short ≡ whole
  turn_short h = packet_short ws status p at rest h ∙ opened

  module _ (h : 4 ≤ length ws - at) where
    pub turn_type : (type_of (get_or ws at 0) ≡ stream_type → ⊥) → Broken (WrongType (packet p)) ≡ whole
    turn_type t = packet_type ws status p at rest h t ∙ opened

    module _ (t : type_of (get_or ws at 0) ≡ stream_type) where
      pub turn_status : (status_of (get_or ws at 0) ≡ status → ⊥) → Broken (StatusDiffers (packet p)) ≡ whole
      turn_status s = packet_status ws status p at rest h t s ∙ opened

      pub turn_step : {step : Step} → status_of (get_or ws at 0) ≡ status → step ≡ step_of p (format_of (get_or ws at 0)) → after_step step p (frame_from (64 - (p + 1)) ws status (p + 1) (at + 4)) ≡ whole
      unfolding rest
      turn_step s f = packet_step ws status p at rest h t s f ∙ opened

-- ---- its end
pub frame_end : (ws : List ℕ) (status p at : ℕ) {whole : Framed} → 64 ≤ p → frame_from (64 - p) ws status p at ≡ whole → Broken TooManyPackets ≡ whole
unfolding frame_from
frame_end ws status p at h so_far = let m : 64 - p ≡ 0 = omega arith in rw m at so_far
