-- The text of a line, byte by byte: what steps from a place still hand out. Closed by the laws of the text place.
use Rattle.std.specs.Prelude.{Some, None}
use Prim.Native.Nat.{ℕ, ◌*◌, ◌/◌, ◌<◌, ◌≤◌}
use mathlib.Core.Path.{◌≡◌, refl, ap, ◌∙◌}
use mathlib.Core.List.{List, [], ◌∷◌, ◌++◌}
use native.Mathlib.Omega.{arith}
use lib.ListN.{length}
use Rattle.laws.specs.Lists.{each}
use Rattle.laws.proofs.Lists.{nonzero-length}
use Rattle.laws.proofs.Pick.{never}
use Rattle.text.specs.Bytes.{all_bytes, text_of}
use Rattle.text.specs.Place.{step_at}
use Rattle.text.specs.Handed.{start_place, handed, HandsOut, none, more}
use Rattle.text.specs.declared.TextPlace.{TextPlace}
use Rattle.text.specs.declared.Stepped.{Stepped}
use Rattle.text.proofs.Place.{length_all, hands_all, handed_is, handed_all}
use Rattle.ascii_lines.specs.Ascii.{ascii}
use Rattle.ascii_lines.specs.Numbers.{hex_byte, hex_or_dash}

-- the text of all packets, and its bytes from a place on
abbrev whole_text : List ℕ → ℕ → List ℕ
whole_text ws cap = text_of ws cap (length ws / 4)

abbrev pub ahead : List ℕ → ℕ → TextPlace → List ℕ
ahead ws cap at = handed (length ws / 4 * cap) ws cap at

pub record Ahead (ws : List ℕ) (cap : ℕ) (at : TextPlace) : Type 0 where
  pub hands : HandsOut ws cap at (ahead ws cap at)
  pub few : length (ahead ws cap at) ≤ length ws / 4 * cap

-- a step that finds byte x: it is the first ahead, and the others are ahead of the place after it
record Turned (ws : List ℕ) (cap : ℕ) (xs : List ℕ) (x : ℕ) (to : TextPlace) : Type 0 where
  first : xs ≡ x ∷ ahead ws cap to
  rest : Ahead ws cap to

module _ (ws : List ℕ) (cap : ℕ) where
  ahead_of : {at : TextPlace} {xs : List ℕ} → HandsOut ws cap at xs → length xs ≤ length ws / 4 * cap → Ahead ws cap at
  ahead_of r h = let e = handed_is r (length ws / 4 * cap) h in record { hands = rw e r; few = rw e h }

  turned : {at : TextPlace} {xs : List ℕ} → HandsOut ws cap at xs → length xs ≤ length ws / 4 * cap → (s : Stepped) (x : ℕ) → s ≡ step_at ws cap at → s.step ≡ Some x → Turned ws cap xs x s.place
  turned (none e) h s x q t = never (let u = ap (λ (z : Stepped). z.step) (q ∙ e) in cc)
  turned (more {to = to} {x = y} {xs = ys} e r) h s x q t =
      let u = ap (λ (z : Stepped). z.step) (q ∙ e) in
      let v : s.place ≡ to = ap (λ (z : Stepped). z.place) (q ∙ e) in
      let w : y ≡ x = cc in
      let l : length ys ≤ length ws / 4 * cap = omega arith in
      rw v (record { first = rw (w, handed_is r (length ws / 4 * cap) l); rest = ahead_of r l })

  ended : {at : TextPlace} {xs : List ℕ} → HandsOut ws cap at xs → (s : Stepped) → s ≡ step_at ws cap at → s.step ≡ None → xs ≡ []
  ended (none e) s q t = refl
  ended (more e r) s q t = never (let u = ap (λ (z : Stepped). z.step) (q ∙ e) in cc)

  -- ---- at the start
  module _ (pos : 0 < cap) where
    pub ahead_all : ahead ws cap start_place ≡ whole_text ws cap
    ahead_all = handed_all ws cap pos (length ws / 4 * cap) (omega arith)

    few_all : length (whole_text ws cap) ≤ length ws / 4 * cap
    few_all = omega (arith, nonzero-length (all_bytes ws cap (length ws / 4)), length_all ws cap (length ws / 4))

    pub ahead_start : Ahead ws cap start_place
    ahead_start = ahead_of (hands_all ws cap pos) few_all

    -- a text of no bytes is shown as `-`, and another byte by byte
    pub shown_none : (s : Stepped) → s ≡ step_at ws cap start_place → s.step ≡ None → ascii "-" ≡ hex_or_dash (whole_text ws cap)
    unfolding hex_or_dash
    shown_none s q t = rw (ended (hands_all ws cap pos) s q t)

    pub shown_some : (s : Stepped) (x : ℕ) → s ≡ step_at ws cap start_place → s.step ≡ Some x → each hex_byte (whole_text ws cap) ≡ hex_or_dash (whole_text ws cap)
    unfolding hex_or_dash
    shown_some s x q t = rw (turned (hands_all ws cap pos) few_all s x q t).first

  -- ---- from a place on
  module _ (at : TextPlace) (a : Ahead ws cap at) (s : Stepped) (q : s ≡ step_at ws cap at) where
    pub hex_more : (x : ℕ) → s.step ≡ Some x → each hex_byte (ahead ws cap at) ≡ hex_byte x ++ each hex_byte (ahead ws cap s.place)
    unfolding each
    hex_more x t = rw (turned a.hands a.few s x q t).first

    pub ahead_more : (x : ℕ) → s.step ≡ Some x → Ahead ws cap s.place
    ahead_more x t = (turned a.hands a.few s x q t).rest

    pub ahead_less : (x : ℕ) → s.step ≡ Some x → length (ahead ws cap s.place) < length (ahead ws cap at)
    ahead_less x t = rw (turned a.hands a.few s x q t).first (omega arith)

    pub hex_none : s.step ≡ None → each hex_byte (ahead ws cap at) ≡ []
    unfolding each
    hex_none t = rw (ended a.hands s q t)
