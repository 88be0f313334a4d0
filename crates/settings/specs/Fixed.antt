-- Settings of fixed kinds: what the target refuses, then 12; else the numbers are put into their slots.
use Rattle.std.specs.Prelude.{ℕ, ◌^◌, Bool, List, ltb, Ok}
use Rattle.laws.specs.Pick.{pick}
use Rattle.kinds.specs.declared.kind.Kind.{Kind}
use Rattle.kinds.specs.declared.refusal.Refusal.TheVariants.{NumberTooLarge}
use Rattle.kinds.specs.Layout.{layout}
use Rattle.table.specs.declared.names.Home.{Home}
use Rattle.table.specs.Places.{slot_at}
use Rattle.fields.specs.Puts.{put_in}
use Rattle.numbers.specs.BySlot.{fit_from, put_from}
use Rattle.standard.specs.Walk.{walk_of}
use Rattle.standard.specs.Words.{Outcome, outcome, unchanged}
use Rattle.settings.specs.Target.{target_of, settled}

-- refusal 12 where a number does not fit, else these words
abbrev pub fitted : Bool → List ℕ → List ℕ → Outcome
fitted fits new ws = pick fits (outcome (Ok tt) new) (unchanged NumberTooLarge ws)

-- one number in some bits of a word, of a message with this status
unfoldable pub place_on : ℕ → ℕ → ℕ → ℕ → ℕ → List ℕ → Outcome
place_on status word at span v ws =
    settled (target_of status (walk_of ws 0)) (λ n. fitted (ltb v (2 ^ span)) (put_in word at span v ws) ws) ws

-- the same at the home that the code has for it
abbrev pub home_on : Home → ℕ → List ℕ → Outcome
home_on h v ws = place_on (layout h.kind).status h.place.word.0 h.place.bits.low h.place.bits.width v ws

-- one number in slot i of a kind
unfoldable pub slot_on : Kind → ℕ → ℕ → List ℕ → Outcome
slot_on k i v ws =
    place_on (layout k).status (slot_at (layout k).fields i).word (slot_at (layout k).fields i).at (slot_at (layout k).fields i).span v ws

-- numbers in the slots of a kind, from slot i on
unfoldable pub slots_on : Kind → ℕ → List ℕ → List ℕ → Outcome
slots_on k i xs ws =
    settled (target_of (layout k).status (walk_of ws 0)) (λ n. fitted (fit_from (layout k).fields i xs) (put_from (layout k).fields i xs ws) ws) ws
