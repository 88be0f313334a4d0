-- A RECORD COMES BACK FROM ITS NUMBERS, and accepted numbers are those of the record that they make. Closed by computing the table at each kind, and the laws of the codes.
use Rattle.std.specs.Prelude.{Result, Ok, Err}
use Prim.Native.Nat.{ℕ, ◌≤◌}
use mathlib.Core.Path.{◌≡◌, refl, sym, ap, ◌∙◌}
use mathlib.Core.Bool.{true, false}
use mathlib.Core.Logic.{◌≢◌}
use mathlib.Core.List.{List, [], ◌∷◌}
use native.Mathlib.Omega.{arith}
use lib.ListN.{length, get_or, take}
use lib.Dec.{eqb}
use borrow.Author.Tests.{ne_eqb, eqb-true, eqb-false}
use Rattle.laws.specs.Pick.{pick, both, differ}
use Rattle.laws.specs.Lists.{each}
use Rattle.laws.proofs.Pick.{never, true_false, passed, split, both_left, both_right, both_true, ne_differ, eq_differ}
use Rattle.slots.specs.Slots.{fits}
use Rattle.fields.specs.Puts.{put_ins}
use Rattle.kinds.specs.declared.kind.Kind.{Kind}
use Rattle.kinds.specs.declared.kind.Kind.TheVariants as K
use Rattle.kinds.specs.declared.refusal.Refusal.{Refusal}
use Rattle.kinds.specs.declared.refusal.Refusal.TheVariants.{NumberTooLarge}
use Rattle.kinds.specs.Choices.{no_port, no_direction}
use Rattle.kinds.specs.Fields.{Field, same, decided, start, part_of}
use Rattle.kinds.specs.Layout.{layout, parts}
use Rattle.kinds.proofs.Homes.{one_status}
use Rattle.kinds.proofs.Codes.{flag_bit, code_hint, code_port, code_direction}
use Rattle.records.specs.declared.message.Message.{Message}
use Rattle.records.specs.declared.message.Message.TheVariants as M
use Rattle.records.specs.Records.{Valued, kind_in, packets_in, record_of, fields_in, lookup, values_of, first_part, in_order}
use Rattle.records.proofs.Records.{record_back, port_named, direction_named}
use Rattle.numbers.specs.declared.Numbers.{Numbers}
use Rattle.numbers.specs.declared.Reserved.{Reserved}
use Rattle.numbers.specs.Numbers.{unused, numbered, as_numbers, nine}
use Rattle.numbers.specs.FromNumbers.{spread, values_from, choices_named, is_record, from_kind, from_own, trimmed}
use Rattle.numbers.proofs.Accepted.{from_refused, from_whole, own_status, other_status, Small, fits_small}

-- ---- the fields take the record's own values again
spread_back : (m : Message) → spread (in_order (kind_in m)) (nine (as_numbers m)) ≡ fields_in m
unfolding spread each layout first_part fields_in lookup same decided start
spread_back (M.EndpointDiscovery e) = refl
spread_back (M.EndpointInfo e) = refl
spread_back (M.DeviceIdentity e) = refl
spread_back (M.EndpointName n) = refl
spread_back (M.ProductInstanceId n) = refl
spread_back (M.FunctionBlockInfo e) = refl
spread_back (M.FunctionBlockName b n) = refl

module _ (m : Message) where
  own_kind : from_own (kind_in m) (as_numbers m) ≡ from_kind (kind_in m) (as_numbers m)
  own_kind = own_status (kind_in m) (as_numbers m) refl

  own_named : choices_named (kind_in m) (as_numbers m) ≡ true
  own_named =
      ap (λ (xs : List Valued). pick (eqb (get_or (lookup xs Field.midi1_port) 0 0) no_port) false (differ (get_or (lookup xs Field.direction) 0 0) no_direction)) (spread_back m) ∙ rw (ne_eqb _ no_port (port_named m)) (ne_differ _ no_direction (direction_named m))

  pub own_fits : fits (layout (kind_in m)).fields (parts (values_from (kind_in m) (as_numbers m))) ≡ fits (layout (kind_in m)).fields (parts (values_of m))
  own_fits = ap (λ (xs : List Valued). fits (layout (kind_in m)).fields (parts (lookup xs))) (spread_back m)

  -- and put into words
  pub own_puts : (ws : List ℕ) → put_ins (layout (kind_in m)).fields (parts (values_from (kind_in m) (as_numbers m))) ws ≡ put_ins (layout (kind_in m)).fields (parts (values_of m)) ws
  own_puts ws = ap (λ (xs : List Valued). put_ins (layout (kind_in m)).fields (parts (lookup xs)) ws) (spread_back m)

  own_record : record_of (kind_in m) (packets_in m) (values_from (kind_in m) (as_numbers m)) ≡ m
  own_record = ap (λ (xs : List Valued). record_of (kind_in m) (packets_in m) (lookup xs)) (spread_back m) ∙ record_back m

  -- A RECORD WHOSE NUMBERS FIT THE TABLE COMES BACK
  pub numbers_back : fits (layout (kind_in m)).fields (parts (values_of m)) ≡ true → from_own (kind_in m) (as_numbers m) ≡ Ok m
  numbers_back h =
      own_kind ∙ from_whole (kind_in m) (as_numbers m) (both_true _ _ (own_fits ∙ h) own_named) ∙ ap Ok own_record

  -- and every other is refused with 12, as where it is written
  pub numbers_large : fits (layout (kind_in m)).fields (parts (values_of m)) ≡ false → from_own (kind_in m) (as_numbers m) ≡ Err NumberTooLarge
  unfolding both
  numbers_large h = own_kind ∙ from_refused (kind_in m) (as_numbers m) (rw (own_fits ∙ h))

-- ---- the other direction
-- the record of the numbers has them, those of its kind
record_numbers : (k : Kind) (c : Numbers) → c.status ≡ (layout k).status → Small (layout k).fields (parts (values_from k c)) → get_or (values_from k c Field.midi1_port) 0 0 ≢ no_port → get_or (values_from k c Field.direction) 0 0 ≢ no_direction → as_numbers (record_of k c.packets (values_from k c)) ≡ trimmed k c
unfolding Small spread each layout first_part record_of fields_in lookup same decided start part_of
record_numbers K.EndpointDiscovery c s h p d = rw (s, ← flag_bit c.third h.1.1.0, ← flag_bit c.fourth h.1.1.1.0, ← flag_bit c.fifth h.1.1.1.1.0, ← flag_bit c.sixth h.1.1.1.1.1.0, ← flag_bit c.seventh h.1.1.1.1.1.1.0)
record_numbers K.EndpointInfo c s h p d = rw (s, ← flag_bit c.third h.1.1.0, ← flag_bit c.fourth h.1.1.1.0, ← flag_bit c.fifth h.1.1.1.1.0, ← flag_bit c.sixth h.1.1.1.1.1.0, ← flag_bit c.seventh h.1.1.1.1.1.1.0)
record_numbers K.DeviceIdentity c s h p d = rw s
record_numbers K.EndpointName c s h p d = rw s
record_numbers K.ProductInstanceId c s h p d = rw s
record_numbers K.FunctionBlockInfo c s h p d = rw (s, ← flag_bit c.first h.0, ← code_hint c.third h.1.1.0, ← code_port c.fourth h.1.1.1.0 p, ← code_direction c.fifth h.1.1.1.1.0 d)
record_numbers K.FunctionBlockName c s h p d = rw s

message_is : (m n : Message) → ◌≡◌ {A = Result Message Refusal} (Ok m) (Ok n) → m ≡ n
message_is m n e = cc

refused-message : {r : Refusal} {m : Message} → ◌≡◌ {A = Result Message Refusal} (Err r) (Ok m) → ⊥
refused-message e = never (cc)

-- numbers that are accepted have the status of the kind
pub accepted_status : (k : Kind) (c : Numbers) (m : Message) → from_own k c ≡ Ok m → c.status ≡ (layout k).status
accepted_status k c m e =
    split (eqb c.status (layout k).status) (eqb-true _ _) (λ n. absurd (refused-message (sym (other_status k c (eqb-false _ _ n)) ∙ e)))

-- THE NUMBERS OF THE RECORD THAT NUMBERS MAKE are those that were given, but for what the kind has not
pub accepted-numbers : (k : Kind) (c : Numbers) (m : Message) → from_own k c ≡ Ok m → as_numbers m ≡ trimmed k c
accepted-numbers k c m e = let s = accepted_status k c m e in split (is_record k c) (whole s) (λ h. absurd (refused-message (sym (own_status k c s ∙ from_refused k c h) ∙ e)))
  where
    whole : c.status ≡ (layout k).status → is_record k c ≡ true → as_numbers m ≡ trimmed k c
    whole s h =
        let is : record_of k c.packets (values_from k c) ≡ m = message_is _ _ (sym (own_status k c s ∙ from_whole k c h) ∙ e) in
        let named = passed _ _ _ true (λ q. true_false (sym q)) (both_right _ _ h) in
        rw (← is) (record_numbers k c s (fits_small _ _ (both_left _ _ h)) (eqb-false _ _ named.0) (λ d. true_false (sym named.1 ∙ eq_differ _ _ d)))

-- and the record is of the kind
pub accepted_kind : (k : Kind) (c : Numbers) (m : Message) → from_own k c ≡ Ok m → kind_in m ≡ k
accepted_kind k c m e = one_status _ _ (ap (λ (x : Numbers). x.status) (accepted-numbers k c m e) ∙ accepted_status k c m e)

-- all numbers in a row are the numbers, so that `trimmed` leaves out no others
pub nine_back : (c : Numbers) → c.reserved ≡ unused → numbered c.status c.packets (nine c) ≡ c
nine_back c e =
    ap
    (λ (r : Reserved). record { status = c.status; packets = c.packets; first = c.first; second = c.second; third = c.third; fourth = c.fourth; fifth = c.fifth; sixth = c.sixth; seventh = c.seventh; eighth = c.eighth; ninth = c.ninth; reserved = r })
    (sym e)

-- as many of the nine numbers as were put in a row are these
pub nine_taken : (s p : ℕ) (xs : List ℕ) → length xs ≤ 9 → take (length xs) (nine (numbered s p xs)) ≡ xs
nine_taken s p [] h = refl
nine_taken s p (a ∷ []) h = refl
nine_taken s p (a ∷ b ∷ []) h = refl
nine_taken s p (a ∷ b ∷ c ∷ []) h = refl
nine_taken s p (a ∷ b ∷ c ∷ d ∷ []) h = refl
nine_taken s p (a ∷ b ∷ c ∷ d ∷ e ∷ []) h = refl
nine_taken s p (a ∷ b ∷ c ∷ d ∷ e ∷ f ∷ []) h = refl
nine_taken s p (a ∷ b ∷ c ∷ d ∷ e ∷ f ∷ g ∷ []) h = refl
nine_taken s p (a ∷ b ∷ c ∷ d ∷ e ∷ f ∷ g ∷ i ∷ []) h = refl
nine_taken s p (a ∷ b ∷ c ∷ d ∷ e ∷ f ∷ g ∷ i ∷ j ∷ []) h = refl
nine_taken s p (a ∷ b ∷ c ∷ d ∷ e ∷ f ∷ g ∷ i ∷ j ∷ k ∷ xs) h = absurd (omega arith)

-- and what it leaves out is not looked at
pub trimmed-same : (k : Kind) (c : Numbers) → from_kind k (trimmed k c) ≡ from_kind k c
unfolding from_kind spread each layout first_part start record_of
trimmed-same K.EndpointDiscovery c = refl
trimmed-same K.EndpointInfo c = refl
trimmed-same K.DeviceIdentity c = refl
trimmed-same K.EndpointName c = refl
trimmed-same K.ProductInstanceId c = refl
trimmed-same K.FunctionBlockInfo c = refl
trimmed-same K.FunctionBlockName c = refl

-- so what was accepted once is accepted again, as the same record
pub accepted_again : (k : Kind) (c : Numbers) (m : Message) → from_own k c ≡ Ok m → from_own k (as_numbers m) ≡ Ok m
accepted_again k c m e =
    let s = accepted_status k c m e in
    ap (from_own k) (accepted-numbers k c m e) ∙ own_status k (trimmed k c) s ∙ trimmed-same k c ∙ sym (own_status k c s) ∙ e
