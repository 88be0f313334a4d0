-- How long a message's part of a line is: with five bytes more, at most 68 for each packet. Closed by counting the digits of each field.
use Prim.Native.Nat.{ℕ, ◌+◌, ◌*◌, ◌/◌, ◌≤◌, ◌<◌}
use mathlib.Core.Path.{◌≡◌, refl}
use mathlib.Core.Bool.{Bool, true, false}
use mathlib.Core.List.{List}
use native.Mathlib.Omega.{arith}
use lib.ListN.{length, length-append}
use lib.Dec.{lit≤}
use Rattle.laws.specs.Lists.{each}
use Rattle.laws.proofs.Lists.{nonzero-length}
use Rattle.slots.specs.Slots.{reads}
use Rattle.slots.proofs.Slots.{got_small}
use Rattle.text.specs.Bytes.{all_bytes, text_of}
use Rattle.text.proofs.Place.{length_all}
use Rattle.kinds.specs.declared.choices.UiHint.{UiHint}
use Rattle.kinds.specs.declared.choices.UiHint.TheVariants as H
use Rattle.kinds.specs.declared.choices.Midi1Port.{Midi1Port}
use Rattle.kinds.specs.declared.choices.Midi1Port.TheVariants as P
use Rattle.kinds.specs.declared.choices.Direction.{Direction}
use Rattle.kinds.specs.declared.choices.Direction.TheVariants as D
use Rattle.kinds.specs.Choices.{hint_code, port_code, direction_code}
use Rattle.kinds.specs.Fields.{same, decided, bit, part_of}
use Rattle.kinds.specs.Layout.{layout}
use Rattle.records.specs.declared.message.Message.{Message}
use Rattle.records.specs.declared.message.Message.TheVariants as M
use Rattle.records.specs.Records.{packets_in, fields_in, lookup, first_part}
use Rattle.standard.specs.Formed.{Formed}
use Rattle.ascii_lines.specs.Numbers.{decimal, hex_or_dash}
use Rattle.ascii_lines.proofs.Room.{decimal-length, hex_or_dash_length}
use Rattle.sentences.specs.Sentences.{kind_name}
use Rattle.listing.specs.Lines.{message_shown}
use Rattle.listing.proofs.Numbers.{fixed_shown}

-- ---- digits
-- a number below ten, below a hundred, of eight bits, and of fourteen
digit_1 : (n : ℕ) → n < 10 → length (decimal n) ≤ 1
digit_1 n h = decimal-length 0 n (omega arith)

digits_2 : (n : ℕ) → n < 100 → length (decimal n) ≤ 2
digits_2 n h = decimal-length 1 n (omega arith)

digits_3 : (n : ℕ) → n < 256 → length (decimal n) ≤ 3
digits_3 n h = decimal-length 2 n (omega arith)

digits_5 : (n : ℕ) → n < 16384 → length (decimal n) ≤ 5
digits_5 n h = decimal-length 4 n (omega arith)

-- flags and choices have one
bit_length : (b : Bool) → length (decimal (bit b)) ≤ 1
bit_length true = digit_1 1 (lit≤ tt)
bit_length false = digit_1 0 (lit≤ tt)

hint_length : (h : UiHint) → length (decimal (hint_code h)) ≤ 1
hint_length H.Undeclared = digit_1 0 (lit≤ tt)
hint_length H.Receiver = digit_1 1 (lit≤ tt)
hint_length H.Sender = digit_1 2 (lit≤ tt)
hint_length H.SenderReceiver = digit_1 3 (lit≤ tt)

port_length : (p : Midi1Port) → length (decimal (port_code p)) ≤ 1
port_length P.None = digit_1 0 (lit≤ tt)
port_length P.DontRestrictBandwidth = digit_1 1 (lit≤ tt)
port_length P.RestrictBandwidth = digit_1 2 (lit≤ tt)

direction_length : (d : Direction) → length (decimal (direction_code d)) ≤ 1
direction_length D.Input = digit_1 1 (lit≤ tt)
direction_length D.Output = digit_1 2 (lit≤ tt)
direction_length D.Bidirectional = digit_1 3 (lit≤ tt)

-- four and seven bits are below eight, and the high septet tells of a pair
nibble : {n : ℕ} → n < 16 → n < 256
nibble h = omega arith

small : {n : ℕ} → n < 128 → n < 256
small h = omega arith

pair : {n : ℕ} → n / 128 < 128 → n < 16384
pair h = omega arith

-- ---- text: two digits for each byte, or `-`
text_length : (ws : List ℕ) (cap n : ℕ) → length (hex_or_dash (text_of ws cap n)) ≤ n * cap * 2 + 1
text_length ws cap n =
    omega (arith, hex_or_dash_length (text_of ws cap n), nonzero-length (all_bytes ws cap n), length_all ws cap n)

-- ---- the kinds
-- a line of one packet
fixed_length : {a b : List ℕ} → a ≡ b → length a ≤ 63 → length b + 5 ≤ 68
fixed_length e h = rw (← e) (omega arith)

pub message-length : (m : Message) (t ws : List ℕ) → Formed m t ws → length (message_shown m ws) + 5 ≤ 68 * packets_in m
unfolding each reads layout part_of fields_in lookup first_part same decided kind_name
message-length (M.EndpointDiscovery e) t ws f =
    let h = f.fields 0 f.some in
    fixed_length (fixed_shown {w = M.EndpointDiscovery e} ws 7 refl refl (lit≤ tt) refl refl)
    (simp length-append (omega (arith, digit_1 1 (lit≤ tt), digits_3 _ (got_small _ _ h.0), digits_3 _ (got_small _ _ h.1.0), bit_length e.request_endpoint_info, bit_length e.request_device_identity, bit_length e.request_endpoint_name, bit_length e.request_product_instance_id, bit_length e.request_stream_configuration)))
message-length (M.EndpointInfo e) t ws f =
    let h = f.fields 0 f.some in
    fixed_length (fixed_shown {w = M.EndpointInfo e} ws 8 refl refl (lit≤ tt) refl refl)
    (simp length-append (omega (arith, digit_1 1 (lit≤ tt), digits_3 _ (got_small _ _ h.0), digits_3 _ (got_small _ _ h.1.0), bit_length e.static_function_blocks, bit_length e.supports_midi2_protocol, bit_length e.supports_midi1_protocol, bit_length e.supports_receiving_jr_timestamps, bit_length e.supports_sending_jr_timestamps, digits_3 _ (small (got_small _ _ h.1.1.1.1.1.1.1.0)))))
message-length (M.DeviceIdentity e) t ws f =
    let h = f.fields 0 f.some in
    let g = h.1.1.1 in
    let v = g.1.1.1.1 in
    fixed_length (fixed_shown {w = M.DeviceIdentity e} ws 9 refl refl (lit≤ tt) refl refl)
    (simp length-append (omega (arith, digit_1 1 (lit≤ tt), digits_3 _ (small (got_small _ _ h.0)), digits_3 _ (small (got_small _ _ h.1.0)), digits_3 _ (small (got_small _ _ h.1.1.0)), digits_5 _ (pair (got_small _ _ g.1.0)), digits_5 _ (pair (got_small _ _ g.1.1.1.0)), digits_3 _ (small (got_small _ _ v.0)), digits_3 _ (small (got_small _ _ v.1.0)), digits_3 _ (small (got_small _ _ v.1.1.0)), digits_3 _ (small (got_small _ _ v.1.1.1.0)))))
message-length (M.EndpointName n) t ws f =
    let a = f.some in
    let b = f.most in
    simp length-append (omega (arith, digits_2 n.0 (omega arith), text_length ws 14 n.0))
message-length (M.ProductInstanceId n) t ws f =
    let a = f.some in
    let b = f.most in
    simp length-append (omega (arith, digits_2 n.0 (omega arith), text_length ws 14 n.0))
message-length (M.FunctionBlockInfo e) t ws f =
    let h = f.fields 0 f.some in
    let g = h.1.1.1.1.1 in
    fixed_length (fixed_shown {w = M.FunctionBlockInfo e} ws 9 refl refl (lit≤ tt) refl refl)
    (simp length-append (omega (arith, digit_1 1 (lit≤ tt), bit_length e.active, digits_3 _ (small (got_small _ _ h.1.0)), hint_length e.ui_hint, port_length e.midi1_port, direction_length e.direction, digits_3 _ (nibble (got_small _ _ g.0)), digits_3 _ (got_small _ _ g.1.0), digits_3 _ (got_small _ _ g.1.1.0), digits_3 _ (got_small _ _ g.1.1.1.0))))
message-length (M.FunctionBlockName b n) t ws f =
    let a = f.some in
    let c = f.most in
    let h = f.fields 0 f.some in
    simp length-append (omega (arith, digits_2 n.0 (omega arith), digits_3 b (got_small _ _ h.0), text_length ws 13 n.0))
