-- What the line of each kind says. Closed by the numbers of the kind in the table's order.
use Prim.Native.Nat.{ℕ, suc, ◌/◌, ◌≤◌}
use mathlib.Core.Path.{◌≡◌, refl, sym}
use mathlib.Core.Bool.{false}
use mathlib.Core.List.{List, [], ◌++◌, append-nil}
use lib.ListN.{length, take}
use Rattle.laws.specs.Lists.{each}
use Rattle.laws.proofs.Pick.{true_false}
use Rattle.counts.specs.declared.PacketNumber.{PacketNumber}
use Rattle.text.specs.Bytes.{text_of}
use Rattle.kinds.specs.Fields.{same, decided}
use Rattle.kinds.specs.Layout.{Body, fixed, texts, layout, has_text}
use Rattle.records.specs.declared.message.Message.{Message}
use Rattle.records.specs.declared.message.Message.TheVariants as M
use Rattle.records.specs.Records.{kind_in, packets_in, numbers_in, fields_in, lookup, first_part}
use Rattle.numbers.specs.Numbers.{as_numbers, nine}
use Rattle.numbers.proofs.Back.{nine_taken}
use Rattle.ascii_lines.specs.Ascii.{ascii}
use Rattle.ascii_lines.specs.Numbers.{numbers, hex_or_dash}
use Rattle.sentences.specs.Sentences.{kind_name}
use Rattle.listing.specs.Lines.{text_shown, ten_of, message_shown}

no_text_shown : (b : Body) (n : ℕ) (ws : List ℕ) → has_text b ≡ false → text_shown b n ws ≡ []
no_text_shown fixed n ws t = refl
no_text_shown (texts x from) n ws t = true_false t

-- a kind without text: its name, its packets, and as many numbers as it has
pub fixed_shown : {m w : Message} (ws : List ℕ) (n : ℕ) {name : List ℕ} → m ≡ w → length (numbers_in w) ≡ n → n ≤ 9 → has_text (layout (kind_in w)).body ≡ false → name ≡ ascii " " ++ kind_name (kind_in w) → name ++ numbers (take (suc n) (ten_of m)) ≡ message_shown m ws
fixed_shown {m} {w} ws n q l h t e =
    let k : take n (nine (as_numbers w)) ≡ numbers_in w = rw (← l) (nine_taken (layout (kind_in w)).status (packets_in w) (numbers_in w) (rw l h)) in
    rw (q, e, k, no_text_shown (layout (kind_in w)).body (packets_in w) ws t) (sym (append-nil _))

-- ---- the kinds with text, of a message's own words
pub name_shown : {m : Message} {n : PacketNumber} (ws : List ℕ) → m ≡ M.EndpointName n → length ws / 4 ≡ packets_in m → ascii " endpoint-name" ++ numbers (take 1 (ten_of m)) ++ (ascii " " ++ hex_or_dash (text_of ws 14 (length ws / 4))) ≡ message_shown m ws
unfolding each layout kind_name
name_shown ws q h = rw (h, q)

pub product_shown : {m : Message} {n : PacketNumber} (ws : List ℕ) → m ≡ M.ProductInstanceId n → length ws / 4 ≡ packets_in m → ascii " product-instance-id" ++ numbers (take 1 (ten_of m)) ++ (ascii " " ++ hex_or_dash (text_of ws 14 (length ws / 4))) ≡ message_shown m ws
unfolding each layout kind_name
product_shown ws q h = rw (h, q)

pub block_name_shown : {m : Message} {b : ℕ} {n : PacketNumber} (ws : List ℕ) → m ≡ M.FunctionBlockName b n → length ws / 4 ≡ packets_in m → ascii " function-block-name" ++ numbers (take 2 (ten_of m)) ++ (ascii " " ++ hex_or_dash (text_of ws 13 (length ws / 4))) ≡ message_shown m ws
unfolding each layout kind_name first_part fields_in lookup same decided
block_name_shown ws q h = rw (h, q, q)
