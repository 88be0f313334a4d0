-- The buffer after packets are cleared or text is written: an act that cannot be done changes nothing.
use Rattle.std.specs.Prelude.{ℕ, ◌+◌, ◌-◌, List, [], ◌∷◌, get_or, set, ltb, leb}
use Rattle.laws.specs.Pick.{pick}
use Rattle.laws.specs.Bits.{put_field}
use Rattle.laws.specs.Lists.{up_to}
use Rattle.text.specs.Written.{whole_words, word_in, written}

-- f 0, .., f 3 in the four words from word k on
abbrev pub packet_set : (ℕ → ℕ) → ℕ → List ℕ → List ℕ
packet_set f k ws = set (set (set (set ws k (f 0)) (k + 1) (f 1)) (k + 2) (f 2)) (k + 3) (f 3)

-- the four words of packet p, with its own head and the text from octet 2 + offset on
abbrev pub packet_words : List ℕ → ℕ → ℕ → ℕ → List ℕ
packet_words text offset head p =
    let word : ℕ → ℕ = word_in text (λ f. head) (14 - offset) 0 p in
    word 0 ∷ word 1 ∷ word 2 ∷ word 3 ∷ []

-- every word from word `from` on zero, up to the end of the last whole packet
unfoldable pub clear_from : ℕ → List ℕ → List ℕ
clear_from from ws = up_to (whole_words ws) (λ k. pick (ltb k from) (get_or ws k 0) 0) ws

-- the head of a text packet: one word, with the format put in
abbrev pub formatted : ℕ → ℕ → ℕ
formatted head format = put_field head 26 2 format

-- text in n packets, starting at octet 2 + offset of each; unchanged for an offset over 13 or more than 64 packets
unfoldable pub fill_text : List ℕ → ℕ → ℕ → ℕ → List ℕ → List ℕ
fill_text text offset head n ws =
    pick (leb 14 offset) ws (pick (ltb 64 n) ws (written ws text (formatted head) (14 - offset) n))
