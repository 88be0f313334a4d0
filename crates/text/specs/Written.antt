-- The words of a written text: the text fills the last `cap` of each packet's sixteen octets. The head is a function of the format, the only part in which the heads of one message differ.
use Rattle.std.specs.Prelude.{ℕ, ◌+◌, ◌-◌, ◌*◌, ◌/◌, ◌%◌, List, length, get_or, ltb, eqb}
use Rattle.laws.specs.Pick.{pick}
use Rattle.laws.specs.Lists.{up_to}
use Rattle.laws.specs.Bits.{word_of}
use Rattle.text.specs.Octets.{octet_of, due_format}

-- octet j of the octets before the text: those of the head word, then 0
unfoldable pub head_octet : ℕ → ℕ → ℕ
head_octet head j = pick (ltb j 4) (octet_of head j) 0

-- octet j, of sixteen, of packet p of n: the octets before the text, the text, and zeros after its end
unfoldable pub octet_at : List ℕ → (ℕ → ℕ) → ℕ → ℕ → ℕ → ℕ → ℕ
octet_at text head cap n p j =
    pick (ltb j (16 - cap)) (head_octet (head (due_format n p)) j) (get_or text (p * cap + (j - (16 - cap))) 0)

-- word q, of four, of packet p of n
unfoldable pub word_in : List ℕ → (ℕ → ℕ) → ℕ → ℕ → ℕ → ℕ → ℕ
word_in text head cap n p q =
    word_of (octet_at text head cap n p (q * 4))
    (octet_at text head cap n p (q * 4 + 1))
    (octet_at text head cap n p (q * 4 + 2))
    (octet_at text head cap n p (q * 4 + 3))

-- word k of a buffer's whole packets: n packets of text, then zeros
unfoldable pub word_new : List ℕ → (ℕ → ℕ) → ℕ → ℕ → ℕ → ℕ
word_new text head cap n k = pick (ltb k (n * 4)) (word_in text head cap n (k / 4) (k % 4)) 0

-- the number of words in the whole packets of a buffer
abbrev pub whole_words : List ℕ → ℕ
whole_words ws = length ws / 4 * 4

-- the buffer with the text in n packets: every whole packet is overwritten, up to three words after them are kept
unfoldable pub written : List ℕ → List ℕ → (ℕ → ℕ) → ℕ → ℕ → List ℕ
written ws text head cap n = up_to (whole_words ws) (word_new text head cap n) ws

-- the buffer with every whole packet zero, except for the head of the first
unfoldable pub blank : ℕ → List ℕ → List ℕ
blank head ws = up_to (whole_words ws) (λ k. pick (eqb k 0) head 0) ws

-- the buffer with the first word of each of n packets changed
unfoldable pub each_first : ℕ → (ℕ → ℕ) → List ℕ → List ℕ
each_first n change ws = up_to (n * 4) (λ k. pick (eqb (k % 4) 0) (change (get_or ws k 0)) (get_or ws k 0)) ws
