-- The plain check of text in packets on its way.
use Rattle.std.specs.Prelude.{ℕ, ◌≤◌, ◌≡◌, List, drop, Result, Ok}
use Rattle.counts.specs.declared.TextByteNumber.{TextByteNumber}
use Rattle.utf8.specs.declared.skipping_zeros.SkippingScan.{SkippingScan}
use Rattle.utf8.specs.Utf8.{first_bad}
use Rattle.utf8.specs.Scan.{verdict_after}
use Rattle.text.specs.Bytes.{all_bytes, text_of}

-- the check has read k of the text bytes of n packets, or it has stopped: checking the others gives the verdict on the whole text
pub record HasRead (ws : List ℕ) (cap n : ℕ) (r : Result SkippingScan TextByteNumber) (k : ℕ) : Type 0 where
  pub few : (c : SkippingScan) → r ≡ Ok c → c.at.0 ≤ k
  pub same-verdict : verdict_after r (drop k (all_bytes ws cap n)) ≡ first_bad (text_of ws cap n)
