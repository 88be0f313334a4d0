-- What a copied text is to the text place.
use Rattle.std.specs.Prelude.{ℕ, ◌-◌, ◌<◌, ◌≡◌, List, length, take, drop}
use Rattle.text.specs.Handed.{start_place, handed, HandsOut}
use Rattle.standard.specs.Place.{offset_here}

-- the first n bytes are what steps from the first place return, up to the end; the bytes after them are those of before
pub record StepsCopied (ws before : List ℕ) (n : ℕ) (after : List ℕ) : Type 0 where
  pub count : length (take n after) ≡ n
  pub steps : HandsOut ws (14 - offset_here ws) start_place (take n after)
  pub rest : drop n after ≡ drop n before
  pub room : length after ≡ length before

-- steps from the first place return n bytes and then the end; the lent bytes are fewer
pub record StepsTooLong (ws out : List ℕ) (n : ℕ) : Type 0 where
  pub count : length (handed n ws (14 - offset_here ws) start_place) ≡ n
  pub steps : HandsOut ws (14 - offset_here ws) start_place (handed n ws (14 - offset_here ws) start_place)
  pub room : length out < n
