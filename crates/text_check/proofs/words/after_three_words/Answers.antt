-- `words::after_three_words` meets its contract: a run of twelve octets leads back; otherwise the words are taken in turn.
use mathlib.Core.Path.{sym}
use Rattle.laws.proofs.Pick.{told}
use Rattle.text_check.proofs.KnownSteps.{twelve_known}
use Rattle.text_check.proofs.words.after_three_words.Goals as goal

pub returns-then-run_of_twelve : goal.returns-then-run_of_twelve
returns-then-run_of_twelve c = sym (twelve_known _ _ _ _ (told c.run_of_twelve.ensures c.if-run_of_twelve.true))
