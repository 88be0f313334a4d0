-- `answers::put_answer` meets its contract, by the laws of `Puts` of lines and `Stands` of walking.
use native.Mathlib.Omega.{arith}
use Rattle.ascii_lines.proofs.Puts.{nothing}
use Rattle.walking.proofs.Stands.{message-within, message_words, message-packets}
use Rattle.listing.proofs.answers.put_answer.Goals as goal

pub offset_bounds-words-pos : goal.offset_bounds-words-pos
offset_bounds-words-pos c = omega (arith, message-within _ _ _ _ _ c.requires c.in-Message.is)

pub slice_bounds-put_message-count : goal.slice_bounds-put_message-count
slice_bounds-put_message-count c = omega (arith, message-within _ _ _ _ _ c.requires c.in-Message.is)

pub slice_bounds-put_message-start : goal.slice_bounds-put_message-start
slice_bounds-put_message-start c = omega (arith, message-within _ _ _ _ _ c.requires c.in-Message.is)

pub slice_bounds-put_message-end : goal.slice_bounds-put_message-end
slice_bounds-put_message-end c = omega (arith, message-within _ _ _ _ _ c.requires c.in-Message.is)

pub put_message-requires : goal.put_message-requires
put_message-requires c = message-packets _ _ _ _ _ c.requires c.in-Message.is

pub returns-in-End : goal.returns-in-End
returns-in-End c = rw c.in-End.is (nothing _)

pub returns-in-Message : goal.returns-in-Message
returns-in-Message c = rw (c.in-Message.is, message_words _ _ _ _ _ c.requires c.in-Message.is) c.put_message.ensures
