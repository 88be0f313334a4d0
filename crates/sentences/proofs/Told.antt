-- The examples, computed.
use Rattle.laws.specs.Lists.{map}
use Rattle.kinds.specs.Layout.{layout, among}
use Rattle.sentences.specs.Sentences.{sentences, kind_name}
use Rattle.sentences.specs.Told.{ToldSentences}

pub told_sentences : ToldSentences
unfolding map layout among sentences kind_name
told_sentences = search
