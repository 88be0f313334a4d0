-- The parts, each proved by computation in its own crate.
use Rattle.utf8.proofs.Told.{told_utf8}
use Rattle.text.proofs.Told.{told_text_packets}
use Rattle.kinds.proofs.Told.{told_table, told_largest, told_choices, told_text_kinds, told_refusal_numbers}
use Rattle.records.proofs.Told.{told_records, told_names, told_chains, told_settings as told-record-settings, told_limits as told-record-limits, told_largest as told-record-largest}
use Rattle.numbers.proofs.Told.{told_numbers, told_from}
use Rattle.standard.proofs.ToldReading.{told_reading}
use Rattle.standard.proofs.ToldWalk.{told_walk}
use Rattle.standard.proofs.ToldPacket.{told_packet, told_place}
use Rattle.standard.proofs.ToldWords.{told_words}
use Rattle.promises.specs.Told.{Told}

pub told : Told
told =
    record {
      table = told_table;
      choices = told_choices;
      text_kinds = told_text_kinds;
      kinds = told_reading.kinds;
      records = told_records;
      names = told_names;
      numbers = told_numbers;
      from_numbers = told_from;
      text_packets = told_text_packets;
      utf8 = told_utf8;
      text = told_reading.text;
      place = told_place;
      refusals = told_reading.refusals;
      order = told_reading.order;
      sizes = told_walk.sizes;
      messages = told_walk.messages;
      framing = told_walk.framing;
      packet = told_packet;
      fresh = told_words.fresh;
      fields = told_words.fields;
      texts = told_words.texts;
      settings = told_words.settings;
      lists = told_words.lists;
      record_settings = told-record-settings;
      chains = told_chains;
      writing = told_words.writing;
      refusal-numbers = told_refusal_numbers;
      largest = told_largest;
      limits = told_words.limits;
      room = told_words.room;
      record_limits = told-record-limits;
      record_largest = told-record-largest;
    }
