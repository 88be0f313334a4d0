-- The examples of records and of settings on them hold. Proved by computation: by one search each, or a field at a time where the search would take too many steps.
use mathlib.Core.Path.{refl}
use Rattle.laws.specs.Pick.{both}
use Rattle.laws.specs.Lists.{each}
use Rattle.slots.specs.Slots.{those, fits}
use Rattle.kinds.specs.Fields.{decided, same, start, part_of}
use Rattle.kinds.specs.Layout.{layout}
use Rattle.records.specs.Records.{record_of, fields_in, lookup, first_part}
use Rattle.records.specs.Settings.{set_record, followed}
use Rattle.records.specs.Told.{ToldRecords, ToldSettings, ToldChains, ToldLimits, ToldLargest, ToldNames}

pub told_records : ToldRecords
unfolding both each those fits decided same start part_of layout record_of fields_in lookup first_part set_record followed
told_records = search

pub told_settings : ToldSettings
unfolding both each those fits decided same start part_of layout record_of fields_in lookup first_part set_record followed
told_settings =
    record {
      discovery-set = (refl, refl);
      info-set = (refl, refl);
      identity-set = (refl, refl);
      block-set = (refl, refl);
      block-name = (refl, refl);
      elsewhere = (refl, refl);
      same_name = (refl, refl);
      text_kind = (refl, refl);
      endpoint_name = (refl, refl);
      product_instance_id = (refl, refl);
      function_block_name = (refl, refl);
      thirteen_twelve = (refl, refl);
    }

pub told_chains : ToldChains
unfolding both each those fits decided same start part_of layout record_of fields_in lookup first_part set_record followed
told_chains = search

pub told_limits : ToldLimits
unfolding both each those fits decided same start part_of layout record_of fields_in lookup first_part set_record followed
told_limits =
    record {
      discovery_major = (refl, refl);
      discovery_minor = (refl, refl);
      info_major = (refl, refl);
      info_minor = (refl, refl);
      number_of_blocks = (refl, refl);
      manufacturer_0 = (refl, refl);
      manufacturer_1 = (refl, refl);
      manufacturer_2 = (refl, refl);
      family = (refl, refl);
      model = (refl, refl);
      version_0 = (refl, refl);
      version_1 = (refl, refl);
      version_2 = (refl, refl);
      version_3 = (refl, refl);
      block-number = (refl, refl);
      first_group = (refl, refl);
      spanned = (refl, refl);
      ci_version = (refl, refl);
      ci_streams = (refl, refl);
      block-name = (refl, refl);
    }

pub told_largest : ToldLargest
unfolding both each those fits decided same start part_of layout record_of fields_in lookup first_part set_record followed
told_largest = search

pub told_names : ToldNames
unfolding both each those fits decided same start part_of layout record_of fields_in lookup first_part set_record followed
told_names = search
