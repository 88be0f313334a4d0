-- `messages::put_message` meets its contract, by the laws of `Numbers` and `Puts` of lines.
use mathlib.Core.Path.{refl}
use lib.Dec.{lit≤}
use Rattle.laws.specs.Lists.{each}
use Rattle.kinds.specs.Fields.{same, decided}
use Rattle.kinds.specs.Layout.{layout}
use Rattle.records.specs.Records.{fields_in, lookup, first_part}
use Rattle.ascii_lines.proofs.Puts.{says}
use Rattle.sentences.specs.Sentences.{kind_name}
use Rattle.listing.proofs.Numbers.{fixed_shown, name_shown, product_shown, block_name_shown}
use Rattle.listing.proofs.messages.put_message.Goals as goal

pub returns-in-DeviceIdentity : goal.returns-in-DeviceIdentity
unfolding each layout first_part fields_in lookup same decided kind_name
returns-in-DeviceIdentity c = says c.put_fields-in-DeviceIdentity.ensures (fixed_shown _ 9 c.in-DeviceIdentity.is refl (lit≤ tt) refl refl)

pub returns-in-EndpointName : goal.returns-in-EndpointName
unfolding each layout first_part fields_in lookup same decided kind_name
returns-in-EndpointName c = says c.put_texts.ensures (name_shown _ c.in-EndpointName.is c.requires)

pub returns-in-ProductInstanceId : goal.returns-in-ProductInstanceId
unfolding each layout first_part fields_in lookup same decided kind_name
returns-in-ProductInstanceId c = says c.put_texts-in-ProductInstanceId.ensures (product_shown _ c.in-ProductInstanceId.is c.requires)

pub returns-in-FunctionBlockInfo : goal.returns-in-FunctionBlockInfo
unfolding each layout first_part fields_in lookup same decided kind_name
returns-in-FunctionBlockInfo c = says c.put_fields-in-FunctionBlockInfo.ensures (fixed_shown _ 9 c.in-FunctionBlockInfo.is refl (lit≤ tt) refl refl)

pub returns-in-FunctionBlockName : goal.returns-in-FunctionBlockName
unfolding each layout first_part fields_in lookup same decided kind_name
returns-in-FunctionBlockName c = says c.put_texts-in-FunctionBlockName.ensures (block_name_shown _ c.in-FunctionBlockName.is c.requires)
